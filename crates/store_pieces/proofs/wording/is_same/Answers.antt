use Rattle.std.proofs.Common.{◌≡◌, ◌==◌, [], true, false, get_or, ap, ◌∙◌, arith}
use Rattle.std.specs.Str.{bytes_eq}
use Rattle.std.proofs.lemmas.Bool.Decides.{nat_tests}
use Rattle.store_pieces.proofs.WordLemmas.{apart, alike}
use Rattle.store_pieces.proofs.wording.is_same.Goals as goal

pub returns-then-place_at : goal.returns-then-place_at
returns-then-place_at c =
    let places = c.args.places.now in
    let e : (get_or places c.args.one 0 == get_or places c.args.other 0) ≡ false = grind (arith, nat_tests, c.place_at.ensures, c.place_at-2.ensures) in
    apart (get_or c.args.found.now c.args.one []) (get_or c.args.found.now c.args.other []) (get_or places c.args.one 0) (get_or places c.args.other 0) e

pub returns : goal.returns
returns c =
    let places = c.args.places.now in
    let e : (get_or places c.args.one 0 == get_or places c.args.other 0) ≡ true = grind (arith, nat_tests, c.place_at.ensures, c.place_at-2.ensures) in
    c.eq.ensures ∙ ap (λ l. bytes_eq l c.get-2.result.now) c.get.ensures ∙ ap (bytes_eq (get_or c.args.found.now c.args.one [])) c.get-2.ensures
    ∙ alike (get_or c.args.found.now c.args.one []) (get_or c.args.found.now c.args.other []) (get_or places c.args.one 0) (get_or places c.args.other 0) e
