use Rattle.std.proofs.Common.{◌≡◌, ℕ, List, [], ◌++◌, ◌∷◌, ◌∙◌, take, length, ap, sym, rules, append_assoc}
use Rattle.std.specs.Prelude.{min}
use Rattle.std.proofs.lemmas.List.{take_min}
use Rattle.store_rows.specs.Spelling.{spelling}
use Rattle.store_rows.proofs.SpellingLemmas.{spelling_is}
use Rattle.store_rows.proofs.writing.put_number.Goals as goal

pub returns-clause-put : goal.returns-clause-put
returns-clause-put c =
    let digits : List ℕ = c.write_number.new.text in
    let many : length digits ≡ 6 = c.write_number.array_long in
    let least : c.min-count.result ≡ min c.write_number.result 6 = search rules in
    let front : take c.min-count.result digits ≡ spelling c.args.number =
    ap (λ n. take n digits) (least ∙ ap (min c.write_number.result) (sym many)) ∙ (take_min c.write_number.result digits ∙ spelling_is (take c.write_number.result digits) c.args.number c.write_number.ensures.spelled) in
    let put = c.in_ok-extend_from_slice.ensures.items in
    put ∙ (ap (λ l. l ++ take c.min-count.result digits) c.in_ok-push.ensures.items ∙ (append_assoc c.args.to.now.items (9 ∷ []) (take c.min-count.result digits) ∙ ap (λ l. c.args.to.now.items ++ 9 ∷ l) front))
