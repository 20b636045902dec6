use Rattle.std.proofs.Common.{rules}
use Rattle.std.specs.Ordering.{eq_by_cmp}
use Rattle.std.proofs.lemmas.Fn.{dedup_same}
use Rattle.store_pieces.specs.Wording.{row_cmp}
use Rattle.store_pieces.proofs.WordLemmas.{words_once}
use Rattle.store_pieces.proofs.wording.each_once.Goals as goal

pub returns : goal.returns
returns c =
    let found = c.args.found.now in
    let places = c.args.places.now in
    words_once c.args.keys.now found places c.args.order.items c.dedup_by.new.self.items c.requires.same c.requires.all c.requires.order
    (dedup_same _ (eq_by_cmp (row_cmp found places)) _ (λ x y b f' x' y' k. search rules) _ _ c.dedup_by.ensures.filtered)
