use Rattle.std.proofs.Common.{filter, ap, ◌∙◌}
use Rattle.store_search.specs.Entries.{keys_of}
use Rattle.store_places.specs.Places.{key_at}
use Rattle.store_pieces.specs.Selected.{has_gram}
use Rattle.store_pieces.proofs.KeptLemmas.{where_both}
use Rattle.store_search.proofs.index.Index.with_tested.Goals as goal

pub returns : goal.returns
returns c =
    let keys = keys_of c.args.self.now in
    let listed = c.args.listed.now in
    let tested = c.args.tested.now in
    c.keep_with_gram.ensures
    ∙ ap (λ l. filter (λ place. has_gram tested (key_at l place)) c.in_ok-places.places.items) (c.keys.ensures.keys ∙ ap keys_of c.self.view_is)
    ∙ ap (filter (λ place. has_gram tested (key_at keys place))) c.in_ok-places.ensures
    ∙ where_both (has_gram listed) (has_gram tested) keys
