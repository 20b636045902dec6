use Rattle.std.proofs.Common.{ℕ, Bool, rules}
use Rattle.std.proofs.lemmas.Fn.{filter_same}
use Rattle.store_places.specs.Places.{key_at}
use Rattle.store_pieces.specs.Selected.{has_gram}
use Rattle.store_pieces.proofs.keeping.keep_with_gram.Goals as goal

pub returns : goal.returns
returns c =
    let has : ℕ → Bool = λ place. has_gram c.args.gram.now (key_at c.args.keys.now place) in
    filter_same _ has _ (λ x b f' k. search rules) _ _ c.retain.ensures.filtered
