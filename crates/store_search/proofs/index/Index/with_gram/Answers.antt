use Rattle.std.proofs.Common.{◌≡◌, true, filter, ap, sym, ◌∙◌}
use Rattle.store_search.specs.Entries.{keys_of}
use Rattle.store_places.specs.Places.{key_at, places_where}
use Rattle.store_pieces.specs.Selected.{has_piece, has_gram}
use Rattle.store_derived.specs.KeptGrams.{is_kept_gram, kept_grams}
use Rattle.store_search.proofs.IndexLemmas.{then_too}
use Rattle.store_pieces.proofs.KeptLemmas.{kept_where, where_both}
use Rattle.store_search.proofs.index.Index.with_gram.Goals as goal

pub returns-then-is_kept : goal.returns-then-is_kept
returns-then-is_kept c =
    let keys = keys_of c.self.inside.entries in
    let gram = c.args.gram.now in
    let kept : is_kept_gram gram ≡ true = ap is_kept_gram (sym c.as_slice.ensures) ∙ sym c.is_kept.ensures ∙ c.if-is_kept.true in
    let there : c.places.result.now ≡ places_where (has_gram gram) (keys_of c.args.self.now) =
    c.places.ensures kept_grams keys c.self.invariant.grams_placed
    ∙ ap (λ g. places_where (has_piece kept_grams g) keys) c.as_slice-then-is_kept.ensures
    ∙ kept_where gram keys kept
    ∙ ap (λ l. places_where (has_gram gram) (keys_of l)) c.self.view_is in
    then_too _ _ c.from_slice.result (λ places is. is ∙ there) c.from_slice.ensures.items

pub returns : goal.returns
returns c =
    let keys = keys_of c.args.self.now in
    let gram = c.args.gram.now in
    c.keep_with_gram.ensures
    ∙ ap (λ l. filter (λ place. has_gram gram (key_at l place)) c.in_ok-places.places.items) (c.keys.ensures.keys ∙ ap keys_of c.self.view_is)
    ∙ ap (filter (λ place. has_gram gram (key_at keys place))) c.in_ok-places.ensures
    ∙ where_both (λ key. true) (has_gram gram) keys
