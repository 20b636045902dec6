use Rattle.std.proofs.Common.{◌≡◌, ◌&&◌, true, ap, ◌∙◌, rules}
use Rattle.store_search.specs.Entries.{keys_of}
use Rattle.store_places.specs.Places.{places_where}
use Rattle.store_pieces.specs.Selected.{has_piece, has_gram}
use Rattle.store_derived.specs.KeptGrams.{is_kept_gram, kept_grams}
use Rattle.store_search.proofs.IndexLemmas.{then_too, both_where}
use Rattle.store_pieces.proofs.KeptLemmas.{kept_where}
use Rattle.store_search.proofs.index.Index.with_grams.Goals as goal

pub returns-then-not-is_kept : goal.returns-then-not-is_kept
returns-then-not-is_kept c = then_too _ _ c.with_tested.result (λ places is. is ∙ both_where (has_gram c.args.last.now) (has_gram c.args.first.now) (keys_of c.args.self.now)) c.with_tested.ensures

pub returns-then-one-other : goal.returns-then-one-other
returns-then-one-other c =
    let keys = keys_of c.self.inside.entries in
    let first = c.args.first.now in
    let last = c.args.last.now in
    let placed = c.self.invariant.grams_placed in
    let first_kept : is_kept_gram first ≡ true = search rules in
    let last_kept : is_kept_gram last ≡ true = search rules in
    let one : c.places-one.result.now ≡ places_where (has_gram first) keys = c.places-one.ensures kept_grams keys placed ∙ ap (λ g. places_where (has_piece kept_grams g) keys) c.as_slice-3.ensures ∙ kept_where first keys first_kept in
    let other : c.places-other.result.now ≡ places_where (has_gram last) keys = c.places-other.ensures kept_grams keys placed ∙ ap (λ g. places_where (has_piece kept_grams g) keys) c.as_slice-4.ensures ∙ kept_where last keys last_kept in
    then_too _ _ c.common_places.result (λ both is. is (has_gram first) (has_gram last) keys one other ∙ ap (λ l. places_where (λ key. has_gram first key && has_gram last key) (keys_of l)) c.self.view_is) c.common_places.ensures

pub returns-else-one-other : goal.returns-else-one-other
returns-else-one-other c =
    let keys = keys_of c.self.inside.entries in
    let first = c.args.first.now in
    let last = c.args.last.now in
    let placed = c.self.invariant.grams_placed in
    let first_kept : is_kept_gram first ≡ true = search rules in
    let last_kept : is_kept_gram last ≡ true = search rules in
    let one : c.places-one.result.now ≡ places_where (has_gram first) keys = c.places-one.ensures kept_grams keys placed ∙ ap (λ g. places_where (has_piece kept_grams g) keys) c.as_slice-3.ensures ∙ kept_where first keys first_kept in
    let other : c.places-other.result.now ≡ places_where (has_gram last) keys = c.places-other.ensures kept_grams keys placed ∙ ap (λ g. places_where (has_piece kept_grams g) keys) c.as_slice-4.ensures ∙ kept_where last keys last_kept in
    then_too _ _ c.common_places-else-one-other.result (λ both is. is (has_gram last) (has_gram first) keys other one
    ∙ both_where (has_gram last) (has_gram first) keys
    ∙ ap (λ l. places_where (λ key. has_gram first key && has_gram last key) (keys_of l)) c.self.view_is) c.common_places-else-one-other.ensures
