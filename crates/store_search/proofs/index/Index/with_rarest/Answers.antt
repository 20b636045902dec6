use Rattle.std.proofs.Common.{◌≡◌, ◌<◌, ℕ, Bool, length, filter, inl, inr, ap, ◌∙◌, subst, arith}
use Rattle.dict_match.specs.Matching.{is_hit}
use Rattle.dict_match.specs.declared.strategy.Strategy.TheVariants.{Substring}
use Rattle.store_derived.specs.Search.{rows_for}
use Rattle.store_search.specs.Entries.{keys_of}
use Rattle.store_places.specs.Places.{key_at, places_where}
use Rattle.store_derived.specs.KeptGrams.{kept_grams}
use Rattle.store_pieces.specs.Pieces.{ArePlaced}
use Rattle.store_pieces.specs.Selected.{is_selected}
use Rattle.store_pieces.proofs.SelectionLemmas.{tested}
use Rattle.store_search.proofs.IndexLemmas.{then_too}
use Rattle.store_pieces.proofs.RarestLemmas.{tested_both}
use Rattle.store_search.proofs.index.Index.with_rarest.Goals as goal

pub returns-then-len-le-FEW : goal.returns-then-len-le-FEW
returns-then-len-le-FEW c =
    let keys = keys_of c.args.self.now in
    ap (filter (λ place. is_hit Substring c.args.query.now (key_at keys place))) c.requires.selected ∙ tested Substring c.args.query.now keys c.requires.text

pub returns-then-rarest-len : goal.returns-then-rarest-len
returns-then-rarest-len c =
    let keys = keys_of c.args.self.now in
    ap (filter (λ place. is_hit Substring c.args.query.now (key_at keys place))) c.requires.selected ∙ tested Substring c.args.query.now keys c.requires.text

pub returns : goal.returns
returns c =
    let q = c.args.query.now in
    let keys = keys_of c.args.self.now in
    let hit : ℕ → Bool = λ place. is_hit Substring q (key_at keys place) in
    let placed = subst (λ l. ArePlaced kept_grams (keys_of l) c.self.inside.grams.texts c.self.inside.grams.lists) c.self.view_is c.self.invariant.grams_placed in
    let shorter : length c.rarest-rarest.result.now < length c.as_slice.result.now = omega (arith, c.if-rarest-len.false, c.len-2.ensures, c.as_slice.ensures.len) in
    let more : c.as_slice-2.result.now ≡ places_where (is_selected (rows_for Substring q)) keys = c.as_slice-2.ensures.value ∙ c.requires.selected in
    elim (c.rarest-rarest.ensures keys placed) [
      | inl same ↦ let sizes = ap length same in absurd (omega (arith, shorter, sizes))
      | inr h ↦ then_too _ _ c.common_places.result (λ both is. ap (filter hit) (is h.test (is_selected (rows_for Substring q)) keys h.are more) ∙ tested_both q keys c.rarest-rarest.result.now c.requires.text h) c.common_places.ensures
    ]
