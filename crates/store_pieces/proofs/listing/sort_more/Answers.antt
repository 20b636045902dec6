use Rattle.std.proofs.Common.{sym, subst}
use Rattle.std.specs.List.Sorted.{IsPermutation}
use Rattle.std.proofs.lemmas.List.Sorted.{IsPermutation-trans, IsPermutation-map}
use Rattle.std.specs.Ordering.{is_lt}
use Rattle.store_derived.specs.KeptGrams.{kept_grams}
use Rattle.store_pieces.specs.Pieces.{occurrences_from}
use Rattle.store_pieces.specs.PlacedPieces.{gram_placed, gram_cmp, grams_placed}
use Rattle.store_places.proofs.ComparedLemmas.{none_compared}
use Rattle.store_pieces.proofs.listing.sort_more.Goals as goal

pub returns-then-branch : goal.returns-then-branch
returns-then-branch c = record {
  each = IsPermutation-trans _ _ _ c.requires.each (IsPermutation-map gram_placed _ _ c.step.ensures.same);
  within = c.step.ensures.within;
}

pub returns : goal.returns
returns c = record {
  each = subst (λ l. IsPermutation (occurrences_from kept_grams 0 c.args.keys.now) (grams_placed l)) (sym c.in_ok-end.ensures) (IsPermutation-trans _ _ _ c.requires.each (IsPermutation-map gram_placed _ _ c.step.ensures.same));
  rising = none_compared (λ x y. is_lt (gram_cmp x y));
}
