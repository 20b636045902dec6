use Rattle.std.proofs.lemmas.List.Sorted.{IsPermutation-trans}
use Rattle.store_places.proofs.sorting.Sorting.step.Goals as goal

pub returns : goal.returns
returns c = record {
  each = IsPermutation-trans _ _ _ c.requires.each c.step.ensures.same;
  within = c.step.ensures.within;
}
