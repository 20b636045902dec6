use Rattle.std.proofs.Common.{ap, ◌∙◌}
use Rattle.std.specs.List.{range_with_len}
use Rattle.store_places.proofs.MergingLemmas.{as_it_was}
use Rattle.store_places.proofs.sorting.Sorting.of.Goals as goal

pub returns : goal.returns
returns c = record {
  each = as_it_was _ _ (c.in_ok-places.ensures.same ∙ c.in_ok-first.ensures ∙ ap (range_with_len 0) c.requires);
  within = c.in_ok-places.ensures.within;
}
