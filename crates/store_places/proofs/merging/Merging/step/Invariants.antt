use Rattle.std.specs.List.Sorted.{IsPermutation}
use Rattle.store_places.specs.Merging.{elements, AreWithin}
use Rattle.store_places.proofs.merging.Merging.step.Given as goal

abbrev pub invariant-loop-count : goal.invariant-loop-count
invariant-loop-count g l = record {
  same : IsPermutation (elements l.fn.self) (elements l.self);
  within : AreWithin l.self;
}
