use Rattle.std.proofs.lemmas.List.Sorted.{IsPermutation-trans}
use Rattle.store_places.proofs.merging.Merging.step.Goals as goal

pub returns-in_err-put_next-clause-same : goal.returns-in_err-put_next-clause-same
returns-in_err-put_next-clause-same g c = IsPermutation-trans _ _ _ c.loop-count.invariant.same c.put_next-in-loop-count.ensures.same

pub returns-then-not-branch-clause-same : goal.returns-then-not-branch-clause-same
returns-then-not-branch-clause-same g c = IsPermutation-trans _ _ _ c.loop-count.invariant.same c.put_next-in-loop-count.ensures.same

pub loop-count-preserved : goal.loop-count-preserved
loop-count-preserved g c = record {
  same = IsPermutation-trans _ _ _ c.loop-count.invariant.same c.put_next-in-loop-count.ensures.same;
  within = c.put_next-in-loop-count.ensures.within;
}
