use Rattle.store_derived.proofs.EndLemmas.{rows_with, AreSeen}
use Rattle.store_derived.proofs.search.by_grams.Given as goal

-- by the ends of the runs that end before here
abbrev pub invariant-loop-end : goal.invariant-loop-end
invariant-loop-end l = AreSeen l.query l.end (rows_with l.first l.last)
