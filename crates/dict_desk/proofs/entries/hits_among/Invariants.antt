use Rattle.dict_desk.proofs.HitLemmas.{Counts}
use Rattle.dict_desk.proofs.entries.hits_among.Given as goal

abbrev pub invariant-loop-place : goal.invariant-loop-place
invariant-loop-place l = Counts l.strategy l.query l.entries l.place l.hits
