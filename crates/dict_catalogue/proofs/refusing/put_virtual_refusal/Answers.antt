use Rattle.std.proofs.Common.{arith}
use Rattle.dict_catalogue.proofs.TestLemmas.{first_failing_append}
use Rattle.dict_catalogue.proofs.refusing.put_virtual_refusal.Goals as goal

pub returns-in-Some-clause-first : goal.returns-in-Some-clause-first
returns-in-Some-clause-first c = simp first_failing_append (grind arith)

pub returns-then-not-has_room-clause-first : goal.returns-then-not-has_room-clause-first
returns-then-not-has_room-clause-first c = simp first_failing_append (grind arith)

pub returns-clause-first : goal.returns-clause-first
returns-clause-first c = simp first_failing_append (grind arith)
