use Rattle.std.proofs.Common.{ℕ, ◌<◌, get_or}
use Rattle.http_request.specs.Heads.{IsLineEnd}
use Rattle.http_request.proofs.parsing.first_other.Given as goal

abbrev pub invariant-loop-i : goal.invariant-loop-i
invariant-loop-i l = (k : ℕ) → k < l.i → IsLineEnd (get_or l.octets k 0)
