use Rattle.std.proofs.Common.{◌≡◌, ℕ, List, ◌++◌, length}
use Rattle.json.specs.Print.{escape}
use Rattle.dict_proto.specs.Streams.{PutsAll}
use Rattle.http_service.proofs.putting.put_escaped.Given as goal

abbrev pub invariant-loop-front : goal.invariant-loop-front
invariant-loop-front g l = (done : List ℕ) × (escape l.fn.octets ≡ done ++ escape l.rest) × PutsAll (g.K.Sink.stream l.fn.sink) (g.K.Sink.stream l.sink) done

abbrev pub decreases-loop-front : goal.decreases-loop-front
decreases-loop-front g l = length l.rest
