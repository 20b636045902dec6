use Rattle.std.proofs.Common.{◌≡◌, ℕ, List, ◌∷◌, ◌++◌, length}
use Rattle.std.specs.List.{flat_map}
use Rattle.dict_proto.specs.Gathering.{Joins}
use Rattle.dict_proto.specs.Text.{escaped}
use Rattle.dict_proto.proofs.quoted.add_quoted.Given as goal

abbrev pub invariant-loop-front : goal.invariant-loop-front
invariant-loop-front g l = (done : List ℕ) × (34 ∷ flat_map escaped l.fn.text ≡ done ++ flat_map escaped l.rest) × Joins (g.K.Sink.stream l.fn.sink) (g.K.Sink.stream l.sink) l.fn.gathered.octets.items l.gathered.octets.items done

abbrev pub decreases-loop-front : goal.decreases-loop-front
decreases-loop-front g l = length l.rest
