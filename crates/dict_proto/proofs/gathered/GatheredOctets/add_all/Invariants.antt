use Rattle.std.proofs.Common.{take}
use Rattle.std.specs.List.{flat_map}
use Rattle.dict_proto.specs.Gathering.{Joins}
use Rattle.dict_proto.proofs.gathered.GatheredOctets.add_all.Given as goal

abbrev pub invariant-loop-part : goal.invariant-loop-part
invariant-loop-part g l = Joins (g.K.Sink.stream l.fn.sink) (g.K.Sink.stream l.sink) l.fn.self.octets.items l.self.octets.items (flat_map (λ part. part.now) (take l.part-index l.parts))
