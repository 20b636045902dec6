use Rattle.std.proofs.Common.{take}
use Rattle.std.specs.List.{flat_map}
use Rattle.dict_proto.specs.Gathering.{Joins}
use Rattle.dict_proto.specs.ReplyParts.{part_octets}
use Rattle.dict_proto.proofs.part.add_parts.Given as goal

abbrev pub invariant-loop-part : goal.invariant-loop-part
invariant-loop-part g l = Joins (g.K.Sink.stream l.fn.sink) (g.K.Sink.stream l.sink) l.fn.gathered.octets.items l.gathered.octets.items (flat_map part_octets (take l.part-index l.parts))
