use Rattle.std.proofs.Common.{take}
use Rattle.std.specs.List.{flat_map}
use Rattle.dict_proto.specs.Streams.{PutsAll}
use Rattle.dict_proto.proofs.sink.put_all.Given as goal

abbrev pub invariant-loop-part : goal.invariant-loop-part
invariant-loop-part g l = PutsAll (g.K.Sink.stream l.fn.sink) (g.K.Sink.stream l.sink) (flat_map (λ part. part.now) (take l.part-index l.parts))
