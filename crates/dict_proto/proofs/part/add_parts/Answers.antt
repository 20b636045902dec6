use Rattle.std.proofs.Common.{arith}
use Rattle.dict_proto.specs.ReplyParts.{part_octets}
use Rattle.dict_proto.proofs.GatheringLemmas.{piece_joined, piece_broken}
use Rattle.dict_proto.proofs.part.add_parts.Goals as goal

pub loop-part-preserved : goal.loop-part-preserved
loop-part-preserved g c = piece_joined part_octets c.args.parts.now c.loop-part.part-index _ _ _ _ _ _ _ (omega arith) c.loop-part.invariant c.in_ok-add_part.ensures

pub returns-in_err-add_part : goal.returns-in_err-add_part
returns-in_err-add_part g c = piece_broken c.from_residual.result part_octets c.args.parts.now c.loop-part.part-index _ _ _ _ _ _ _ (omega arith) c.from_residual.ensures.0 c.loop-part.invariant c.in_err-add_part.ensures
