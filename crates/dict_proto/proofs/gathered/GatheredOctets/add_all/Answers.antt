use Rattle.std.proofs.Common.{arith}
use Rattle.dict_proto.proofs.GatheringLemmas.{piece_joined, piece_broken}
use Rattle.dict_proto.proofs.gathered.GatheredOctets.add_all.Goals as goal

pub loop-part-preserved : goal.loop-part-preserved
loop-part-preserved g c = piece_joined (λ part. part.now) c.args.parts.now c.loop-part.part-index _ _ _ _ _ _ _ (omega arith) c.loop-part.invariant c.in_ok-add.ensures

pub returns-in_err-add : goal.returns-in_err-add
returns-in_err-add g c = piece_broken c.from_residual.result (λ part. part.now) c.args.parts.now c.loop-part.part-index _ _ _ _ _ _ _ (omega arith) c.from_residual.ensures.0 c.loop-part.invariant c.in_err-add.ensures
