use Rattle.std.proofs.Common.{inl}
use Rattle.store_desk.proofs.PreparingLemmas.{forgotten_keeps}
use Rattle.store_desk.proofs.preparing.DeskPreparer.expect.Goals as goal

pub returns-clause-told : goal.returns-clause-told
returns-clause-told g c = (c.withdraw.ensures.ended, inl c.withdraw.ensures.same)

pub returns-clause-keeps : goal.returns-clause-keeps
returns-clause-keeps g c = forgotten_keeps c.args.self.now c.withdraw.new.self c.withdraw.ensures.same g.S.Store c.withdraw.result c.withdraw.ensures.open c.withdraw.ensures.closed
