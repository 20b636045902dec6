use Rattle.store_desk.proofs.PreparingLemmas.{forgotten_keeps}
use Rattle.store_desk.proofs.preparing.DeskPreparer.forget.Goals as goal

pub returns : goal.returns
returns g c = record { gone = c.withdraw.ensures.gone; keeps = forgotten_keeps c.args.self.now c.withdraw.new.self c.withdraw.ensures.same g.S.Store c.withdraw.result c.withdraw.ensures.open c.withdraw.ensures.closed }
