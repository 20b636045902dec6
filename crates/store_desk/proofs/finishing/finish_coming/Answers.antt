use Rattle.std.proofs.Common.{◌≡◌, true, sym, subst}
use Rattle.std.specs.Prelude.{Option, IfSome}
use Rattle.sqlite.specs.Held.{state}
use Rattle.store_commands.specs.Filing.{IsDrawnUp, IsFiledSoFar}
use Rattle.store_commands.specs.declared.filing.Filing.{Filing}
use Rattle.store_desk.specs.Desk.{HasFiled}
use Rattle.store_desk.specs.Left.{ComingState, has_filed}
use Rattle.store_desk.proofs.DeskLemmas.{same_stays, survives_itself}
use Rattle.store_desk.proofs.finishing.finish_coming.Goals as goal

pub finish-requires-clause-filed : goal.finish-requires-clause-filed
finish-requires-clause-filed g c = (subst (λ (f : Option ComingState). HasFiled f (state g.S.Store c.args.conn.now)) c.in-Some.is c.requires.filed).1

pub returns-clause-same : goal.returns-clause-same
returns-clause-same g c = λ filed.
    let it = subst (λ (f : Option ComingState). HasFiled f (state g.S.Store c.finish.new.conn)) c.in-Some.is filed in
    subst (λ (f : Filing). IsDrawnUp f × IsFiledSoFar f (state g.S.Store c.finish.new.conn)) (sym c.finish.ensures.same) it

pub returns-clause-begun : goal.returns-clause-begun
returns-clause-begun g c = subst (λ (f : Option ComingState). IfSome c.finish.result (λ _. has_filed f ≡ true)) (sym c.in-Some.is) c.finish.ensures.begun

pub returns-in_default-clause-stays : goal.returns-in_default-clause-stays
returns-in_default-clause-stays g c = λ clean. same_stays (state g.S.Store c.args.conn.now)

pub returns-in_default-clause-survives : goal.returns-in_default-clause-survives
returns-in_default-clause-survives g c = survives_itself (state g.S.Store c.args.conn.now) (λ _. ⊥)
