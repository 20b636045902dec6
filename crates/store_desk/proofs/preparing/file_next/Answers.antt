use Rattle.std.proofs.Common.{inl, inr, refl, sym, ap, subst, ◌∙◌}
use Rattle.std.specs.Prelude.{Option, Some, Ok, IfSome}
use Rattle.std.proofs.lemmas.Result.{IfErr-weaker}
use Rattle.sqlite.specs.Held.{state}
use Rattle.dict_catalogue.specs.Views.{summary_shown}
use Rattle.dict_desk.specs.declared.fault.Fault.{Fault}
use Rattle.store_commands.specs.Committed.{IsOfStore}
use Rattle.store_commands.specs.Filing.{IsDrawnUp, IsFiledSoFar}
use Rattle.store_commands.specs.Left.{IsLess}
use Rattle.store_commands.specs.declared.filing.Filing.{Filing}
use Rattle.store_commands.proofs.WriteLemmas.{clean_before}
use Rattle.store_desk.specs.Desk.{HasFiled}
use Rattle.store_desk.specs.Left.{ComingState, coming_left}
use Rattle.store_desk.proofs.CopyLemmas.{CommitsSame, remains_itself, remains_still}
use Rattle.store_desk.proofs.DeskLemmas.{survives_itself}
use Rattle.store_desk.proofs.LeftLemmas.{made_left, said_true}
use Rattle.store_desk.proofs.StandingLemmas.{on_err_with}
use Rattle.store_desk.proofs.preparing.file_next.Goals as goal

pub file-requires-clause-filed : goal.file-requires-clause-filed
file-requires-clause-filed g c = (subst (λ (f : Option ComingState). HasFiled f (state g.S.Store c.args.conn.now)) c.in-Some.is c.requires.filed).1

-- ---- nothing was done to the connection

pub returns-in_default-clause-remains : goal.returns-in_default-clause-remains
returns-in_default-clause-remains g c = λ clean live. remains_itself (summary_shown c.args.summary.now) (state g.S.Store c.args.conn.now).committed

pub returns-in_default-clause-settled : goal.returns-in_default-clause-settled
returns-in_default-clause-settled g c = λ clean live. (c.requires.holds clean live).1.settled

pub returns-in_default-clause-crash : goal.returns-in_default-clause-crash
returns-in_default-clause-crash g c = survives_itself (state g.S.Store c.args.conn.now) (CommitsSame g.S.Store (summary_shown c.args.summary.now) c.args.conn.now)

pub returns-then-is_filed-clause-made : goal.returns-then-is_filed-clause-made
returns-then-is_filed-clause-made g c = λ clean is. inl refl

pub returns-then-is_filed-clause-remains : goal.returns-then-is_filed-clause-remains
returns-then-is_filed-clause-remains g c = λ clean live. remains_itself (summary_shown c.args.summary.now) (state g.S.Store c.args.conn.now).committed

pub returns-then-is_filed-clause-settled : goal.returns-then-is_filed-clause-settled
returns-then-is_filed-clause-settled g c = λ clean live. (c.requires.holds clean live).1.settled

pub returns-then-is_filed-clause-filed : goal.returns-then-is_filed-clause-filed
returns-then-is_filed-clause-filed g c =
    let now = state g.S.Store c.args.conn.now in
    subst (λ (f : Filing). IsDrawnUp f × IsFiledSoFar f now) (sym c.make.ensures.same) (subst (λ (f : Option ComingState). HasFiled f now) c.in-Some.is c.requires.filed)

pub returns-then-is_filed-clause-fewer : goal.returns-then-is_filed-clause-fewer
returns-then-is_filed-clause-fewer g c = λ is.
    subst (λ (f : Option ComingState). IsLess (coming_left (Some c.make.new.self)) (coming_left f)) (sym c.in-Some.is)
    (made_left c.in-Some.planned c.make.new.self c.make.ensures.same (c.make.ensures.fewer (said_true (Ok c.make.result) is)))

pub returns-then-is_filed-clause-crash : goal.returns-then-is_filed-clause-crash
returns-then-is_filed-clause-crash g c = survives_itself (state g.S.Store c.args.conn.now) (CommitsSame g.S.Store (summary_shown c.args.summary.now) c.args.conn.now)

-- ---- a part was filed

pub returns-in-Ok-clause-made : goal.returns-in-Ok-clause-made
returns-in-Ok-clause-made g c = λ clean is. inr (c.in-Ok.ensures.made clean)

pub returns-in-Ok-clause-remains : goal.returns-in-Ok-clause-remains
returns-in-Ok-clause-remains g c = λ clean live. (c.in-Ok.ensures.made clean).holds

pub returns-in-Ok-clause-settled : goal.returns-in-Ok-clause-settled
returns-in-Ok-clause-settled g c = λ clean live. (c.in-Ok.ensures.made clean).settled

pub returns-in-Ok-clause-filed : goal.returns-in-Ok-clause-filed
returns-in-Ok-clause-filed g c = (c.file.ensures.drawn, c.in-Ok.ensures.filed)

pub returns-in-Ok-clause-fewer : goal.returns-in-Ok-clause-fewer
returns-in-Ok-clause-fewer g c = λ is. subst (λ (f : Option ComingState). IsLess (coming_left (Some c.file.new.self)) (coming_left f)) (sym c.in-Some.is) c.in-Ok.ensures.fewer

-- ---- it wasn't

pub returns-in-Err-clause-fewer : goal.returns-in-Err-clause-fewer
returns-in-Err-clause-fewer g c = λ is. absurd (c.told_of.ensures.never is)

pub returns-in-Err-clause-orphans : goal.returns-in-Err-clause-orphans
returns-in-Err-clause-orphans g c = λ is. absurd (c.told_of.ensures.never is)

pub returns-in-Err-clause-filed : goal.returns-in-Err-clause-filed
returns-in-Err-clause-filed g c = subst (λ (f : Option ComingState). HasFiled f (state g.S.Store c.file.new.conn)) (sym c.let_go.ensures.gone) tt

pub returns-in-Err-clause-made : goal.returns-in-Err-clause-made
returns-in-Err-clause-made g c = λ clean is. absurd (c.told_of.ensures.never is)

pub returns-in-Err-clause-remains : goal.returns-in-Err-clause-remains
returns-in-Err-clause-remains g c = λ clean live. remains_still (summary_shown c.args.summary.now) (state g.S.Store c.args.conn.now) (state g.S.Store c.file.new.conn) (c.in-Err.ensures.stays clean) live

pub returns-in-Err-clause-settled : goal.returns-in-Err-clause-settled
returns-in-Err-clause-settled g c = λ clean live.
    let old = state g.S.Store c.args.conn.now in
    let new = state g.S.Store c.file.new.conn in
    let stays = c.in-Err.ensures.stays clean in
    stays.settled live (c.requires.holds (clean_before old new c.file.ensures.crash clean) (stays.was_open live)).1.settled

pub returns-in-Err-clause-keeps : goal.returns-in-Err-clause-keeps
returns-in-Err-clause-keeps g c = λ clean.
    let stays = c.in-Err.ensures.stays clean in
    on_err_with c.told_of.result (record { was_open = stays.was_open; committed = stays.committed })

pub returns-in-Err-clause-faulted : goal.returns-in-Err-clause-faulted
returns-in-Err-clause-faulted g c = λ clean. IfErr-weaker c.told_of.result _ _ (λ fault is told. c.in-Err.ensures.faulted clean (is ∙ ap Some told)) c.told_of.ensures.fault

pub returns-in-Err-clause-kinds : goal.returns-in-Err-clause-kinds
returns-in-Err-clause-kinds g c = IfErr-weaker c.told_of.result _ IsOfStore (λ fault is. subst (λ (why : Option Fault). IfSome why IsOfStore) is c.in-Err.ensures.kinds) c.told_of.ensures.fault
