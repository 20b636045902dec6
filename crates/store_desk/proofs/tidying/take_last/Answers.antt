use Rattle.std.proofs.Common.{ap, subst, ◌∙◌}
use Rattle.std.specs.Prelude.{Option, Some, IfSome}
use Rattle.std.proofs.lemmas.Result.{IfErr-weaker}
use Rattle.sqlite.specs.Held.{state}
use Rattle.dict_catalogue.specs.Views.{summary_shown}
use Rattle.dict_desk.specs.declared.fault.Fault.{Fault}
use Rattle.store_commands.specs.Committed.{IsOfStore}
use Rattle.store_commands.proofs.WriteLemmas.{clean_before}
use Rattle.store_desk.proofs.CopyLemmas.{remains_still}
use Rattle.store_desk.proofs.StandingLemmas.{on_err_with}
use Rattle.store_desk.proofs.tidying.take_last.Goals as goal

pub returns-in-Ok-clause-made : goal.returns-in-Ok-clause-made
returns-in-Ok-clause-made g c = λ clean is. c.in-Ok.ensures.made clean

pub returns-in-Ok-clause-remains : goal.returns-in-Ok-clause-remains
returns-in-Ok-clause-remains g c = λ clean live. (c.in-Ok.ensures.made clean).holds

pub returns-in-Ok-clause-settled : goal.returns-in-Ok-clause-settled
returns-in-Ok-clause-settled g c = λ clean live. (c.in-Ok.ensures.made clean).settled

pub returns-after-is_none-clause-made : goal.returns-after-is_none-clause-made
returns-after-is_none-clause-made g c = λ clean is. absurd (c.told_of.ensures.never is)

pub returns-after-is_none-clause-remains : goal.returns-after-is_none-clause-remains
returns-after-is_none-clause-remains g c = λ clean live. remains_still (summary_shown c.args.summary.now) (state g.S.Store c.args.conn.now) (state g.S.Store c.take_orphans.new.conn) (c.in-Err.ensures.stays clean) live

pub returns-after-is_none-clause-settled : goal.returns-after-is_none-clause-settled
returns-after-is_none-clause-settled g c = λ clean live.
    let old = state g.S.Store c.args.conn.now in
    let new = state g.S.Store c.take_orphans.new.conn in
    let stays = c.in-Err.ensures.stays clean in
    stays.settled live (c.requires.holds (clean_before old new c.take_orphans.ensures.crash clean) (stays.was_open live)).1.settled

pub returns-after-is_none-clause-keeps : goal.returns-after-is_none-clause-keeps
returns-after-is_none-clause-keeps g c = λ clean.
    let stays = c.in-Err.ensures.stays clean in
    on_err_with c.told_of.result (record { was_open = stays.was_open; committed = stays.committed })

pub returns-after-is_none-clause-faulted : goal.returns-after-is_none-clause-faulted
returns-after-is_none-clause-faulted g c = λ clean. IfErr-weaker c.told_of.result _ _ (λ fault is told. c.in-Err.ensures.faulted clean (is ∙ ap Some told)) c.told_of.ensures.fault

pub returns-after-is_none-clause-kinds : goal.returns-after-is_none-clause-kinds
returns-after-is_none-clause-kinds g c = IfErr-weaker c.told_of.result _ IsOfStore (λ fault is. subst (λ (why : Option Fault). IfSome why IsOfStore) is c.in-Err.ensures.kinds) c.told_of.ensures.fault

pub returns-in-Ok-clause-fewer : goal.returns-in-Ok-clause-fewer
returns-in-Ok-clause-fewer g c = λ is. c.pass.ensures

pub returns-after-is_none-clause-fewer : goal.returns-after-is_none-clause-fewer
returns-after-is_none-clause-fewer g c = λ is. absurd (c.told_of.ensures.never is)
