-- As those of `apply` of a command, at the install of what was read.
use Rattle.std.proofs.Common.{◌≡◌, true, false, sym, subst, ap, ◌∙◌, arith}
use Rattle.std.specs.Prelude.{IsTrue, is_some, IfErr, Result}
use Rattle.sqlite.specs.Held.{state}
use Rattle.sqlite.specs.State.{State, HasCleanDisk, Survives}
use Rattle.sqlite.specs.Tree.{Trees}
use Rattle.dict_index.specs.Edition.{edition_of}
use Rattle.dict_catalogue.specs.Commands.{install}
use Rattle.dict_catalogue.specs.Steps.{kept_under, step}
use Rattle.dict_catalogue.specs.Views.{summary_shown}
use Rattle.dict_catalogue.specs.declared.reply.Kept.{Kept}
use Rattle.store_holdings.specs.Committed.{IsTreesOf}
use Rattle.store_commands.specs.Installs.{install_read}
use Rattle.store_commands.specs.KeptRecords.{SparesTablesOfOthers}
use Rattle.dict_desk.specs.Applying.{Leaves}
use Rattle.dict_desk.specs.Faults.{IsOfCommand, has_closed_by, has_failed_by}
use Rattle.dict_desk.specs.declared.fault.Fault.{Fault}
use Rattle.store_desk.specs.Applied.{AppliesOver}
use Rattle.store_desk.specs.KeptParts.{texts_after}
use Rattle.store_desk.specs.Desk.{DeskState, IsAtRest, Shows, LeavesOneOf, is_closed, has_failed, KeepsBeside}
use Rattle.store_desk.specs.declared.last.LastCall.{LastCall}
use Rattle.store_desk.specs.Left.{counted}
use Rattle.store_desk.proofs.ActedLemmas.{served_by}
use Rattle.store_desk.proofs.BesideLemmas.{beside_by}
use Rattle.store_desk.proofs.CauseLemmas.{fails_to_apply}
use Rattle.store_desk.proofs.DeskLemmas.{clean_behind, rests_on}
use Rattle.store_desk.proofs.FinishLemmas.{finished_over, never_shut, none_by, reply_kind, unfinished_shows}
use Rattle.store_desk.proofs.KeeperLemmas.{closed_by, others_by, told_rests, told_applies, told_leaves, told_spares, failed_by}
use Rattle.store_holdings.proofs.NumberLemmas.{beside_one}
use Rattle.store_desk.proofs.desk.Desk.finish.Goals as goal

abbrev LeftBeside : State → Trees → Type 0
LeftBeside s trees = IsTrue s.is_open × IsTreesOf (SparesTablesOfOthers s.committed) trees

pub finish_coming-requires-clause-autocommit : goal.finish_coming-requires-clause-autocommit
finish_coming-requires-clause-autocommit g c = c.self.invariant.0.ended

pub finish_coming-requires-clause-filed : goal.finish_coming-requires-clause-filed
finish_coming-requires-clause-filed g c =
    let before : is_closed c.self.inside.last ≡ false = ap (λ (d : DeskState _). is_closed d.last) c.self.view_is ∙ c.requires in
    c.self.invariant.0.filed before

pub finish_coming-requires-clause-holds : goal.finish_coming-requires-clause-holds
finish_coming-requires-clause-holds g c =
    let before : is_closed c.self.inside.last ≡ false = ap (λ (d : DeskState _). is_closed d.last) c.self.view_is ∙ c.requires in
    c.self.invariant.0.holds before

pub finish_coming-requires-clause-range : goal.finish_coming-requires-clause-range
finish_coming-requires-clause-range g c = c.self.invariant.0.range

-- ---- none is finished

pub invariant_of-self : goal.invariant_of-self
invariant_of-self g c =
    let before : is_closed c.self.inside.last ≡ false = ap (λ (d : DeskState _). is_closed d.last) c.self.view_is ∙ c.requires in
    let rests : IsAtRest g.S.Store c.self.inside.last (summary_shown c.self.inside.summary) c.self.inside.filing c.finish_coming.new.conn =
    rests_on g.S.Store c.self.inside.conn c.finish_coming.new.conn (summary_shown c.self.inside.summary) c.self.inside.filing c.self.inside.last c.self.inside.last before c.self.invariant.0
    (none_by c.finish_coming.result c.in_default.not-Some c.finish_coming.ensures.survives) (λ clean. none_by c.finish_coming.result c.in_default.not-Some (c.finish_coming.ensures.stays clean)) (λ _. c.finish_coming.ensures.ended) in (
      record { limit = rests.limit; ended = rests.ended; range = rests.range; holds = rests.holds; filed = λ open'. c.finish_coming.ensures.same (rests.filed open') },
      c.self.invariant.1,
    )

pub returns-in_default-clause-last : goal.returns-in_default-clause-last
returns-in_default-clause-last g c = ap (λ (d : DeskState _). d.last) c.self.view_is

pub returns-in_default-clause-shows : goal.returns-in_default-clause-shows
returns-in_default-clause-shows g c = λ clean M shown.
    let before : is_closed c.self.inside.last ≡ false = ap (λ (d : DeskState _). is_closed d.last) c.self.view_is ∙ c.requires in
    unfinished_shows g.S.Store c.self.inside.conn c.finish_coming.new.conn (summary_shown c.self.inside.summary) c.self.inside.last before
    (clean_behind (state g.S.Store c.self.inside.conn) (state g.S.Store c.finish_coming.new.conn) (none_by c.finish_coming.result c.in_default.not-Some c.finish_coming.ensures.survives))
    (λ clean. none_by c.finish_coming.result c.in_default.not-Some (c.finish_coming.ensures.stays clean)) c.saturating_add-number.result c.saturating_add-number.ensures c.self.inside.indexes c.let_go.new.self
    (λ q apart. beside_one c.saturating_add-number.result c.finish_coming.new.indexes c.let_go.new.self c.let_go.ensures q apart ∙ c.finish_coming.ensures.others q apart)
    c.self.inside.texts M (subst (λ (d : DeskState _). Shows g.S.Store d M) (sym c.self.view_is) shown)

pub returns-in_default-clause-survives : goal.returns-in_default-clause-survives
returns-in_default-clause-survives g c =
    subst (λ (d : DeskState _). Survives (state g.S.Store d.conn) (state g.S.Store c.finish_coming.new.conn) (λ _. ⊥)) c.self.view_is (none_by c.finish_coming.result c.in_default.not-Some c.finish_coming.ensures.survives)

-- ---- one is

pub invariant_of-self-2 : goal.invariant_of-self-2
invariant_of-self-2 g c =
    let before : is_closed c.self.inside.last ≡ false = ap (λ (d : DeskState _). is_closed d.last) c.self.view_is ∙ c.requires in
    let old = c.self.inside.conn in
    let new = c.finish_coming.new.conn in
    let summary = summary_shown c.self.inside.summary in
    let it = c.in-Some.ensures.finished in
    let command = install c.args.name.now (edition_of it.0) in
    let over : AppliesOver g.S.Store true summary c.args.id.now command old new c.in-Some.outcome = finished_over g.S.Store summary c.args.id.now c.args.name.now it.0 old new c.in-Some.outcome it.2 in
    told_rests g.S.Store old new summary c.self.inside.filing c.self.inside.last c.args.id.now command c.in-Some.outcome before c.self.invariant.0 over
    c.self.inside.indexes c.finish_coming.new.indexes c.settle.new.indexes c.self.inside.texts c.forget_by.new.texts c.args.self.now.counts c.args.self.now.counts
    (summary_shown c.take_over.new.summary) c.last_by-self-inside.result c.take_over.result c.take_over.ensures.after c.last_by-self-inside.ensures c.take_over.ensures.reply
    c.forget_by.ensures c.self.invariant.1 c.let_go-2.new.filing c.let_go-2.ensures.gone

pub returns-clause-done : goal.returns-clause-done
returns-clause-done g c =
    let before : is_closed c.self.inside.last ≡ false = ap (λ (d : DeskState _). is_closed d.last) c.self.view_is ∙ c.requires in
    let old = c.self.inside.conn in
    let new = c.finish_coming.new.conn in
    let summary = summary_shown c.self.inside.summary in
    let it = c.in-Some.ensures.finished in
    let command = install c.args.name.now (edition_of it.0) in
    let over : AppliesOver g.S.Store true summary c.args.id.now command old new c.in-Some.outcome = finished_over g.S.Store summary c.args.id.now c.args.name.now it.0 old new c.in-Some.outcome it.2 in
    let typed = install_read c.args.name.now it.0 in
    let after : DeskState _ = record { conn = new; summary = summary_shown c.take_over.new.summary; last = c.last_by-self-inside.result; indexes = c.settle.new.indexes; texts = c.forget_by.new.texts; counts = c.args.self.now.counts } in
    let texts = c.forget_by.ensures ∙ ap (λ (l : LastCall). texts_after l c.self.inside.texts) c.last_by-self-inside.ensures in (
      it.0,
      it.1,
      record {
        answered = λ clean M shown.
            let first : HasCleanDisk (state g.S.Store old) = omega (arith, over.crash.clean, clean) in
            let was = subst (λ desk. Shows g.S.Store desk M) (sym c.self.view_is) shown in
            told_applies g.S.Store old new summary c.self.inside.filing c.self.inside.last c.args.id.now command c.in-Some.outcome before c.self.invariant.0 over
            c.self.inside.indexes c.finish_coming.new.indexes c.settle.new.indexes c.self.inside.texts c.forget_by.new.texts _ _
            (summary_shown c.take_over.new.summary) c.last_by-self-inside.result c.take_over.result c.take_over.ensures.after c.last_by-self-inside.ensures c.take_over.ensures.reply
            clean M was
            (λ clean.
            served_by g.S.Store old new summary c.self.inside.last c.args.id.now typed before c.self.inside.indexes c.finish_coming.new.indexes c.settle.new.indexes c.self.inside.texts c.forget_by.new.texts _ c.self.invariant.1.made
            c.saturating_add-number.result c.saturating_add-number.ensures
            it.3 M was clean first (λ live. (c.self.invariant.0.holds before first live).1.settled) c.in-Some.outcome over c.settle.ensures.settled texts (it.2.installed clean) (it.2.stays clean));
        left = λ clean M shown.
            subst (λ desk. Leaves (LeavesOneOf g.S.Store desk) (LeavesOneOf g.S.Store after) (is_some (kept_under M.kept c.args.id.now)) (step M c.args.id.now command).catalogue c.take_over.result) c.self.view_is
            (told_leaves g.S.Store old new summary c.self.inside.filing c.self.inside.last c.args.id.now command c.in-Some.outcome before c.self.invariant.0 over
            c.self.inside.indexes c.finish_coming.new.indexes c.settle.new.indexes c.self.inside.texts c.forget_by.new.texts _ c.args.self.now.counts
            (summary_shown c.take_over.new.summary) c.last_by-self-inside.result c.take_over.result c.take_over.ensures.after c.last_by-self-inside.ensures c.take_over.ensures.reply
            clean M (subst (λ desk. Shows g.S.Store desk M) (sym c.self.view_is) shown));
        spared = λ ms left.
            told_spares g.S.Store old new summary c.self.inside.filing c.self.inside.last c.args.id.now command c.in-Some.outcome before c.self.invariant.0 over
            c.self.inside.indexes c.finish_coming.new.indexes c.settle.new.indexes c.self.inside.texts c.forget_by.new.texts c.args.self.now.counts c.args.self.now.counts
            (summary_shown c.take_over.new.summary) c.last_by-self-inside.result c.take_over.result c.take_over.ensures.after c.last_by-self-inside.ensures c.take_over.ensures.reply
            ms (subst (λ desk. LeavesOneOf g.S.Store desk ms) (sym c.self.view_is) left);
        failed = λ clean.
            fails_to_apply g.S.Store (record {
              conn = old;
              summary = summary;
              last = c.self.inside.last;
              indexes = c.self.inside.indexes;
              texts = c.self.inside.texts;
              counts = counted c.self.inside.rows_taken c.self.inside.is_log_long c.self.inside.orphans c.self.inside.draft c.self.inside.filing;
            }) c.args.id.now command _ true (λ _. c.in-Some.ensures.begun) c.args.self.now c.self.view_is c.in-Some.outcome c.take_over.result c.take_over.ensures.reply over.kinds (over.failed clean);
        others = λ clean live. subst (λ (d : DeskState _). SparesTablesOfOthers (state g.S.Store d.conn).committed (state g.S.Store new).committed) c.self.view_is
            (others_by c.in-Some.outcome (state g.S.Store old).committed (state g.S.Store new).committed (over.others clean live) (it.2.stays clean live));
        beside = subst (λ (d : DeskState _). Survives (state g.S.Store d.conn) (state g.S.Store new) (LeftBeside (state g.S.Store d.conn))) c.self.view_is over.beside;
        keeps = λ db kept.
            beside_by g.S.Store (record { conn = old; summary = summary; last = c.self.inside.last; indexes = c.self.inside.indexes; texts = c.self.inside.texts; counts = c.args.self.now.counts })
            after (c.self.invariant.0.holds before) c.is_whole.ensures.live
            c.committed_may_stay.ensures over.beside db (subst (λ (d : DeskState _). KeepsBeside g.S.Store d db) (sym c.self.view_is) kept);
      },
    )

pub returns-clause-failed : goal.returns-clause-failed
returns-clause-failed g c = ap has_failed c.last_by-self-inside.ensures ∙ failed_by c.in-Some.outcome ∙ ap has_failed_by (sym c.take_over.ensures.reply)

pub returns-clause-closes : goal.returns-clause-closes
returns-clause-closes g c = ap is_closed c.last_by-self-inside.ensures ∙ closed_by c.in-Some.outcome ∙ ap has_closed_by (sym c.take_over.ensures.reply)

pub returns-clause-kinds : goal.returns-clause-kinds
returns-clause-kinds g c =
    subst (λ (r : Result Kept Fault). IfErr r IsOfCommand) (sym c.take_over.ensures.reply) (reply_kind c.in-Some.outcome c.in-Some.ensures.finished.2.applied.kinds)

pub returns-clause-closed : goal.returns-clause-closed
returns-clause-closed g c = λ is. never_shut c.in-Some.outcome c.in-Some.ensures.finished.2.applied.kinds (sym c.take_over.ensures.reply ∙ is)
