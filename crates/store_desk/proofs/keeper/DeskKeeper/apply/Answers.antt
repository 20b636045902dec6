use Rattle.std.proofs.Common.{◌≡◌, inl, true, false, sym, subst, ap, ◌∙◌, arith, rules}
use Rattle.std.specs.Prelude.{IsTrue, is_some}
use Rattle.std.proofs.lemmas.Bool.{false≢true}
use Rattle.sqlite.specs.Held.{state}
use Rattle.sqlite.specs.State.{State, HasCleanDisk, Survives}
use Rattle.sqlite.specs.Tree.{Trees}
use Rattle.store_holdings.specs.Committed.{IsTreesOf}
use Rattle.store_commands.specs.KeptRecords.{SparesTablesOfOthers}
use Rattle.store_commands.proofs.WriteLemmas.{others_none}
use Rattle.dict_catalogue.specs.Steps.{kept_under, step}
use Rattle.dict_catalogue.specs.Views.{summary_shown, command_meant}
use Rattle.dict_desk.specs.Faults.{has_failed_by}
use Rattle.dict_desk.specs.Applying.{Leaves}
use Rattle.store_desk.specs.KeptParts.{KeepsTexts, texts_after}
use Rattle.store_desk.specs.Desk.{DeskState, Shows, LeavesOneOf, is_closed, has_failed, KeepsBeside}
use Rattle.store_desk.specs.declared.last.LastCall.{LastCall}
use Rattle.store_desk.specs.declared.last.LastCall.TheVariants.{Failed}
use Rattle.store_desk.specs.Left.{counted}
use Rattle.store_desk.proofs.ActedLemmas.{served_by}
use Rattle.store_desk.proofs.BesideLemmas.{beside_by}
use Rattle.store_desk.proofs.CauseLemmas.{fails_to_apply}
use Rattle.store_desk.proofs.DeskLemmas.{survives_itself, texts_keep}
use Rattle.store_desk.proofs.KeeperLemmas.{err_by, others_by, told_rests, told_applies, told_leaves, told_spares, failed_by}
use Rattle.store_desk.proofs.PreparingLemmas.{rests_as, shows_as}
use Rattle.store_desk.proofs.keeper.DeskKeeper.apply.Goals as goal

-- trees of a database in which the tables of others are those that were committed
abbrev LeftBeside : State → Trees → Type 0
LeftBeside s trees = IsTrue s.is_open × IsTreesOf (SparesTablesOfOthers s.committed) trees

pub apply_over-outcome-requires-clause-holds : goal.apply_over-outcome-requires-clause-holds
apply_over-outcome-requires-clause-holds g c =
    let before : is_closed c.self.inside.last ≡ false = search rules in
    c.self.invariant.0.holds before

pub invariant_of-self-2 : goal.invariant_of-self-2
invariant_of-self-2 g c =
    let before : is_closed c.self.inside.last ≡ false = search rules in
    told_rests g.S.Store c.self.inside.conn c.apply_over-outcome.new.conn (summary_shown c.self.inside.summary) c.self.inside.filing c.self.inside.last c.args.id.now
    (command_meant c.args.command.now) c.apply_over-outcome.result before c.self.invariant.0
    c.apply_over-outcome.ensures.over c.self.inside.indexes c.put_coming.new.indexes c.settle.new.indexes c.self.inside.texts c.forget_by-2.new.texts c.args.self.now.counts c.args.self.now.counts
    (summary_shown c.take_over.new.summary) c.last_by-self-inside.result c.take_over.result c.take_over.ensures.after c.last_by-self-inside.ensures c.take_over.ensures.reply
    c.forget_by-2.ensures c.self.invariant.1 c.let_go.new.filing c.let_go.ensures.gone

pub returns-clause-value : goal.returns-clause-value
returns-clause-value g c = λ clean M shown.
    let before : is_closed c.self.inside.last ≡ false = search rules in
    let first : HasCleanDisk (state g.S.Store c.self.inside.conn) = omega (arith, c.apply_over-outcome.ensures.over.crash.clean, clean) in
    let was = subst (λ desk. Shows g.S.Store desk M) (sym c.self.view_is) shown in
    let texts = c.forget_by-2.ensures ∙ ap (λ (l : LastCall). texts_after l c.self.inside.texts) c.last_by-self-inside.ensures in
    told_applies g.S.Store c.self.inside.conn c.apply_over-outcome.new.conn (summary_shown c.self.inside.summary) c.self.inside.filing c.self.inside.last c.args.id.now
    (command_meant c.args.command.now) c.apply_over-outcome.result before c.self.invariant.0
    c.apply_over-outcome.ensures.over c.self.inside.indexes c.put_coming.new.indexes c.settle.new.indexes c.self.inside.texts c.forget_by-2.new.texts _ _
    (summary_shown c.take_over.new.summary) c.last_by-self-inside.result c.take_over.result c.take_over.ensures.after c.last_by-self-inside.ensures c.take_over.ensures.reply
    clean M was
    (λ clean.
    served_by g.S.Store c.self.inside.conn c.apply_over-outcome.new.conn
    (summary_shown c.self.inside.summary) c.self.inside.last c.args.id.now c.args.command.now before c.self.inside.indexes c.put_coming.new.indexes c.settle.new.indexes c.self.inside.texts c.forget_by-2.new.texts _ c.self.invariant.1.made
    c.saturating_add-number.result c.saturating_add-number.ensures c.in-Ok.ensures.put M was clean first
    (λ live. (c.self.invariant.0.holds before first live).1.settled) c.apply_over-outcome.result c.apply_over-outcome.ensures.over c.settle.ensures.settled texts
    (c.apply_over-outcome.ensures.installed clean) (c.apply_over-outcome.ensures.stays clean))

pub returns-clause-leaves : goal.returns-clause-leaves
returns-clause-leaves g c = λ clean M shown.
    let before : is_closed c.self.inside.last ≡ false = search rules in
    subst (λ desk. Leaves (LeavesOneOf g.S.Store desk) (LeavesOneOf g.S.Store
    (record { conn = c.apply_over-outcome.new.conn; summary = summary_shown c.take_over.new.summary; last = c.last_by-self-inside.result; indexes = c.settle.new.indexes; texts = c.forget_by-2.new.texts; counts = c.args.self.now.counts }))
    (is_some (kept_under M.kept c.args.id.now)) (step M c.args.id.now (command_meant c.args.command.now)).catalogue c.take_over.result) c.self.view_is (told_leaves g.S.Store c.self.inside.conn c.apply_over-outcome.new.conn
    (summary_shown c.self.inside.summary) c.self.inside.filing c.self.inside.last c.args.id.now (command_meant c.args.command.now) c.apply_over-outcome.result before c.self.invariant.0
    c.apply_over-outcome.ensures.over c.self.inside.indexes c.put_coming.new.indexes c.settle.new.indexes c.self.inside.texts c.forget_by-2.new.texts _ c.args.self.now.counts
    (summary_shown c.take_over.new.summary) c.last_by-self-inside.result c.take_over.result c.take_over.ensures.after c.last_by-self-inside.ensures c.take_over.ensures.reply
    clean M (subst (λ desk. Shows g.S.Store desk M) (sym c.self.view_is) shown))

pub returns-clause-spares : goal.returns-clause-spares
returns-clause-spares g c = λ ms left.
    let before : is_closed c.self.inside.last ≡ false = search rules in
    told_spares g.S.Store c.self.inside.conn c.apply_over-outcome.new.conn (summary_shown c.self.inside.summary) c.self.inside.filing c.self.inside.last c.args.id.now
    (command_meant c.args.command.now) c.apply_over-outcome.result before c.self.invariant.0
    c.apply_over-outcome.ensures.over c.self.inside.indexes c.put_coming.new.indexes c.settle.new.indexes c.self.inside.texts c.forget_by-2.new.texts c.args.self.now.counts c.args.self.now.counts
    (summary_shown c.take_over.new.summary) c.last_by-self-inside.result c.take_over.result c.take_over.ensures.after c.last_by-self-inside.ensures c.take_over.ensures.reply
    ms (subst (λ desk. LeavesOneOf g.S.Store desk ms) (sym c.self.view_is) left)

pub returns-clause-beside : goal.returns-clause-beside
returns-clause-beside g c = λ db kept.
    let before : is_closed c.self.inside.last ≡ false = search rules in
    beside_by g.S.Store (record { conn = c.self.inside.conn; summary = summary_shown c.self.inside.summary; last = c.self.inside.last; indexes = c.self.inside.indexes; texts = c.self.inside.texts; counts = c.args.self.now.counts })
    (record { conn = c.apply_over-outcome.new.conn; summary = summary_shown c.take_over.new.summary; last = c.last_by-self-inside.result; indexes = c.settle.new.indexes; texts = c.forget_by-2.new.texts; counts = c.args.self.now.counts })
    (c.self.invariant.0.holds before) c.is_whole.ensures.live c.committed_may_stay.ensures c.apply_over-outcome.ensures.over.beside db (subst (λ (d : DeskState _). KeepsBeside g.S.Store d db) (sym c.self.view_is) kept)

pub returns-clause-failed : goal.returns-clause-failed
returns-clause-failed g c = ap has_failed c.last_by-self-inside.ensures ∙ failed_by c.apply_over-outcome.result ∙ ap has_failed_by (sym c.take_over.ensures.reply)

pub returns-clause-caused : goal.returns-clause-caused
returns-clause-caused g c = λ clean.
    fails_to_apply g.S.Store (record {
      conn = c.self.inside.conn;
      summary = summary_shown c.self.inside.summary;
      last = c.self.inside.last;
      indexes = c.self.inside.indexes;
      texts = c.self.inside.texts;
      counts = counted c.self.inside.rows_taken c.self.inside.is_log_long c.self.inside.orphans c.self.inside.draft c.self.inside.filing;
    }) c.args.id.now (command_meant c.args.command.now) _ false (λ filed. absurd (false≢true filed)) c.args.self.now c.self.view_is
    c.apply_over-outcome.result c.take_over.result c.take_over.ensures.reply c.apply_over-outcome.ensures.over.kinds (c.apply_over-outcome.ensures.over.failed clean)

pub returns-clause-applied : goal.returns-clause-applied
returns-clause-applied g c = record {
  answered = returns-clause-value g c;
  left = returns-clause-leaves g c;
  spared = returns-clause-spares g c;
  failed = returns-clause-caused g c;
  others = λ clean live. subst (λ (d : DeskState _). SparesTablesOfOthers (state g.S.Store d.conn).committed (state g.S.Store c.apply_over-outcome.new.conn).committed) c.self.view_is
      (others_by c.apply_over-outcome.result (state g.S.Store c.self.inside.conn).committed (state g.S.Store c.apply_over-outcome.new.conn).committed
      (c.apply_over-outcome.ensures.over.others clean live) (c.apply_over-outcome.ensures.stays clean live));
  beside = subst (λ (d : DeskState _). Survives (state g.S.Store d.conn) (state g.S.Store c.apply_over-outcome.new.conn) (LeftBeside (state g.S.Store d.conn))) c.self.view_is c.apply_over-outcome.ensures.over.beside;
  keeps = returns-clause-beside g c;
}

-- ---- memory was refused to the index of the edition that comes

pub invariant_of-self : goal.invariant_of-self
invariant_of-self g c =
    let before : is_closed c.self.inside.last ≡ false = search rules in (
      rests_as g.S.Store (summary_shown c.self.inside.summary) c.self.inside.filing c.self.inside.last Failed c.self.inside.conn before c.self.invariant.0 c.self.inside.filing (c.self.invariant.0.filed before),
      subst (KeepsTexts Failed (summary_shown c.self.inside.summary)) (sym c.forget_by.ensures) (texts_keep Failed (summary_shown c.self.inside.summary) c.self.inside.texts c.self.invariant.1.made),
    )

pub returns-in_default-clause-value : goal.returns-in_default-clause-value
returns-in_default-clause-value g c = λ clean M shown.
    let before : is_closed c.self.inside.last ≡ false = search rules in
    shows_as g.S.Store (summary_shown c.self.inside.summary) c.self.inside.last Failed c.self.inside.conn before c.self.inside.indexes c.put_coming.new.indexes
    (err_by c.put_coming.result c.in_default.not-Ok c.put_coming.ensures.refused) c.self.inside.texts c.forget_by.new.texts c.forget_by.ensures M
    (subst (λ (d : DeskState _). Shows g.S.Store d M) (sym c.self.view_is) shown)

pub returns-in_default-clause-leaves : goal.returns-in_default-clause-leaves
returns-in_default-clause-leaves g c = λ clean M shown ms left. subst (λ (d : DeskState _). LeavesOneOf g.S.Store d ms) (sym c.self.view_is) left

pub returns-in_default-clause-spares : goal.returns-in_default-clause-spares
returns-in_default-clause-spares g c = λ ms left other. subst (λ (d : DeskState _). LeavesOneOf g.S.Store d ms) (sym c.self.view_is) left

pub returns-in_default-clause-beside : goal.returns-in_default-clause-beside
returns-in_default-clause-beside g c = λ db kept. subst (λ (d : DeskState _). KeepsBeside g.S.Store d db) (sym c.self.view_is) kept

pub returns-in_default-clause-caused : goal.returns-in_default-clause-caused
returns-in_default-clause-caused g c = λ clean failure. inl (err_by c.put_coming.result c.in_default.not-Ok c.put_coming.ensures.asked, ap (λ (d : DeskState _). d.conn) c.self.view_is)

pub returns-in_default-clause-applied : goal.returns-in_default-clause-applied
returns-in_default-clause-applied g c =
    record {
      answered = returns-in_default-clause-value g c;
      left = returns-in_default-clause-leaves g c;
      spared = returns-in_default-clause-spares g c;
      failed = returns-in_default-clause-caused g c;
      others = λ clean live. subst (λ (d : DeskState _). SparesTablesOfOthers (state g.S.Store d.conn).committed (state g.S.Store c.self.inside.conn).committed) c.self.view_is (others_none (state g.S.Store c.self.inside.conn).committed);
      beside = subst (λ (d : DeskState _). Survives (state g.S.Store d.conn) (state g.S.Store c.self.inside.conn) (LeftBeside (state g.S.Store d.conn))) c.self.view_is
          (survives_itself (state g.S.Store c.self.inside.conn) (LeftBeside (state g.S.Store c.self.inside.conn)));
      keeps = returns-in_default-clause-beside g c;
    }
