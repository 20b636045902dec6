use Rattle.std.proofs.Common.{◌≡◌, ◌||◌, false, refl, sym, ap, subst, ◌∙◌, rules}
use Rattle.std.specs.Prelude.{Ok, Err}
use Rattle.sqlite.specs.State.{HasCleanDisk}
use Rattle.sqlite.specs.Held.{state}
use Rattle.dict_catalogue.specs.Views.{summary_shown}
use Rattle.dict_desk.specs.declared.fault.Fault.TheVariants.{Memory}
use Rattle.store_desk.specs.Desk.{DeskState, KeepsBeside, LeavesOneOf, Shows, has_failed, is_closed}
use Rattle.store_desk.specs.KeptParts.{KeepsTexts}
use Rattle.store_desk.specs.Left.{counted}
use Rattle.store_desk.specs.declared.last.LastCall.TheVariants.{Failed}
use Rattle.store_desk.proofs.DeskLemmas.{shows_counted, texts_keep}
use Rattle.store_desk.proofs.PreparingLemmas.{open_closed, or_false, or_true, rests_as, shows_as, shows_but_counts}
use Rattle.store_desk.proofs.preparing.DeskPreparer.expect_install.Goals as goal

pub invariant_of-self-in-Err : goal.invariant_of-self-in-Err
invariant_of-self-in-Err g c =
    let before : is_closed c.self.inside.last ≡ false = ap (λ (d : DeskState _). is_closed d.last) (c.self.view_is ∙ c.withdraw.ensures.same) ∙ c.in_ok-withdraw.ensures.open in (
      rests_as g.S.Store (summary_shown c.self.inside.summary) c.self.inside.filing c.self.inside.last Failed c.self.inside.conn before c.self.invariant.0 c.self.inside.filing (c.self.invariant.0.filed before),
      subst (KeepsTexts Failed (summary_shown c.self.inside.summary)) (sym c.forget_by.ensures) (texts_keep Failed (summary_shown c.self.inside.summary) c.self.inside.texts c.self.invariant.1.made),
    )

pub returns-in-Err-clause-keeps : goal.returns-in-Err-clause-keeps
returns-in-Err-clause-keeps g c =
    let before : is_closed c.self.inside.last ≡ false = ap (λ (d : DeskState _). is_closed d.last) (c.self.view_is ∙ c.withdraw.ensures.same) ∙ c.in_ok-withdraw.ensures.open in
    record {
      trust = λ clean. subst (λ (d : DeskState _). HasCleanDisk (state g.S.Store d.conn)) (c.self.view_is ∙ c.withdraw.ensures.same) clean;
      beside = λ db kept. subst (λ (d : DeskState _). KeepsBeside g.S.Store d db) (sym (c.self.view_is ∙ c.withdraw.ensures.same)) kept;
      shows = λ clean M shown.
          shows_as g.S.Store (summary_shown c.self.inside.summary) c.self.inside.last Failed c.self.inside.conn before c.self.inside.indexes c.self.inside.indexes (λ q. refl) c.self.inside.texts c.forget_by.new.texts
          c.forget_by.ensures M (subst (λ (d : DeskState _). Shows g.S.Store d M) (sym c.self.view_is) (shows_but_counts g.S.Store c.args.self.now c.withdraw.new.self c.withdraw.ensures.same M shown));
      leaves = λ ms left. subst (λ (d : DeskState _). LeavesOneOf g.S.Store d ms) (sym (c.self.view_is ∙ c.withdraw.ensures.same)) left;
      kinds = tt;
      caused = search rules;
      failed = sym (or_true (has_failed c.args.self.now.last));
      closes = sym (ap (λ b. b || false) c.in_ok-withdraw.ensures.open);
      closed = open_closed {T = Unit {0}} c.args.self.now.last (Err Memory) c.in_ok-withdraw.ensures.open tt;
    }

pub returns-in-Ok-clause-keeps : goal.returns-in-Ok-clause-keeps
returns-in-Ok-clause-keeps g c =
    let mid : DeskState _ = record {
      conn = c.self.inside.conn;
      summary = summary_shown c.self.inside.summary;
      last = c.self.inside.last;
      indexes = c.self.inside.indexes;
      texts = c.self.inside.texts;
      counts = counted c.self.inside.rows_taken c.self.inside.is_log_long c.self.inside.orphans c.self.inside.draft c.self.inside.filing;
    } in
    record {
      trust = λ clean. subst (λ (d : DeskState _). HasCleanDisk (state g.S.Store d.conn)) (c.self.view_is ∙ c.withdraw.ensures.same) clean;
      beside = λ db kept. subst (λ (d : DeskState _). KeepsBeside g.S.Store d db) (sym (c.self.view_is ∙ c.withdraw.ensures.same)) kept;
      shows = λ clean M shown.
          shows_counted g.S.Store mid _ M (subst (λ (d : DeskState _). Shows g.S.Store d M) (sym c.self.view_is) (shows_but_counts g.S.Store c.args.self.now c.withdraw.new.self c.withdraw.ensures.same M shown));
      leaves = λ ms left. subst (λ (d : DeskState _). LeavesOneOf g.S.Store d ms) (sym (c.self.view_is ∙ c.withdraw.ensures.same)) left;
      kinds = tt;
      caused = λ clean. tt;
      failed = ap (λ (d : DeskState _). has_failed d.last) (c.self.view_is ∙ c.withdraw.ensures.same) ∙ sym (or_false (has_failed c.args.self.now.last));
      closes = ap (λ (d : DeskState _). is_closed d.last) (c.self.view_is ∙ c.withdraw.ensures.same) ∙ sym (or_false (is_closed c.args.self.now.last));
      closed = open_closed {T = Unit {0}} c.args.self.now.last (Ok tt) c.in_ok-withdraw.ensures.open tt;
    }
