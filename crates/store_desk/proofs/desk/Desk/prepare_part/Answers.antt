use Rattle.std.proofs.Common.{◌≡◌, ◌⊎◌, inl, inr, false, ◌∷◌, ◌++◌, refl, sym, ap, subst, ◌∙◌}
use Rattle.dict_catalogue.specs.Views.{summary_shown}
use Rattle.store_desk.specs.Desk.{DeskState, is_closed}
use Rattle.store_desk.specs.Prepared.{HasCommittedSame, KeepsDesk}
use Rattle.store_commands.specs.Left.{IsLess}
use Rattle.store_desk.specs.Left.{OrphansState, counted, install_left, log_left, orphans_left, recounted}
use Rattle.store_desk.proofs.CopyLemmas.{copied_keeps, copied_rests, copied_same, copied_whole}
use Rattle.store_desk.proofs.LeftLemmas.{less_behind}
use Rattle.store_desk.proofs.PreparingLemmas.{same_prepared}
use Rattle.store_desk.proofs.desk.Desk.prepare_part.Goals as goal

pub prepare_next-outcome-requires-clause-autocommit : goal.prepare_next-outcome-requires-clause-autocommit
prepare_next-outcome-requires-clause-autocommit g c = c.self.invariant.0.ended

pub prepare_next-outcome-requires-clause-holds : goal.prepare_next-outcome-requires-clause-holds
prepare_next-outcome-requires-clause-holds g c = c.self.invariant.0.holds (ap (λ (d : DeskState _). is_closed d.last) c.self.view_is ∙ c.requires)

pub prepare_next-outcome-requires-clause-range : goal.prepare_next-outcome-requires-clause-range
prepare_next-outcome-requires-clause-range g c = c.self.invariant.0.range

pub prepare_next-outcome-requires-clause-filed : goal.prepare_next-outcome-requires-clause-filed
prepare_next-outcome-requires-clause-filed g c = c.self.invariant.0.filed (ap (λ (d : DeskState _). is_closed d.last) c.self.view_is ∙ c.requires)

pub invariant_of-self : goal.invariant_of-self
invariant_of-self g c =
    let before : is_closed c.self.inside.last ≡ false = ap (λ (d : DeskState _). is_closed d.last) c.self.view_is ∙ c.requires in (
      copied_rests g.S.Store c.self.inside.conn c.prepare_next-outcome.new.conn (summary_shown c.self.inside.summary) c.self.inside.filing c.self.inside.last before c.self.invariant.0
          c.prepare_next-outcome.ensures.crash c.prepare_next-outcome.ensures.lives c.prepare_next-outcome.ensures.remains c.last_behind-self-inside.result c.prepare_next-outcome.new.filing
          c.prepare_next-outcome.ensures.settled c.prepare_next-outcome.ensures.ended c.prepare_next-outcome.ensures.filed,
      copied_keeps (summary_shown c.self.inside.summary) c.self.inside.last c.prepare_next-outcome.result c.last_behind-self-inside.result c.last_behind-self-inside.ensures c.self.inside.texts c.forget_behind.new.texts
          c.forget_behind.ensures c.self.invariant.1,
    )

pub returns-clause-prepared : goal.returns-clause-prepared
returns-clause-prepared g c = λ clean is.
    let old : DeskState _ = record {
      conn = c.self.inside.conn;
      summary = summary_shown c.self.inside.summary;
      last = c.self.inside.last;
      indexes = c.self.inside.indexes;
      texts = c.self.inside.texts;
      counts = counted c.self.inside.rows_taken c.self.inside.is_log_long c.self.inside.orphans c.self.inside.draft c.self.inside.filing;
    } in
    let new : DeskState _ = record {
      conn = c.prepare_next-outcome.new.conn;
      summary = summary_shown c.self.inside.summary;
      last = c.last_behind-self-inside.result;
      indexes = c.self.inside.indexes;
      texts = c.forget_behind.new.texts;
      counts = counted c.self.inside.rows_taken c.self.inside.is_log_long c.prepare_next-outcome.new.orphans c.prepare_next-outcome.new.draft c.prepare_next-outcome.new.filing;
    } in
    elim (c.prepare_next-outcome.ensures.made clean is) as (λ _. (new ≡ record c.args.self.now { counts = recounted c.args.self.now.counts new.counts }) ⊎ HasCommittedSame g.S.Store c.args.self.now new) [
      | inl same ↦ inl (same_prepared old new.conn new.last new.texts new.counts c.prepare_next-outcome.result c.last_behind-self-inside.ensures c.forget_behind.ensures is same
          ∙ ap (λ (d : DeskState _). record d { counts = recounted d.counts new.counts }) c.self.view_is)
      | inr done ↦ inr (subst (λ (d : DeskState _). HasCommittedSame g.S.Store d new) c.self.view_is (record {
        before = c.self.invariant.0.ended;
        ended = c.prepare_next-outcome.ensures.ended;
        same = copied_same old c.prepare_next-outcome.new.conn c.last_behind-self-inside.result c.forget_behind.new.texts new.counts c.prepare_next-outcome.result c.last_behind-self-inside.ensures c.forget_behind.ensures is;
        done = done;
      }))
    ]

pub returns-clause-fewer : goal.returns-clause-fewer
returns-clause-fewer g c = λ is.
    let later = install_left c.prepare_next-outcome.new.draft c.prepare_next-outcome.new.filing in
    let earlier = install_left c.self.inside.draft c.self.inside.filing in
    let orphans = orphans_left c.self.inside.orphans in
    let long = log_left c.self.inside.is_log_long in
    subst (λ (d : DeskState _). IsLess (long ∷ (orphans_left c.prepare_next-outcome.new.orphans ++ later)) d.counts.left) c.self.view_is
    (inr (refl, subst (λ (o : OrphansState). IsLess (orphans_left o ++ later) (orphans ++ earlier)) (sym (c.prepare_next-outcome.ensures.orphans is)) (less_behind orphans later earlier (c.prepare_next-outcome.ensures.fewer is))))

pub returns-clause-keeps : goal.returns-clause-keeps
returns-clause-keeps g c =
    let before : is_closed c.self.inside.last ≡ false = ap (λ (d : DeskState _). is_closed d.last) c.self.view_is ∙ c.requires in
    let old : DeskState _ = record {
      conn = c.self.inside.conn;
      summary = summary_shown c.self.inside.summary;
      last = c.self.inside.last;
      indexes = c.self.inside.indexes;
      texts = c.self.inside.texts;
      counts = counted c.self.inside.rows_taken c.self.inside.is_log_long c.self.inside.orphans c.self.inside.draft c.self.inside.filing;
    } in
    let later = counted c.self.inside.rows_taken c.self.inside.is_log_long c.prepare_next-outcome.new.orphans c.prepare_next-outcome.new.draft c.prepare_next-outcome.new.filing in
    let new : DeskState _ = record { conn = c.prepare_next-outcome.new.conn; summary = old.summary; last = c.last_behind-self-inside.result; indexes = old.indexes; texts = c.forget_behind.new.texts; counts = later } in
    subst (λ (d : DeskState _). KeepsDesk g.S.Store d new c.prepare_next-outcome.result) c.self.view_is
    (copied_whole g.S.Store old c.prepare_next-outcome.new.conn new.last new.texts later c.self.inside.filing before c.self.invariant.0 c.is_whole.ensures.live c.committed_may_stay.ensures
    c.prepare_next-outcome.ensures.crash c.prepare_next-outcome.ensures.lives
    c.prepare_next-outcome.ensures.remains c.prepare_next-outcome.result c.last_behind-self-inside.ensures c.forget_behind.ensures
    c.prepare_next-outcome.ensures.kinds c.prepare_next-outcome.ensures.keeps c.prepare_next-outcome.ensures.faulted)
