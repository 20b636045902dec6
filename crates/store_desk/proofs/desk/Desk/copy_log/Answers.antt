use Rattle.std.proofs.Common.{◌≡◌, false, sym, ap, subst, ◌∙◌}
use Rattle.std.specs.Prelude.{Option}
use Rattle.sqlite.specs.Held.{state}
use Rattle.dict_catalogue.specs.Views.{summary_shown}
use Rattle.store_desk.specs.Desk.{DeskState, HasFiled, is_closed}
use Rattle.store_desk.specs.Prepared.{HasCommittedSame, KeepsDesk}
use Rattle.store_desk.specs.Left.{ComingState, counted}
use Rattle.store_desk.proofs.CopyLemmas.{copied_keeps, copied_rests, copied_same, copied_whole}
use Rattle.store_desk.proofs.desk.Desk.copy_log.Goals as goal

pub copy_over-outcome-requires-clause-autocommit : goal.copy_over-outcome-requires-clause-autocommit
copy_over-outcome-requires-clause-autocommit g c = c.self.invariant.0.ended

pub copy_over-outcome-requires-clause-holds : goal.copy_over-outcome-requires-clause-holds
copy_over-outcome-requires-clause-holds g c = c.self.invariant.0.holds (ap (λ (d : DeskState _). is_closed d.last) c.self.view_is ∙ c.requires)

pub invariant_of-self : goal.invariant_of-self
invariant_of-self g c =
    let before : is_closed c.self.inside.last ≡ false = ap (λ (d : DeskState _). is_closed d.last) c.self.view_is ∙ c.requires in (
      copied_rests g.S.Store c.self.inside.conn c.copy_over-outcome.new.conn (summary_shown c.self.inside.summary) c.self.inside.filing c.self.inside.last before c.self.invariant.0
          c.copy_over-outcome.ensures.crash c.copy_over-outcome.ensures.lives c.copy_over-outcome.ensures.remains c.last_behind-self-inside.result c.let_go.new.filing
          c.copy_over-outcome.ensures.settled c.copy_over-outcome.ensures.ended (subst (λ (f : Option ComingState). HasFiled f (state g.S.Store c.copy_over-outcome.new.conn)) (sym c.let_go.ensures.gone) tt),
      copied_keeps (summary_shown c.self.inside.summary) c.self.inside.last c.copy_over-outcome.result c.last_behind-self-inside.result c.last_behind-self-inside.ensures c.self.inside.texts c.forget_behind.new.texts
          c.forget_behind.ensures c.self.invariant.1,
    )

pub returns-clause-committed : goal.returns-clause-committed
returns-clause-committed g c = λ clean is.
    let old : DeskState _ = record {
      conn = c.self.inside.conn;
      summary = summary_shown c.self.inside.summary;
      last = c.self.inside.last;
      indexes = c.self.inside.indexes;
      texts = c.self.inside.texts;
      counts = counted c.self.inside.rows_taken c.self.inside.is_log_long c.self.inside.orphans c.self.inside.draft c.self.inside.filing;
    } in
    let new : DeskState _ = record {
      conn = c.copy_over-outcome.new.conn;
      summary = summary_shown c.self.inside.summary;
      last = c.last_behind-self-inside.result;
      indexes = c.self.inside.indexes;
      texts = c.forget_behind.new.texts;
      counts = counted c.self.inside.rows_taken false c.let_go.new.orphans c.self.inside.draft c.let_go.new.filing;
    } in
    subst (λ (d : DeskState _). HasCommittedSame g.S.Store d new) c.self.view_is (record {
      before = c.self.invariant.0.ended;
      ended = c.copy_over-outcome.ensures.ended;
      same = copied_same old c.copy_over-outcome.new.conn c.last_behind-self-inside.result c.forget_behind.new.texts new.counts c.copy_over-outcome.result c.last_behind-self-inside.ensures c.forget_behind.ensures is;
      done = c.copy_over-outcome.ensures.made clean is;
    })

pub returns-clause-keeps : goal.returns-clause-keeps
returns-clause-keeps g c =
    let before : is_closed c.self.inside.last ≡ false = ap (λ (d : DeskState _). is_closed d.last) c.self.view_is ∙ c.requires in
    let old : DeskState _ = record {
      conn = c.self.inside.conn;
      summary = summary_shown c.self.inside.summary;
      last = c.self.inside.last;
      indexes = c.self.inside.indexes;
      texts = c.self.inside.texts;
      counts = counted c.self.inside.rows_taken c.self.inside.is_log_long c.self.inside.orphans c.self.inside.draft c.self.inside.filing;
    } in
    let later = counted c.self.inside.rows_taken false c.let_go.new.orphans c.self.inside.draft c.let_go.new.filing in
    let new : DeskState _ = record { conn = c.copy_over-outcome.new.conn; summary = old.summary; last = c.last_behind-self-inside.result; indexes = old.indexes; texts = c.forget_behind.new.texts; counts = later } in
    subst (λ (d : DeskState _). KeepsDesk g.S.Store d new c.copy_over-outcome.result) c.self.view_is
    (copied_whole g.S.Store old c.copy_over-outcome.new.conn new.last new.texts later c.self.inside.filing before c.self.invariant.0 c.is_whole.ensures.live c.committed_may_stay.ensures
    c.copy_over-outcome.ensures.crash c.copy_over-outcome.ensures.lives
    c.copy_over-outcome.ensures.remains c.copy_over-outcome.result c.last_behind-self-inside.ensures c.forget_behind.ensures c.copy_over-outcome.ensures.kinds c.copy_over-outcome.ensures.keeps c.copy_over-outcome.ensures.faulted)
