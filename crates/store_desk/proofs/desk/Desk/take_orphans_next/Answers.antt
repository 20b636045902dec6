use Rattle.std.proofs.Common.{◌≡◌, false, inr, ◌∷◌, ◌++◌, refl, sym, ap, subst, ◌∙◌}
use Rattle.sqlite.specs.Held.{state}
use Rattle.dict_catalogue.specs.Views.{summary_shown}
use Rattle.store_desk.specs.Desk.{DeskState, is_closed}
use Rattle.store_desk.specs.Prepared.{HasCommittedSame, KeepsDesk}
use Rattle.store_commands.specs.Left.{IsLess}
use Rattle.store_desk.specs.Left.{counted, install_left, log_left, orphans_left}
use Rattle.store_desk.proofs.CopyLemmas.{copied_keeps, copied_rests, copied_same, copied_whole}
use Rattle.store_desk.proofs.LeftLemmas.{less_front}
use Rattle.store_desk.proofs.PreparingLemmas.{none_filed}
use Rattle.store_desk.proofs.desk.Desk.take_orphans_next.Goals as goal

pub take_last-outcome-requires-clause-autocommit : goal.take_last-outcome-requires-clause-autocommit
take_last-outcome-requires-clause-autocommit g c = c.self.invariant.0.ended

pub take_last-outcome-requires-clause-holds : goal.take_last-outcome-requires-clause-holds
take_last-outcome-requires-clause-holds g c = c.self.invariant.0.holds (ap (λ (d : DeskState _). is_closed d.last) c.self.view_is ∙ c.requires)

pub invariant_of-self : goal.invariant_of-self
invariant_of-self g c =
    let before : is_closed c.self.inside.last ≡ false = ap (λ (d : DeskState _). is_closed d.last) c.self.view_is ∙ c.requires in (
      copied_rests g.S.Store c.self.inside.conn c.take_last-outcome.new.conn (summary_shown c.self.inside.summary) c.self.inside.filing c.self.inside.last before c.self.invariant.0
          c.take_last-outcome.ensures.crash c.take_last-outcome.ensures.lives c.take_last-outcome.ensures.remains c.last_behind-self-inside.result c.self.inside.filing
          c.take_last-outcome.ensures.settled c.take_last-outcome.ensures.ended (none_filed c.self.inside.filing (state g.S.Store c.take_last-outcome.new.conn) (sym c.is_some.ensures ∙ c.if-is_some.false)),
      copied_keeps (summary_shown c.self.inside.summary) c.self.inside.last c.take_last-outcome.result c.last_behind-self-inside.result c.last_behind-self-inside.ensures c.self.inside.texts c.forget_behind.new.texts
          c.forget_behind.ensures c.self.invariant.1,
    )

pub returns-clause-committed : goal.returns-clause-committed
returns-clause-committed g c = λ clean is.
    let old : DeskState _ = record {
      conn = c.self.inside.conn;
      summary = summary_shown c.self.inside.summary;
      last = c.self.inside.last;
      indexes = c.self.inside.indexes;
      texts = c.self.inside.texts;
      counts = counted c.self.inside.rows_taken c.self.inside.is_log_long c.self.inside.orphans c.self.inside.draft c.self.inside.filing;
    } in
    let new : DeskState _ = record {
      conn = c.take_last-outcome.new.conn;
      summary = summary_shown c.self.inside.summary;
      last = c.last_behind-self-inside.result;
      indexes = c.self.inside.indexes;
      texts = c.forget_behind.new.texts;
      counts = counted c.self.inside.rows_taken c.self.inside.is_log_long c.take_last-outcome.new.orphans c.self.inside.draft c.self.inside.filing;
    } in
    subst (λ (d : DeskState _). HasCommittedSame g.S.Store d new) c.self.view_is (record {
      before = c.self.invariant.0.ended;
      ended = c.take_last-outcome.ensures.ended;
      same = copied_same old c.take_last-outcome.new.conn c.last_behind-self-inside.result c.forget_behind.new.texts new.counts c.take_last-outcome.result c.last_behind-self-inside.ensures c.forget_behind.ensures is;
      done = c.take_last-outcome.ensures.made clean is;
    })

pub returns-clause-fewer : goal.returns-clause-fewer
returns-clause-fewer g c = λ is.
    let install = install_left c.self.inside.draft c.self.inside.filing in
    let later = orphans_left c.take_last-outcome.new.orphans in
    let long = log_left c.self.inside.is_log_long in
    subst (λ (d : DeskState _). IsLess (long ∷ (later ++ install)) d.counts.left) c.self.view_is
    (inr (refl, less_front later (orphans_left c.self.inside.orphans) install install refl (c.take_last-outcome.ensures.fewer is)))

pub returns-clause-keeps : goal.returns-clause-keeps
returns-clause-keeps g c =
    let before : is_closed c.self.inside.last ≡ false = ap (λ (d : DeskState _). is_closed d.last) c.self.view_is ∙ c.requires in
    let old : DeskState _ = record {
      conn = c.self.inside.conn;
      summary = summary_shown c.self.inside.summary;
      last = c.self.inside.last;
      indexes = c.self.inside.indexes;
      texts = c.self.inside.texts;
      counts = counted c.self.inside.rows_taken c.self.inside.is_log_long c.self.inside.orphans c.self.inside.draft c.self.inside.filing;
    } in
    let later = counted c.self.inside.rows_taken c.self.inside.is_log_long c.take_last-outcome.new.orphans c.self.inside.draft c.self.inside.filing in
    let new : DeskState _ = record { conn = c.take_last-outcome.new.conn; summary = old.summary; last = c.last_behind-self-inside.result; indexes = old.indexes; texts = c.forget_behind.new.texts; counts = later } in
    subst (λ (d : DeskState _). KeepsDesk g.S.Store d new c.take_last-outcome.result) c.self.view_is
    (copied_whole g.S.Store old c.take_last-outcome.new.conn new.last new.texts later c.self.inside.filing before c.self.invariant.0 c.is_whole.ensures.live c.committed_may_stay.ensures
    c.take_last-outcome.ensures.crash c.take_last-outcome.ensures.lives
    c.take_last-outcome.ensures.remains c.take_last-outcome.result c.last_behind-self-inside.ensures c.forget_behind.ensures c.take_last-outcome.ensures.kinds c.take_last-outcome.ensures.keeps c.take_last-outcome.ensures.faulted)
