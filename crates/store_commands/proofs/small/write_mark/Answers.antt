use Rattle.std.proofs.Common.{codes, [], ◌∷◌, ◌++◌, ◌∙◌}
use Rattle.std.specs.Prelude.{Ok, Err}
use Rattle.sqlite.specs.Held.{state}
use Rattle.store_sql.specs.Encodings.{mark_row}
use Rattle.store_sql.proofs.StreamLemmas.{passed_on}
use Rattle.store_tables.specs.Records.{Mark}
use Rattle.store_tables.specs.Typed.{lent_mark}
use Rattle.store_rows.specs.Versions.{known}
use Rattle.store_rows.specs.Written.{mark_record}
use Rattle.store_holdings.specs.AllTables.{AllTables}
use Rattle.store_commands.specs.Statements.{mark_anew}
use Rattle.store_commands.specs.Writes.{FailsToWrite}
use Rattle.store_commands.proofs.TableLemmas.{marks_to_remove, has_marks, marks_cleared, marks_added}
use Rattle.store_commands.proofs.WriteLemmas.{behind_cleared, ends_record, usable_cleared, usable_then}
use Rattle.store_commands.proofs.small.write_mark.Goals as goal

abbrev emptied : AllTables → AllTables
emptied all = record all { marks = [] }

abbrev added : Mark → AllTables → AllTables
added r all = record all { marks = all.marks ++ r ∷ [] }

pub clear_table-requires : goal.clear_table-requires
clear_table-requires g c = λ clean lives. marks_to_remove (state g.S.Store (g.T.OpenTransaction.held c.args.tx.now)).now (c.requires.usable clean lives)

pub insert_mark-requires : goal.insert_mark-requires
insert_mark-requires g c = λ clean lives.
    let mid = (g.T.OpenTransaction.held c.clear_table.new.tx) in
    has_marks (state g.S.Store mid).now (usable_cleared g.S.Store (codes "mark") emptied (g.T.OpenTransaction.held c.args.tx.now) mid c.clear_table.ensures.survives marks_cleared c.in_ok-clear_table.ensures.removed
    c.requires.usable clean lives)

pub returns : goal.returns
returns g c =
    let old = (g.T.OpenTransaction.held c.args.tx.now) in
    let mid = (g.T.OpenTransaction.held c.clear_table.new.tx) in
    let new = (g.T.OpenTransaction.held c.insert_mark.new.tx) in
    let rest = ends_record g.S.Store (codes "mark") mark_row added (lent_mark c.mark_row-mark.result) (mark_record known c.args.installs) c.mark_row-mark.ensures mid new c.insert_mark.ensures.survives {X = Unit {0}}
    marks_added (Ok tt) c.in_ok-insert_mark.ensures.added (λ _. tt) in
    let all = behind_cleared g.S.Store (codes "mark") emptied old mid c.clear_table.ensures.survives marks_cleared c.in_ok-clear_table.ensures.removed rest in
    record {
      same_reference = c.insert_mark.ensures.same_reference ∙ c.clear_table.ensures.same_reference;
      wrote = all.wrote;
      sound = λ clean. (c.in_ok-insert_mark.ensures.added clean).0.sound;
      inside = λ clean. (c.in_ok-insert_mark.ensures.added clean).1.mode;
      usable = usable_then g.S.Store (mark_anew known c.args.installs) _ old new c.requires.usable all.wrote all.spares;
      failed = tt;
      spares = all.spares;
    }

pub returns-in_err-insert_mark-clause-spares : goal.returns-in_err-insert_mark-clause-spares
returns-in_err-insert_mark-clause-spares g c =
    let mid = (g.T.OpenTransaction.held c.clear_table.new.tx) in
    let rest = ends_record g.S.Store (codes "mark") mark_row added (lent_mark c.mark_row-mark.result) (mark_record known c.args.installs) c.mark_row-mark.ensures mid (g.T.OpenTransaction.held c.insert_mark.new.tx)
    c.insert_mark.ensures.survives {X = Unit {0}} marks_added (Err c.in_err-insert_mark.field-0.0) (λ _. tt) c.in_err-insert_mark.ensures.failed in
    (behind_cleared g.S.Store (codes "mark") emptied (g.T.OpenTransaction.held c.args.tx.now) mid c.clear_table.ensures.survives marks_cleared c.in_ok-clear_table.ensures.removed rest).spares

pub returns-in_err-insert_mark-clause-failed : goal.returns-in_err-insert_mark-clause-failed
returns-in_err-insert_mark-clause-failed g c =
    let old = (g.T.OpenTransaction.held c.args.tx.now) in
    let mid = (g.T.OpenTransaction.held c.clear_table.new.tx) in
    let new = (g.T.OpenTransaction.held c.insert_mark.new.tx) in
    let e = c.in_err-insert_mark.field-0.0 in
    let rest = ends_record g.S.Store (codes "mark") mark_row added (lent_mark c.mark_row-mark.result) (mark_record known c.args.installs) c.mark_row-mark.ensures mid new c.insert_mark.ensures.survives {X = Unit {0}}
    marks_added (Err e) (λ _. tt) c.in_err-insert_mark.ensures.failed in
    passed_on (FailsToWrite g.S.Store (mark_anew known c.args.installs) old new) e c.from_residual-in_err-insert_mark.result c.from_residual-in_err-insert_mark.ensures.1
    (behind_cleared g.S.Store (codes "mark") emptied old mid c.clear_table.ensures.survives marks_cleared c.in_ok-clear_table.ensures.removed rest).failed
