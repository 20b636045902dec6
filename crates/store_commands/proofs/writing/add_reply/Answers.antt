use Rattle.std.proofs.Common.{codes, ◌++◌, ◌∷◌, []}
use Rattle.sqlite.specs.Held.{state}
use Rattle.store_sql.specs.Encodings.{kept_row}
use Rattle.store_sql.proofs.StreamLemmas.{passed_on}
use Rattle.store_tables.specs.Records.{KeptRecord}
use Rattle.store_tables.specs.Typed.{lent_kept}
use Rattle.store_rows.specs.Written.{kept_record}
use Rattle.dict_catalogue.specs.Views.{kept_shown}
use Rattle.store_holdings.specs.AllTables.{AllTables}
use Rattle.store_commands.specs.Statements.{replying}
use Rattle.store_commands.specs.Writes.{FailsToWrite}
use Rattle.store_commands.proofs.TableLemmas.{has_kept, kept_added}
use Rattle.store_commands.proofs.WriteLemmas.{wrote_record, failed_record, spares_added}
use Rattle.store_commands.proofs.writing.add_reply.Goals as goal

abbrev added : KeptRecord → AllTables → AllTables
added r all = record all { kept = all.kept ++ r ∷ [] }

pub insert_kept-requires : goal.insert_kept-requires
insert_kept-requires g c = λ clean lives. has_kept (state g.S.Store (g.T.OpenTransaction.held c.args.tx.now)).now (c.requires.usable clean lives)

pub returns-clause-wrote : goal.returns-clause-wrote
returns-clause-wrote g c =
    wrote_record g.S.Store (codes "kept") kept_row added (lent_kept c.kept_row-row.result) (kept_record (record { id = c.args.id.now; reply = kept_shown c.args.reply.now })) c.kept_row-row.ensures
    (g.T.OpenTransaction.held c.args.tx.now) (g.T.OpenTransaction.held c.insert_kept.new.tx) c.insert_kept.ensures.survives kept_added c.in_ok-insert_kept.ensures.added

pub returns-clause-spares : goal.returns-clause-spares
returns-clause-spares g c = spares_added g.S.Store (codes "kept") (kept_row (lent_kept c.kept_row-row.result)) (g.T.OpenTransaction.held c.args.tx.now) (g.T.OpenTransaction.held c.insert_kept.new.tx)
    c.insert_kept.ensures.survives c.insert_kept.result c.insert_kept.ensures.added c.insert_kept.ensures.failed

pub returns-in_err-insert_kept-clause-spares : goal.returns-in_err-insert_kept-clause-spares
returns-in_err-insert_kept-clause-spares g c = spares_added g.S.Store (codes "kept") (kept_row (lent_kept c.kept_row-row.result)) (g.T.OpenTransaction.held c.args.tx.now)
    (g.T.OpenTransaction.held c.insert_kept.new.tx) c.insert_kept.ensures.survives c.insert_kept.result c.insert_kept.ensures.added c.insert_kept.ensures.failed

pub returns-in_err-insert_kept-clause-failed : goal.returns-in_err-insert_kept-clause-failed
returns-in_err-insert_kept-clause-failed g c =
    let e = c.in_err-insert_kept.field-0.0 in
    passed_on (FailsToWrite g.S.Store (replying (record { id = c.args.id.now; reply = kept_shown c.args.reply.now })) (g.T.OpenTransaction.held c.args.tx.now) (g.T.OpenTransaction.held c.insert_kept.new.tx)) e
    c.from_residual.result c.from_residual.ensures.1
    (failed_record g.S.Store (codes "kept") kept_row added (lent_kept c.kept_row-row.result) (kept_record (record { id = c.args.id.now; reply = kept_shown c.args.reply.now })) c.kept_row-row.ensures
    (g.T.OpenTransaction.held c.args.tx.now) (g.T.OpenTransaction.held c.insert_kept.new.tx) c.insert_kept.ensures.survives e c.in_err-insert_kept.ensures.failed)
