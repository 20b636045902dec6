use Rattle.std.proofs.Common.{codes, pos}
use mir.Val.{to_z}
use mir.Syntax.{w64}
use Rattle.sqlite.specs.Held.{state}
use Rattle.store_tables.specs.Effects.{equals_number}
use Rattle.store_sql.proofs.StreamLemmas.{passed_on}
use Rattle.store_commands.specs.Statements.{taking}
use Rattle.store_commands.specs.Writes.{FailsToWrite}
use Rattle.store_commands.proofs.TableLemmas.{editions_to_remove}
use Rattle.store_commands.proofs.WriteLemmas.{wrote_taken, failed_taken, spares_removed, usable_then}
use Rattle.store_commands.proofs.GoneLemmas.{handed, without_record, record_gone}
use Rattle.store_commands.proofs.editions.take_edition.Goals as goal

pub delete_header-requires : goal.delete_header-requires
delete_header-requires g c = λ clean lives. editions_to_remove (state g.S.Store (g.T.OpenTransaction.held c.args.tx.now)).now (c.requires.usable clean lives)

pub returns-clause-wrote : goal.returns-clause-wrote
returns-clause-wrote g c =
    let n = c.args.number in
    let first = (g.T.OpenTransaction.held c.args.tx.now) in
    let last = (g.T.OpenTransaction.held c.delete_header.new.tx) in
    wrote_taken g.S.Store (codes "edition") (equals_number 1) (to_z w64 n) (pos n) (handed n c.requires.number) first last c.delete_header.ensures.survives (without_record n) (record_gone n) c.in_ok-delete_header.ensures.removed

pub returns-clause-spares : goal.returns-clause-spares
returns-clause-spares g c =
    spares_removed g.S.Store (codes "edition") (equals_number 1 (to_z w64 c.args.number)) (g.T.OpenTransaction.held c.args.tx.now) (g.T.OpenTransaction.held c.delete_header.new.tx) c.delete_header.ensures.survives
    c.delete_header.result c.delete_header.ensures.removed c.delete_header.ensures.failed

pub returns-clause-usable : goal.returns-clause-usable
returns-clause-usable g c = usable_then g.S.Store (taking c.args.number) _ (g.T.OpenTransaction.held c.args.tx.now) (g.T.OpenTransaction.held c.delete_header.new.tx) c.requires.usable (returns-clause-wrote g c) (returns-clause-spares g c)

pub returns-in_err-delete_header-clause-spares : goal.returns-in_err-delete_header-clause-spares
returns-in_err-delete_header-clause-spares g c =
    spares_removed g.S.Store (codes "edition") (equals_number 1 (to_z w64 c.args.number)) (g.T.OpenTransaction.held c.args.tx.now) (g.T.OpenTransaction.held c.delete_header.new.tx) c.delete_header.ensures.survives
    c.delete_header.result c.delete_header.ensures.removed c.delete_header.ensures.failed

pub returns-in_err-delete_header-clause-failed : goal.returns-in_err-delete_header-clause-failed
returns-in_err-delete_header-clause-failed g c =
    let n = c.args.number in
    let first = (g.T.OpenTransaction.held c.args.tx.now) in
    let last = (g.T.OpenTransaction.held c.delete_header.new.tx) in
    let e = c.in_err-delete_header.field-0.0 in
    passed_on (FailsToWrite g.S.Store (taking n) first last) e c.from_residual.result c.from_residual.ensures.1
    (failed_taken g.S.Store (codes "edition") (equals_number 1) (to_z w64 n) (pos n) (handed n c.requires.number) first last c.delete_header.ensures.survives e c.in_err-delete_header.ensures.failed)
