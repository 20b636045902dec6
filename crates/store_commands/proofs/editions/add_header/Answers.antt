use Rattle.std.proofs.Common.{◌≡◌, codes, [], ◌∷◌, refl, map, Some, None, rules, ◌∙◌}
use Rattle.std.specs.Prelude.{option_map, option_copied}
use Rattle.sqlite.specs.Held.{state}
use Rattle.store_sql.specs.HeaderRecords.{header_row}
use Rattle.store_tables.specs.Records.{EditionRecord}
use Rattle.store_tables.specs.Typed.{lent_header}
use Rattle.store_sql.proofs.StreamLemmas.{passed_on}
use Rattle.store_rows.specs.After.{installed_editions}
use Rattle.store_commands.specs.Changes.{with_more_editions}
use Rattle.store_commands.specs.Statements.{adding_edition}
use Rattle.store_commands.specs.Writes.{FailsToWrite}
use Rattle.store_commands.proofs.TableLemmas.{has_editions}
use Rattle.store_commands.proofs.WriteLemmas.{spares_added, usable_then}
use Rattle.store_commands.proofs.AddLemmas.{wrote_header, wrote_installed, failed_installed, wrote_no_record}
use Rattle.store_commands.proofs.editions.add_header.Goals as goal

pub insert_header-requires : goal.insert_header-requires
insert_header-requires g c = λ clean lives. has_editions (state g.S.Store (g.T.OpenTransaction.held c.args.tx.now)).now (c.requires.usable clean lives)

pub returns-clause-wrote : goal.returns-clause-wrote
returns-clause-wrote g c = λ edition is.
    let some : option_map lent_header (option_copied c.args.header) ≡ Some (lent_header c.in-Some.row.now) = search rules in
    wrote_installed g.S.Store (lent_header c.in-Some.row.now) edition (is ∙ some) (g.T.OpenTransaction.held c.args.tx.now) (g.T.OpenTransaction.held c.insert_header.new.tx) c.insert_header.ensures.survives
    c.in_ok-insert_header.ensures.added

pub returns-clause-spares : goal.returns-clause-spares
returns-clause-spares g c =
    spares_added g.S.Store (codes "edition") (header_row (lent_header c.in-Some.row.now)) (g.T.OpenTransaction.held c.args.tx.now) (g.T.OpenTransaction.held c.insert_header.new.tx) c.insert_header.ensures.survives
    c.insert_header.result c.insert_header.ensures.added c.insert_header.ensures.failed

pub returns-clause-usable : goal.returns-clause-usable
returns-clause-usable g c =
    let first = (g.T.OpenTransaction.held c.args.tx.now) in
    let new = (g.T.OpenTransaction.held c.insert_header.new.tx) in
    let given = lent_header c.in-Some.row.now in
    let bare : EditionRecord = record { number = given.number; owner = given.owner; title = given.title; info = given.info; body = [] } in
    usable_then g.S.Store (adding_edition bare ∷ []) (with_more_editions (bare ∷ [])) first new c.requires.usable
    (wrote_header g.S.Store given bare refl first new c.insert_header.ensures.survives c.in_ok-insert_header.ensures.added) (returns-clause-spares g c)

pub returns-in_err-insert_header-clause-spares : goal.returns-in_err-insert_header-clause-spares
returns-in_err-insert_header-clause-spares g c =
    spares_added g.S.Store (codes "edition") (header_row (lent_header c.in-Some.row.now)) (g.T.OpenTransaction.held c.args.tx.now) (g.T.OpenTransaction.held c.insert_header.new.tx) c.insert_header.ensures.survives
    c.insert_header.result c.insert_header.ensures.added c.insert_header.ensures.failed

pub returns-in_err-insert_header-clause-failed : goal.returns-in_err-insert_header-clause-failed
returns-in_err-insert_header-clause-failed g c = λ edition is.
    let first = (g.T.OpenTransaction.held c.args.tx.now) in
    let new = (g.T.OpenTransaction.held c.insert_header.new.tx) in
    let some : option_map lent_header (option_copied c.args.header) ≡ Some (lent_header c.in-Some.row.now) = search rules in
    let e = c.in_err-insert_header.field-0.0 in
    passed_on (FailsToWrite g.S.Store (map adding_edition (installed_editions edition)) first new) e c.from_residual.result c.from_residual.ensures.1
    (failed_installed g.S.Store (lent_header c.in-Some.row.now) edition (is ∙ some) first new c.insert_header.ensures.survives e c.in_err-insert_header.ensures.failed)

pub returns-in_default-clause-wrote : goal.returns-in_default-clause-wrote
returns-in_default-clause-wrote g c = λ edition is.
    let none : option_map lent_header (option_copied c.args.header) ≡ None = search rules in
    wrote_no_record g.S.Store edition (is ∙ none) (g.T.OpenTransaction.held c.args.tx.now)
