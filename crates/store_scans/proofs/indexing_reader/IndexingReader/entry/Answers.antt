use Rattle.std.proofs.Common.{◌≡◌, [], ◌∷◌}
use Rattle.store_tables.specs.Records.{shown_as}
use Rattle.store_tables.specs.Typed.{owned_entry}
use Rattle.store_rows.specs.declared.fault.RowsFault.{RowsFault}
use Rattle.store_rows.specs.declared.fault.RowsFault.TheVariants.{Damaged}
use Rattle.store_sql.proofs.StreamLemmas.{passed_on}
use Rattle.store_scans.specs.Entries.{AreNotTaken}
use Rattle.store_scans.proofs.TakerLemmas.{on_damage, one_refused}
use Rattle.store_scans.proofs.indexing_reader.IndexingReader.entry.Goals as goal

pub returns-in_err-entry-clause-damaged : goal.returns-in_err-entry-clause-damaged
returns-in_err-entry-clause-damaged c =
    let e = shown_as (owned_entry c.args.row.now) c.args.shown.now in
    let fault = c.in_err-entry.field-0.0 in
    passed_on (λ (f : RowsFault). f ≡ Damaged → AreNotTaken c.args.self.now.reader (e ∷ [])) fault c.from_residual.result c.from_residual.ensures.1
    (λ is. one_refused c.args.self.now.reader e (on_damage fault _ c.in_err-entry.ensures.damaged is))
