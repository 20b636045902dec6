use Rattle.std.proofs.Common.{◌≡◌, [], ◌∷◌}
use Rattle.std.proofs.lemmas.Result.{on_ok_weaker}
use Rattle.store_rows.specs.Views.{columns_line}
use Rattle.store_rows.specs.declared.fault.RowsFault.{RowsFault}
use Rattle.store_rows.specs.declared.fault.RowsFault.TheVariants.{Damaged}
use Rattle.store_sql.proofs.StreamLemmas.{passed_on}
use Rattle.store_scans.specs.Entries.{AreNoLines}
use Rattle.store_scans.proofs.LineLemmas.{line_taken, line_refused}
use Rattle.store_scans.proofs.TakerLemmas.{on_damage}
use Rattle.store_scans.proofs.indexing_reader.IndexingReader.line.Goals as goal

pub returns-clause-added : goal.returns-clause-added
returns-clause-added c =
    on_ok_weaker c.add_line.result (λ index. record { taken = line_taken c.args.self.now.reader c.line.new.self (columns_line c.args.line.now) c.in_ok-line.ensures.taken; index = index }) c.add_line.ensures.added

pub returns-in_err-line-clause-damaged : goal.returns-in_err-line-clause-damaged
returns-in_err-line-clause-damaged c =
    let said = columns_line c.args.line.now in
    let fault = c.in_err-line.field-0.0 in
    passed_on (λ (f : RowsFault). f ≡ Damaged → AreNoLines c.args.self.now.reader (said ∷ [])) fault c.from_residual.result c.from_residual.ensures.1
    (λ is. line_refused c.args.self.now.reader said (on_damage fault _ c.in_err-line.ensures.damaged is))
