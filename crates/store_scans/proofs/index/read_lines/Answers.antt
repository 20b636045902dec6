use Rattle.std.proofs.Common.{◌≡◌, ◌++◌, ◌∷◌, [], length, refl, ap, ◌∙◌, append-nil, rules}
use Rattle.std.specs.Prelude.{◌≢◌}
use Rattle.dict_text.proofs.AllLemmas.{all_append}
use Rattle.store_rows.specs.Stored.{IsStorable, stored_index, stored_line}
use Rattle.store_rows.specs.Views.{columns_line}
use Rattle.store_rows.specs.declared.fault.RowsFault.{RowsFault}
use Rattle.store_rows.specs.declared.fault.RowsFault.TheVariants.{Damaged}
use Rattle.store_sql.proofs.StreamLemmas.{passed_on}
use Rattle.store_scans.specs.Entries.{IsWrongIndex}
use Rattle.store_scans.proofs.LineLemmas.{no_lines_added, no_line_left, line_left, lines_added, next_left, fewer_left, nothing_left}
use Rattle.store_scans.proofs.index.read_lines.Goals as goal

pub lines-init : goal.lines-init
lines-init c = ([], tt, refl, no_lines_added c.args.reader.now)

pub lines-preserved : goal.lines-preserved
lines-preserved c =
    let had = c.lines.invariant in
    let line = columns_line c.in-Some.line in (
      had.0 ++ line ∷ [],
      all_append IsStorable had.0 (line ∷ []) had.1 (c.in-Some.ensures.read.0, tt),
      next_left c.args.octets.now c.lines.rest.now c.in-Some.behind.now had.0 line had.2 c.in-Some.ensures.read.1,
      lines_added c.args.reader.now c.lines.reader c.line.new.self had.0 line had.3 c.in_ok-line.ensures.added,
    )

pub lines-smaller : goal.lines-smaller
lines-smaller c = fewer_left c.lines.rest.now (stored_line (columns_line c.in-Some.line)) c.in-Some.behind.now c.in-Some.ensures.read.1

pub returns-in_default-clause-damaged : goal.returns-in_default-clause-damaged
returns-in_default-clause-damaged c = λ is.
    let had = c.lines.invariant in
    let some : c.lines.rest.now ≢ [] = search rules in
    no_line_left c.args.reader.now.reader c.args.octets.now c.lines.rest.now had.0 had.1 had.2 some c.in_default.ensures.read

pub returns-in_err-line-clause-damaged : goal.returns-in_err-line-clause-damaged
returns-in_err-line-clause-damaged c =
    let had = c.lines.invariant in
    passed_on (λ (fault : RowsFault). fault ≡ Damaged → IsWrongIndex c.args.reader.now.reader c.args.octets.now) c.in_err-line.field-0.0 c.from_residual.result c.from_residual.ensures.1
    (λ is. line_left c.args.reader.now.reader c.lines.reader.reader c.args.octets.now c.lines.rest.now c.in-Some.behind.now had.0 (columns_line c.in-Some.line) had.1 c.in-Some.ensures.read.0 had.2 c.in-Some.ensures.read.1
    had.3.taken (c.in_err-line.ensures.damaged is))

pub returns-clause-read : goal.returns-clause-read
returns-clause-read c =
    let had = c.lines.invariant in
    let size : length c.lines.rest.now ≡ 0 = search rules in
    let none : c.lines.rest.now ≡ [] = nothing_left c.lines.rest.now size in
    (had.0, had.1, had.2 ∙ ap (λ l. stored_index had.0 ++ l) none ∙ append-nil (stored_index had.0), had.3)
