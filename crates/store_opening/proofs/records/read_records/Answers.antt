use Rattle.std.proofs.Common.{sym, subst, ◌∙◌}
use Rattle.sqlite.specs.Effect.{Database}
use Rattle.sqlite.specs.Held.{state}
use Rattle.dict_catalogue.specs.Items.{edition_numbers}
use Rattle.store_rows.specs.Taken.{items_in}
use Rattle.store_rows.specs.Versions.{layout_of}
use Rattle.store_opening.specs.Indexed.{HaveRowsIndexed}
use Rattle.store_sql.proofs.StreamLemmas.{passed_on}
use Rattle.dict_catalogue.specs.Views.{summary_shown}
use Rattle.store_rows.proofs.StrayLemmas.{numbers_taken}
use Rattle.store_scans.proofs.StateLemmas.{reads_then, while_same}
use Rattle.store_opening.specs.Opens.{HasVersionTables, KeepsNone, HoldsNoneAs, HasBegun, HasAll}
use Rattle.store_opening.proofs.CloseLemmas.{all_wrong, read_then}
use Rattle.store_opening.proofs.HoldLemmas.{has_summary}
use Rattle.store_opening.proofs.IndexLemmas.{numbers_summed}
use Rattle.store_opening.proofs.StepLemmas.{before, fails_then}
use Rattle.store_opening.proofs.records.read_records.Goals as goal

pub returns-in_err-reader-clause-damaged : goal.returns-in_err-reader-clause-damaged
returns-in_err-reader-clause-damaged g c clean = passed_on _ _ c.from_residual.result c.from_residual.ensures.1 (c.in_err-reader.ensures.damaged clean)

pub read_all-requires : goal.read_all-requires
read_all-requires g c = while_same (HasVersionTables c.args.version) _ _ c.begin.ensures.reads.survives c.in_ok-reader.ensures.same c.requires

pub returns-in-Err-clause-reads : goal.returns-in-Err-clause-reads
returns-in-Err-clause-reads g c = reads_then _ _ _ c.begin.ensures.reads c.read_all.ensures.reads

pub returns-in-Err-clause-damaged : goal.returns-in-Err-clause-damaged
returns-in-Err-clause-damaged g c clean is lm =
    let first = before c.read_all.ensures.reads c.in_ok-reader.ensures.same clean in
    let begun = c.in_ok-reader.ensures.begun first.0 lm in
    subst (λ (d : Database). HasBegun c.args.version d begun.0 → HoldsNoneAs c.args.version d) first.1 (c.in-Err.ensures.damaged clean is begun.0 begun.1) begun.2

pub returns-in-Err-clause-failed : goal.returns-in-Err-clause-failed
returns-in-Err-clause-failed g c clean = fails_then c.read_all.ensures.reads c.in_ok-reader.ensures.same c.begin.ensures.reads clean c.in-Err.fault (c.in-Err.ensures.failed clean)

pub returns-in-Ok-clause-reads : goal.returns-in-Ok-clause-reads
returns-in-Ok-clause-reads g c = reads_then _ _ _ c.begin.ensures.reads c.read_all.ensures.reads

pub returns-in-Ok-clause-stands : goal.returns-in-Ok-clause-stands
returns-in-Ok-clause-stands g c clean lm =
    let first = before c.read_all.ensures.reads c.in_ok-reader.ensures.same clean in
    let begun = c.in_ok-reader.ensures.begun first.0 lm in
    let all = read_then (λ (d : Database) after. HasAll c.args.version d c.in_ok-reader.reader begun.0 after) c.args.version _ begun.0 first.1 (c.in_default.ensures.all clean begun.0 begun.1) begun.2 in
    let found = c.in-Ok.ensures.stands c.args.version all.0 all.1 all.2.ids in
    has_summary c.args.version _ c.in_ok-reader.reader begun.0 all.0 begun.1 all.2 found.0 found.1 _ found.2

pub returns-in-Ok-clause-indexed : goal.returns-in-Ok-clause-indexed
returns-in-Ok-clause-indexed g c clean lm =
    let first = before c.read_all.ensures.reads c.in_ok-reader.ensures.same clean in
    let begun = c.in_ok-reader.ensures.begun first.0 lm in
    let all = read_then (λ (d : Database) after. HasAll c.args.version d c.in_ok-reader.reader begun.0 after) c.args.version _ begun.0 first.1 (c.in_default.ensures.all clean begun.0 begun.1) begun.2 in
    let found = c.in-Ok.ensures.stands c.args.version all.0 all.1 all.2.ids in
    let numbers = sym (numbers_taken c.args.version c.in_ok-reader.reader begun.0 all.0 found.0 begun.1 all.2.goes found.1) ∙ numbers_summed found.0 (summary_shown c.in-Ok.summary) found.2 in
    rw numbers at (subst (λ (d : Database). HaveRowsIndexed (layout_of c.args.version) d (edition_numbers (items_in c.in_ok-reader.reader)) c.read_all.new.indexes) first.1 (c.in_default.ensures.indexed clean))

pub returns-in-Err-finish-clause-reads : goal.returns-in-Err-finish-clause-reads
returns-in-Err-finish-clause-reads g c = reads_then _ _ _ c.begin.ensures.reads c.read_all.ensures.reads

pub returns-in-Err-finish-clause-damaged : goal.returns-in-Err-finish-clause-damaged
returns-in-Err-finish-clause-damaged g c clean is lm =
    let first = before c.read_all.ensures.reads c.in_ok-reader.ensures.same clean in
    let begun = c.in_ok-reader.ensures.begun first.0 lm in
    let all = read_then (λ (d : Database) after. HasAll c.args.version d c.in_ok-reader.reader begun.0 after) c.args.version _ begun.0 first.1 (c.in_default.ensures.all clean begun.0 begun.1) begun.2 in
    begun.2.none (subst (KeepsNone c.args.version (state g.S.Store c.args.conn.now).now) all.2.goes.members
    (all_wrong c.args.version _ c.in_ok-reader.reader begun.0 all.0 begun.1 begun.2 all.2 (c.in-Err-finish.ensures.damaged c.args.version all.0 all.1)))
