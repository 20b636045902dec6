use Rattle.std.proofs.Common.{◌≡◌, false, rules, sym, subst, ◌∙◌}
use Rattle.std.proofs.lemmas.Bool.{false≢true}
use Rattle.std.specs.Prelude.{IsTrue}
use Rattle.sqlite.specs.Effect.{Database}
use Rattle.store_sql.proofs.StreamLemmas.{passed_on}
use Rattle.store_rows.specs.Versions.{layout_of}
use Rattle.store_holdings.proofs.ReadableLemmas.{held_readable}
use Rattle.dict_catalogue.specs.Views.{summary_shown}
use Rattle.store_scans.proofs.StateLemmas.{reads_then, while_same}
use Rattle.store_opening.specs.Opens.{HasVersionTables, HasReadableRows, HasOthersApart}
use Rattle.store_opening.proofs.HoldLemmas.{holds_of, none_without, others_apart}
use Rattle.store_opening.proofs.IndexLemmas.{numbers_summed, is_indexed}
use Rattle.store_opening.proofs.StepLemmas.{before, fails_then}
use Rattle.store_opening.proofs.opening.read_tables.Goals as goal

pub read_records-requires : goal.read_records-requires
read_records-requires g c clean o =
    let yes : IsTrue c.has_layout.result = search rules in
    (rw c.schema.ensures.value at c.has_layout.ensures.0 yes).tables

pub returns-then-not-has_layout-clause-damaged : goal.returns-then-not-has_layout-clause-damaged
returns-then-not-has_layout-clause-damaged g c clean is listed =
    let no' : c.has_layout.result ≡ false = search rules in
    none_without c.args.version _ (λ own. false≢true (sym no' ∙ c.has_layout.ensures.1 (rw c.schema.ensures.value own)))

pub returns-in_err-read-clause-damaged : goal.returns-in_err-read-clause-damaged
returns-in_err-read-clause-damaged g c clean = passed_on _ _ c.from_residual.result c.from_residual.ensures.1 (c.in_err-read.ensures.damaged clean)

pub test_other_rowids-requires : goal.test_other_rowids-requires
test_other_rowids-requires g c =
    let yes : IsTrue c.has_layout.result = search rules in
    while_same (HasVersionTables c.args.version) _ _ c.read_records.ensures.reads.survives c.in_ok-read.ensures.same (λ clean o. (rw c.schema.ensures.value at c.has_layout.ensures.0 yes).tables)

pub returns-in-Err-clause-reads : goal.returns-in-Err-clause-reads
returns-in-Err-clause-reads g c = reads_then _ _ _ c.read_records.ensures.reads c.test_other_rowids.ensures.reads

pub returns-in-Err-clause-damaged : goal.returns-in-Err-clause-damaged
returns-in-Err-clause-damaged g c clean is lm M h =
    let first = before c.test_other_rowids.ensures.reads c.in_ok-read.ensures.same clean in
    subst (λ (d : Database). HasReadableRows (layout_of c.args.version) d → HasOthersApart d → ⊥) first.1 (c.in-Err.ensures.damaged clean is) (held_readable c.args.version _ M h) (others_apart c.args.version _ M h)

pub returns-in-Err-clause-failed : goal.returns-in-Err-clause-failed
returns-in-Err-clause-failed g c clean = fails_then c.test_other_rowids.ensures.reads c.in_ok-read.ensures.same c.read_records.ensures.reads clean c.in-Err.fault (c.in-Err.ensures.failed clean)

pub returns-clause-reads : goal.returns-clause-reads
returns-clause-reads g c = reads_then _ _ _ c.read_records.ensures.reads c.test_other_rowids.ensures.reads

pub returns-clause-holds : goal.returns-clause-holds
returns-clause-holds g c clean listed =
    let first = before c.test_other_rowids.ensures.reads c.in_ok-read.ensures.same clean in
    let yes : IsTrue c.has_layout.result = search rules in
    let there = rw c.schema.ensures.value at c.has_layout.ensures.0 yes in
    let held = holds_of c.args.version _ _ there (subst HasOthersApart first.1 (c.in_default.ensures.apart clean)) (c.in_ok-read.ensures.stands first.0 listed) in
    let rows = rw (sym (numbers_summed held.0 (summary_shown c.in_ok-read.read.0) held.2)) at c.in_ok-read.ensures.indexed first.0 listed in
    (held.0, held.1, held.2, is_indexed c.args.version _ held.0 held.1 c.in_ok-read.read.1 rows)
