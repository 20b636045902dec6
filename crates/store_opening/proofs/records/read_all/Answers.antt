use Rattle.std.proofs.Common.{◌≡◌, [], subst, ◌∙◌}
use Rattle.std.proofs.lemmas.Result.{on_ok_weaker}
use Rattle.sqlite.specs.Effect.{Database}
use Rattle.sqlite.specs.Held.{state}
use Rattle.dict_catalogue.specs.Items.{edition_numbers}
use Rattle.store_rows.specs.Taken.{items_in}
use Rattle.store_rows.specs.Versions.{layout_of}
use Rattle.store_opening.specs.Indexed.{HaveRowsIndexed}
use Rattle.store_sql.proofs.StreamLemmas.{passed_on}
use Rattle.store_scans.proofs.StateLemmas.{reads_then, while_same}
use Rattle.store_scans.proofs.TakerLemmas.{if_err_then}
use Rattle.store_opening.specs.Opens.{HasVersionTables, KeepsNone, HoldsNoneAs, AllGoOnFrom, HasBegun, HasNamed, HasReplies}
use Rattle.store_opening.proofs.CloseLemmas.{has_all, read_then}
use Rattle.store_opening.proofs.StepLemmas.{before, both_same}
use Rattle.store_opening.proofs.records.read_all.Goals as goal

pub returns-in_err-test_strays-clause-damaged : goal.returns-in_err-test_strays-clause-damaged
returns-in_err-test_strays-clause-damaged g c clean =
    passed_on _ _ c.from_residual.result c.from_residual.ensures.1 (λ is front h b. b.none (c.in_err-test_strays.ensures.damaged clean is front h b.fits))

pub returns-in_err-read_named-clause-damaged : goal.returns-in_err-read_named-clause-damaged
returns-in_err-read_named-clause-damaged g c clean =
    let first = before c.read_named.ensures.reads c.in_ok-test_strays.ensures.same clean in
    passed_on _ _ c.from_residual-in_err-read_named.result c.from_residual-in_err-read_named.ensures.1
    (λ is front h. subst (λ (d : Database). HasBegun c.args.version d front → HoldsNoneAs c.args.version d) first.1 (c.in_err-read_named.ensures.damaged clean is front h))

pub read_kept-requires : goal.read_kept-requires
read_kept-requires g c =
    while_same (HasVersionTables c.args.version) _ _ (reads_then _ _ _ c.test_strays.ensures.reads c.read_named.ensures.reads).survives
    (both_same c.read_named.ensures.reads c.in_ok-test_strays.ensures.same c.in_ok-read_named.ensures.same) c.requires

pub returns-clause-indexed : goal.returns-clause-indexed
returns-clause-indexed g c clean =
    let late = before c.read_kept.ensures.reads c.in_ok-read_named.ensures.same clean in
    let early = before c.read_named.ensures.reads c.in_ok-test_strays.ensures.same late.0 in
    on_ok_weaker c.read_kept.result
    (λ replies. subst (λ (d : Database). HaveRowsIndexed (layout_of c.args.version) d (edition_numbers (items_in c.args.reader.now.reader)) c.read_named.new.indexes) early.1 (c.in_ok-read_named.ensures.indexed late.0))
    (c.read_kept.ensures.replies clean)

pub returns-clause-all : goal.returns-clause-all
returns-clause-all g c clean =
    let late = before c.read_kept.ensures.reads c.in_ok-read_named.ensures.same clean in
    let early = before c.read_named.ensures.reads c.in_ok-test_strays.ensures.same late.0 in
    on_ok_weaker c.read_kept.result
    (λ replies front h b.
    let named = read_then (λ (d : Database) after. HasNamed c.args.version d c.args.reader.now.reader front after) c.args.version _ front early.1 (c.in_ok-read_named.ensures.named late.0 front h) b in
    let got = replies named.0 named.1 in
    let replied = subst (λ (d : Database). HasReplies d named.0 got.0) (late.1 ∙ early.1) got.2 in
    (got.0, got.1, has_all c.args.version _ c.args.reader.now.reader front named.0 (c.in_ok-test_strays.ensures.known early.0) (c.in_ok-test_strays.ensures.parts early.0) named.2 b got.0 replied))
    (c.read_kept.ensures.replies clean)

pub returns-clause-damaged : goal.returns-clause-damaged
returns-clause-damaged g c clean =
    let late = before c.read_kept.ensures.reads c.in_ok-read_named.ensures.same clean in
    let early = before c.read_named.ensures.reads c.in_ok-test_strays.ensures.same late.0 in
    if_err_then _ _ c.read_kept.result
    (λ fault wrong is front h b.
    let named = read_then (λ (d : Database) after. HasNamed c.args.version d c.args.reader.now.reader front after) c.args.version _ front early.1 (c.in_ok-read_named.ensures.named late.0 front h) b in
    let none = subst (λ (d : Database). AllGoOnFrom c.args.version d named.0 → named.0.kept ≡ [] → KeepsNone c.args.version d named.0.members) (late.1 ∙ early.1) (wrong is named.0 named.1) in
    b.none (subst (KeepsNone c.args.version (state g.S.Store c.args.conn.now).now) named.2.members (none named.2.fits (named.2.kept ∙ b.no_kept))))
    (c.read_kept.ensures.damaged clean)
