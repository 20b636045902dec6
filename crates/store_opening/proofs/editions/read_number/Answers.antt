use Rattle.std.proofs.Common.{◌++◌, map, refl, ap, ◌∙◌}
use Rattle.std.proofs.lemmas.Int.{to_z-of_z}
use Rattle.std.proofs.lemmas.Result.{on_ok_weaker}
use mir.Syntax.{w64}
use Rattle.store_tables.specs.Typed.{owned_edition}
use Rattle.store_sql.proofs.StreamLemmas.{passed_on}
use Rattle.store_rows.specs.Taken.{with_edition}
use Rattle.store_rows.specs.Versions.{layout_of}
use Rattle.store_rows.specs.Whole.{with_entries}
use Rattle.store_scans.specs.Indexing.{indexed_of}
use Rattle.store_scans.proofs.StateLemmas.{reads_then, while_same}
use Rattle.store_scans.proofs.TakerLemmas.{if_err_then}
use Rattle.store_opening.specs.Opens.{HasVersionTables}
use Rattle.store_opening.proofs.NoneLemmas.{edition_missing, edition_refused, edition_wrong}
use Rattle.store_opening.proofs.StepLemmas.{before}
use Rattle.store_opening.proofs.ToldLemmas.{fresh_record}
use Rattle.store_opening.proofs.editions.read_number.Goals as goal

pub returns-in_err-edition-clause-damaged : goal.returns-in_err-edition-clause-damaged
returns-in_err-edition-clause-damaged g c clean =
    passed_on _ _ c.from_residual.result c.from_residual.ensures.1
    (λ is taken h can. edition_missing c.args.version _ taken c.args.number can (rw c.layout_of.ensures at (rw (to_z-of_z w64 c.args.number c.ranges.number) at c.in_err-edition.ensures.damaged clean is)))

pub returns-in-Err-clause-damaged : goal.returns-in-Err-clause-damaged
returns-in-Err-clause-damaged g c clean is taken h can =
    let one = rw c.layout_of.ensures at (rw (to_z-of_z w64 c.args.number c.ranges.number) at c.in_ok-edition.ensures.one clean) in
    edition_refused c.args.version _ taken c.args.number can (owned_edition c.in_ok-edition.edition) one c.args.reader.now.reader h (λ v before k. c.in-Err.ensures.damaged v before (c.let_go.ensures.taken v before k))

pub read_edition-requires : goal.read_edition-requires
read_edition-requires g c = rw c.layout_of.ensures c.requires

pub read_entries-requires : goal.read_entries-requires
read_entries-requires g c = rw c.layout_of-2.ensures (while_same (HasVersionTables c.args.version) _ _ c.read_edition.ensures.reads.survives c.in_ok-edition.ensures.same c.requires)

pub returns-clause-reads : goal.returns-clause-reads
returns-clause-reads g c = reads_then _ _ _ c.read_edition.ensures.reads c.read_entries.ensures.reads

pub returns-clause-whole : goal.returns-clause-whole
returns-clause-whole g c clean =
    let n = c.args.number in
    let e = owned_edition c.in_ok-edition.edition in
    let back = to_z-of_z w64 n c.ranges.number in
    let first = before c.read_entries.ensures.reads c.in_ok-edition.ensures.same clean in
    let one = rw c.layout_of.ensures at (rw back at c.in_ok-edition.ensures.one first.0) in
    on_ok_weaker c.read_entries.result
    (λ all taken h none.
    let it = rw first.1 at (rw c.layout_of-2.ensures at (rw back at all.1)) in (
      with_entries (with_edition taken e) all.0,
      it.taken c.args.version (with_edition taken e) (c.in_default.ensures.taken c.args.version taken (c.let_go.ensures.taken c.args.version taken h)) (fresh_record (layout_of c.args.version) _ n e one taken none),
      record { edition = e; given = all.0; record' = one; entries = it.has; after_is = refl },
    ))
    (c.read_entries.ensures.whole clean)

pub returns-clause-indexed : goal.returns-clause-indexed
returns-clause-indexed g c clean =
    let first = before c.read_entries.ensures.reads c.in_ok-edition.ensures.same clean in
    on_ok_weaker c.read_entries.result
    (λ all.
    let it = rw first.1 at (rw c.layout_of-2.ensures at (rw (to_z-of_z w64 c.args.number c.ranges.number) at all.1)) in
    (all.0, it.has, all.2 ∙ ap (λ l. l ++ map indexed_of all.0) (c.replace.ensures.after ∙ c.new.ensures)))
    (c.read_entries.ensures.whole clean)

pub returns-clause-damaged : goal.returns-clause-damaged
returns-clause-damaged g c clean =
    let back = to_z-of_z w64 c.args.number c.ranges.number in
    let first = before c.read_entries.ensures.reads c.in_ok-edition.ensures.same clean in
    let one = rw c.layout_of.ensures at (rw back at c.in_ok-edition.ensures.one first.0) in
    if_err_then _ _ c.read_entries.result
    (λ fault wrong told taken h can.
    edition_wrong c.args.version _ taken c.args.number can (owned_edition c.in_ok-edition.edition) one c.edition.new.self (c.in_default.ensures.taken c.args.version taken (c.let_go.ensures.taken c.args.version taken h))
    (rw first.1 at (rw c.layout_of-2.ensures at (rw back at wrong told))))
    (c.read_entries.ensures.damaged clean)
