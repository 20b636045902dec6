use Rattle.std.proofs.Common.{◌∙◌, List, map, refl, sym, ap, subst, codes}
use Rattle.std.proofs.lemmas.List.{take_all}
use Rattle.store_sql.specs.HeaderRecords.{header_row}
use Rattle.store_sql.specs.Inserts.{FailsToInsert}
use Rattle.store_tables.proofs.AddedLemmas.{none_added}
use Rattle.store_migration.specs.FailurePlaces.{Putting}
use Rattle.store_migration.proofs.KitLemmas.{state, HasCleanDisk, header, AreAdded, IsAdded, still_has, goes_keeps, keeps_then, passed_on, keeps_none, none_more, was_clean, two_survive, Row, HeaderRecord}
use Rattle.store_migration.proofs.FailLemmas.{fails_by, row_placed, row_more, putting}
use Rattle.store_tables.specs.Typed.{owned_header}
use Rattle.store_holdings.proofs.ReadingLemmas.{map_twice}
use Rattle.store_migration.proofs.ReadLemmas.{owned_row}
use Rattle.store_migration.proofs.heading.put_headers.Goals as goal

pub each-init : goal.each-init
each-init g c = record { same_reference = refl; added = λ clean. none_added (codes "edition") _; inside = λ clean h. h; keeps = λ clean. keeps_none _; survives = none_more _ }

pub insert_header-requires : goal.insert_header-requires
insert_header-requires g c clean open' =
    let own = c.requires (was_clean c.each.invariant.survives clean) ((c.each.invariant.keeps clean).was_open open') in
    still_has header (state g.S.Store (g.T.OpenTransaction.held c.args.tx.now)).now (state g.S.Store (g.T.OpenTransaction.held c.each.tx)).now (c.each.invariant.added clean).schema own

pub each-preserved : goal.each-preserved
each-preserved g c =
    let mid = state g.S.Store (g.T.OpenTransaction.held c.each.tx) in
    let new = state g.S.Store (g.T.OpenTransaction.held c.insert_header.new.tx) in
    let item = c.header-item.result in
    let was = λ (clean : HasCleanDisk new). was_clean c.insert_header.ensures.survives clean in
    record {
      same_reference = c.insert_header.ensures.same_reference ∙ c.each.invariant.same_reference;
      added = λ clean. row_more (codes "edition") owned_row c.args.headers.now c.each.header-index item (owned_row item) c.each-test.true (ap owned_row c.header-item.is) _ _
          (c.each.invariant.added (was clean)) _ (subst (λ (h : HeaderRecord). IsAdded (codes "edition") (header_row h) mid.now new.now) c.lend-given.ensures (c.in_ok-insert_header.ensures.added clean).0);
      inside = λ clean h. (c.in_ok-insert_header.ensures.added clean).1.mode;
      keeps = λ clean. keeps_then _ _ _ (c.each.invariant.keeps (was clean)) (goes_keeps _ _ (c.in_ok-insert_header.ensures.added clean).1);
      survives = two_survive _ _ _ c.each.invariant.survives c.insert_header.ensures.survives;
    }

pub returns-clause-added : goal.returns-clause-added
returns-clause-added g c clean =
    let rows = ap (map owned_row) (take_all _ _ c.each-test.false) ∙ sym (map_twice owned_header header_row c.args.headers.now) in
    subst (λ (l : List Row). AreAdded (codes "edition") l (state g.S.Store (g.T.OpenTransaction.held c.args.tx.now)).now (state g.S.Store (g.T.OpenTransaction.held c.each.tx)).now) rows (c.each.invariant.added clean)

pub returns-in_err-insert_header-clause-failed : goal.returns-in_err-insert_header-clause-failed
returns-in_err-insert_header-clause-failed g c clean =
    let old = (g.T.OpenTransaction.held c.args.tx.now) in
    let mid = (g.T.OpenTransaction.held c.each.tx) in
    let early = was_clean c.insert_header.ensures.survives clean in
    let item = c.header-item.result in
    let part = putting (codes "edition") (owned_row item) in
    let place = row_placed (codes "edition") owned_row c.args.headers.now c.each.header-index item (owned_row item) c.each-test.true (ap owned_row c.header-item.is) _ _ (c.each.invariant.added early) in
    let fails = subst (λ (h : HeaderRecord). FailsToInsert (codes "edition") (header_row h) (state g.S.Store mid) (state g.S.Store (g.T.OpenTransaction.held c.insert_header.new.tx)) c.in_err-insert_header.field-0.0) c.lend-given.ensures
    (c.in_err-insert_header.ensures.failed clean) in
    passed_on _ _ _ c.from_residual.ensures.1
    (fails_by mid part c.each.invariant.survives (c.each.invariant.inside early)
    (subst (λ (l : List Row). Putting (codes "edition") l part (state g.S.Store old).now (state g.S.Store mid).now) (sym (map_twice owned_header header_row c.args.headers.now)) place) fails)
