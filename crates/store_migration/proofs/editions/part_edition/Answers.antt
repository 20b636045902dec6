use Rattle.std.proofs.Common.{◌∙◌, map, codes, ap, subst, inl, inr}
use Rattle.store_tables.specs.Typed.{owned_edition}
use Rattle.store_holdings.specs.Files.{index_octets, parts_under}
use Rattle.store_migration.specs.FailurePlaces.{InRecord, Putting}
use Rattle.store_migration.specs.Steps.{IsEditionOf}
use Rattle.store_migration.proofs.KitLemmas.{Database, AreAdded, state, passed_on, was_clean, two_survive, signed_back, part_row}
use Rattle.store_migration.proofs.FailLemmas.{fails_later, fails_within}
use Rattle.store_migration.proofs.FlowLemmas.{three_still}
use Rattle.store_migration.proofs.editions.part_edition.Goals as goal

pub read_index-requires : goal.read_index-requires
read_index-requires g c clean open' = (c.requires clean open').entries

pub read_record-requires : goal.read_record-requires
read_record-requires g c clean open' =
    let index = (c.in_ok-index.ensures.index clean).1.0 in
    let s0 = state g.S.Store (g.T.OpenTransaction.held c.args.tx.now) in
    (three_still c.args.layout s0.now (state g.S.Store (g.T.OpenTransaction.held c.read_index.new.tx)).now (ap (λ (d : Database). d.schema) index.now_is) (c.requires (was_clean c.read_index.ensures.survives clean) index.was_open)).editions

pub put_files-requires : goal.put_files-requires
put_files-requires g c clean open' =
    let clean1 = was_clean c.read_record.ensures.survives clean in
    let index = (c.in_ok-index.ensures.index clean1).1.0 in
    let one = (c.in_ok-edition.ensures.edition clean).1.0 in
    let s0 = state g.S.Store (g.T.OpenTransaction.held c.args.tx.now) in
    (three_still c.args.layout s0.now (state g.S.Store (g.T.OpenTransaction.held c.read_record.new.tx)).now (ap (λ (d : Database). d.schema) (one.now_is ∙ index.now_is))
    (c.requires (was_clean c.read_index.ensures.survives clean1) index.was_open)).parts

pub returns-clause-parted : goal.returns-clause-parted
returns-clause-parted g c clean =
    let clean2 = was_clean c.put_files.ensures.survives clean in
    let back = signed_back _ c.ranges.number in
    let index = rw back at (c.in_ok-index.ensures.index (was_clean c.read_record.ensures.survives clean2)) in
    let one = rw back at (c.in_ok-edition.ensures.edition clean2) in
    let put = rw (back, c.deref.ensures.value, c.deref-2.ensures.value, index.0.written) at (c.in_ok-put_files.ensures.added clean) in
    record {
      edition = owned_edition c.in_ok-edition.edition;
      entries = index.0.entries;
      one = subst (λ (d : Database). IsEditionOf c.args.number d (owned_edition c.in_ok-edition.edition)) index.1.0.now_is one.0;
      header_is = c.without_text.ensures;
      lines = index.0.lines;
      added = subst (λ (d : Database). AreAdded (codes "dictcat_part") (map part_row (parts_under c.args.number (index_octets index.0.entries) (owned_edition c.in_ok-edition.edition).body)) d
          (state g.S.Store (g.T.OpenTransaction.held c.put_files.new.tx)).now)
          (one.1.0.now_is ∙ index.1.0.now_is) put;
    }

pub returns-in_err-index-clause-failed : goal.returns-in_err-index-clause-failed
returns-in_err-index-clause-failed g c clean =
    passed_on _ _ _ c.from_residual.ensures.1 (fails_within (λ part at it. inr (inl it)) (rw (signed_back _ c.ranges.number) at (c.in_err-index.ensures.failed clean)))

pub returns-in_err-edition-clause-failed : goal.returns-in_err-edition-clause-failed
returns-in_err-edition-clause-failed g c clean =
    let index = (c.in_ok-index.ensures.index (was_clean c.read_record.ensures.survives clean)).1.0 in
    passed_on _ _ _ c.from_residual-in_err-edition.ensures.1
    (fails_later c.read_index.ensures.survives (λ begun. index.mode ∙ begun) (λ part at it. inl (subst (λ (d : Database). InRecord c.args.number part d at) index.now_is it))
    (rw (signed_back _ c.ranges.number) at (c.in_err-edition.ensures.failed clean)))

pub returns-in_err-put_files-clause-failed : goal.returns-in_err-put_files-clause-failed
returns-in_err-put_files-clause-failed g c clean =
    let early = was_clean c.put_files.ensures.survives clean in
    let n = c.args.number in
    let back = signed_back n c.ranges.number in
    let index = rw back at (c.in_ok-index.ensures.index (was_clean c.read_record.ensures.survives early)) in
    let one = rw back at (c.in_ok-edition.ensures.edition early) in
    let edition = owned_edition c.in_ok-edition.edition in
    let one0 = subst (λ (d : Database). IsEditionOf n d edition) index.1.0.now_is one.0 in
    let failed = rw (back, c.deref.ensures.value, c.deref-2.ensures.value, index.0.written) at (c.in_err-put_files.ensures.failed clean) in
    let P = Putting (codes "dictcat_part") (map part_row (parts_under n (index_octets index.0.entries) edition.body)) in
    passed_on _ _ _ c.from_residual-in_err-put_files.ensures.1
    (fails_later (two_survive _ _ _ c.read_index.ensures.survives c.read_record.ensures.survives) (λ begun. one.1.0.mode ∙ (index.1.0.mode ∙ begun))
    (λ part at it. inr (inr (edition, index.0.entries, one0, index.0.lines, subst (λ (d : Database). P part d at) (one.1.0.now_is ∙ index.1.0.now_is) it))) failed)
