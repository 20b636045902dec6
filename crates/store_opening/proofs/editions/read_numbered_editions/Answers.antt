use Rattle.std.proofs.Common.{◌≡◌, ◌<◌, ◌≤◌, ◌∙◌, ap, pos, length, get_or, rules, arith, subst, sym}
use Rattle.std.proofs.lemmas.Int.{to_z-of_z}
use Rattle.std.proofs.lemmas.List.{take_all, length-map}
use Rattle.std.proofs.Math.ListN.{get_or-map}
use mir.Syntax.{w64}
use mir.Val.{SFits}
use Rattle.sqlite.specs.Effect.{Database}
use Rattle.sqlite.specs.Held.{state}
use Rattle.sqlite.proofs.StateLemmas.{survives_then}
use Rattle.store_sql.proofs.StreamLemmas.{passed_on}
use Rattle.store_rows.specs.Versions.{layout_of}
use Rattle.store_scans.proofs.StateLemmas.{survives_itself, same_itself, while_same}
use Rattle.store_opening.specs.Opens.{KeepsNone, HasVersionTables, CanReadOne, HasReadOne}
use Rattle.store_opening.proofs.IndexLemmas.{next_indexed}
use Rattle.store_opening.proofs.ReadLemmas.{read_none, can_next, read_next}
use Rattle.store_opening.proofs.StepLemmas.{before, both_same}
use Rattle.store_scans.specs.Entries.{HasEntries}
use Rattle.store_opening.specs.Indexed.{HaveRowsIndexed}
use Rattle.store_opening.proofs.editions.read_numbered_editions.Goals as goal

pub loop-number-init : goal.loop-number-init
loop-number-init g c = record {
  mode = (λ m. m);
  survives = survives_itself (state g.S.Store c.args.conn.now);
  same = (λ clean. same_itself (state g.S.Store c.args.conn.now));
  indexed = (λ clean ns is. tt);
  read = (λ clean front can. (front, can.taken, read_none c.args.version (state g.S.Store c.args.conn.now).now c.args.reader.now.reader c.args.numbers.now front can));
}

pub read_number-requires : goal.read_number-requires
read_number-requires g c = while_same (HasVersionTables c.args.version) _ _ c.loop-number.invariant.survives c.loop-number.invariant.same c.requires

pub returns-in_err-read_number-clause-damaged : goal.returns-in_err-read_number-clause-damaged
returns-in_err-read_number-clause-damaged g c clean =
    let version = c.args.version in
    let i = c.loop-number.number-index in
    let numbers = c.args.numbers.now in
    let n = get_or numbers i (pos 0) in
    let lt : i < length numbers = omega (arith, c.loop-number-test.true) in
    let fits : SFits w64 n = search rules in
    let first = before c.read_number.ensures.reads c.loop-number.invariant.same clean in
    passed_on _ _ c.from_residual.result c.from_residual.ensures.1
    (λ is front can.
    let had = c.loop-number.invariant.read first.0 front can in
    let one = can_next version _ c.args.reader.now.reader numbers front had.0 can i lt had.2 in
    let bad = c.in_err-read_number.ensures.damaged clean is had.0 had.1 (rw (to_z-of_z w64 n fits) (subst (λ (d : Database). CanReadOne version d had.0 n) (sym first.1) one)) in
    subst (KeepsNone version (state g.S.Store c.args.conn.now).now) had.2.members (subst (λ (d : Database). KeepsNone version d had.0.members) first.1 bad))

pub loop-number-preserved : goal.loop-number-preserved
loop-number-preserved g c =
    let old = state g.S.Store c.args.conn.now in
    let version = c.args.version in
    let i = c.loop-number.number-index in
    let numbers = c.args.numbers.now in
    let n = get_or numbers i (pos 0) in
    let lt : i < length numbers = omega (arith, c.loop-number-test.true) in
    let fits : SFits w64 n = search rules in
    let back = to_z-of_z w64 n fits in
    let first = before c.read_number.ensures.reads c.loop-number.invariant.same in
    record {
      mode = (λ m. c.read_number.ensures.reads.mode (c.loop-number.invariant.mode m));
      survives = survives_then _ _ _ (λ _. ⊥) (λ _. ⊥) (λ _. ⊥) (λ _ db none. none) (λ _ db none. none) c.loop-number.invariant.survives c.read_number.ensures.reads.survives;
      same = both_same c.read_number.ensures.reads c.loop-number.invariant.same c.in_ok-read_number.ensures.same;
      indexed = (λ clean ns is.
          let got = c.in_ok-read_number.ensures.indexed clean in
          let long : i < length ns = omega (arith, lt, ap length is, length-map ns pos) in
          let here : n ≡ pos (get_or ns i 0) = ap (λ l. get_or l i (pos 0)) is ∙ get_or-map pos ns i 0 in
          let entries = subst (λ k. HasEntries (layout_of version) old.now k got.0) here (subst (λ (d : Database). HasEntries (layout_of version) d n got.0) (first clean).1 (rw back at got.1)) in
          next_indexed (layout_of version) _ ns i got.0 c.read_number.new.reader.index c.loop-number.indexes c.put_index.new.indexes long (c.loop-number.invariant.indexed (first clean).0 ns is)
          entries got.2 (c.in_ok-put_index.ensures.put (get_or ns i 0) (back ∙ here)));
      read = (λ clean front can.
          let had = c.loop-number.invariant.read (first clean).0 front can in
          let one = can_next version _ c.args.reader.now.reader numbers front had.0 can i lt had.2 in
          let got = c.in_ok-read_number.ensures.whole clean had.0 had.1 (rw back one.no_entries) in (
            got.0,
            got.1,
            read_next version _ c.args.reader.now.reader numbers front had.0 got.0 can i lt had.2
                (subst (λ (d : Database). HasReadOne (layout_of version) d n had.0 got.0) (first clean).1 (rw back at got.2)),
          ));
    }

pub returns-clause-whole : goal.returns-clause-whole
returns-clause-whole g c clean front can =
    let had = c.loop-number.invariant.read clean front can in
    let past : length c.args.numbers.now ≤ c.loop-number.number-index = omega arith in
    (had.0, had.1, rw (take_all c.loop-number.number-index c.args.numbers.now past) at had.2)

pub returns-clause-indexed : goal.returns-clause-indexed
returns-clause-indexed g c clean ns is =
    let past : length ns ≤ c.loop-number.number-index = omega (arith, ap length is, length-map ns pos) in
    subst (λ ms. HaveRowsIndexed (layout_of c.args.version) (state g.S.Store c.args.conn.now).now ms c.loop-number.indexes) (take_all c.loop-number.number-index ns past) (c.loop-number.invariant.indexed clean ns is)
