use Rattle.std.proofs.Common.{◌≡◌, ℕ, ◌+◌, List, [], ◌∷◌, ◌++◌, suc, get_or, map, take, drop, refl, sym, subst, ◌∙◌, arith, append-nil}
use Rattle.std.specs.Prelude.{Ok}
use Rattle.std.proofs.lemmas.List.{take_all}
use Rattle.std.proofs.lemmas.Result.{err_from_is_err_and}
use Rattle.store_tables.specs.Effects.{Has}
use Rattle.store_sql.specs.PartTable.{part as part_table}
use Rattle.dict_index.specs.Found.{Row}
use Rattle.dict_desk.specs.declared.lookup.End.TheVariants.{All}
use Rattle.dict_desk.specs.declared.sink.Demand.TheVariants.{More, Stop}
use Rattle.dict_desk.proofs.HandingLemmas.{hands_all, hands_front, hands_stopped}
use Rattle.store_search.specs.Entries.{entry_at, entries_at, row_in}
use Rattle.store_holdings.proofs.AskLemmas.{clean_first, has_still, keeps_none, keeps_then, open_still, reads_err, reads_none, reads_ok, reads_then}
use Rattle.store_holdings.proofs.HandLemmas.{demand_ok, made_cut, made_front, made_more, more_by, still_takes}
use Rattle.store_holdings.proofs.TakenLemmas.{more_more, none_more}
use Rattle.store_holdings.proofs.found.hand_found.Goals as goal

pub loop-place-init : goal.loop-place-init
loop-place-init g c = record {
  reads = reads_none c.args.number c.args.conn.now (Ok All) tt;
  keeps = keeps_none;
  takes = λ clean text short has. g.met.T.RowSink.none c.args.sink.now;
  handed = ([], g.met.T.RowSink.none c.args.sink.now);
  counted = (0, none_more c.args.rows_taken.now (omega arith));
}

pub hand_entry-requires : goal.hand_entry-requires
hand_entry-requires g c = open_still (Has part_table) c.loop-place.invariant.reads c.requires

-- ---- one more

pub loop-place-preserved : goal.loop-place-preserved
loop-place-preserved g c =
    let before = c.loop-place.invariant in
    let index = c.args.index.now in
    let places = c.args.places.now in
    let i = c.loop-place.place-index in
    let more : c.hand_entry.result ≡ Ok More = c.in_ok-demand.was ∙ demand_ok c.in_ok-demand.demand More (more_by c.in_ok-demand.demand c.in_default.not-Stop) in
    record {
      reads = reads_ok (reads_then c.args.number before.reads c.in_ok-demand.ensures.reads);
      keeps = keeps_then before.reads before.keeps c.hand_entry.ensures.reads c.hand_entry.ensures.keeps;
      takes = λ clean text short has.
          let was = clean_first c.hand_entry.ensures.reads clean in
          let there = has_still before.reads before.keeps was text has in
          let r : ℕ → Row = λ place. row_in text (entry_at index place) in
          let made : List ℕ → List Row = λ places. map (row_in text) (entries_at index places) in
          subst (λ (rows : List Row). g.T.RowSink.takes c.args.sink.now rows c.hand_entry.new.sink) (sym (made_more r made refl (λ x xs. refl) places i 0 (omega arith)))
          (g.met.T.RowSink.joined c.args.sink.now c.loop-place.sink c.hand_entry.new.sink (made (take i places)) (r (get_or places i 0) ∷ []) (before.takes was text short has) (c.hand_entry.ensures.more clean text short there more));
      handed =
          let rows = before.handed in
          let one = c.hand_entry.ensures.handed in
          (rows.0 ++ one.0 ∷ [], g.met.T.RowSink.joined c.args.sink.now c.loop-place.sink c.hand_entry.new.sink rows.0 (one.0 ∷ []) rows.1 (one.1 more));
      counted =
          let first = before.counted in
          let second = c.in_ok-demand.ensures.counted in
          (first.0 + second.0, more_more c.args.rows_taken.now c.loop-place.rows_taken c.hand_entry.new.rows_taken first.0 second.0 first.1 second.1);
    }

-- ---- the sink stops

pub returns-in-Stop-clause-reads : goal.returns-in-Stop-clause-reads
returns-in-Stop-clause-reads g c = reads_ok (reads_then c.args.number c.loop-place.invariant.reads c.in_ok-demand.ensures.reads)

pub returns-in-Stop-clause-keeps : goal.returns-in-Stop-clause-keeps
returns-in-Stop-clause-keeps g c = keeps_then c.loop-place.invariant.reads c.loop-place.invariant.keeps c.hand_entry.ensures.reads c.hand_entry.ensures.keeps

pub returns-in-Stop-clause-value : goal.returns-in-Stop-clause-value
returns-in-Stop-clause-value g c clean text short has =
    let before = c.loop-place.invariant in
    let index = c.args.index.now in
    let places = c.args.places.now in
    let i = c.loop-place.place-index in
    let stop : c.hand_entry.result ≡ Ok Stop = c.in_ok-demand.was ∙ demand_ok c.in_ok-demand.demand Stop c.in-Stop.is in
    let was = clean_first c.hand_entry.ensures.reads clean in
    let there = has_still before.reads before.keeps was text has in
    let r : ℕ → Row = λ place. row_in text (entry_at index place) in
    let made : List ℕ → List Row = λ places. map (row_in text) (entries_at index places) in
    hands_stopped g.T.RowSink.takes g.T.RowSink.stops c.args.sink.now c.hand_entry.new.sink (made places)
    (subst (λ (rows : List Row). g.T.RowSink.stops c.args.sink.now rows c.hand_entry.new.sink) (sym (made_cut r made refl (λ x xs. refl) places i 0 (omega arith)))
    (g.met.T.RowSink.stopped c.args.sink.now c.loop-place.sink c.hand_entry.new.sink (made (take i places)) (r (get_or places i 0) ∷ []) (made (drop (suc i) places))
    (before.takes was text short has) (c.hand_entry.ensures.stop clean text short there stop)))

pub returns-in-Stop-clause-handed : goal.returns-in-Stop-clause-handed
returns-in-Stop-clause-handed g c =
    let rows = c.loop-place.invariant.handed in
    let one = c.hand_entry.ensures.handed in
    let stop : c.hand_entry.result ≡ Ok Stop = c.in_ok-demand.was ∙ demand_ok c.in_ok-demand.demand Stop c.in-Stop.is in (
      rows.0 ++ (one.0 ∷ [] ++ []),
      hands_stopped g.T.RowSink.takes g.T.RowSink.stops c.args.sink.now c.hand_entry.new.sink (rows.0 ++ (one.0 ∷ [] ++ []))
          (g.met.T.RowSink.stopped c.args.sink.now c.loop-place.sink c.hand_entry.new.sink rows.0 (one.0 ∷ []) [] rows.1 (one.2 stop)),
    )

pub returns-in-Stop-clause-counted : goal.returns-in-Stop-clause-counted
returns-in-Stop-clause-counted g c =
    let first = c.loop-place.invariant.counted in
    let second = c.in_ok-demand.ensures.counted in
    (first.0 + second.0, more_more c.args.rows_taken.now c.loop-place.rows_taken c.hand_entry.new.rows_taken first.0 second.0 first.1 second.1)

-- ---- a text isn't there

pub returns-in_err-demand-clause-reads : goal.returns-in_err-demand-clause-reads
returns-in_err-demand-clause-reads g c =
    let p = err_from_is_err_and c.from_residual.result c.from_residual.ensures.1 in
    rw (p.1, p.2) (reads_err (reads_then c.args.number c.loop-place.invariant.reads c.in_err-demand.ensures.reads))

pub returns-in_err-demand-clause-keeps : goal.returns-in_err-demand-clause-keeps
returns-in_err-demand-clause-keeps g c = keeps_then c.loop-place.invariant.reads c.loop-place.invariant.keeps c.hand_entry.ensures.reads c.hand_entry.ensures.keeps

pub returns-in_err-demand-clause-value : goal.returns-in_err-demand-clause-value
returns-in_err-demand-clause-value g c clean text short has =
    let before = c.loop-place.invariant in
    let index = c.args.index.now in
    let places = c.args.places.now in
    let i = c.loop-place.place-index in
    let was = clean_first c.hand_entry.ensures.reads clean in
    let made : List ℕ → List Row = λ places. map (row_in text) (entries_at index places) in
    let front = still_takes g.T.RowSink.takes c.args.sink.now c.loop-place.sink c.hand_entry.new.sink (made (take i places)) c.in_err-demand.ensures.none (before.takes was text short has) in
    let p = err_from_is_err_and c.from_residual.result c.from_residual.ensures.1 in
    rw (p.1, p.2) (hands_front g.T.RowSink.takes g.T.RowSink.stops c.args.sink.now c.hand_entry.new.sink _ (made places) (made (take i places)) (made (drop i places)) (made_front (row_in text) index places i) front)

pub returns-in_err-demand-clause-handed : goal.returns-in_err-demand-clause-handed
returns-in_err-demand-clause-handed g c =
    let rows = c.loop-place.invariant.handed in
    let front = still_takes g.T.RowSink.takes c.args.sink.now c.loop-place.sink c.hand_entry.new.sink rows.0 c.in_err-demand.ensures.none rows.1 in
    let p = err_from_is_err_and c.from_residual.result c.from_residual.ensures.1 in
    (rows.0, rw (p.1, p.2) (hands_front g.T.RowSink.takes g.T.RowSink.stops c.args.sink.now c.hand_entry.new.sink _ rows.0 rows.0 [] (sym (append-nil rows.0)) front))

-- ---- all were taken

pub returns-clause-value : goal.returns-clause-value
returns-clause-value g c clean text short has =
    let index = c.args.index.now in
    let places = c.args.places.now in
    let all = take_all c.loop-place.place-index places (omega arith) in
    hands_all g.T.RowSink.takes g.T.RowSink.stops c.args.sink.now c.loop-place.sink (map (row_in text) (entries_at index places))
    (subst (λ (l : List ℕ). g.T.RowSink.takes c.args.sink.now (map (row_in text) (entries_at index l)) c.loop-place.sink) all (c.loop-place.invariant.takes clean text short has))

pub returns-clause-handed : goal.returns-clause-handed
returns-clause-handed g c =
    let rows = c.loop-place.invariant.handed in
    (rows.0, hands_all g.T.RowSink.takes g.T.RowSink.stops c.args.sink.now c.loop-place.sink rows.0 rows.1)
