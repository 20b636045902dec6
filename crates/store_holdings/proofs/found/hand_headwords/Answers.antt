use Rattle.std.proofs.Common.{ℕ, List, [], ◌∷◌, suc, get_or, map, take, drop, refl, sym, subst, arith}
use Rattle.dict_index.specs.Found.{Row}
use Rattle.store_search.specs.Entries.{entry_at, entries_at, headword_row, indexed_shown}
use Rattle.store_holdings.proofs.HandLemmas.{made_cut, made_more, more_by}
use Rattle.store_holdings.proofs.found.hand_headwords.Goals as goal

pub returns-in-Stop-clause-stopped : goal.returns-in-Stop-clause-stopped
returns-in-Stop-clause-stopped g c = λ e.
    let places = c.args.places.now in
    let i = c.loop-place.place-index in
    let r : ℕ → Row = λ place. headword_row (indexed_shown (entry_at c.args.index.now place)) in
    let made : List ℕ → List Row = λ places. map headword_row (map indexed_shown (entries_at c.args.index.now places)) in
    subst (λ (rows : List Row). g.T.RowSink.stops c.args.sink.now rows c.hand_shown.new.sink)
    (sym (made_cut r made refl (λ x xs. refl) places i 0 (omega arith)))
    (g.met.T.RowSink.stopped c.args.sink.now c.loop-place.sink c.hand_shown.new.sink (made (take i places)) (r (get_or places i 0) ∷ []) (made (drop (suc i) places)) c.loop-place.invariant (c.in-Stop.ensures.stop refl))

pub loop-place-preserved : goal.loop-place-preserved
loop-place-preserved g c =
    let places = c.args.places.now in
    let i = c.loop-place.place-index in
    let r : ℕ → Row = λ place. headword_row (indexed_shown (entry_at c.args.index.now place)) in
    let made : List ℕ → List Row = λ places. map headword_row (map indexed_shown (entries_at c.args.index.now places)) in
    subst (λ (rows : List Row). g.T.RowSink.takes c.args.sink.now rows c.hand_shown.new.sink)
    (sym (made_more r made refl (λ x xs. refl) places i 0 (omega arith)))
    (g.met.T.RowSink.joined c.args.sink.now c.loop-place.sink c.hand_shown.new.sink (made (take i places)) (r (get_or places i 0) ∷ []) c.loop-place.invariant (c.hand_shown.ensures.more (more_by c.hand_shown.result c.in_default.not-Stop)))
