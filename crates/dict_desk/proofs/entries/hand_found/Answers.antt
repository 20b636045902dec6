use Rattle.std.proofs.Common.{◌≡◌, true, [], ◌∷◌, suc, get_or, take, drop, refl, sym, subst, ◌∙◌, arith}
use Rattle.dict_index.specs.Found.{row_of}
use Rattle.dict_desk.specs.PlainEntries.{entry_cut_from, is_hit_of, rows_found}
use Rattle.dict_desk.specs.declared.entries.OwnedEntry.{OwnedEntry}
use Rattle.dict_desk.proofs.RowLemmas.{rows_cut}
use Rattle.dict_desk.proofs.entries.hand_found.Goals as goal

pub returns-in-Stop-clause-stopped : goal.returns-in-Stop-clause-stopped
returns-in-Stop-clause-stopped g c = λ e.
    let text = c.args.text.now in
    let entries = c.args.entries.now in
    let i = c.loop-entry.entry-index in
    let entry = c.entry-item.result in
    let hit : is_hit_of c.args.strategy c.args.query.now (get_or entries i entry) ≡ true = subst (λ (k : OwnedEntry). is_hit_of c.args.strategy c.args.query.now k ≡ true) c.entry-item.is (sym c.finds.ensures ∙ c.if-finds.true) in
    let stop : g.T.RowSink.stops c.loop-entry.sink (row_of (entry_cut_from text (get_or entries i entry)) ∷ []) c.hand_entry.new.sink =
    subst (λ (k : OwnedEntry). g.T.RowSink.stops c.loop-entry.sink (row_of (entry_cut_from text k) ∷ []) c.hand_entry.new.sink) c.entry-item.is (c.in-Stop.ensures.stop refl) in
    subst (λ rows. g.T.RowSink.stops c.args.sink.now rows c.hand_entry.new.sink)
    (sym (rows_cut (is_hit_of c.args.strategy c.args.query.now) (λ k. row_of (entry_cut_from text k)) entries i entry (omega arith) hit))
    (g.met.T.RowSink.stopped c.args.sink.now c.loop-entry.sink c.hand_entry.new.sink (rows_found text c.args.strategy c.args.query.now (take i entries)) (row_of (entry_cut_from text (get_or entries i entry)) ∷ [])
    (rows_found text c.args.strategy c.args.query.now (drop (suc i) entries)) c.loop-entry.invariant stop)
