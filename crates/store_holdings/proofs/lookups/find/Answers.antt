use Rattle.std.proofs.Common.{◌≡◌, ◌≤◌, ℕ, List, [], map, ap, refl, sym, subst, ◌∙◌}
use Rattle.std.proofs.lemmas.Result.{err_from_is_err_and}
use Rattle.dict_desk.specs.Handing.{Hands}
use Rattle.dict_desk.proofs.HandingLemmas.{hands_front}
use Rattle.dict_index.specs.Found.{Row, found_rows}
use Rattle.dict_desk.specs.Shown.{count_of}
use Rattle.dict_desk.specs.declared.lookup.What.TheVariants.{Entries}
use Rattle.store_search.specs.Entries.{entries_at, row_in}
use Rattle.store_search.specs.Found.{found_entries, count_selected}
use Rattle.store_holdings.proofs.IndexLemmas.{rows_cut, few_of}
use Rattle.store_holdings.proofs.TakenLemmas.{end_of, looks_more, more_all}
use Rattle.store_holdings.proofs.lookups.find.Goals as goal

pub returns-in_err-found-clause-handed : goal.returns-in_err-found-clause-handed
returns-in_err-found-clause-handed g c =
    let p = err_from_is_err_and c.from_residual.result c.from_residual.ensures.1 in
    ([], rw (p.1, p.2) (hands_front g.T.RowSink.takes g.T.RowSink.stops c.args.sink.now c.args.sink.now _ [] [] [] refl (g.met.T.RowSink.none c.args.sink.now)))

pub hand_found-requires : goal.hand_found-requires
hand_found-requires g c = λ clean live. (c.requires clean live).parts

-- ---- those found were handed out, or the sink stopped

pub returns-in-Ok-clause-value : goal.returns-in-Ok-clause-value
returns-in-Ok-clause-value g c clean edition text cuts are held =
    let index = c.args.index.now in
    let query = c.args.query.now in
    let all = found_rows c.args.strategy query edition in
    let entries : entries_at index c.as_slice-places.result.now ≡ found_entries c.args.strategy query index =
    ap (entries_at index) c.as_slice-places.ensures.value ∙ (c.in_ok-found.ensures.entries ∙ ap (λ (q : List ℕ). found_entries c.args.strategy q index) c.as_bytes.ensures) in
    let rows : map (row_in text) (entries_at index c.as_slice-places.result.now) ≡ all = ap (map (row_in text)) entries ∙ rows_cut c.args.strategy query index edition c.edition_laws.ensures.rows text cuts in
    let hands = c.hand_found.ensures.value clean text cuts.short (record { kept = are; held = held }) in
    subst (Hands g.T.RowSink.takes g.T.RowSink.stops c.args.sink.now c.hand_found.new.sink all) c.in-Ok.is
    (subst (λ (rs : List Row). Hands g.T.RowSink.takes g.T.RowSink.stops c.args.sink.now c.hand_found.new.sink rs c.hand_found.result) rows hands)

pub returns-in-Ok-clause-handed : goal.returns-in-Ok-clause-handed
returns-in-Ok-clause-handed g c =
    let handed = c.hand_found.ensures.handed in
    (handed.0, subst (Hands g.T.RowSink.takes g.T.RowSink.stops c.args.sink.now c.hand_found.new.sink handed.0) c.in-Ok.is handed.1)

pub returns-in-Ok-clause-taken : goal.returns-in-Ok-clause-taken
returns-in-Ok-clause-taken g c all =
    let index = c.args.index.now in
    let read = c.in-Ok.ensures.counted in
    let looked : c.in_ok-found.found.looked_at ≡ count_selected c.args.strategy c.args.query.now index = c.in_ok-found.ensures.looked_at ∙ ap (λ (q : List ℕ). count_selected c.args.strategy q index) c.as_bytes.ensures in
    let counted : c.looked_at-looked.result ≡ c.in_ok-found.found.looked_at = c.looked_at-looked.ensures (ap end_of all) in (
      read.0,
      more_all c.args.rows_taken.now c.hand_found.new.rows_taken _ c.looked_at-looked.result (count_selected c.args.strategy c.args.query.now index) read.0 read.1 (counted ∙ looked) c.saturating_add.ensures,
    )

pub returns-in-Ok-clause-looks : goal.returns-in-Ok-clause-looks
returns-in-Ok-clause-looks g c edition is all =
    let read = c.in-Ok.ensures.counted in
    let few = few_of c.args.strategy c.args.query.now _ c.args.index.now edition c.in_ok-found.found.looked_at c.edition_laws.ensures.entries_counted c.as_bytes.ensures c.in_ok-found.ensures.fewer is in
    let most : count_of Entries c.args.strategy c.args.query.now edition ≤ c.looked_at-looked.result = subst (λ n. count_of Entries c.args.strategy c.args.query.now edition ≤ n) (sym (c.looked_at-looked.ensures (ap end_of all))) few in
    looks_more c.args.rows_taken.now c.hand_found.new.rows_taken _ c.looked_at-looked.result _ read.0 read.1 most c.saturating_add.ensures

-- ---- a text wasn't there

pub returns-clause-value : goal.returns-clause-value
returns-clause-value g c clean edition text cuts are held =
    let index = c.args.index.now in
    let query = c.args.query.now in
    let all = found_rows c.args.strategy query edition in
    let entries : entries_at index c.as_slice-places.result.now ≡ found_entries c.args.strategy query index =
    ap (entries_at index) c.as_slice-places.ensures.value ∙ (c.in_ok-found.ensures.entries ∙ ap (λ (q : List ℕ). found_entries c.args.strategy q index) c.as_bytes.ensures) in
    let rows : map (row_in text) (entries_at index c.as_slice-places.result.now) ≡ all = ap (map (row_in text)) entries ∙ rows_cut c.args.strategy query index edition c.edition_laws.ensures.rows text cuts in
    let hands = c.hand_found.ensures.value clean text cuts.short (record { kept = are; held = held }) in
    subst (Hands g.T.RowSink.takes g.T.RowSink.stops c.args.sink.now c.hand_found.new.sink all) c.in-Err.is
    (subst (λ (rs : List Row). Hands g.T.RowSink.takes g.T.RowSink.stops c.args.sink.now c.hand_found.new.sink rs c.hand_found.result) rows hands)

pub returns-clause-handed : goal.returns-clause-handed
returns-clause-handed g c =
    let handed = c.hand_found.ensures.handed in
    (handed.0, subst (Hands g.T.RowSink.takes g.T.RowSink.stops c.args.sink.now c.hand_found.new.sink handed.0) c.in-Err.is handed.1)
