use Rattle.std.proofs.Common.{◌≡◌, ℕ, List, map, subst, ap, ◌∙◌, arith}
use Rattle.dict_index.specs.Found.{Row, headword_rows}
use Rattle.dict_desk.proofs.HandingLemmas.{hands_end}
use Rattle.store_search.specs.Entries.{entries_at, headword_row, indexed_shown}
use Rattle.store_search.specs.Found.{found_headwords}
use Rattle.store_holdings.proofs.IndexLemmas.{heads_are, few_of}
use Rattle.store_holdings.proofs.TakenLemmas.{looks_more, none_more}
use Rattle.store_holdings.proofs.lookups.heads.Goals as goal

pub returns-clause-value : goal.returns-clause-value
returns-clause-value g c = λ edition is.
    let index = c.args.index.now in
    let query = c.args.query.now in
    let shown : map indexed_shown (entries_at index c.in_ok-found.found.places.items) ≡ found_headwords c.args.strategy query index =
    c.in_ok-found.ensures.shown ∙ ap (λ (q : List ℕ). found_headwords c.args.strategy q index) c.as_bytes.ensures in
    let rows : map headword_row (map indexed_shown (entries_at index c.as_slice.result.now)) ≡ headword_rows c.args.strategy query edition =
    ap (λ (places : List ℕ). map headword_row (map indexed_shown (entries_at index places))) c.as_slice.ensures.value ∙ (ap (map headword_row) shown ∙ heads_are c.args.strategy query index edition c.edition_laws.ensures.headwords is) in
    hands_end g.T.RowSink.takes g.T.RowSink.stops c.args.sink.now c.hand_headwords.new.sink c.hand_headwords.result (headword_rows c.args.strategy query edition)
    (λ e. subst (λ (all : List Row). g.T.RowSink.takes c.args.sink.now all c.hand_headwords.new.sink) rows (c.hand_headwords.ensures.all e))
    (λ e. subst (λ (all : List Row). g.T.RowSink.stops c.args.sink.now all c.hand_headwords.new.sink) rows (c.hand_headwords.ensures.stopped e))

pub returns-clause-looks : goal.returns-clause-looks
returns-clause-looks g c = λ edition is.
    looks_more c.args.rows_taken.now c.args.rows_taken.now c.saturating_add.result c.in_ok-found.found.looked_at _ 0 (none_more c.args.rows_taken.now (omega arith))
    (few_of c.args.strategy c.args.query.now _ c.args.index.now edition c.in_ok-found.found.looked_at c.edition_laws.ensures.entries_counted c.as_bytes.ensures c.in_ok-found.ensures.fewer is) c.saturating_add.ensures
