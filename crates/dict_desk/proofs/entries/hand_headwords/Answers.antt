use Rattle.std.proofs.Common.{◌≡◌, ◌+◌, ◌<◌, List, [], ◌∷◌, length, take, refl, sym, ap, subst, ◌∙◌, arith}
use Rattle.std.specs.Prelude.{Some, slice_get}
use Rattle.dict_index.specs.Found.{Row, row}
use Rattle.dict_desk.specs.PlainEntries.{shown_by, rows_listed}
use Rattle.dict_desk.proofs.LinkLemmas.{read_at}
use Rattle.dict_desk.proofs.ListedLemmas.{listed_cut, listed_more, listed_same, some_at, listed_within}
use Rattle.dict_desk.proofs.entries.hand_headwords.Goals as goal
use Rattle.dict_desk.proofs.entries.hand_headwords.Goals.{then-lists+in_default, else-lists}

pub returns-in-Stop-clause-stopped : goal.returns-in-Stop-clause-stopped
returns-in-Stop-clause-stopped g c = λ e.
    let strategy = c.args.strategy in
    let query = c.args.query.now in
    let entries = c.args.entries.now in
    let i = c.loop-place.place in
    let entry = c.index-entries-place.result in
    let at : slice_get entries i ≡ Some entry = read_at entries i entry (omega (arith, c.loop-place-test.true, c.requires.within.fits)) c.index-entries-place.is in
    let (rest, cut) = listed_cut strategy query entries i entry at (sym (c.lists.ensures entry at) ∙ c.if-lists.true) in
    subst (λ (rows : List Row). g.T.RowSink.stops c.args.sink.now rows c.hand_shown.new.sink) (sym cut)
    (g.met.T.RowSink.stopped c.args.sink.now c.loop-place.sink c.hand_shown.new.sink (rows_listed strategy query (take i entries)) (row (shown_by entry) [] ∷ []) rest c.loop-place.invariant (c.in-Stop.ensures.stop refl))

pub loop-place-preserved : goal.loop-place-preserved
loop-place-preserved g c =
    let strategy = c.args.strategy in
    let query = c.args.query.now in
    let entries = c.args.entries.now in
    let i = c.loop-place.place in
    let below : i < length entries = omega (arith, c.loop-place-test.true, c.requires.within.fits) in
    elim c.if-lists.branch [
      | then-lists+in_default w ↦
          let entry = w.index-entries-place.result in
          let at : slice_get entries i ≡ Some entry = read_at entries i entry below w.index-entries-place.is in
          subst (λ sink. g.T.RowSink.takes c.args.sink.now (rows_listed strategy query (take (i + 1) entries)) sink) (sym w.sink-is)
          (subst (λ (rows : List Row). g.T.RowSink.takes c.args.sink.now rows w.hand_shown.new.sink) (sym (listed_more strategy query entries i entry at (sym (c.lists.ensures entry at) ∙ w.if-lists.true)))
          (g.met.T.RowSink.joined c.args.sink.now c.loop-place.sink w.hand_shown.new.sink (rows_listed strategy query (take i entries)) (row (shown_by entry) [] ∷ []) c.loop-place.invariant (w.hand_shown.ensures.more w.in_default.is)))
      | else-lists w ↦
          let (x, at) = some_at entries i below in
          subst (λ sink. g.T.RowSink.takes c.args.sink.now (rows_listed strategy query (take (i + 1) entries)) sink) (sym w.sink-is)
          (subst (λ (rows : List Row). g.T.RowSink.takes c.args.sink.now rows c.loop-place.sink) (sym (listed_same strategy query entries i x at (sym (c.lists.ensures x at) ∙ w.if-lists.false))) c.loop-place.invariant)
    ]

pub returns-clause-all : goal.returns-clause-all
returns-clause-all g c = λ e.
    subst (λ (rows : List Row). g.T.RowSink.takes c.args.sink.now rows c.loop-place.sink)
    (ap (λ n. rows_listed c.args.strategy c.args.query.now (take n c.args.entries.now))
    (let ends : c.loop-place.place ≡ c.args.span.end = omega (arith, c.loop-place-test.false, c.loop-place.auto.place-end c.requires.within.ordered) in ends)
    ∙ listed_within c.args.strategy c.args.query.now c.args.entries.now c.args.span.first c.args.span.end c.requires.within)
    c.loop-place.invariant
