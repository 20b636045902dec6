use Rattle.std.proofs.Common.{◌≡◌, ℕ, List, ap, subst, ◌∙◌}
use Rattle.dict_index.specs.Edition.{Edition}
use Rattle.dict_catalogue.specs.Items.{Stored}
use Rattle.dict_index.specs.Found.{Row}
use Rattle.dict_desk.specs.Shown.{rows_given}
use Rattle.dict_desk.proofs.HandingLemmas.{hands_end}
use Rattle.dict_desk.proofs.DeskLemmas.{same_some, none_some, has_here}
use Rattle.dict_desk.proofs.plain.PlainDeskLookup.find.Goals as goal

pub returns-in-Some-clause-value : goal.returns-in-Some-clause-value
returns-in-Some-clause-value g c = λ trusted M edition shown has.
    let same = same_some _ _ (c.in-Some.ensures.same edition (has_here M _ _ c.args.number edition c.self.view_is shown.0 has)) in
    let rows : rows_given c.args.what c.args.strategy c.as_bytes.result.now c.in-Some.edition.now.content ≡ rows_given c.args.what c.args.strategy c.args.query.now edition =
    ap (λ (query : List ℕ). rows_given c.args.what c.args.strategy query c.in-Some.edition.now.content) c.as_bytes.ensures
    ∙ ap (λ (stored : Stored Edition). rows_given c.args.what c.args.strategy c.args.query.now stored.content) same in
    hands_end g.T.RowSink.takes g.T.RowSink.stops c.args.sink.now c.find.new.sink c.find.result (rows_given c.args.what c.args.strategy c.args.query.now edition)
    (λ e. subst (λ (handed : List Row). g.T.RowSink.takes c.args.sink.now handed c.find.new.sink) rows (c.find.ensures.all e))
    (λ e. subst (λ (handed : List Row). g.T.RowSink.stops c.args.sink.now handed c.find.new.sink) rows (c.find.ensures.stopped e))

pub returns-in-None-clause-value : goal.returns-in-None-clause-value
returns-in-None-clause-value g c = λ trusted M edition shown has.
    none_some _ _ (c.in-None.ensures.same edition (has_here M _ _ c.args.number edition c.self.view_is shown.0 has))
