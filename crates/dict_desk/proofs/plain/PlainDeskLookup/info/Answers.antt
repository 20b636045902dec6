use Rattle.std.proofs.Common.{◌≡◌, List, ap, subst}
use Rattle.dict_index.specs.Edition.{Edition}
use Rattle.dict_catalogue.specs.Items.{Stored}
use Rattle.dict_index.specs.Found.{Row, info_rows}
use Rattle.dict_desk.proofs.HandingLemmas.{hands_end}
use Rattle.dict_desk.proofs.DeskLemmas.{same_some, none_some, has_here}
use Rattle.dict_desk.proofs.plain.PlainDeskLookup.info.Goals as goal

pub returns-in-Some-clause-value : goal.returns-in-Some-clause-value
returns-in-Some-clause-value g c = λ trusted M edition shown has.
    let same = same_some _ _ (c.in-Some.ensures edition (has_here M _ _ c.args.number edition c.self.view_is shown.0 has)) in
    let rows : info_rows c.in-Some.edition.now.content ≡ info_rows edition = ap (λ (stored : Stored Edition). info_rows stored.content) same in
    hands_end g.T.RowSink.takes g.T.RowSink.stops c.args.sink.now c.info.new.sink c.info.result (info_rows edition)
    (λ e. subst (λ (handed : List Row). g.T.RowSink.takes c.args.sink.now handed c.info.new.sink) rows (c.info.ensures.all e))
    (λ e. subst (λ (handed : List Row). g.T.RowSink.stops c.args.sink.now handed c.info.new.sink) rows (c.info.ensures.stopped e))

pub returns-in-None-clause-value : goal.returns-in-None-clause-value
returns-in-None-clause-value g c = λ trusted M edition shown has.
    none_some _ _ (c.in-None.ensures edition (has_here M _ _ c.args.number edition c.self.view_is shown.0 has))
