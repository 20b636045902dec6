use Rattle.std.proofs.Common.{◌≡◌, [], ◌∷◌, subst, ◌∙◌}
use Rattle.dict_index.specs.Found.{Row, row}
use Rattle.dict_desk.specs.declared.sink.Demand.TheVariants.{More, Stop}
use Rattle.store_search.specs.Entries.{entry_at, row_in}
use Rattle.store_holdings.proofs.HandLemmas.{entry_row, ok_demand}
use Rattle.store_holdings.proofs.found.hand_entry.Goals as goal

-- ---- the text is there

pub returns-in-Ok-clause-more : goal.returns-in-Ok-clause-more
returns-in-Ok-clause-more g c clean text short has all =
    let entry = entry_at c.args.index.now c.args.place in
    let is : row c.entry-entry.result.shown.now c.as_slice.result.now ≡ row_in text entry =
    entry_row text entry c.entry-entry.result.shown.now c.as_slice.result.now c.entry-entry.result.start c.entry-entry.result.size c.entry-entry.ensures.shown c.entry-entry.ensures.start c.entry-entry.ensures.size
    (c.as_slice.ensures.value ∙ c.in-Ok.ensures.value clean text short has) in
    subst (λ (one : Row). g.T.RowSink.takes c.args.sink.now (one ∷ []) c.take.new.self) is (c.take.ensures.more (ok_demand c.take.result More all))

pub returns-in-Ok-clause-stop : goal.returns-in-Ok-clause-stop
returns-in-Ok-clause-stop g c clean text short has all =
    let entry = entry_at c.args.index.now c.args.place in
    let is : row c.entry-entry.result.shown.now c.as_slice.result.now ≡ row_in text entry =
    entry_row text entry c.entry-entry.result.shown.now c.as_slice.result.now c.entry-entry.result.start c.entry-entry.result.size c.entry-entry.ensures.shown c.entry-entry.ensures.start c.entry-entry.ensures.size
    (c.as_slice.ensures.value ∙ c.in-Ok.ensures.value clean text short has) in
    subst (λ (one : Row). g.T.RowSink.stops c.args.sink.now (one ∷ []) c.take.new.self) is (c.take.ensures.stop (ok_demand c.take.result Stop all))

pub returns-in-Ok-clause-handed : goal.returns-in-Ok-clause-handed
returns-in-Ok-clause-handed g c = (row c.entry-entry.result.shown.now c.as_slice.result.now, (λ all. c.take.ensures.more (ok_demand c.take.result More all)), (λ all. c.take.ensures.stop (ok_demand c.take.result Stop all)))

-- ---- it isn't

pub returns-in-Err-clause-more : goal.returns-in-Err-clause-more
returns-in-Err-clause-more g c clean text short has all = cc

pub returns-in-Err-clause-stop : goal.returns-in-Err-clause-stop
returns-in-Err-clause-stop g c clean text short has all = cc

pub returns-in-Err-clause-handed : goal.returns-in-Err-clause-handed
returns-in-Err-clause-handed g c = (row [] [], (λ all. cc), (λ all. cc))
