use Rattle.std.proofs.Common.{List, ap, ◌∙◌, subst, map, sym}
use Rattle.dict_proto.specs.Streams.{Puts}
use Rattle.dict_session.specs.Answers.{no_rows}
use Rattle.dict_session.specs.Ending.{PutsAnswer}
use Rattle.dict_catalogue.specs.Views.{item_shown}
use Rattle.dict_catalogue.specs.declared.summary.Item.{Item as SummaryItem}
use Rattle.dict_session.specs.Shows.{databases_answer}
use Rattle.dict_session.proofs.ShowLemmas.{not_open, databases_are}
use Rattle.dict_session.proofs.show.put_databases.Goals as goal

pub returns-in-Ok : goal.returns-in-Ok
returns-in-Ok g c = λ M shown failed.
    c.whole.ensures (g.K.Sink.stream c.args.sink.now) (g.K.Sink.stream c.put_items.new.sink) (databases_answer M) failed no_rows (g.L.Lookup.is_closed c.args.desk.now)
    (subst (Puts c.put_items.result (g.K.Sink.stream c.args.sink.now) (g.K.Sink.stream c.put_items.new.sink))
    (databases_are M (map item_shown c.deref.result.now) (ap (λ (items : List SummaryItem). map item_shown items) c.deref.ensures.value ∙ ap (λ h. h.items) (c.in-Ok.ensures.value M shown))) c.put_items.ensures)

pub returns-in-Err : goal.returns-in-Err
returns-in-Err g c = λ M shown failed.
    subst (PutsAnswer failed c.put_unavailable.result (g.K.Sink.stream c.args.sink.now) (g.K.Sink.stream c.put_unavailable.new.sink) (databases_answer M) no_rows) (sym (not_open _ c.in-Err.ensures.open))
    (c.put_unavailable.ensures (databases_answer M) failed no_rows)
