use Rattle.std.proofs.Common.{arith}
use Rattle.dict_proto.proofs.PutLemmas.{puts_err}
use Rattle.dict_catalogue.specs.Views.{item_shown}
use Rattle.dict_session.specs.Rows.{line_if_named}
use Rattle.dict_session.proofs.ShowLemmas.{loop_front, loop_more}
use Rattle.dict_session.proofs.show.put_named.Goals as goal

pub returns-in_err-put_if_named : goal.returns-in_err-put_if_named
returns-in_err-put_if_named g c =
    puts_err _ _ _ _ c.from_residual.ensures.0 (loop_front (line_if_named c.args.name.now) item_shown c.args.items.now c.loop-item.item-index c.item-item.result (omega arith) c.item-item.is
    (g.K.Sink.stream c.args.sink.now) (g.K.Sink.stream c.loop-item.sink) (g.K.Sink.stream c.put_if_named.new.sink) c.loop-item.invariant c.in_err-put_if_named.ensures)

pub loop-item-preserved : goal.loop-item-preserved
loop-item-preserved g c =
    loop_more (line_if_named c.args.name.now) item_shown c.args.items.now c.loop-item.item-index c.item-item.result (omega arith) c.item-item.is
    (g.K.Sink.stream c.args.sink.now) (g.K.Sink.stream c.loop-item.sink) (g.K.Sink.stream c.put_if_named.new.sink) c.loop-item.invariant c.in_ok-put_if_named.ensures
