use Rattle.std.proofs.Common.{take, map}
use Rattle.std.specs.List.{flat_map}
use Rattle.dict_catalogue.specs.Views.{item_shown}
use Rattle.dict_proto.specs.Streams.{PutsAll}
use Rattle.dict_session.specs.Rows.{line_if_named}
use Rattle.dict_session.proofs.show.put_named.Given as goal

abbrev pub invariant-loop-item : goal.invariant-loop-item
invariant-loop-item g l = PutsAll (g.K.Sink.stream l.fn.sink) (g.K.Sink.stream l.sink) (flat_map (line_if_named l.name) (take l.item-index (map item_shown l.items)))
