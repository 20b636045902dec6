use Rattle.std.proofs.Common.{take, map}
use Rattle.std.specs.List.{flat_map}
use Rattle.dict_catalogue.specs.Views.{item_shown}
use Rattle.dict_proto.specs.Streams.{PutsAll}
use Rattle.dict_session.specs.Rows.{shown_line}
use Rattle.dict_session.proofs.show.put_item_lines.Given as goal

abbrev pub invariant-loop-item : goal.invariant-loop-item
invariant-loop-item g l = PutsAll (g.K.Sink.stream l.fn.sink) (g.K.Sink.stream l.sink) (flat_map shown_line (take l.item-index (map item_shown l.items)))
