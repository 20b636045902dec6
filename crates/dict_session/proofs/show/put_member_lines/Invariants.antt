use Rattle.std.proofs.Common.{take, map}
use Rattle.std.specs.List.{flat_map}
use Rattle.dict_catalogue.specs.Views.{item_shown, texts_shown}
use Rattle.dict_proto.specs.Streams.{PutsAll}
use Rattle.dict_session.specs.Rows.{line_if_named}
use Rattle.dict_session.proofs.show.put_member_lines.Given as goal

abbrev pub invariant-loop-member : goal.invariant-loop-member
invariant-loop-member g l = PutsAll (g.K.Sink.stream l.fn.sink) (g.K.Sink.stream l.sink) (flat_map (λ member. flat_map (line_if_named member) (map item_shown l.items)) (take l.member-index (texts_shown l.members)))
