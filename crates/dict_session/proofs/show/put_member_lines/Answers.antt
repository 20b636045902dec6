use Rattle.std.proofs.Common.{List, ℕ, arith, map, subst}
use Rattle.std.specs.Prelude.{string_bytes}
use Rattle.std.specs.List.{flat_map}
use Rattle.dict_proto.specs.Streams.{PutsAll, PutsFront}
use Rattle.dict_proto.proofs.PutLemmas.{puts_err}
use Rattle.dict_catalogue.specs.Views.{item_shown}
use Rattle.dict_session.specs.Rows.{line_if_named}
use Rattle.dict_session.proofs.ShowLemmas.{loop_front, loop_more}
use Rattle.dict_session.proofs.show.put_member_lines.Goals as goal

pub returns-in_err-put_named : goal.returns-in_err-put_named
returns-in_err-put_named g c =
    puts_err _ _ _ _ c.from_residual.ensures.0 (loop_front (λ (member : List ℕ). flat_map (line_if_named member) (map item_shown c.args.items.now)) string_bytes c.args.members.now c.loop-member.member-index c.member-item.result
    (omega arith) c.member-item.is
    (g.K.Sink.stream c.args.sink.now) (g.K.Sink.stream c.loop-member.sink) (g.K.Sink.stream c.put_named.new.sink) c.loop-member.invariant
    (subst (λ (name : List ℕ). PutsFront (g.K.Sink.stream c.loop-member.sink) (g.K.Sink.stream c.put_named.new.sink) (flat_map (line_if_named name) (map item_shown c.args.items.now))) c.as_str.ensures.value
    c.in_err-put_named.ensures))

pub loop-member-preserved : goal.loop-member-preserved
loop-member-preserved g c =
    loop_more (λ (member : List ℕ). flat_map (line_if_named member) (map item_shown c.args.items.now)) string_bytes c.args.members.now c.loop-member.member-index c.member-item.result (omega arith) c.member-item.is
    (g.K.Sink.stream c.args.sink.now) (g.K.Sink.stream c.loop-member.sink) (g.K.Sink.stream c.put_named.new.sink) c.loop-member.invariant
    (subst (λ (name : List ℕ). PutsAll (g.K.Sink.stream c.loop-member.sink) (g.K.Sink.stream c.put_named.new.sink) (flat_map (line_if_named name) (map item_shown c.args.items.now))) c.as_str.ensures.value
    c.in_ok-put_named.ensures)
