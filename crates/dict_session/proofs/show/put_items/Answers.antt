use Rattle.std.proofs.Common.{◌++◌, sym, subst, map, length}
use Rattle.std.specs.List.{flat_map}
use Rattle.std.proofs.lemmas.List.{length-map}
use Rattle.dict_proto.specs.Streams.{Puts}
use Rattle.dict_proto.proofs.PutLemmas.{puts_after, puts_err, front_after, front_longer}
use Rattle.dict_catalogue.specs.Views.{item_shown}
use Rattle.dict_proto.specs.Replies.{database_count_octets, list_end_octets, done_octets}
use Rattle.dict_session.specs.Rows.{shown_line}
use Rattle.dict_session.proofs.ShowLemmas.{items_some}
use Rattle.dict_session.proofs.show.put_items.Goals as goal

pub returns-in_err-put_item_lines : goal.returns-in_err-put_item_lines
returns-in_err-put_item_lines g c =
    let items = map item_shown c.args.items.now in
    let lines = flat_map shown_line items in
    let n = length c.args.items.now in
    subst (Puts c.from_residual-in_err-put_item_lines.result (g.K.Sink.stream c.args.sink.now) (g.K.Sink.stream c.put_item_lines.new.sink)) (items_some items n (sym (length-map c.args.items.now item_shown)) c.if-count-eq0.false)
    (puts_err _ _ _ _ c.from_residual-in_err-put_item_lines.ensures.0 (front_after _ _ _ (database_count_octets n) (lines ++ (list_end_octets ++ done_octets)) c.in_ok-write_reply.ensures
    (front_longer _ _ lines (list_end_octets ++ done_octets) c.in_err-put_item_lines.ensures)))

pub returns : goal.returns
returns g c =
    let items = map item_shown c.args.items.now in
    let lines = flat_map shown_line items in
    let n = length c.args.items.now in
    subst (Puts c.put_list_end.result (g.K.Sink.stream c.args.sink.now) (g.K.Sink.stream c.put_list_end.new.sink)) (items_some items n (sym (length-map c.args.items.now item_shown)) c.if-count-eq0.false)
    (puts_after c.put_list_end.result _ _ _ (database_count_octets n) (lines ++ (list_end_octets ++ done_octets)) c.in_ok-write_reply.ensures
    (puts_after c.put_list_end.result _ _ _ lines (list_end_octets ++ done_octets) c.in_ok-put_item_lines.ensures c.put_list_end.ensures))
