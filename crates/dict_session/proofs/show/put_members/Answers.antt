use Rattle.std.proofs.Common.{◌++◌, map}
use Rattle.dict_proto.proofs.PutLemmas.{puts_err, puts_after, front_after, front_longer}
use Rattle.dict_catalogue.specs.Views.{item_shown, texts_shown}
use Rattle.dict_proto.specs.Replies.{info_heading_octets, list_end_octets, done_octets}
use Rattle.dict_session.specs.Rows.{members_octets}
use Rattle.dict_session.proofs.show.put_members.Goals as goal

pub returns-in_err-put_member_lines : goal.returns-in_err-put_member_lines
returns-in_err-put_member_lines g c =
    let lines = members_octets (map item_shown c.args.items.now) (texts_shown c.args.members.now) in
    puts_err _ _ _ _ c.from_residual-in_err-put_member_lines.ensures.0 (front_after _ _ _ info_heading_octets (lines ++ (list_end_octets ++ done_octets)) c.in_ok-write_reply.ensures
    (front_longer _ _ lines (list_end_octets ++ done_octets) c.in_err-put_member_lines.ensures))

pub returns : goal.returns
returns g c =
    let lines = members_octets (map item_shown c.args.items.now) (texts_shown c.args.members.now) in
    puts_after c.put_list_end.result _ _ _ info_heading_octets (lines ++ (list_end_octets ++ done_octets)) c.in_ok-write_reply.ensures
    (puts_after c.put_list_end.result _ _ _ lines (list_end_octets ++ done_octets) c.in_ok-put_member_lines.ensures c.put_list_end.ensures)
