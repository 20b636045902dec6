use Rattle.dict_proto.proofs.PutLemmas.{puts_after}
use Rattle.dict_proto.specs.Replies.{info_heading_octets, info_text_octets}
use Rattle.dict_session.proofs.rows.put_info_row.Goals as goal

pub returns : goal.returns
returns g c = puts_after c.write_reply-2.result _ _ _ info_heading_octets (info_text_octets c.args.text.now) c.in_ok-write_reply.ensures c.write_reply-2.ensures
