use Rattle.std.proofs.Common.{◌∷◌}
use Rattle.std.specs.List.{flat_map}
use Rattle.dict_text.specs.Lines.{text_lines}
use Rattle.dict_proto.specs.Text.{crlf, sent_line, block}
use Rattle.dict_proto.proofs.GatheringLemmas.{gathers_err, gathers_after, front_more}
use Rattle.dict_proto.proofs.text.add_text.Goals as goal

pub returns-in_err-add_lines : goal.returns-in_err-add_lines
returns-in_err-add_lines g c =
    gathers_err _ _ _ c.args.gathered.now.octets.items _ (block (text_lines c.args.text.now)) c.from_residual.ensures.0
    (front_more _ _ c.args.gathered.now.octets.items (flat_map sent_line (text_lines c.args.text.now)) (46 ∷ crlf) c.in_err-add_lines.ensures)

pub returns : goal.returns
returns g c = gathers_after _ _ _ _ _ _ _ _ _ c.in_ok-add_lines.ensures c.add.ensures
