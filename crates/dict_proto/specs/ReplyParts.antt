-- What the parts of a reply line stand for.
use Rattle.std.specs.Prelude.{ℕ, List, decimal}
use Rattle.dict_proto.specs.Text.{quoted}
use Rattle.dict_proto.specs.declared.part.ReplyPart.{ReplyPart}
use Rattle.dict_proto.specs.declared.part.ReplyPart.TheVariants.{Octets, Number, Quoted}

abbrev pub part_octets : ReplyPart → List ℕ
part_octets (Octets octets) = octets.now
part_octets (Number n) = decimal n
part_octets (Quoted text) = quoted text.now
