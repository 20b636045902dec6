use Rattle.std.proofs.Common.{◌≡◌, ◌≤◌, ◌++◌, drop, length}
use Rattle.std.specs.Prelude.{vec_len, vec_capacity}
use Rattle.dict_proto.specs.LineWords.{within}
use Rattle.dict_proto.specs.Places.{place_of}
use Rattle.dict_proto.specs.Content.{content_from}
use Rattle.dict_proto.proofs.word.Word.content.Given as goal

abbrev pub invariant-loop-octet : goal.invariant-loop-octet
invariant-loop-octet l = record {
  read : content_from within l.self.spelling.now ≡ l.content.items ++ content_from (place_of l.place) (drop l.octet-index l.self.spelling.now);
  taken : vec_len l.content ≤ l.octet-index;
  room : vec_capacity l.content ≡ length l.self.spelling.now;
}
