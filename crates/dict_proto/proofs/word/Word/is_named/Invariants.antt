use Rattle.std.proofs.Common.{◌≡◌, drop}
use Rattle.dict_proto.specs.LineWords.{within}
use Rattle.dict_proto.specs.Meaning.{is_word_named}
use Rattle.dict_proto.specs.Places.{place_of}
use Rattle.dict_proto.specs.Content.{content_from}
use Rattle.dict_proto.proofs.word.Word.is_named.Given as goal

abbrev pub invariant-loop-octet : goal.invariant-loop-octet
invariant-loop-octet l = is_word_named (content_from within l.self.spelling.now) l.fn.name ≡ is_word_named (content_from (place_of l.place) (drop l.octet-index l.self.spelling.now)) l.left
