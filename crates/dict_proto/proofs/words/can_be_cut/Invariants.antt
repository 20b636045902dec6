use Rattle.std.proofs.Common.{◌≡◌, drop}
use Rattle.std.specs.Prelude.{is_some}
use Rattle.dict_proto.specs.LineWords.{line_words, words_from}
use Rattle.dict_proto.specs.Places.{place_of}
use Rattle.dict_proto.proofs.words.can_be_cut.Given as goal

abbrev pub invariant-loop-octet : goal.invariant-loop-octet
invariant-loop-octet l = is_some (line_words l.line) ≡ is_some (words_from (place_of l.place) (drop l.octet-index l.line))
