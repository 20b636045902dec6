use Rattle.std.proofs.Common.{◌≡◌, take, drop}
use Rattle.dict_proto.specs.LineWords.{words_from, within}
use Rattle.dict_proto.specs.Places.{place_of}
use Rattle.dict_proto.specs.Content.{content_from}
use Rattle.dict_proto.proofs.LineWordsLemmas.{onto_all}
use Rattle.dict_proto.proofs.PlaceLemmas.{IsInside}
use Rattle.dict_proto.proofs.ContentLemmas.{place_from}
use Rattle.dict_proto.proofs.words.first_word.Given as goal

abbrev pub invariant-loop-i : goal.invariant-loop-i
invariant-loop-i l = record {
  inside : IsInside (place_of l.place);
  place : place_of l.place ≡ place_from within (take l.i l.text);
  read : words_from within l.text ≡ onto_all (content_from within (take l.i l.text)) (words_from (place_of l.place) (drop l.i l.text));
}
