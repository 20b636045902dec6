-- The content of a word, as it is read octet by octet.
use Rattle.std.specs.Prelude.{ℕ, List, [], ◌∷◌, if◌then◌else◌}
use Rattle.dict_proto.specs.LineWords.{Place, next_place, within}
use Rattle.dict_proto.specs.Places.{is_content}
use Rattle.dict_proto.specs.declared.word.Word.{Word}

-- the content that octets from a place on spell
abbrev pub content_from : Place → List ℕ → List ℕ
content_from place [] = []
content_from place (c ∷ cs) = if is_content place c then c ∷ content_from (next_place place c) cs else content_from (next_place place c) cs

-- a word without its quoting
abbrev pub content_of : Word → List ℕ
content_of word = content_from within word.spelling.now
