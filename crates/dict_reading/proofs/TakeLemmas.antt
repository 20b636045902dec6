-- A line that is taken from an index.
use Rattle.std.proofs.Common.{◌≡◌, ℕ, ◌≤◌, List, ◌∷◌, ◌++◌, [], refl, sym, subst, arith}
use Rattle.std.specs.Str.{IsUtf8}
use Rattle.dict_index.specs.Line.{IsLine}
use Rattle.dict_index.specs.Views.{octets_of}
use Rattle.dict_index.proofs.CutLemmas.{utf8_parts}
use Rattle.dict_index.proofs.LineLemmas.{line_from_columns}
use Rattle.dict_index.proofs.ReadLemmas.{headword_utf8}
use Rattle.dict_reading.specs.Columns.{AreSaidBy, line_said}
use Rattle.dict_reading.specs.Places.{line_in, LiesBelow}
use Rattle.dict_reading.specs.declared.columns.Said.{Said}
use Rattle.dict_reading.specs.declared.places.EntryPlace.{EntryPlace}

pub said_is : (line : List ℕ) (said : Said) → AreSaidBy line said → IsLine line (line_said said)
said_is line said a = line_from_columns line said.headword.now a.offset_text a.size_text (octets_of said.fourth) said.offset said.size a.are a.offset a.size

pub placed_is : (index line : List ℕ) (said : Said) (place : EntryPlace) → AreSaidBy line said → line_in index place ≡ line_said said → IsLine line (line_in index place)
placed_is index line said place a e = subst (IsLine line) (sym e) (said_is line said a)

pub said_utf8 : (line : List ℕ) (said : Said) → IsUtf8 (line ++ 10 ∷ []) → AreSaidBy line said → IsUtf8 said.headword.now
said_utf8 line said u a = headword_utf8 line said.headword.now a.offset_text a.size_text (octets_of said.fourth) (utf8_parts (line ++ 10 ∷ []) line [] 10 refl (omega arith) u).0 a.are

pub below_more : (least most : ℕ) (place : EntryPlace) → least ≤ most → LiesBelow least place → LiesBelow most place
below_more least most place le b = record { headword = (let h = b.headword in omega arith); shown = (let s = b.shown in omega arith) }
