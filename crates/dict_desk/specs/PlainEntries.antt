-- The entries of an edition that is kept in memory.
use Rattle.std.specs.Prelude.{◌≡◌, ◌≤◌, ℕ, suc, Bool, List, [], map, filter, take, drop, length, slice_get, string_bytes, Option, Some, None, option_map, IfSome}
use Rattle.std.specs.List.{list_any}
use Rattle.std.specs.Str.{bytes_eq}
use Rattle.dict_match.specs.Key.{key_of}
use Rattle.dict_match.specs.declared.strategy.Strategy.{Strategy}
use Rattle.dict_index.specs.Line.{Line}
use Rattle.dict_index.specs.Edition.{Entry, entry_in}
use Rattle.dict_index.specs.Found.{is_headword_found, distinct, Row, row, row_of}
use Rattle.dict_desk.specs.declared.entries.OwnedEntry.{OwnedEntry}

abbrev pub headword_of : OwnedEntry → List ℕ
headword_of entry = string_bytes entry.said.value.headword

-- what replies show of the entry
abbrev pub shown_by : OwnedEntry → List ℕ
shown_by entry = string_bytes entry.said.value.shown

-- the line of the index that made the entry
abbrev pub owned_line_of : OwnedEntry → Line
owned_line_of entry = record { headword = headword_of entry; offset = entry.said.value.offset; size = entry.said.value.size; shown = shown_by entry }

-- the entry, with the text that its interval cuts out
abbrev pub entry_cut_from : List ℕ → OwnedEntry → Entry
entry_cut_from text entry = entry_in text (owned_line_of entry)

-- the key is the headword's
abbrev pub IsKeyedByHeadword : OwnedEntry → Type 0
IsKeyedByHeadword entry = entry.key ≡ key_of (headword_of entry)

-- so many entries stand up to a place, or none
abbrev pub up_to : Option ℕ → ℕ
up_to None = 0
up_to (Some place) = suc place

-- of these entries the last that shows the text stands at this place, or none of them shows it
pub record IsLastShown (entries : List OwnedEntry) (text : List ℕ) (last : Option ℕ) : Type 0 where
  pub shows : IfSome last (λ place. option_map shown_by (slice_get entries place) ≡ Some text)
  pub behind : filter (λ entry. bytes_eq text (shown_by entry)) (drop (up_to last) entries) ≡ []

-- each entry is linked to the last one before it that shows the same text
abbrev pub AreLinked : List OwnedEntry → Type 0
AreLinked entries = (place : ℕ) (entry : OwnedEntry) → slice_get entries place ≡ Some entry → IsLastShown (take place entries) (shown_by entry) entry.said.value.earlier

-- a query finds the entry
abbrev pub is_hit_of : Strategy → List ℕ → OwnedEntry → Bool
is_hit_of strategy query entry = is_headword_found strategy query (headword_of entry)

-- a query finds one of the entries that shows this text
abbrev pub is_shown : Strategy → List ℕ → List ℕ → List OwnedEntry → Bool
is_shown strategy query text entries = list_any (bytes_eq text) (map shown_by (filter (is_hit_of strategy query) entries))

-- the rows that are handed out of these entries, as they are gone through
abbrev pub rows_found : List ℕ → Strategy → List ℕ → List OwnedEntry → List Row
rows_found text strategy query entries = map (λ entry. row_of (entry_cut_from text entry)) (filter (is_hit_of strategy query) entries)

-- what is shown of those that a query finds, each text once
abbrev pub texts_listed : Strategy → List ℕ → List OwnedEntry → List (List ℕ)
texts_listed strategy query entries = distinct (map shown_by (filter (is_hit_of strategy query) entries))

abbrev pub rows_listed : Strategy → List ℕ → List OwnedEntry → List Row
rows_listed strategy query entries = map (λ shown. row shown []) (texts_listed strategy query entries)

-- all elements of this kind lie between two places: none before the first, none from the end on
pub record LieWithin {X : Type 0} (p : X → Bool) (xs : List X) (first end : ℕ) : Type 0 where
  pub before : filter p (take first xs) ≡ []
  pub behind : filter p (drop end xs) ≡ []
  pub ordered : first ≤ end
  pub fits : end ≤ length xs
