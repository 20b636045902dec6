-- What has been gathered from the lines so far.
use Rattle.std.specs.Prelude.{◌≡◌, ◌+◌, ◌≤◌, ℕ, List, length, IsTrue, IfSome, map}
use Rattle.std.specs.List.{AllByRecursion, AllZip}
use Rattle.std.specs.Option.{option_map}
use Rattle.std.specs.Str.{IsUtf8}
use Rattle.std.specs.BTreeMap.{get_by_text}
use Rattle.dict_index.specs.Line.{Line, IsLine, body_in}
use Rattle.dict_index.specs.Reserved.{is_known_reserved, text_under}
use Rattle.dict_index.specs.Tests.{PassesLine}
use Rattle.dict_index.specs.Meaning.{entry_lines}
use Rattle.dict_index.specs.declared.fault.EditionRefusal.TheVariants.{ReservedTwice}
use Rattle.dict_reading.specs.Places.{octets_at, line_in, LiesBelow}
use Rattle.dict_reading.specs.declared.gathered.GatheredPlaces.{GatheredPlaces}
use Rattle.dict_reading.specs.declared.places.EntryPlace.{EntryPlace}
use Rattle.dict_reading.specs.declared.line.EditionLineFault.{EditionLineFault}
use Rattle.dict_reading.specs.declared.line.EditionLineFault.TheVariants.{Refused, Memory}

-- the interval that is said there lies within the text, and cuts out text
pub record HasTextIn (text : List ℕ) (place : EntryPlace) : Type 0 where
  pub within : place.offset + place.size ≤ length text
  pub utf8 : IsUtf8 (octets_at text place.offset place.size)

-- where the index says the entries of these lines, and the texts of the known reserved keys among them
pub record HasGatheredPlaces (index text : List ℕ) (lines : List (List ℕ)) (gathered : GatheredPlaces) : Type 0 where
  pub said : List Line
  pub are : AllZip IsLine lines said
  pub entries : map (line_in index) gathered.entries.items ≡ entry_lines said
  pub below : AllByRecursion (LiesBelow (length index)) gathered.entries.items
  pub reserved : (key : List ℕ) → IsTrue (is_known_reserved key) → option_map (λ place. body_in text (line_in index place)) (get_by_text gathered.reserved key) ≡ text_under key text said
  pub texts : (key : List ℕ) → IfSome (get_by_text gathered.reserved key) (HasTextIn text)

-- a line that passes the tests of a first one isn't gathered for its reserved key, which an earlier one has, or for memory
abbrev pub IsTwice : EditionLineFault → List ℕ → List (List ℕ) → List ℕ → Type 0
IsTwice (Refused ReservedTwice) text lines line = ¬ PassesLine ReservedTwice text lines line
IsTwice (Refused _) text lines line = ⊥
IsTwice Memory text lines line = Unit {0}
