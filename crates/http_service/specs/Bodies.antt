-- What the bodies of requests say. RFC 8259, as `serde_json` reads it: of equal keys the last one counts.
use Rattle.std.specs.Prelude.{◌≡◌, ◌<◌, ◌^◌, ℕ, List, map, Some, option_map, codes, IsUtf8}
use Rattle.serde_json.specs.Data.{Data, object, no_members, member, number, unsigned, string, array, Items}
use Rattle.serde_json.specs.Events.{members_len}
use Rattle.serde_json.specs.Find.{get, as_object}
use Rattle.serde_json.specs.Read.{read}
use Rattle.serde_json.specs.View.{items_of}

-- the octets are UTF-8, and JSON of this value
pub record IsJson (octets : List ℕ) (value : Data) : Type 0 where
  pub text : IsUtf8 octets
  pub reads : read octets ≡ Some value

-- an object with this key alone, and a whole number of 32 bits
pub record IsPlaceValue (value : Data) (n : ℕ) : Type 0 where
  pub is : value ≡ object (member (codes "place") (number (unsigned n)) no_members)
  pub fits : n < 2 ^ 32

-- the body says this place
abbrev pub IsPlace : List ℕ → ℕ → Type 0
IsPlace body n = (value : Data) × IsJson body value × IsPlaceValue value n

-- an object with two keys, which are `members` with these items, and `title` with this text
pub record HasMembers (value : Data) (items : Items) (title : List ℕ) : Type 0 where
  pub two : option_map members_len (as_object value) ≡ Some 2
  pub members : get (codes "members") value ≡ Some (array items)
  pub title_is : get (codes "title") value ≡ Some (string title)

-- each of these items is a text, and these are the texts
abbrev pub AreTexts : List Data → List (List ℕ) → Type 0
AreTexts items texts = items ≡ map string texts

-- an object with two keys, which are `members` with these texts, and `title` with this text
abbrev pub IsVirtualValue : Data → List ℕ → List (List ℕ) → Type 0
IsVirtualValue value title members = HasMembers value (items_of (map string members)) title

-- the body says this title and these members
abbrev pub IsVirtual : List ℕ → List ℕ → List (List ℕ) → Type 0
IsVirtual body title members = (value : Data) × IsJson body value × IsVirtualValue value title members
