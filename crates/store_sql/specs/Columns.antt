-- Which rows stand for a record: what each of its columns holds.
use Rattle.std.specs.Prelude.{◌≡◌, ◌⊎◌, ⊤, ℕ, ℤ, List, [], ◌∷◌, IsUtf8}
use Rattle.sqlite.specs.declared.types.Value.{Value}
use Rattle.sqlite.specs.declared.types.Value.TheVariants.{Null, Int, Text as Words, Blob as Bytes}
use Rattle.sqlite.specs.Order.{Row}

-- what a column of a record holds
pub data Content : Type 0 where
  Number : Content
  NumberOrNull : Content
  Name : Content
  NameOrNull : Content
  Octets : Content

-- an integer
abbrev pub IsNumber : Value → Type 0
IsNumber v = (n : ℤ) × (v ≡ Int n)

-- a text in UTF-8
abbrev pub IsTextValue : Value → Type 0
IsTextValue v = (t : List ℕ) × (v ≡ Words t) × IsUtf8 t

abbrev pub IsOf : Content → Value → Type 0
IsOf Number v = IsNumber v
IsOf NumberOrNull v = (v ≡ Null) ⊎ IsNumber v
IsOf Name v = IsTextValue v
IsOf NameOrNull v = (v ≡ Null) ⊎ IsTextValue v
IsOf Octets v = (b : List ℕ) × (v ≡ Bytes b)

-- the row has these columns and no others
abbrev pub HasColumns : List Content → Row → Type 0
HasColumns [] [] = ⊤
HasColumns (c ∷ cs) (v ∷ vs) = IsOf c v × HasColumns cs vs
HasColumns _ _ = ⊥

-- The rowid stands first.

abbrev pub mark_columns : List Content
mark_columns = Number ∷ Number ∷ Name ∷ Number ∷ Number ∷ []

abbrev pub item_columns : List Content
item_columns = Number ∷ Number ∷ Name ∷ Number ∷ NameOrNull ∷ NumberOrNull ∷ NumberOrNull ∷ []

abbrev pub member_columns : List Content
member_columns = Number ∷ Name ∷ Number ∷ Name ∷ []

abbrev pub edition_columns : List Content
edition_columns = Number ∷ Number ∷ Name ∷ Name ∷ Name ∷ Octets ∷ []

abbrev pub entry_columns : List Content
entry_columns = Number ∷ Number ∷ Number ∷ Name ∷ Number ∷ Number ∷ []

abbrev pub kept_columns : List Content
kept_columns = Number ∷ Name ∷ Number ∷ Name ∷ Name ∷ NumberOrNull ∷ []

abbrev pub number_columns : List Content
number_columns = Number ∷ Number ∷ []
