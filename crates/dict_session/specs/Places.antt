-- Which places of a catalogue's items, from 0, a word asks, as the code goes through them.
use Rattle.std.specs.Prelude.{◌≡◌, ℕ, ◌+◌, ◌≤◌, Bool, true, false, ◌&&◌, List, [], ◌∷◌, length, codes, if◌then◌else◌, Option, Some, None, option_map}
use Rattle.std.specs.List.{flat_map}
use Rattle.std.specs.Str.{bytes_eq}
use Rattle.dict_catalogue.specs.Items.{Item, regular, virtual, is_named, is_regular}
use Rattle.arrayvec.specs.ArrayVec.{ArrayVec}
use Rattle.dict_session.specs.declared.asked.Asked.{Asked}
use Rattle.dict_session.specs.declared.asked.Heading.{Heading}

-- the places, from this one on, of those that pass a test
abbrev pub places_from : {X : Type 0} → (X → Bool) → ℕ → List X → List ℕ
places_from test place [] = []
places_from test place (x ∷ xs) = if test x then place ∷ places_from test (place + 1) xs else places_from test (place + 1) xs

abbrev pub is_regular_named : {A : Type 0} → List ℕ → Item A → Bool
is_regular_named name item = is_named name item && is_regular item

-- the places of the regular items of this name
abbrev pub places_named : {A : Type 0} → List (Item A) → List ℕ → List ℕ
places_named items name = places_from (is_regular_named name) 0 items

-- an item asks its own place, or those of its members
abbrev pub places_by : {A : Type 0} → List (Item A) → ℕ → Item A → List ℕ
places_by items place (regular name current former) = place ∷ []
places_by items place (virtual name title members) = flat_map (places_named items) members

-- the first item of this name, from a place on, asks these
abbrev pub places_under : {A : Type 0} → List (Item A) → List ℕ → ℕ → List (Item A) → Option (List ℕ)
places_under items name place [] = None
places_under items name place (item ∷ others) = if is_named name item then Some (places_by items place item) else places_under items name (place + 1) others

-- places that are asked, all of them or the first alone in which an entry is found
pub record AskedPlaces : Type 0 where
  pub places : List ℕ
  pub is_first : Bool

-- what a word asks
abbrev pub asked_in : {A : Type 0} → List (Item A) → List ℕ → Option AskedPlaces
asked_in items word =
    if bytes_eq word (codes "*") then Some (record { places = places_from is_regular 0 items; is_first = false })
    else if bytes_eq word (codes "!") then Some (record { places = places_from is_regular 0 items; is_first = true })
    else option_map (λ places. record { places = places; is_first = false }) (places_under items word 0 items)

-- there is room for 64 places, and these are held where they fit
abbrev pub HoldsPlaces : List ℕ → List ℕ → Type 0
HoldsPlaces held places = length places ≤ 64 → held ≡ places

-- the same where there are none
abbrev pub HoldsUnder : Option (ArrayVec ℕ) → Option (List ℕ) → Type 0
HoldsUnder None None = Unit {0}
HoldsUnder None (Some places) = ⊥
HoldsUnder (Some held) None = ⊥
HoldsUnder (Some held) (Some places) = HoldsPlaces held.items places

-- the same of what is asked
abbrev pub HoldsAsked : Option Asked → Option AskedPlaces → Type 0
HoldsAsked None None = Unit {0}
HoldsAsked None (Some asking) = ⊥
HoldsAsked (Some asked) None = ⊥
HoldsAsked (Some asked) (Some asking) = (asked.is_first ≡ asking.is_first) × HoldsPlaces asked.places.items asking.places

-- a database's name and title, as far as they are lawful, and its current edition's number; there is none of any other
-- item or of none
abbrev pub IsHeading : Option Heading → Option (Item (List ℕ)) → Type 0
IsHeading None None = Unit {0}
IsHeading (Some heading) None = ⊥
IsHeading None (Some (virtual name title members)) = Unit {0}
IsHeading (Some heading) (Some (virtual name title members)) = ⊥
IsHeading None (Some (regular name current former)) = ⊥
IsHeading (Some heading) (Some (regular name current former)) =
    (heading.number ≡ current.number) × (length name ≤ 32 → heading.name.bytes ≡ name) × (length current.content ≤ 200 → heading.title.bytes ≡ current.content)
