-- What a name, a title and a request id may be.
use Rattle.std.specs.Prelude.{ℕ, ◌-◌, Bool, false, not, ◌&&◌, ◌||◌, ◌==◌, nat_le, List, length, slice_get, Option, Some, None}
use Rattle.std.specs.List.{list_all}
use Rattle.dict_text.specs.Characters.{is_blank, has_control}

-- from one octet to another
abbrev pub is_from : ℕ → ℕ → ℕ → Bool
is_from low high octet = nat_le low octet && nat_le octet high

-- a-z
abbrev pub is_small_letter : ℕ → Bool
is_small_letter = is_from 97 122

-- A-Z
abbrev pub is_capital_letter : ℕ → Bool
is_capital_letter = is_from 65 90

-- 0-9
abbrev pub is_digit : ℕ → Bool
is_digit = is_from 48 57

-- a-z 0-9 _ -
abbrev pub is_name_octet : ℕ → Bool
is_name_octet octet = is_small_letter octet || is_digit octet || (octet == 95) || (octet == 45)

-- A-Z a-z 0-9 -
abbrev pub is_request_octet : ℕ → Bool
is_request_octet octet = is_capital_letter octet || is_small_letter octet || is_digit octet || (octet == 45)

-- there is an octet, and it passes
abbrev pub passes : (ℕ → Bool) → Option ℕ → Bool
passes test None = false
passes test (Some octet) = test octet

-- the first octet passes; the last one does
abbrev pub first_passes : (ℕ → Bool) → List ℕ → Bool
first_passes test text = passes test (slice_get text 0)

abbrev pub last_passes : (ℕ → Bool) → List ℕ → Bool
last_passes test text = passes test (slice_get text (length text - 1))

-- so many octets, at least one
abbrev pub has_size : ℕ → List ℕ → Bool
has_size most text = nat_le 1 (length text) && nat_le (length text) most

-- a database's name: 1 to 32 of a-z 0-9 _ - beginning with a-z
unfoldable pub is_name : List ℕ → Bool
is_name text = has_size 32 text && list_all is_name_octet text && first_passes is_small_letter text

-- the id of a request: 1 to 64 of A-Z a-z 0-9 -
unfoldable pub is_request_id : List ℕ → Bool
is_request_id text = has_size 64 text && list_all is_request_octet text

-- the title of a database, an edition's or a virtual one's: 1 to 200 octets, no control character, no blank at an end
unfoldable pub is_title : List ℕ → Bool
is_title text = has_size 200 text && not (has_control text) && not (first_passes is_blank text) && not (last_passes is_blank text)
