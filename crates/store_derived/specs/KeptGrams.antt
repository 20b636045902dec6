-- Which of the runs of three octets of keys are looked for, and held by an index.
use Rattle.std.specs.Prelude.{ℕ, Bool, List, filter, nat_lt, slice_index_or}
use Rattle.store_derived.specs.Derived.{grams}

-- A run is kept whose third octet doesn't begin a character of several octets. Octets from 192 on begin one (RFC 3629, section
-- 3), and a run that ends in one tells hardly more than its first two octets.
abbrev pub is_kept_gram : List ℕ → Bool
is_kept_gram gram = nat_lt (slice_index_or gram 2 0) 192

-- the runs of a key that are kept, in the order in which they stand
abbrev pub kept_grams : List ℕ → List (List ℕ)
kept_grams key = filter is_kept_gram (grams key)
