-- How many entries and rows a lookup takes.
use Rattle.std.specs.Prelude.{ℕ, ◌+◌, ◌-◌, ◌^◌, ◌≤◌, min, List, Option, Some, None}

-- so many more, up to the greatest number
abbrev pub more_taken : ℕ → ℕ → ℕ
more_taken taken more = min (taken + more) (2 ^ 64 - 1)

-- what was taken grew by so many at least
abbrev pub LooksAt : ℕ → ℕ → ℕ → Type 0
LooksAt old new few = more_taken old few ≤ new

-- a part of a text is read, which is one row, where it isn't kept
abbrev pub rows_read_for : Option (List ℕ) → ℕ
rows_read_for (Some octets) = 0
rows_read_for None = 1
