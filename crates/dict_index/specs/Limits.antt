-- The limits of an edition. What follows from them elsewhere is computed from these.
use Rattle.std.specs.Prelude.{ℕ, ◌-◌}

-- the lines of an index
abbrev pub most_lines : ℕ
most_lines = 262144

-- the octets of a text
abbrev pub most_octets : ℕ
most_octets = 67108864

-- the entries of an edition: one line at least is reserved, that of the title
abbrev pub most_entries : ℕ
most_entries = most_lines - 1
