-- Which parts are meant.
use Rattle.std.specs.Prelude.{ℤ, Bool, not, ◌&&◌}
use Rattle.std.specs.Ordering.{is_lt}
use Rattle.sqlite.specs.declared.types.Value.TheVariants.{Int}
use Rattle.sqlite.specs.Order.{Row, column, value_cmp}
use Rattle.store_tables.specs.Effects.{equals_number}

-- the row is a part of this file of the edition
abbrev pub is_of_file : (edition file : ℤ) → Row → Bool
is_of_file edition file r = equals_number 1 edition r && equals_number 2 file r

-- it is the one of this number
abbrev pub is_numbered : (edition file number : ℤ) → Row → Bool
is_numbered edition file number r = is_of_file edition file r && equals_number 3 number r

-- it has this number or a later one
abbrev pub is_part_from : (edition file number : ℤ) → Row → Bool
is_part_from edition file number r = is_of_file edition file r && not (is_lt (value_cmp (column r 3) (Int number)))
