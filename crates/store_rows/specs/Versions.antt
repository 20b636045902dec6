-- The versions of the tables, and how the tables of a version are laid out.
use Rattle.std.specs.Prelude.{ℕ, ◌≤◌, ◌==◌, if◌then◌else◌}
pub use Rattle.store_tables.specs.Layouts.{Layout, Plain, Keyed, Shown, Parted}

-- the version that is written, and the greatest that is opened
abbrev pub known : ℕ
known = 6

-- files of this version are opened
pub record IsVersion (version : ℕ) : Type 0 where
  pub counted : 1 ≤ version
  pub within : version ≤ known

abbrev pub layout_of : ℕ → Layout
layout_of version = if version == 1 then Plain else (if version == 4 then Shown else (if version == 5 then Parted else (if version == 6 then Parted else Keyed)))
