-- What comes in order, where no two neighbours are the same.
use Rattle.std.specs.Prelude.{◌≡◌, ℕ, ℤ, List, [], ◌∷◌, Option, Some, None, option_map, string_bytes}
use Rattle.store_rows.specs.declared.apart.IdReader.{IdReader}
use Rattle.store_rows.specs.declared.apart.RowidReader.{RowidReader}

abbrev pub last_of : {X : Type 0} → List X → Option X
last_of [] = None
last_of (x ∷ []) = Some x
last_of (x ∷ y ∷ ys) = last_of (y ∷ ys)

-- no element is the same as the next one
abbrev pub HaveApartNeighbours : {X : Type 0} → List X → Type 0
HaveApartNeighbours [] = Unit {0}
HaveApartNeighbours (x ∷ []) = Unit {0}
HaveApartNeighbours (x ∷ y ∷ ys) = (x ≡ y → ⊥) × HaveApartNeighbours (y ∷ ys)

-- these ids were taken
pub record HasTakenIds (ids : IdReader) (taken : List (List ℕ)) : Type 0 where
  pub last : option_map string_bytes ids.last ≡ last_of taken
  pub apart : HaveApartNeighbours taken

-- these rowids were taken
pub record HasTakenRowids (rowids : RowidReader) (taken : List ℤ) : Type 0 where
  pub last : rowids.last ≡ last_of taken
  pub apart : HaveApartNeighbours taken
