-- The part that follows others.
use Rattle.std.specs.Prelude.{◌≡◌, ℕ, List, [], ◌∷◌, ◌++◌, length}
use Rattle.store_rows.specs.Parts.{parts_of, AreParts}
use Rattle.store_rows.specs.declared.joiner.Refused.{Refused}
use Rattle.store_rows.specs.declared.joiner.Refused.TheVariants.{Wrong, Memory}

-- the part has this number, and follows those of the octets so far: with it they are parts
pub record IsNext (octets : List ℕ) (number : ℕ) (part : List ℕ) : Type 0 where
  pub numbered : number ≡ length (parts_of octets)
  pub follows : AreParts (parts_of octets ++ part ∷ [])

-- for this reason the part isn't taken
abbrev pub MayRefusePart : List ℕ → ℕ → List ℕ → Refused → Type 0
MayRefusePart octets number part Wrong = ¬ IsNext octets number part
MayRefusePart octets number part Memory = IsNext octets number part
