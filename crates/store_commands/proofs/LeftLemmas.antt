-- Less is left where more is read.
use Rattle.std.proofs.Common.{◌≡◌, ℕ, ◌-◌, ◌^◌, ◌<◌, Bool, true, false, [], ◌∷◌, refl, sym, inl, inr, arith}
use Rattle.std.proofs.lemmas.Bool.{false≢true}
use Rattle.store_commands.specs.Left.{IsLess, kind_left}

-- the files are refused now, or more lines are read, of which 64 bits count
pub read_less : (a b : Bool) (was is : ℕ) → a ≡ false → (b ≡ false → was < is) → was < 2 ^ 64 → IsLess (kind_left b ∷ (2 ^ 64 - is) ∷ []) (kind_left a ∷ (2 ^ 64 - was) ∷ [])
read_less true b was is reads more few = absurd (false≢true (sym reads))
read_less false true was is reads more few = inl (omega arith, refl)
read_less false false was is reads more few = inr (refl, inl (omega (arith, more refl, few), refl))
