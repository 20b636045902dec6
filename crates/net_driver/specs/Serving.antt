-- How rounds end, and how many were made.
use Rattle.std.specs.Prelude.{◌≡◌, ◌≤◌, ◌<◌, ◌+◌, ◌-◌, ◌^◌, ℕ, Bool, true, false, min, Option, Some, None, Result, Ok, Err}
use Rattle.net_driver.specs.declared.serving.RoundsEnd.{RoundsEnd}
use Rattle.net_driver.specs.declared.serving.RoundsEnd.TheVariants.{Whole, Closed}

-- how many rounds are made where so many, or no number, is asked for
abbrev pub rounds_of : Option ℕ → ℕ
rounds_of None = 2 ^ 64 - 1
rounds_of (Some count) = count

-- how many nanoseconds a wait lasts at most then: those of a second, or of 50 milliseconds
abbrev pub longest_wait : Option ℕ → ℕ
longest_wait None = 1_000_000_000
longest_wait (Some count) = 50_000_000

-- that the desk is closed is told where it is, with fewer rounds that are left; after rounds that were all made it isn't
abbrev pub IsClosedBy : {E : Type 0} → Bool → ℕ → Result RoundsEnd E → Type 0
IsClosedBy closed rounds (Ok Whole) = 0 < rounds → closed ≡ false
IsClosedBy closed rounds (Ok (Closed left)) = (closed ≡ true) × (left < rounds)
IsClosedBy closed rounds (Err error) = Unit {0}

-- one more round was made, as far as a driver counts, or none where it failed
abbrev pub IsRoundCounted : {A E : Type 0} → Result A E → ℕ → ℕ → Type 0
IsRoundCounted (Ok has_moved) old new = new ≡ min (old + 1) (2 ^ 64 - 1)
IsRoundCounted (Err error) old new = new ≡ old

-- of so many rounds all were made, or all but those that are left, or some, as far as the count of a driver goes
abbrev pub AreCounted : {E : Type 0} → ℕ → Result RoundsEnd E → ℕ → ℕ → Type 0
AreCounted rounds (Ok Whole) old new = old + rounds < 2 ^ 64 → new ≡ old + rounds
AreCounted rounds (Ok (Closed left)) old new = old + rounds < 2 ^ 64 → new + left ≡ old + rounds
AreCounted rounds (Err error) old new = old + rounds < 2 ^ 64 → new ≤ old + rounds
