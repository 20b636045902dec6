-- One or the other.
use Rattle.std.proofs.Common.{◌≡◌, ◌<◌, ℕ, zero, suc, Bool, true, false, List, [], ◌∷◌, ◌++◌, length, get_or, refl, sym, ap, ◌∙◌, arith}
use Rattle.std.specs.Prelude.{◌||◌}
use Rattle.net_driver.specs.Turning.{any}

pub or_false : (b : Bool) → b || false ≡ b
or_false true = refl
or_false false = refl

pub or_true : (b : Bool) → b || true ≡ true
or_true true = refl
or_true false = refl

pub or_assoc : (a b c : Bool) → a || (b || c) ≡ (a || b) || c
or_assoc true b c = refl
or_assoc false b c = refl

pub or_swap : (a b c : Bool) → b || (a || c) ≡ (a || b) || c
or_swap true true c = refl
or_swap true false c = refl
or_swap false true c = refl
or_swap false false c = refl

-- none of them is so
pub none_of : (a b c d : Bool) → a || (b || (c || d)) ≡ false → (a ≡ false) × (b ≡ false) × (c ≡ false) × (d ≡ false)
none_of true b c d is = absurd (let never : true ≡ false = is in cc)
none_of false true c d is = absurd (let never : true ≡ false = is in cc)
none_of false false true d is = absurd (let never : true ≡ false = is in cc)
none_of false false false true is = absurd (let never : true ≡ false = is in cc)
none_of false false false false is = (refl, refl, refl, refl)

-- one more of a list
pub any_more : (moves : List Bool) (one : Bool) → any (moves ++ one ∷ []) ≡ any moves || one
any_more [] one = or_false one
any_more (first ∷ moves) one = ap (λ b. first || b) (any_more moves one) ∙ or_assoc first (any moves) one

pub last_move : (moves : List Bool) (k : ℕ) (one : Bool) → k ≡ length moves → get_or (moves ++ one ∷ []) k false ≡ one
last_move [] k one is = rw is refl
last_move (first ∷ moves) zero one is = absurd (omega (arith, is))
last_move (first ∷ moves) (suc k) one is = last_move moves k one (omega (arith, is))

pub front_move : (moves : List Bool) (one : Bool) (k : ℕ) → k < length moves → get_or (moves ++ one ∷ []) k false ≡ get_or moves k false
front_move [] one k within = absurd (omega (arith, within))
front_move (first ∷ moves) one zero within = refl
front_move (first ∷ moves) one (suc k) within = front_move moves one k (omega (arith, within))

-- one more turn, in which something happened or didn't
pub so_then : (now before here : Bool) → now ≡ true → here ≡ true → now ≡ before || here
so_then now before here is so = is ∙ sym (ap (λ (b : Bool). before || b) so ∙ or_true before)

pub so_still : (now before here : Bool) → now ≡ before → here ≡ false → now ≡ before || here
so_still now before here is isnt = is ∙ sym (ap (λ (b : Bool). before || b) isnt ∙ or_false before)
