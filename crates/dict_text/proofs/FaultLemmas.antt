-- A text has one fault at most, and none where it spells a number.
use Rattle.std.proofs.Common.{◌≡◌, ℕ, inl, inr, List, refl, arith}
use Rattle.dict_text.specs.Number.{Spells}
use Rattle.dict_text.specs.Faults.{IsNumberFault}
use Rattle.dict_text.specs.declared.number_reading.NumberFault.{NumberFault}
use Rattle.dict_text.specs.declared.number_reading.NumberFault.TheVariants.{Empty, Long, Digit, Leading}
use Rattle.dict_text.proofs.NumberLemmas.{all_digits}

pub one_fault : (s : List ℕ) (f g : NumberFault) → IsNumberFault s f → IsNumberFault s g → f ≡ g
one_fault s Empty Empty h k = refl
one_fault s Empty Long h k = absurd (omega (arith, h, k))
one_fault s Empty Digit h k = absurd (omega (arith, h, k.0))
one_fault s Empty Leading h k = absurd (omega (arith, h, k.0))
one_fault s Long Empty h k = absurd (omega (arith, h, k))
one_fault s Long Long h k = refl
one_fault s Long Digit h k = absurd (omega (arith, h, k.1))
one_fault s Long Leading h k = absurd (omega (arith, h, k.1))
one_fault s Digit Empty h k = absurd (omega (arith, h.0, k))
one_fault s Digit Long h k = absurd (omega (arith, h.1, k))
one_fault s Digit Digit h k = refl
one_fault s Digit Leading h k = absurd (h.2 k.2)
one_fault s Leading Empty h k = absurd (omega (arith, h.0, k))
one_fault s Leading Long h k = absurd (omega (arith, h.1, k))
one_fault s Leading Digit h k = absurd (k.2 h.2)
one_fault s Leading Leading h k = refl

pub spelled_no_fault : (s : List ℕ) (n : ℕ) (f : NumberFault) → Spells s n → IsNumberFault s f → ⊥
spelled_no_fault s n Empty h k = omega (arith, h.some, k)
spelled_no_fault s n Long h k = omega (arith, h.short, k)
spelled_no_fault s n Digit h k = k.2 (all_digits s h.values h.digits)
spelled_no_fault s n Leading h k = elim h.shortest [ inl one ↦ omega (arith, one, k.0) | inr other ↦ other k.3 ]
