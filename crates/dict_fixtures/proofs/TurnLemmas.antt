-- How a call leaves a desk that may fail at it.
use Rattle.std.proofs.Common.{◌≡◌, ◌||◌, Bool, true, false, refl, sym, ap, ◌∙◌}
use Rattle.std.specs.Prelude.{IfErr, OnErr, OnOk, Result, Ok, Err}
use Rattle.dict_desk.specs.Faults.{IsOfLookup, has_closed_by, has_failed_by}
use Rattle.dict_desk.specs.declared.fault.Fault.{Fault}
use Rattle.dict_desk.specs.declared.fault.Fault.TheVariants.{Refused, Memory, Disk, Closed, NotACatalogue, Damaged, NewerSchema}

or_true : (b : Bool) → (b || true) ≡ true
or_true true = refl
or_true false = refl

or_false : (b : Bool) → (b || false) ≡ b
or_false true = refl
or_false false = refl

failing : (fault : Fault) → IsOfLookup fault → has_failed_by {T = Unit {0}} (Err fault) ≡ true
failing (Refused refusal) of = absurd of
failing Memory of = refl
failing Disk of = refl
failing Closed of = refl
failing NotACatalogue of = absurd of
failing Damaged of = absurd of
failing NewerSchema of = absurd of

-- it has failed where it had, or where the call failed
pub has_failed_then : (failed shut failed_then shut_then : Bool) (result : Result (Unit {0}) Fault) → IfErr result IsOfLookup → OnOk result (failed_then ≡ failed) → OnErr result ((failed_then || shut_then) ≡ true)
    → shut_then ≡ (shut || has_closed_by result) → (failed_then || shut_then) ≡ ((failed || shut) || has_failed_by result)
has_failed_then failed shut failed_then shut_then (Ok value) kinds same fails closes =
    (λ i. same i || (closes ∙ or_false shut) i) ∙ sym (or_false (failed || shut))
has_failed_then failed shut failed_then shut_then (Err fault) kinds same fails closes =
    fails ∙ sym (ap (λ b. (failed || shut) || b) (failing fault kinds) ∙ or_true (failed || shut))
