-- Which faults a file and a server have.
use Rattle.std.proofs.Common.{◌≡◌, Bool, List, [], ◌∷◌, Err, inl, inr, refl, arith, ap}
use Rattle.std.specs.Prelude.{◌≢◌}
use Rattle.std.specs.declared.io.ErrorKind.{ErrorKind}
use Rattle.std.specs.declared.io.ErrorKind.TheVariants.{OutOfMemory}
use Rattle.net_driver.specs.declared.driver.Driver.{Driver}
use Rattle.app_words.specs.Faults.{status_of}
use Rattle.app_words.specs.declared.fault.ProgramFault.{ProgramFault}
use Rattle.app_words.specs.declared.fault.ProgramFault.TheVariants.{Line, Edition, Refused, Store, CannotRead, SessionEnded, CannotWrite, CannotBind, CannotWait, Memory}
use Rattle.net_serving.specs.Listening.{TellsKind}
use Rattle.net_serving.specs.Serving.{EndsServing, HasGivenOut, IsOfFile, Stretch}

-- no fault of a file is a refusal
file_not_1 : (fault : ProgramFault) → IsOfFile fault → 1 ≡ status_of fault → ⊥
file_not_1 (Line refusal line) h e = h
file_not_1 (Edition refusal) h e = h
file_not_1 (Refused refusal) h e = h
file_not_1 (Store fault) h e = omega (arith, e)
file_not_1 (CannotRead told) h e = omega (arith, e)
file_not_1 SessionEnded h e = h
file_not_1 CannotWrite h e = h
file_not_1 (CannotBind address) h e = h
file_not_1 CannotWait h e = h
file_not_1 Memory h e = omega (arith, e)

-- and none of waiting for sockets
waiting_not_1 : (kind : ErrorKind) (fault : ProgramFault) → TellsKind kind fault → 1 ≡ status_of fault → ⊥
waiting_not_1 kind fault tells e =
    let other : kind ≢ OutOfMemory = λ is. omega (arith, e, ap status_of (tells.0 is)) in
    omega (arith, e, ap status_of (tells.1 other))

module _ {K : Type 0} (is_closed : K → Bool) (Shut : K → Type 0) (Unreopened : K → ProgramFault → Type 0) where
  given_not_1 : (stretches : List (Stretch K)) (fault : ProgramFault) → HasGivenOut is_closed Unreopened stretches fault → 1 ≡ status_of fault → ⊥
  given_not_1 [] fault h e = h
  given_not_1 (one ∷ []) fault h e = file_not_1 fault h.1.1 e
  given_not_1 (one ∷ other ∷ others) fault h e = given_not_1 (other ∷ others) fault h e

  pub ends_not_1 : (stretches : List (Stretch K)) (driver : Driver) (fault : ProgramFault) → EndsServing {A = Unit {0}} is_closed Shut Unreopened stretches driver (Err fault) → 1 ≡ status_of fault → ⊥
  ends_not_1 stretches driver fault (inl ((kind, is, tells), shut)) e = waiting_not_1 kind fault tells e
  ends_not_1 stretches driver fault (inr given) e = given_not_1 stretches fault given e

pub memory_by_status : (fault : ProgramFault) → 4 ≡ status_of fault → fault ≡ Memory
memory_by_status (Line refusal line) e = absurd (omega (arith, e))
memory_by_status (Edition refusal) e = absurd (omega (arith, e))
memory_by_status (Refused refusal) e = absurd (omega (arith, e))
memory_by_status (Store fault) e = absurd (omega (arith, e))
memory_by_status (CannotRead path) e = absurd (omega (arith, e))
memory_by_status SessionEnded e = absurd (omega (arith, e))
memory_by_status CannotWrite e = absurd (omega (arith, e))
memory_by_status (CannotBind address) e = absurd (omega (arith, e))
memory_by_status CannotWait e = absurd (omega (arith, e))
memory_by_status Memory e = refl
