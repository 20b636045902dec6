-- What a connection is left as by steps that read.
use Rattle.std.proofs.Common.{arith}
use Rattle.std.specs.Prelude.{Result, Ok, Err, IfErr, IfOk, OnOk}
use Rattle.sqlite.specs.State.{State, HasCleanDisk, Survives}

pub clean_before : (old new : State) → Survives old new (λ _. ⊥) → HasCleanDisk new → HasCleanDisk old
clean_before old new survives clean = omega (arith, survives.clean)

pub each_err : {X E : Type 0} (result : Result X E) (P Q : E → Type 0) → ((e : E) → P e → Q e) → IfErr result P → IfErr result Q
each_err (Ok x) P Q f h = h
each_err (Err e) P Q f h = f e h

pub each_ok : {X E : Type 0} (result : Result X E) (P Q : X → Type 0) → ((x : X) → P x → Q x) → IfOk result P → IfOk result Q
each_ok (Ok x) P Q f h = f x h
each_ok (Err e) P Q f h = h

-- what holds of a call that didn't fail
pub on_ok : {X E : Type 0} (result : Result X E) (A B : Type 0) → (A → B) → OnOk result A → OnOk result B
on_ok (Ok x) A B f h = f h
on_ok (Err e) A B f h = h

pub each_ok_with : {X E : Type 0} (result : Result X E) (A : Type 0) (P Q : X → Type 0) → OnOk result A → (A → (x : X) → P x → Q x) → IfOk result P → IfOk result Q
each_ok_with (Ok x) A P Q a f h = f a x h
each_ok_with (Err e) A P Q a f h = h
