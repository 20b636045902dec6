-- Why addresses that were bound weren't told.
use Rattle.std.proofs.Common.{◌≡◌, ◌⊎◌, inl, inr, refl, subst}
use Rattle.std.specs.Prelude.{Err}
use Rattle.std.specs.declared.net.socket_addr.SocketAddr.{SocketAddr}
use Rattle.dict_proto.specs.Streams.{StreamChange, PutsFront}
use Rattle.app_words.specs.Writing.{IsUntouched, Writes}
use Rattle.app_words.specs.declared.fault.ProgramFault.{ProgramFault}
use Rattle.app_words.specs.declared.fault.ProgramFault.TheVariants as faults
use Rattle.net_serving.specs.Listening.{lines_of}

-- a front of them was written, or memory ran out
pub told_front : (bound told : SocketAddr × SocketAddr) (fault : ProgramFault) (writer : StreamChange) → told ≡ bound → Writes (lines_of told.0 told.1) (Err fault) writer
    → ((fault ≡ faults.CannotWrite) × PutsFront writer.old writer.new (lines_of bound.0 bound.1)) ⊎ ((fault ≡ faults.Memory) × IsUntouched writer)
told_front bound told faults.CannotWrite writer is front = inl (refl, subst (λ (it : SocketAddr × SocketAddr). PutsFront writer.old writer.new (lines_of it.0 it.1)) is front)
told_front bound told faults.Memory writer is same = inr (refl, same)
told_front bound told (faults.Line refusal line) writer is never = absurd never
told_front bound told (faults.Edition refusal) writer is never = absurd never
told_front bound told (faults.Refused refusal) writer is never = absurd never
told_front bound told (faults.Store fault) writer is never = absurd never
told_front bound told (faults.CannotRead path) writer is never = absurd never
told_front bound told faults.SessionEnded writer is never = absurd never
told_front bound told (faults.CannotBind address) writer is never = absurd never
told_front bound told faults.CannotWait writer is never = absurd never
