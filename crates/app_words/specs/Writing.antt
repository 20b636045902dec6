-- What is written to standard output.
use Rattle.std.specs.Prelude.{◌≡◌, ◌≢◌, ℕ, List, Result, Ok, Err}
use Rattle.dict_proto.specs.Streams.{StreamChange, PutsAll, PutsFront}
use Rattle.app_words.specs.declared.fault.ProgramFault.{ProgramFault}
use Rattle.app_words.specs.declared.fault.ProgramFault.TheVariants as faults

-- a reader or a writer was left alone
abbrev pub IsUntouched : StreamChange → Type 0
IsUntouched change = change.new ≡ change.old

-- a text was written; or where the writer failed a front of it; or memory for it ran out
abbrev pub Writes : List ℕ → Result (Unit {0}) ProgramFault → StreamChange → Type 0
Writes text (Ok _) writer = PutsAll writer.old writer.new text
Writes text (Err faults.CannotWrite) writer = PutsFront writer.old writer.new text
Writes text (Err faults.Memory) writer = IsUntouched writer
Writes text (Err (faults.Line refusal line)) writer = ⊥
Writes text (Err (faults.Edition refusal)) writer = ⊥
Writes text (Err (faults.Refused refusal)) writer = ⊥
Writes text (Err (faults.Store fault)) writer = ⊥
Writes text (Err (faults.CannotRead path)) writer = ⊥
Writes text (Err faults.SessionEnded) writer = ⊥
Writes text (Err (faults.CannotBind address)) writer = ⊥
Writes text (Err faults.CannotWait) writer = ⊥

-- a text was written; or where the writer failed a front of it. No memory is taken for it
abbrev pub Prints : List ℕ → Result (Unit {0}) ProgramFault → StreamChange → Type 0
Prints text result writer = Writes text result writer × (result ≢ Err faults.Memory)
