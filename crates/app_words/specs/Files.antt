-- What a read of a file gives.
use Rattle.std.specs.Prelude.{◌≡◌, ◌⊎◌, ℕ, List, Option, None, Some, Result, Err, ⊤}
use Rattle.app_words.specs.declared.fault.ProgramFault.{ProgramFault}
use Rattle.app_words.specs.declared.fault.ProgramFault.TheVariants as faults
use Rattle.app_words.specs.declared.files.ReadFault.{ReadFault}
use Rattle.app_words.specs.declared.files.ReadFault.TheVariants.{Unreadable, Memory}

-- the octets of a file, where they are known, are those that were read
abbrev pub IsReadFrom : Option (List ℕ) → List ℕ → Type 0
IsReadFrom None read = ⊤
IsReadFrom (Some known) read = read ≡ known

-- the file can't be read
abbrev pub IsUnreadable : {A : Type 0} → Result A ReadFault → Type 0
IsUnreadable (Err Unreadable) = ⊤
IsUnreadable _ = ⊥

-- neither of two files was read whole: one can't be read, which none can be said of whose octets are known, or memory ran out
abbrev pub AreUnreadFiles : {A : Type 0} → (List ℕ → Option (List ℕ)) → List ℕ → List ℕ → Result A ProgramFault → Type 0
AreUnreadFiles files index text (Err (faults.CannotRead path)) = ((path.now ≡ index) ⊎ (path.now ≡ text)) × (files path.now ≡ None)
AreUnreadFiles files index text (Err faults.Memory) = ⊤
AreUnreadFiles files index text _ = ⊥

-- what is told of why a file isn't read: that it can't be, or that memory ran out
abbrev pub IsReadFaultTold : (ReadFault → Type 0) → ProgramFault → Type 0
IsReadFaultTold Refuses (faults.CannotRead path) = Refuses Unreadable
IsReadFaultTold Refuses faults.Memory = Refuses Memory
IsReadFaultTold Refuses _ = ⊥

-- Of two files the faults come in order: the index can't be read; it is read, and the text can't be; both are read, and then what they say
-- is refused. Want of memory is told where it is met
abbrev pub IsInOrder : {A : Type 0} → (List ℕ → Type 0) → (List ℕ → ReadFault → Type 0) → List ℕ → List ℕ → Result A ProgramFault → Type 0
IsInOrder Reads Refuses index text (Err (faults.CannotRead path)) = ((path.now ≡ index) × Refuses index Unreadable) ⊎ ((path.now ≡ text) × Reads index × Refuses text Unreadable)
IsInOrder Reads Refuses index text (Err (faults.Line refusal line)) = Reads index × Reads text
IsInOrder Reads Refuses index text (Err (faults.Edition refusal)) = Reads index × Reads text
IsInOrder Reads Refuses index text (Err (faults.Refused refusal)) = Reads index × Reads text
IsInOrder Reads Refuses index text _ = ⊤

-- it is no fault of a file's reading
abbrev pub NamesNoFile : {A : Type 0} → Result A ProgramFault → Type 0
NamesNoFile (Err (faults.CannotRead path)) = ⊥
NamesNoFile _ = ⊤
