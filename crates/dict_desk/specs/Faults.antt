-- The number and the name of each fault, as users see them, and which faults are failures.
use Rattle.std.specs.Prelude.{ℕ, Bool, true, false, List, codes, Result, Ok, Err}
use Rattle.dict_catalogue.specs.Refusals.{command_refusal_number, command_refusal_name}
use Rattle.dict_desk.specs.declared.fault.Fault.{Fault}
use Rattle.dict_desk.specs.declared.fault.Fault.TheVariants.{Refused, Memory, Disk, Closed, NotACatalogue, Damaged, NewerSchema}

abbrev pub fault_number : Fault → ℕ
fault_number (Refused refusal) = command_refusal_number refusal
fault_number Memory = 40
fault_number Disk = 41
fault_number Closed = 42
fault_number NotACatalogue = 43
fault_number Damaged = 44
fault_number NewerSchema = 45

abbrev pub fault_name : Fault → List ℕ
fault_name (Refused refusal) = command_refusal_name refusal
fault_name Memory = codes "Memory"
fault_name Disk = codes "Disk"
fault_name Closed = codes "Closed"
fault_name NotACatalogue = codes "NotACatalogue"
fault_name Damaged = codes "Damaged"
fault_name NewerSchema = codes "NewerSchema"

-- a fault from 40 on. A refusal is an answer, and no failure
abbrev pub is_failure : Fault → Bool
is_failure (Refused refusal) = false
is_failure Memory = true
is_failure Disk = true
is_failure Closed = true
is_failure NotACatalogue = true
is_failure Damaged = true
is_failure NewerSchema = true

abbrev pub is_disk : Fault → Bool
is_disk (Refused refusal) = false
is_disk Memory = false
is_disk Disk = true
is_disk Closed = false
is_disk NotACatalogue = false
is_disk Damaged = false
is_disk NewerSchema = false

-- a call answered a fault from 40 on
abbrev pub has_failed_by : {T : Type 0} → Result T Fault → Bool
has_failed_by (Ok value) = false
has_failed_by (Err fault) = is_failure fault

-- a call answered the fault that closes a desk
abbrev pub has_closed_by : {T : Type 0} → Result T Fault → Bool
has_closed_by (Ok value) = false
has_closed_by (Err fault) = is_disk fault

-- the faults of a call of an open or closed desk: the other ones come where a desk is made or opened, and a refusal
-- where a command is applied
abbrev pub IsOfLookup : Fault → Type 0
IsOfLookup (Refused refusal) = ⊥
IsOfLookup Memory = Unit {0}
IsOfLookup Disk = Unit {0}
IsOfLookup Closed = Unit {0}
IsOfLookup NotACatalogue = ⊥
IsOfLookup Damaged = ⊥
IsOfLookup NewerSchema = ⊥

abbrev pub IsOfCommand : Fault → Type 0
IsOfCommand (Refused refusal) = Unit {0}
IsOfCommand Memory = Unit {0}
IsOfCommand Disk = Unit {0}
IsOfCommand Closed = Unit {0}
IsOfCommand NotACatalogue = ⊥
IsOfCommand Damaged = ⊥
IsOfCommand NewerSchema = ⊥

-- the faults of a desk that stands on no store
abbrev pub IsOfLists : Fault → Type 0
IsOfLists (Refused refusal) = Unit {0}
IsOfLists Memory = Unit {0}
IsOfLists Disk = ⊥
IsOfLists Closed = ⊥
IsOfLists NotACatalogue = ⊥
IsOfLists Damaged = ⊥
IsOfLists NewerSchema = ⊥
