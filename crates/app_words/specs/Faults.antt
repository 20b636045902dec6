-- What the program tells of a fault: the line on standard error, and the status that it ends with.
use Rattle.std.specs.Prelude.{ℕ, List, ◌++◌, Some, None, codes, decimal}
use Rattle.dict_catalogue.specs.Refusals as commands
use Rattle.dict_index.specs.Refusals as editions
use Rattle.dict_index.specs.declared.fault.IndexFault.{IndexFault}
use Rattle.dict_index.specs.declared.fault.IndexFault.TheVariants as index_faults
use Rattle.dict_desk.specs.declared.fault.Fault.{Fault as DeskFault}
use Rattle.dict_desk.specs.declared.fault.Fault.TheVariants as desk_faults
use Rattle.app_words.specs.declared.fault.ProgramFault.{ProgramFault}
use Rattle.app_words.specs.declared.fault.ProgramFault.TheVariants as faults
use Rattle.app_words.specs.declared.fault.StoreFault.{StoreFault}
use Rattle.app_words.specs.declared.fault.StoreFault.TheVariants as store_faults

-- a refusal is 1; a file, its catalogue, an output, a session or a socket that failed is 3; memory is 4
abbrev pub status_of : ProgramFault → ℕ
status_of (faults.Line refusal line) = 1
status_of (faults.Edition refusal) = 1
status_of (faults.Refused refusal) = 1
status_of (faults.Store fault) = 3
status_of (faults.CannotRead path) = 3
status_of faults.SessionEnded = 3
status_of faults.CannotWrite = 3
status_of (faults.CannotBind address) = 3
status_of faults.CannotWait = 3
status_of faults.Memory = 4

-- a refusal, by its number and its name
abbrev pub refused : ℕ → List ℕ → List ℕ
refused number name = codes "refused " ++ decimal number ++ codes " " ++ name

-- the same at a line of an index
abbrev pub refused_at : ℕ → List ℕ → ℕ → List ℕ
refused_at number name line = refused number name ++ codes " line " ++ decimal line

-- a fault of a file's catalogue, by its number and its name
abbrev pub store_line : StoreFault → List ℕ
store_line store_faults.Disk = codes "fault 41 Disk"
store_line store_faults.Closed = codes "fault 42 Closed"
store_line store_faults.NotACatalogue = codes "fault 43 NotACatalogue"
store_line store_faults.Damaged = codes "fault 44 Damaged"
store_line store_faults.NewerSchema = codes "fault 45 NewerSchema"

-- the line of a fault, without its end
abbrev pub fault_line : ProgramFault → List ℕ
fault_line (faults.Line refusal line) = refused_at (editions.refusal_number refusal) (editions.refusal_name refusal) line
fault_line (faults.Edition refusal) = refused (editions.refusal_number refusal) (editions.refusal_name refusal)
fault_line (faults.Refused refusal) = refused (commands.command_refusal_number refusal) (commands.command_refusal_name refusal)
fault_line (faults.Store fault) = store_line fault
fault_line (faults.CannotRead path) = codes "cannot read " ++ path.now
fault_line faults.SessionEnded = codes "session ended by a fault"
fault_line faults.CannotWrite = codes "cannot write output"
fault_line (faults.CannotBind address) = codes "cannot bind " ++ address.now
fault_line faults.CannotWait = codes "cannot wait for connections"
fault_line faults.Memory = codes "fault 40 Memory"

-- why no edition was read, as the program tells it
abbrev pub told : IndexFault → ProgramFault
told (index_faults.Refused refusal (Some line)) = faults.Line refusal line
told (index_faults.Refused refusal None) = faults.Edition refusal
told index_faults.Memory = faults.Memory

-- why a desk didn't do what it was asked, as the program tells it
abbrev pub told_of : DeskFault → ProgramFault
told_of (desk_faults.Refused refusal) = faults.Refused refusal
told_of desk_faults.Memory = faults.Memory
told_of desk_faults.Disk = faults.Store store_faults.Disk
told_of desk_faults.Closed = faults.Store store_faults.Closed
told_of desk_faults.NotACatalogue = faults.Store store_faults.NotACatalogue
told_of desk_faults.Damaged = faults.Store store_faults.Damaged
told_of desk_faults.NewerSchema = faults.Store store_faults.NewerSchema
