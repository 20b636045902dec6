-- A fault of an opening is one of a file.
use Rattle.sqlite_disk.specs.declared.Disk.{Ghosts}
use Rattle.sqlite_store.specs.declared.store.FileStore.{FileStore}
use Rattle.dict_desk.specs.declared.fault.Fault.{Fault}
use Rattle.dict_desk.specs.declared.fault.Fault.TheVariants.{Refused, Memory, Disk, Closed, NotACatalogue, Damaged, NewerSchema}
use Rattle.store_opening.specs.Reading.{IsOfOpening}
use Rattle.app_words.specs.Faults.{told_of}
use Rattle.net_serving.specs.Serving.{IsOfFile}
use Rattle.store_desk.specs.Desk.{DeskState}
use Rattle.store_desk.specs.Unopened.{IsUnrestarted}
use Rattle.store_desk.specs.declared.reopening.Unopened.{Unopened}

pub opening_of_file : (why : Fault) → IsOfOpening why → IsOfFile (told_of why)
opening_of_file (Refused refusal) h = h
opening_of_file Memory h = tt
opening_of_file Disk h = tt
opening_of_file Closed h = tt
opening_of_file NotACatalogue h = tt
opening_of_file Damaged h = tt
opening_of_file NewerSchema h = tt

-- and so is one of an opening after a stop
pub restart_of_file : {D : Type 0} {d : Ghosts D} (desk : DeskState (FileStore D d)) (it : Unopened D d) (why : Fault) → IsUnrestarted desk it why → IsOfFile (told_of why)
restart_of_file desk it why h = opening_of_file why h.kind
