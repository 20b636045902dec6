-- Which faults files that aren't opened have.
use Rattle.std.proofs.Common.{ℕ, List, inl, inr, subst, sym}
use Rattle.std.specs.Prelude.{Bool, Option}
use Rattle.dict_desk.specs.declared.fault.Fault.{Fault as DeskFault}
use Rattle.dict_desk.specs.declared.fault.Fault.TheVariants as desk
use Rattle.store_opening.specs.Reading.{IsOfOpening}
use Rattle.app_words.specs.Faults.{told_of}
use Rattle.app_words.specs.declared.fault.ProgramFault.{ProgramFault}
use Rattle.net_serving.specs.Serving.{IsOfFile}
use Rattle.sqlite_disk.specs.declared.Disk as disk
use Rattle.store_desk.specs.declared.reopening.Unopened.{Unopened}
use Rattle.store_desk.specs.declared.reopening.Unopened.TheVariants as handed
use Rattle.sqlite.specs.Recovery.{Image}
use Rattle.dictcat_lib.specs.declared.left.Left.{Left}
use Rattle.dictcat_lib.specs.DeskOpener.{IsNotOpened, IsToldUnreadable, TellsUnhad, TellsUnopened}

pub opening_of_file : (why : DeskFault) → IsOfOpening why → IsOfFile (told_of why)
opening_of_file (desk.Refused refusal) h = h
opening_of_file desk.Memory h = tt
opening_of_file desk.Disk h = tt
opening_of_file desk.Closed h = tt
opening_of_file desk.NotACatalogue h = tt
opening_of_file desk.Damaged h = tt
opening_of_file desk.NewerSchema h = tt

-- and so is what is told of files that aren't opened
unreadable_of_file : (path : List ℕ) (fault : ProgramFault) → IsToldUnreadable path fault → IsOfFile fault
unreadable_of_file path fault (told, is, same) = subst IsOfFile (sym is) tt

told_of_files : (path : List ℕ) (why : DeskFault) (fault : ProgramFault) → TellsUnhad path why fault → IsOfFile fault
told_of_files path desk.Memory fault is = subst IsOfFile (sym is) tt
told_of_files path (desk.Refused refusal) fault is = unreadable_of_file path fault is
told_of_files path desk.Disk fault is = unreadable_of_file path fault is
told_of_files path desk.Closed fault is = unreadable_of_file path fault is
told_of_files path desk.NotACatalogue fault is = unreadable_of_file path fault is
told_of_files path desk.Damaged fault is = unreadable_of_file path fault is
told_of_files path desk.NewerSchema fault is = unreadable_of_file path fault is

pub told_of_file : {D : Type 0} {d : disk.Ghosts D} (path : List ℕ) (left : Unopened D d) (why : DeskFault) (fault : ProgramFault) → IsOfOpening why → TellsUnopened path left why fault → IsOfFile fault
told_of_file path (handed.Files rest) why fault kind is = told_of_files path why fault is
told_of_file path (handed.Spent files) why fault kind is = subst IsOfFile (sym is) (opening_of_file why kind)
told_of_file path (handed.Database conn) why fault kind is = subst IsOfFile (sym is) (opening_of_file why kind)

pub not_opened_of_file : {O D : Type 0} {d : disk.Ghosts D} (image : Image) (refuses : List ℕ → Bool → DeskFault → Type 0) (path : List ℕ) (made : Bool) (old new : Option O) (before held : Option (Left D d)) (fault : ProgramFault)
    → IsNotOpened image refuses path made old new before held fault → IsOfFile fault
not_opened_of_file image refuses path made old new before held fault (inl (inl (used, tells), gone, kept)) = unreadable_of_file path fault tells
not_opened_of_file image refuses path made old new before held fault (inl (inr (why, refused, tells), gone, kept)) = told_of_files path why fault tells
not_opened_of_file image refuses path made old new before held fault (inr (rest, why, is, gone, refused, tells)) = told_of_files path why fault tells
