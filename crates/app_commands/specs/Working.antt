-- What comes of work over the desk of a file's catalogue, whatever opens it.
use Rattle.std.specs.Prelude.{◌≡◌, ◌⊎◌, false, ℕ, List, [], ◌∷◌, Option, Some, None, MatchOption, Result, Ok, Err, IfOk, MatchResult, codes, ⊤, Bool}
use Rattle.dict_desk.specs.declared.fault.Fault.{Fault}
use Rattle.dict_catalogue.specs.Commands.{Command}
use Rattle.dict_catalogue.specs.Steps.{Catalogue, CommandRequest}
use Rattle.dict_desk.specs.declared.lookup.Lookup as lookup
use Rattle.dict_index.specs.Edition.{Edition}
use Rattle.dict_desk.specs.Expected.{Expected}
use Rattle.dict_proto.specs.Streams.{StreamChange}
use Rattle.app_words.specs.Writing.{IsUntouched, Prints}
use Rattle.app_words.specs.declared.fault.ProgramFault.{ProgramFault}
use Rattle.app_words.specs.declared.fault.ProgramFault.TheVariants as faults
use Rattle.dict_session.specs.Desks.{Stays as DeskStays}
use Rattle.net_serving.specs.Deeds.{Makes, Opens, Speaks, Closes, Does, IsShut}
use Rattle.net_driver.specs.declared.binding.Network as network
use Rattle.net_driver.specs.declared.driver.Driver.{Driver}
use Rattle.net_driver.specs.declared.sockets.SystemSockets.{SystemSockets}
use Rattle.net_serving.specs.Done.{ServeEnds}
use Rattle.net_serving.specs.Listening.{Begins}
use Rattle.net_serving.specs.Serving.{IsNew, IsNone, IsNotReopened}
use Rattle.net_serving.specs.declared.desks.DeskOpener as desks
use Rattle.app_words.specs.Changing.{IsChanged}
use Rattle.app_words.specs.Installing.{InstallEnds}
use Rattle.app_words.specs.Listed.{IsListed}
use Rattle.app_commands.specs.Catalogues.{IsSpared, IsMadeEmpty, StaysTrusted}
use Rattle.app_commands.specs.Serving.{WasShutBy}
use Rattle.app_commands.specs.declared.catalogues.Catalogues as catalogues

-- a file was read whole, and then closed: that it is sound is told where both went well, and else the first fault
abbrev pub TellsSound : Result (Unit {0}) ProgramFault → Result (Unit {0}) ProgramFault → Result (Unit {0}) ProgramFault → StreamChange → Type 0
TellsSound (Err fault) closed result writer = (result ≡ Err fault) × IsUntouched writer
TellsSound (Ok _) (Err fault) result writer = (result ≡ Err fault) × IsUntouched writer
TellsSound (Ok _) (Ok _) result writer = Prints (codes "sound\n") result writer

-- By what is known of desks, and of what opens and closes them.
module _ {K D : Type 0} (k : lookup.Ghosts K) (d : desks.Ghosts D K) where
  -- a desk was closed
  abbrev pub IsShutBy : K → Result (Unit {0}) ProgramFault → D → Type 0
  IsShutBy = IsShut k.shows k.leaves_one_of k.is_trusted d.is_safe d.holds_alone d.still_leaves d.still_keeps d.is_uncopied

  -- a desk was opened, and answers
  abbrev pub IsAnswering : K → Type 0
  IsAnswering desk = IsNew k.shows k.leaves_one_of k.is_trusted (d.is_opened None) desk × (k.is_closed desk ≡ false)

  -- There is no desk of the file with a path; or one was opened, this was done over it, and what it became was closed. Nothing else was
  -- done to any file
  abbrev pub EndsOn : List ℕ → (K → K → Result (Unit {0}) ProgramFault → Type 0) → D → D → Result (Unit {0}) ProgramFault → StreamChange → Type 0
  EndsOn path Done old new result writer =
      ((fault : ProgramFault) × (result ≡ Err fault) × IsNone (d.is_unopened path old new) fault × Does (d.history old) (d.history new) (Opens path None ∷ []) × IsUntouched writer)
      ⊎ ((desk : K) × (left : K) × (closed : Result (Unit {0}) ProgramFault) × IsAnswering desk
      × Does (d.history old) (d.history new) (Opens path (Some desk) ∷ Closes left ∷ []) × IsShutBy left closed new × Done desk left closed)

  -- where memory is told to have run out, a desk shows what it showed, and a stop leaves nothing that it couldn't leave before
  abbrev pub WasSpared : K → K → Result (Unit {0}) ProgramFault → Type 0
  WasSpared desk left result = result ≡ Err faults.Memory → DeskStays k.shows k.leaves_one_of k.keeps_beside k.is_trusted k.is_closed desk left

  -- the items were listed
  abbrev pub ListEnds : List ℕ → D → D → Result (Unit {0}) ProgramFault → StreamChange → Type 0
  ListEnds path old new result writer = EndsOn path (λ desk left closed. (left ≡ desk) × IsListed (k.shows desk) result writer) old new result writer

  -- a command was asked for; `fails` names why one of a desk fails
  abbrev pub ChangeEnds : (K → CommandRequest → K → Fault → Type 0) → List ℕ → List ℕ → Command Edition → D → D → Result (Unit {0}) ProgramFault → StreamChange → Type 0
  ChangeEnds fails path id command old new result writer =
      EndsOn path (λ desk left closed. IsChanged k.shows k.leaves_one_of k.keeps_beside k.is_trusted k.is_closed fails desk left id command result writer × WasSpared desk left result) old new result writer

  -- an install of two files was asked for
  abbrev pub InstallsOn : (K → CommandRequest → K → Fault → Type 0) → (List ℕ → Option (List ℕ)) → List ℕ → List ℕ → List ℕ → List ℕ → List ℕ → D → D → Result (Unit {0}) ProgramFault → StreamChange → Type 0
  InstallsOn fails files path name id index text old new result writer =
      EndsOn path (λ desk left closed. InstallEnds k.shows k.leaves_one_of k.keeps_beside k.is_trusted k.is_closed k.gives_way fails files desk left name id index text result writer × WasSpared desk left result) old new result writer

  -- the catalogue of the file with a path was served at two addresses that a network bound, for so many rounds, or wasn't
  unfoldable pub ServesOn : {B L : Type 0} → network.Ghosts B L SystemSockets → (K → Expected → K → Type 0) → (K → Result Bool Fault → K → Type 0) → List ℕ → List ℕ → List ℕ → Option ℕ → D → D → Result (Unit {0}) ProgramFault
      → StreamChange → Type 0
  ServesOn n expects prepares path dict http rounds old new result writer =
      (kept : Option Driver) × ServeEnds k.shows k.leaves_one_of k.keeps_beside k.is_trusted d.is_opened k.has_failed k.is_closed expects prepares (Begins n) (λ path. d.is_unopened path old new) (WasShutBy k d new)
      (IsNotReopened k.leaves_one_of d.is_unreopened d.still_leaves d.still_keeps new) (d.history old) (d.history new) path dict http rounds result writer kept

  module _ (c : catalogues.Ghosts D K) where
    -- the file that was closed holds alone a catalogue that the desk showed: this is told where it returned what was written to it
    abbrev pub IsLeftShownAlone : K → D → Type 0
    IsLeftShownAlone desk new = d.is_safe new → (M : Catalogue) × k.shows desk M × d.holds_alone new M

    -- The file was read whole, the desk shows what it showed, and the file was closed. It is sound, and that is told where it holds its
    -- catalogue alone
    abbrev pub IsAudited : K → K → Result (Unit {0}) ProgramFault → D → Result (Unit {0}) ProgramFault → StreamChange → Type 0
    IsAudited desk left closed new result writer =
        (audited : Result (Unit {0}) ProgramFault) × MatchResult audited (λ _. c.is_sound desk left) (c.is_unsound desk left) × StaysTrusted k.shows k.leaves_one_of k.keeps_beside k.is_trusted desk left
        × TellsSound audited closed result writer × IfOk closed (λ _. IsLeftShownAlone desk new)

    -- the catalogue was read whole
    abbrev pub AuditEnds : List ℕ → D → D → Result (Unit {0}) ProgramFault → StreamChange → Type 0
    AuditEnds path old new result writer = EndsOn path (λ desk left closed. IsAudited desk left closed new result writer) old new result writer

    -- a catalogue was made in the file with a path, and the file closed; or none was. Nothing else was done to any file
    abbrev pub CreateEnds : List ℕ → D → D → Result (Unit {0}) ProgramFault → Type 0
    CreateEnds path old new result =
        ((fault : ProgramFault) × (result ≡ Err fault) × c.is_unmade path old new fault × Does (d.history old) (d.history new) (Makes path None ∷ []))
        ⊎ ((desk : K) × (closed : Result (Unit {0}) ProgramFault) × (result ≡ Ok tt) × IsMadeEmpty k.shows k.leaves_one_of c.is_made desk
        × Does (d.history old) (d.history new) (Makes path (Some desk) ∷ Closes desk ∷ []) × IsShutBy desk closed new)

    -- a session was run over the catalogue of the file with a path, and the desk that it left was closed, if there was one. Nothing else was
    -- done to any file
    abbrev pub SessionEnds : List ℕ → D → D → Result (Unit {0}) ProgramFault → StreamChange → StreamChange → Type 0
    SessionEnds path old new result reader writer =
        ((left : Option K) × c.has_spoken path left old new result reader writer × Does (d.history old) (d.history new) (Speaks path left ∷ [])
        × MatchOption left ⊤ (λ desk. (closed : Result (Unit {0}) ProgramFault) × IsShutBy desk closed new)) × IsSpared result reader writer
