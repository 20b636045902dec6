-- What comes of an install that the program is asked for: the id is looked up first, then the two files are read, and then
-- the edition that they say is installed.
use Rattle.std.specs.Prelude.{◌≡◌, ◌↔◌, ◌⊎◌, ℕ, Bool, true, false, List, Option, None, Some, Result, Err, ⊤}
use Rattle.dict_proto.specs.Streams.{StreamChange}
use Rattle.dict_index.specs.Edition.{Edition}
use Rattle.dict_index.specs.Meaning.{IsEdition, IsFault}
use Rattle.dict_catalogue.specs.Commands.{install}
use Rattle.dict_catalogue.specs.Steps.{Catalogue, CommandRequest, kept_under}
use Rattle.dict_catalogue.specs.Views.{kept_shown}
use Rattle.dict_catalogue.specs.declared.reply.Kept.{Kept}
use Rattle.dict_desk.specs.Faults.{IsOfLookup}
use Rattle.dict_desk.specs.declared.fault.Fault.{Fault as DeskFault}
use Rattle.dict_desk.specs.declared.fault.Fault.TheVariants as desk_faults
use Rattle.dict_session.specs.Desks.{Stays}
use Rattle.app_words.specs.Faults.{told_of}
use Rattle.app_words.specs.Writing.{IsUntouched, Prints}
use Rattle.app_words.specs.declared.fault.ProgramFault.{ProgramFault}
use Rattle.app_words.specs.declared.fault.ProgramFault.TheVariants as faults
use Rattle.app_words.specs.Changing.{IsChanged, kept_line}
use Rattle.app_words.specs.Files.{IsReadFrom, AreUnreadFiles}

-- an index and a text are no edition: the first test that they don't pass is told; or memory ran out
abbrev pub IsNoEdition : List ℕ → List ℕ → Result (Unit {0}) ProgramFault → Type 0
IsNoEdition index text (Err (faults.Line refusal line)) = IsFault index text refusal (Some line)
IsNoEdition index text (Err (faults.Edition refusal)) = IsFault index text refusal None
IsNoEdition index text (Err faults.Memory) = ⊤
IsNoEdition index text _ = ⊥

module _ {D Beside : Type 0} (Shows : D → Catalogue → Type 0) (LeavesOneOf : D → List (Option Catalogue) → Type 0) (KeepsBeside : D → Beside → Type 0) (IsTrusted : D → Type 0) (is_closed : D → Bool)
    (GivesWay : D → D → DeskFault → Type 0) (FailsToApply : D → CommandRequest → D → DeskFault → Type 0) where
  -- a reply is kept under the id: it was told again, by a desk that is open
  pub record IsToldAgain (old new : D) (id : List ℕ) (result : Result (Unit {0}) ProgramFault) (writer : StreamChange) : Type 0 where
    pub reply : Kept
    pub kept : IsTrusted new → (catalogue : Catalogue) → Shows old catalogue → Some (kept_shown reply) ≡ kept_under catalogue.kept id
    pub answers : is_closed new ≡ false
    pub stays : Stays Shows LeavesOneOf KeepsBeside IsTrusted is_closed old new
    pub line : Prints (kept_line (kept_shown reply)) result writer

  -- whether one is kept couldn't be told, for a cause that the desk names; `Closed` tells just that it was closed before
  pub record IsNotLookedUp (old new : D) (result : Result (Unit {0}) ProgramFault) (writer : StreamChange) : Type 0 where
    pub fault : DeskFault
    pub kind : IsOfLookup fault
    pub caused : IsTrusted new → GivesWay old new fault
    pub closed : (fault ≡ desk_faults.Closed) ↔ (is_closed old ≡ true)
    pub told : result ≡ Err (told_of fault)
    pub stays : Stays Shows LeavesOneOf KeepsBeside IsTrusted is_closed old new
    pub untouched : IsUntouched writer

  -- none is kept under the id, and the desk is open
  pub record HasNoReply (old new : D) (id : List ℕ) : Type 0 where
    pub none : IsTrusted new → (catalogue : Catalogue) → Shows old catalogue → None ≡ kept_under catalogue.kept id
    pub answers : is_closed new ≡ false
    pub stays : Stays Shows LeavesOneOf KeepsBeside IsTrusted is_closed old new

  -- the index and the text are no edition, or theirs was installed
  abbrev pub InstallsRead : D → D → List ℕ → List ℕ → List ℕ → List ℕ → Result (Unit {0}) ProgramFault → StreamChange → Type 0
  InstallsRead old new name id index text result writer =
      (IsNoEdition index text result × (new ≡ old) × IsUntouched writer)
      ⊎ ((edition : Edition) × IsEdition index text edition × IsChanged Shows LeavesOneOf KeepsBeside IsTrusted is_closed FailsToApply old new id (install name edition) result writer)

  -- the files weren't read, or they were
  abbrev pub InstallsFiles : (List ℕ → Option (List ℕ)) → D → D → List ℕ → List ℕ → List ℕ → List ℕ → Result (Unit {0}) ProgramFault → StreamChange → Type 0
  InstallsFiles files old new name id index text result writer =
      (AreUnreadFiles files index text result × (new ≡ old) × IsUntouched writer)
      ⊎ ((i : List ℕ) × (t : List ℕ) × IsReadFrom (files index) i × IsReadFrom (files text) t × InstallsRead old new name id i t result writer)

  -- what comes of an install under an id, over files of these octets by their paths
  unfoldable pub InstallEnds : (List ℕ → Option (List ℕ)) → D → D → List ℕ → List ℕ → List ℕ → List ℕ → Result (Unit {0}) ProgramFault → StreamChange → Type 0
  InstallEnds files old new name id index text result writer =
      IsToldAgain old new id result writer
      ⊎ (IsNotLookedUp old new result writer
      ⊎ ((middle : D) × HasNoReply old middle id × InstallsFiles files middle new name id index text result writer))
