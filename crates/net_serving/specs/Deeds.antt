-- What is done to files: which desks were opened of them, and which were closed.
use Rattle.std.specs.Prelude.{◌≡◌, ◌⊎◌, ◌++◌, ℕ, List, Option, Some, None, option_map, Result, Ok, Err, IfOk, IfErr}
use Rattle.dict_catalogue.specs.Steps.{Catalogue}
use Rattle.app_words.specs.declared.fault.ProgramFault.{ProgramFault}
use Rattle.app_words.specs.declared.fault.ProgramFault.TheVariants as faults
use Rattle.app_words.specs.declared.fault.StoreFault.TheVariants as store_faults

-- One thing that was done: a catalogue was made in the file at a path, and this is its desk, or there is none; the file was opened; a
-- desk was closed and its file opened again, and this is the new desk, or there is none; a session was run over the file, which was
-- opened for it and then closed, and this is the desk that was closed, or there was none; a desk was closed.
pub data Deed (K : Type 0) : Type 0 where
  Makes : List ℕ → Option K → Deed K
  Opens : List ℕ → Option K → Deed K
  Reopens : List ℕ → K → Option K → Deed K
  Speaks : List ℕ → Option K → Deed K
  Closes : K → Deed K

-- a history, where it is known, went on by these
abbrev pub Does : {K : Type 0} → Option (List (Deed K)) → Option (List (Deed K)) → List (Deed K) → Type 0
Does old new deeds = new ≡ option_map (λ before. before ++ deeds) old

-- the desk that a call gave, or none
abbrev pub got : {K E : Type 0} → Result K E → Option K
got (Ok desk) = Some desk
got (Err fault) = None

-- why a file doesn't hold its catalogue alone: memory ran out, or its store failed
abbrev pub IsOfCopy : ProgramFault → Type 0
IsOfCopy fault = (fault ≡ faults.Memory) ⊎ (fault ≡ faults.Store store_faults.Disk)

module _ {K D : Type 0} (Shows : K → Catalogue → Type 0) (LeavesOneOf : K → List (Option Catalogue) → Type 0) (IsTrusted : K → Type 0)
    (IsSafe : D → Type 0) (HoldsAlone : D → Catalogue → Type 0) (StillLeaves : K → D → List (Option Catalogue) → Type 0) (StillKeeps : K → D → Type 0) (IsUncopied : K → D → ProgramFault → Type 0) where
  -- A desk was closed: its file holds alone what was shown; or it doesn't, for a cause, and a stop may leave nothing of the file and
  -- its log together that it couldn't leave of the desk. What was kept beside the catalogue is kept.
  pub record IsShut (desk : K) (closed : Result (Unit {0}) ProgramFault) (new : D) : Type 0 where
    pub trust : IsSafe new → IsTrusted desk
    pub alone : IfOk closed (λ _. IsSafe new → (M : Catalogue) → Shows desk M → HoldsAlone new M)
    pub leaves : IfErr closed (λ _. (ms : List (Option Catalogue)) → LeavesOneOf desk ms → StillLeaves desk new ms)
    pub beside : StillKeeps desk new
    pub kinds : IfErr closed IsOfCopy
    pub caused : IfErr closed (λ fault. IsSafe new → IsUncopied desk new fault)

  -- it was closed, and this is what is held of it
  abbrev pub WasShut : D → K → Type 0
  WasShut new desk = (closed : Result (Unit {0}) ProgramFault) × IsShut desk closed new
