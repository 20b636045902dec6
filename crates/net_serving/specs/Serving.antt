-- How serving goes: the stretches of rounds, one for each opening of the file.
use Rattle.std.specs.Prelude.{◌≡◌, ◌⊎◌, ◌+◌, ℕ, Bool, true, false, List, [], ◌∷◌, Option, None, Some, Contains, Result, Ok, Err, codes, ⊤}
use Rattle.dict_desk.specs.declared.fault.Fault.{Fault}
use Rattle.std.specs.declared.io.Error.{Error}
use Rattle.std.specs.declared.io.ErrorKind.{ErrorKind}
use Rattle.dict_catalogue.specs.Steps.{Catalogue}
use Rattle.dict_desk.specs.Expected.{Expected}
use Rattle.dict_proto.specs.Streams.{StreamChange, PutsAll}
use Rattle.net_hub.specs.Runs.{IsAt, beginning}
use Rattle.net_connection.specs.Leading.{HasLedOn}
use Rattle.net_driver.specs.Rounds.{Moves}
use Rattle.net_driver.specs.Binding.{IsAddress, AreTold}
use Rattle.net_driver.specs.Serving.{rounds_of, longest_wait}
use Rattle.net_driver.specs.Driving.{AreDriven}
use Rattle.net_driver.specs.declared.driver.Driver.{Driver}
use Rattle.net_driver.specs.declared.serving.RoundsEnd.{RoundsEnd}
use Rattle.net_driver.specs.declared.serving.RoundsEnd.TheVariants.{Closed}
use Rattle.app_words.specs.declared.fault.ProgramFault.{ProgramFault}
use Rattle.app_words.specs.declared.fault.ProgramFault.TheVariants as faults
use Rattle.net_serving.specs.Counting.{MakesAll}
use Rattle.net_serving.specs.Listening.{TellsKind, lines_of}

-- one opening of the file: its desk as it was opened, and as it was left, how many rounds were to be made over it, how many were, and how
-- they ended
pub record Stretch (K : Type 0) : Type 0 where
  pub opened : K
  pub left : K
  pub asked : ℕ
  pub rounds : ℕ
  pub ended : Result RoundsEnd Error

-- rounds ended since the store of the desk had failed, and so many were left
abbrev pub AreRoundsLeft : Result RoundsEnd Error → ℕ → Type 0
AreRoundsLeft ended left = ended ≡ Ok (Closed left)

-- the faults of a file and of its catalogue: the file can't be read, or its catalogue can't be had, or memory ran out. No refusal is one
abbrev pub IsOfFile : ProgramFault → Type 0
IsOfFile (faults.Line refusal line) = ⊥
IsOfFile (faults.Edition refusal) = ⊥
IsOfFile (faults.Refused refusal) = ⊥
IsOfFile (faults.Store fault) = ⊤
IsOfFile (faults.CannotRead path) = ⊤
IsOfFile faults.SessionEnded = ⊥
IsOfFile faults.CannotWrite = ⊥
IsOfFile (faults.CannotBind address) = ⊥
IsOfFile faults.CannotWait = ⊥
IsOfFile faults.Memory = ⊤

-- there is no desk of the file, for a reason that is given, and by a fault of a file
abbrev pub IsNone : (ProgramFault → Type 0) → ProgramFault → Type 0
IsNone Unopened fault = Unopened fault × IsOfFile fault

-- The file of a desk, which was closed, isn't opened again, for a reason that is given; a stop leaves nothing of what is held of
-- it then that it couldn't leave of the desk; and what was kept beside the catalogue is kept.
pub record IsNotReopened {K D : Type 0} (LeavesOneOf : K → List (Option Catalogue) → Type 0) (IsUnreopened : List ℕ → K → D → ProgramFault → Type 0)
    (StillLeaves : K → D → List (Option Catalogue) → Type 0) (StillKeeps : K → D → Type 0) (held : D) (path : List ℕ) (desk : K) (fault : ProgramFault) : Type 0 where
  pub why : IsUnreopened path desk held fault
  pub leaves : (ms : List (Option Catalogue)) → LeavesOneOf desk ms → StillLeaves desk held ms
  pub beside : StillKeeps desk held

-- a catalogue is shown, and a stop leaves that one alone
abbrev pub StandsAlone : {K : Type 0} → (K → Catalogue → Type 0) → (K → List (Option Catalogue) → Type 0) → K → Type 0
StandsAlone Shows LeavesOneOf desk = (M : Catalogue) × Shows desk M × LeavesOneOf desk (Some M ∷ [])

-- The desk was opened. It shows a catalogue, and a stop leaves that one alone: this is told where what it stands on has returned
-- what was written to it
pub record IsNew {K : Type 0} (Shows : K → Catalogue → Type 0) (LeavesOneOf : K → List (Option Catalogue) → Type 0) (IsTrusted : K → Type 0) (IsOpened : K → Type 0)
    (desk : K) : Type 0 where
  pub opened : IsOpened desk
  pub alone : IsTrusted desk → StandsAlone Shows LeavesOneOf desk

-- the desk was opened, by its path or again after another
abbrev pub WasOpened : {K : Type 0} → (Option K → K → Type 0) → K → Type 0
WasOpened {K} IsOpened desk = (former : Option K) × IsOpened former desk

-- the desk answers: it was opened just now, or its store didn't fail
abbrev pub IsOpen : {K : Type 0} → (K → Bool) → (K → Type 0) → K → Type 0
IsOpen is_closed IsOpened desk = IsOpened desk ⊎ (is_closed desk ≡ false)

-- the first stretch, if there is one, is over this desk, and so many rounds were to be made over it
abbrev pub IsFirstStretch : {K : Type 0} → ℕ → K → List (Stretch K) → Type 0
IsFirstStretch rounds desk [] = ⊤
IsFirstStretch rounds desk (one ∷ others) = (one.opened ≡ desk) × (one.asked ≡ rounds)

-- A desk shows one of the catalogues that a stop could have left of another, this is told where what it stands on has returned what was
-- written to it; and then what the other stood on had too. A stop leaves what it shows alone. What was beside that catalogue is kept
pub record Follows {K Beside : Type 0} (Shows : K → Catalogue → Type 0) (LeavesOneOf : K → List (Option Catalogue) → Type 0) (KeepsBeside : K → Beside → Type 0) (IsTrusted : K → Type 0) (old new : K) : Type 0 where
  pub shows : IsTrusted new → (ms : List (Option Catalogue)) → LeavesOneOf old ms → ∥ ((M : Catalogue) × Contains ms (Some M) × Shows new M) ∥₁
  pub only : IsTrusted new → (M : Catalogue) → Shows new M → LeavesOneOf new (Some M ∷ [])
  pub trust : IsTrusted new → IsTrusted old
  pub beside : (beside : Beside) → KeepsBeside old beside → KeepsBeside new beside

-- the driver couldn't wait for its sockets
abbrev pub CannotWait : Driver → ProgramFault → Type 0
CannotWait driver fault = (kind : ErrorKind) × (driver.event_loop.failure ≡ Some kind) × TellsKind kind fault

-- the last of these stretches, and there is one, ended since the store of its desk had failed, and the fault tells why the file isn't
-- opened again after that desk
abbrev pub HasGivenOut : {K : Type 0} → (K → Bool) → (K → ProgramFault → Type 0) → List (Stretch K) → ProgramFault → Type 0
HasGivenOut is_closed Unreopened [] fault = ⊥
HasGivenOut is_closed Unreopened (one ∷ []) fault = (is_closed one.left ≡ true) × IsNone (Unreopened one.left) fault
HasGivenOut is_closed Unreopened (one ∷ other ∷ others) fault = HasGivenOut is_closed Unreopened (other ∷ others) fault

-- there is a last stretch, and its desk was closed
abbrev pub HasShut : {K : Type 0} → (K → Type 0) → List (Stretch K) → Type 0
HasShut Shut [] = ⊥
HasShut Shut (one ∷ []) = Shut one.left
HasShut Shut (one ∷ other ∷ others) = HasShut Shut (other ∷ others)

-- All rounds were made: which desk was closed then `IsClosedBehind` tells. Or the driver couldn't wait for its sockets, and the last desk was closed; or the store of that had failed, and
-- the file isn't opened again
abbrev pub EndsServing : {K A : Type 0} → (K → Bool) → (K → Type 0) → (K → ProgramFault → Type 0) → List (Stretch K) → Driver → Result A ProgramFault → Type 0
EndsServing is_closed Shut Unreopened stretches driver (Ok _) = ⊤
EndsServing is_closed Shut Unreopened stretches driver (Err fault) = (CannotWait driver fault × HasShut Shut stretches) ⊎ HasGivenOut is_closed Unreopened stretches fault

module _ {K Beside : Type 0} (Shows : K → Catalogue → Type 0) (LeavesOneOf : K → List (Option Catalogue) → Type 0) (KeepsBeside : K → Beside → Type 0) (IsTrusted : K → Type 0) (IsOpened : Option K → K → Type 0)
    (is_closed : K → Bool) where
  -- The desk that is open behind stretches, the first over this desk, with so many rounds left: that of the last one, as this left it, where its store
  -- hasn't failed; where it has, the desk that its file was opened again as. Where there is no stretch, and so no round, it is the first one.
  abbrev pub IsOpenBehind : K → List (Stretch K) → K → ℕ → Type 0
  IsOpenBehind desk [] next left = next ≡ desk
  IsOpenBehind desk (one ∷ []) next left =
      ((next ≡ one.left) × (is_closed one.left ≡ false)) ⊎ ((is_closed one.left ≡ true) × Follows Shows LeavesOneOf KeepsBeside IsTrusted one.left next × IsOpened (Some one.left) next × AreRoundsLeft one.ended left)
  IsOpenBehind desk (one ∷ other ∷ others) next left = IsOpenBehind desk (other ∷ others) next left

-- By what a desk shows, what a stop may leave of it, what is beside the catalogue, that what it stands on has returned what was written, that it was opened, whether
-- its last call failed and its store has, and what it was told of and prepared.
module _ {K Beside : Type 0} (Shows : K → Catalogue → Type 0) (LeavesOneOf : K → List (Option Catalogue) → Type 0) (KeepsBeside : K → Beside → Type 0) (IsTrusted : K → Type 0) (IsOpened : Option K → K → Type 0)
    (has_failed is_closed : K → Bool) (expects : K → Expected → K → Type 0) (prepares : K → Result Bool Fault → K → Type 0) where
  -- Over the desk of one opening events led the hub from where it was to where it is, and what waits for each connection is what
  -- waited and what its own events put, without a front that was sent. So many rounds were made more than before, of those that were to be
  -- made, each from where the one before it ended; a wait between them was to last at most so many nanoseconds
  pub record IsOver (wait : ℕ) (one : Stretch K) (old new : Driver) : Type 0 where
    pub opened : IsNew Shows LeavesOneOf IsTrusted (WasOpened IsOpened) one.opened
    pub led : HasLedOn (IsTrusted one.left) (Shows one.opened) (LeavesOneOf one.opened) (Shows one.left) (LeavesOneOf one.left) old.event_loop.hub new.event_loop.hub
        (λ events. Moves old.event_loop.connections new.event_loop.connections events)
    pub by_rounds : AreDriven Shows LeavesOneOf KeepsBeside IsTrusted has_failed is_closed expects prepares one.asked old one.opened new one.left one.ended
    pub waits : by_rounds.0 ≡ wait
    pub trust : IsTrusted one.left → IsTrusted one.opened
    pub beside : (beside : Beside) → KeepsBeside one.opened beside → KeepsBeside one.left beside
    pub made : new.event_loop.rounds ≡ old.event_loop.rounds + one.rounds

  -- where others follow a stretch, its store had failed, the desk of the next was opened again after its desk and shows one of the
  -- catalogues that a stop could have left of that, and over it the rounds are to be made that were left
  abbrev pub GaveWay : Stretch K → List (Stretch K) → Type 0
  GaveWay one [] = ⊤
  GaveWay one (other ∷ others) = (is_closed one.left ≡ true) × Follows Shows LeavesOneOf KeepsBeside IsTrusted one.left other.opened × IsOpened (Some one.left) other.opened × AreRoundsLeft one.ended other.asked

  -- one stretch after the other, each from where the one before it left the hub and the connections, and each but the first because
  -- the store of the one before it had failed; a wait between rounds was to last at most so long
  abbrev pub AreServed : ℕ → List (Stretch K) → Driver → Driver → Type 0
  AreServed wait [] old new = new ≡ old
  AreServed wait (one ∷ others) old new = (between : Driver) × IsOver wait one old between × GaveWay one others × AreServed wait others between new

  -- Both texts are addresses, and those that were bound for them were told. Stretches, the first over this desk, led from a hub with no
  -- connection, of the host `localhost`, whose first id is to be 1, and from no round and no failed look; and as many rounds as were
  -- asked for were made by them, with waits as long as go with that number, or at a fault no more
  pub record HasServed (desk : K) (dict http : List ℕ) (rounds : Option ℕ) (result : Result (Unit {0}) ProgramFault) (Shut : K → Type 0) (Unreopened : K → ProgramFault → Type 0) (writer : StreamChange) : Type 0 where
    pub first : Driver
    pub last : Driver
    pub readers : IsAddress dict
    pub editors : IsAddress http
    pub bound : AreTold dict http first.addresses
    pub told : PutsAll writer.old writer.new (lines_of first.addresses.0 first.addresses.1)
    pub begins : IsAt first.event_loop.hub (beginning (codes "localhost"))
    pub no_id : first.event_loop.connections.last ≡ 0
    pub no_round : first.event_loop.rounds ≡ 0
    pub no_failure : first.event_loop.failure ≡ None
    pub stretches : List (Stretch K)
    pub over : IsFirstStretch (rounds_of rounds) desk stretches
    pub served : AreServed (longest_wait rounds) stretches first last
    pub made : MakesAll (rounds_of rounds) result last.event_loop.rounds
    pub ends : EndsServing is_closed Shut Unreopened stretches last result
