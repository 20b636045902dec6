-- What comes of a session over a database.
use Rattle.std.specs.Prelude.{◌≡◌, ℕ, false, IsTrue, List, Option, Result}
use Rattle.sqlite.specs.Effect.{Database}
use Rattle.sqlite.specs.State.{HasCleanDisk}
use Rattle.sqlite.specs.Tree.{Trees}
use Rattle.sqlite.specs.Held.{Held, state}
use Rattle.sqlite_trees.specs.declared.store.Store.{Ghosts}
use Rattle.dict_catalogue.specs.Steps.{Catalogue}
use Rattle.dict_desk.specs.declared.fault.Fault.{Fault}
use Rattle.store_holdings.specs.Holds.{IsHeld, IsLeft}
use Rattle.dict_proto.specs.Streams.{StreamChange}
use Rattle.dict_session.specs.Desks.{Condition}
use Rattle.dict_session.specs.Run.{Ends}
use Rattle.dict_session.specs.Through.{EndsThrough}
use Rattle.dict_session.specs.declared.session.run.SessionEnd.{SessionEnd}
use Rattle.dict_session.specs.declared.session.run.SessionFault.{SessionFault}
use Rattle.store_desk.specs.Desk.{DeskState, HasBeside, IsOneOf, Shows, has_failed, is_closed}
use Rattle.store_desk.specs.Opened.{IsNotLeft}
use Rattle.store_desk.specs.declared.last.LastCall.{LastCall}

-- a reader or a writer was left alone
abbrev pub IsUnmoved : StreamChange → Type 0
IsUnmoved change = change.new ≡ change.old

-- how a desk stands whose last call ended so
abbrev pub condition_by : LastCall → Condition
condition_by last = record { failed = has_failed last; closed = is_closed last }

module _ {S : Type 0} (g : Ghosts S) where
  -- A session over this catalogue ended so, greeted under this host and number, and left the desk, which shows it still. What was written
  -- answers each line by how the desk stood before it: it was open before the first.
  pub record EndsOver (desk : DeskState S) (host : List ℕ) (number : ℕ) (end : Result SessionEnd SessionFault) (reader writer : StreamChange) (M : Catalogue) : Type 0 where
    pub ended : Ends M host number (condition_by desk.last) end reader writer
    pub through : EndsThrough M host number false (condition_by desk.last) end reader writer
    pub shown : Shows g desk M

  -- The database that was committed holds a catalogue, and whichever it holds, the session is one over that; so it is where a
  -- stop left its trees.
  pub record HasRun (conn : Held S) (desk : DeskState S) (host : List ℕ) (number : ℕ) (end : Result SessionEnd SessionFault) (reader writer : StreamChange) : Type 0 where
    pub catalogue : Catalogue
    pub held : IsHeld (state g conn).committed catalogue
    pub over : (M : Catalogue) → IsHeld (state g conn).committed M → EndsOver desk host number end reader writer M
    pub left : (M : Catalogue) → IsLeft M (state g conn).committed.trees → EndsOver desk host number end reader writer M

  -- the fault of an opening tells nothing of what a stop left of a catalogue
  abbrev pub TellsNoLeft : Held S → Held S → Fault → Type 0
  TellsNoLeft conn left fault = HasCleanDisk (state g left) → IsTrue (state g conn).is_open → IsNotLeft (state g conn).now.trees fault

  -- whatever a stop now leaves of the database has the tables of others that this one has, as they are there
  abbrev pub ConnectionKeepsBeside : Held S → Database → Type 0
  ConnectionKeepsBeside conn db = HasCleanDisk (state g conn) → (trees : Trees) → (state g conn).may_leave trees → HasBeside db trees

  -- whatever a stop now leaves of the database stands for one of these catalogues, or for none
  abbrev pub ConnectionLeavesOneOf : Held S → List (Option Catalogue) → Type 0
  ConnectionLeavesOneOf conn ms = HasCleanDisk (state g conn) → (trees : Trees) → (state g conn).may_leave trees → IsOneOf ms trees
