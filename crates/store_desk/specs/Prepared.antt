-- What is prepared of a change.
use Rattle.std.specs.Prelude.{◌≡◌, false, List, Option, Result, Ok, Err}
use Rattle.sqlite.specs.Effect.{Database}
use Rattle.sqlite.specs.State.{HasCleanDisk}
use Rattle.sqlite.specs.Held.{state}
use Rattle.sqlite_trees.specs.declared.store.Store.{Ghosts}
use Rattle.dict_catalogue.specs.Steps.{Catalogue}
use Rattle.dict_desk.specs.Keeping.{KeepsCatalogue}
use Rattle.dict_desk.specs.declared.fault.Fault.{Fault}
use Rattle.store_holdings.specs.Committed.{IsCommitted}
use Rattle.store_commands.specs.Marking.{Remains}
use Rattle.store_desk.specs.Causes.{FailsToPrepare}
use Rattle.store_desk.specs.Desk.{DeskState, KeepsBeside, LeavesOneOf, Shows, has_failed, is_closed, last_by}
use Rattle.store_desk.specs.Left.{recounted}
use Rattle.store_desk.specs.declared.last.LastCall.{LastCall}

-- how the last call ended, where something was prepared behind it: that tells nothing unless it failed
abbrev pub last_behind : {T : Type 0} → LastCall → Result T Fault → LastCall
last_behind last (Ok value) = last
last_behind last (Err fault) = last_by {T = Unit {0}} (Err fault)

module _ {S : Type 0} (g : Ghosts S) where
  -- a call that prepares changes no catalogue, and the desk has failed if it had, or if the call did
  abbrev pub KeepsDesk : {T : Type 0} → DeskState S → DeskState S → Result T Fault → Type 0
  KeepsDesk old new result =
      KeepsCatalogue (λ (d : DeskState S) (M : Catalogue). Shows g d M) (λ (d : DeskState S) (ms : List (Option Catalogue)). LeavesOneOf g d ms) (λ (d : DeskState S) (db : Database). KeepsBeside g d db)
      (λ (d : DeskState S). HasCleanDisk (state g d.conn)) (λ (d : DeskState S). has_failed d.last) (λ (d : DeskState S). is_closed d.last) (FailsToPrepare g) (has_failed old.last) old new result

  -- The log was copied, parts of no edition were taken out, or some of an edition that comes were filed, by a commit behind which all that was
  -- held is held; of the desk the connection alone is another, and what is left to prepare. No transaction was open, nor is one.
  pub record HasCommittedSame (old new : DeskState S) : Type 0 where
    pub before : old.conn.in_transaction ≡ false
    pub ended : new.conn.in_transaction ≡ false
    pub same : new ≡ record old { conn = new.conn; counts = recounted old.counts new.counts }
    pub done : IsCommitted (Remains old.summary (state g old.conn).committed) (state g new.conn)
