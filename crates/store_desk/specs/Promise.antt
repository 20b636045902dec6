-- The promise: no acknowledged command is lost, and none is there in part.
use Rattle.std.specs.Prelude.{◌≡◌, ◌⊎◌, ℕ, ◌+◌, ◌≤◌, List, [], ◌∷◌, take, Some}
use Rattle.sqlite.specs.Tree.{Trees}
use Rattle.sqlite.specs.State.{HasCleanDisk}
use Rattle.sqlite.specs.Held.{state}
use Rattle.sqlite_trees.specs.declared.store.Store.{Ghosts}
use Rattle.dict_catalogue.specs.Steps.{Catalogue, CommandRequest, after}
use Rattle.dict_desk.specs.declared.fault.Fault.{Fault}
use Rattle.dict_desk.specs.declared.fault.Fault.TheVariants.{Refused, Memory, Disk, Closed, NotACatalogue, Damaged, NewerSchema}
use Rattle.store_holdings.specs.Holds.{IsLeft}
use Rattle.store_desk.specs.Desk.{DeskState, Shows, LeavesOneOf}

-- these trees are of a database that holds this catalogue, and no other
pub record IsLeftAlone (M : Catalogue) (trees : Trees) : Type 0 where
  pub left : IsLeft M trees
  pub alone : (N : Catalogue) → IsLeft N trees → N ≡ M

-- these trees are of a database that holds the catalogue after a front of the commands, and no other; the front has every one
-- of so many that were answered, and at most one more
abbrev pub HoldsFront : Catalogue → List CommandRequest → ℕ → Trees → Type 0
HoldsFront before requests answered trees = (front : ℕ) × (answered ≤ front) × (front ≤ answered + 1) × IsLeftAlone (after before (take front requests)) trees

module _ {S : Type 0} (g : Ghosts S) where
  -- a catalogue is shown, and a stop leaves that one alone
  pub record KeepsAlone (desk : DeskState S) (M : Catalogue) : Type 0 where
    pub shown : Shows g desk M
    pub alone : LeavesOneOf g desk (Some M ∷ [])

  -- Between two states of a desk so many of these commands were answered: whatever a stop now leaves holds the catalogue
  -- after a front of them, with each that was answered.
  abbrev pub KeepsFront : DeskState S → DeskState S → List CommandRequest → ℕ → Type 0
  KeepsFront old new requests answered =
      (M : Catalogue) → KeepsAlone old M → HasCleanDisk (state g new.conn) → (trees : Trees) → (state g new.conn).may_leave trees → HoldsFront M requests answered trees

  -- Of these commands so many stand, and then the store failed: the catalogue after those is shown, or the one after one command
  -- more; and whatever a stop now leaves holds one of the two.
  pub record KeepsOrOneMore (desk : DeskState S) (before : Catalogue) (requests : List CommandRequest) (stand : ℕ) : Type 0 where
    pub shown : Shows g desk (after before (take stand requests)) ⊎ Shows g desk (after before (take (stand + 1) requests))
    pub left : HasCleanDisk (state g desk.conn) → (trees : Trees) → (state g desk.conn).may_leave trees → HoldsFront before requests stand trees

  -- Of these commands so many stand, and then one failed by this fault. One more may be there after a 41 alone; after each other
  -- fault the catalogue after those that stand is kept alone, and the promise goes on over it.
  abbrev pub KeepsAt : DeskState S → Catalogue → List CommandRequest → ℕ → Fault → Type 0
  KeepsAt desk before requests stand (Refused refusal) = ⊥
  KeepsAt desk before requests stand Memory = KeepsAlone desk (after before (take stand requests))
  KeepsAt desk before requests stand Disk = KeepsOrOneMore desk before requests stand
  KeepsAt desk before requests stand Closed = KeepsAlone desk (after before (take stand requests))
  KeepsAt desk before requests stand NotACatalogue = ⊥
  KeepsAt desk before requests stand Damaged = ⊥
  KeepsAt desk before requests stand NewerSchema = ⊥
