-- What is committed of one kind of database.
use Rattle.std.specs.Prelude.{◌≡◌, IsTrue}
use Rattle.sqlite.specs.Effect.{Database, IsDatabase}
use Rattle.sqlite.specs.Tree.{Trees}
use Rattle.sqlite.specs.State.{State}

-- trees that a stop may leave: those of a database of this kind
abbrev pub IsTreesOf : (Database → Type 0) → Trees → Type 0
IsTreesOf P trees = (db : Database) × (trees ≡ db.trees) × IsDatabase db × P db

-- the store is open and shows what is committed, which is of this kind, and a stop leaves such a database alone
pub record IsCommitted (P : Database → Type 0) (s : State) : Type 0 where
  pub is_open : IsTrue s.is_open
  pub settled : s.now ≡ s.committed
  pub holds : P s.committed
  pub only : (trees : Trees) → s.may_leave trees → IsTreesOf P trees
