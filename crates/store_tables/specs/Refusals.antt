-- Why `sqlite` refuses a statement that writes, so that nothing is changed, and when a row is too big for it.
use Rattle.std.specs.Prelude.{◌≡◌, ◌⊎◌, ◌≤◌, ◌+◌, ℕ, Bool, true, false, not, IsSome, List, [], ◌∷◌, filter, drop, length, Option, Some, None, is_some}
use Rattle.sqlite.specs.declared.types.Value.TheVariants.{Null}
use Rattle.sqlite.specs.Order.{Row, column}
use Rattle.sqlite.specs.Table.{Table}
use Rattle.sqlite.specs.Schema.{Schema}
use Rattle.sqlite.specs.Tree.{Trees}
use Rattle.sqlite.specs.State.{State}
use Rattle.sqlite.specs.Effect.{Database, edit_error}
use Rattle.sqlite.specs.Change.{next_tree, is_used, without_table}
use Rattle.sqlite.specs.Edit.{Edit, edit_of}
use Rattle.sqlite.specs.Rowids.TheVariants.{Chosen}
use Rattle.sqlite.specs.declared.error.Error.{Error}
use Rattle.sqlite.specs.declared.error.Error.TheVariants.{SqliteFailure, SqlInputError}
use Rattle.sqlite.specs.declared.error.ErrorCode.TheVariants as code
use Rattle.sqlite_resolve.specs.declared.error.CompileError.{CompileError}
use Rattle.sqlite_trees.specs.Tree.{with_tree}
use Rattle.sqlite_catalog.specs.Change.{automatics}
use Rattle.sqlite_schema.specs.Names.{view_named}
use Rattle.sqlite_schema.specs.Rules.{Keeps, Refers}
use Rattle.sqlite_schema.specs.declared.schema.Among.TheVariants.{All}
use Rattle.sqlite_schema.specs.declared.schema.Index.{Index}
use Rattle.sqlite_schema.specs.declared.schema.Keys.TheVariants.{Enforced}
use Rattle.sqlite_schema.specs.declared.schema.Constraint.TheVariants.{PrimaryKey, Unique, ForeignKey}
use Rattle.sqlite_rules.specs.Edit.{IsRefused, IsOversized, edited}
use Rattle.sqlite_rules.specs.Lists.{Has as In}
use Rattle.sqlite_rules.specs.declared.error.Refusal.{Refusal}
use Rattle.sqlite_rules.specs.declared.error.Refusal.TheVariants.{Violates, NoRowid}
use Rattle.store_tables.specs.Effects.{table_in, shown}

-- the limit on steps was reached
abbrev pub IsInterrupted : State → Error → Type 0
IsInterrupted old e = (e ≡ SqliteFailure code.OperationInterrupted) × IsSome old.step_limit

-- in these trees a row lacks the row that a foreign key of its table names
abbrev pub LacksParent : Schema → Trees → Error → Type 0
LacksParent schema trees e = (e ≡ SqliteFailure (code.ConstraintViolation ForeignKey)) × ¬ Refers All schema trees

-- ---- INSERT

-- a record as it is put in: after its rowid, which is the column that stands for it, or one to be chosen
abbrev pub source_by : Option ℕ → Row → Row
source_by None row = Null ∷ row
source_by (Some at) row = column row 0 ∷ Null ∷ drop 1 row

abbrev pub addition : Database → Table → Row → Edit
addition db table row = edit_of db.trees table [] Chosen 0 (source_by table.key row ∷ [])

-- the rowid is taken, another key of the row is, or there is no rowid for it
abbrev pub is_of_keys : Refusal → Bool
is_of_keys (Violates PrimaryKey) = true
is_of_keys (Violates Unique) = true
is_of_keys NoRowid = true
is_of_keys _ = false

pub record RefusesRow (table : Table) (row : Row) (db : Database) (e : Error) : Type 0 where
  pub why : Refusal
  pub of_keys : is_of_keys why ≡ true
  pub refused : IsRefused db.schema Enforced db.trees (addition db table row) why
  pub told : e ≡ edit_error why

-- the trees with the row, before the indexes follow
abbrev pub with_row : Database → Table → Row → Trees
with_row db table row = with_tree db.trees table.tree (edited db.trees (addition db table row))

abbrev pub RefusesIn : Table → Row → Database → Error → Type 0
RefusesIn table row db e = RefusesRow table row db e ⊎ LacksParent db.schema (with_row db table row) e

-- The record isn't added: at the limit on steps, for its keys, or since a row would lack what a foreign key names.
abbrev pub RefusesToAdd : List ℕ → Row → State → Error → Type 0
RefusesToAdd name row old e = IsInterrupted old e ⊎ ((table : Table) × (table_in name old.now ≡ Some table) × RefusesIn table row old.now e)

-- the row, or its entry in an index, is too big to be stored
abbrev pub IsTooBig : List ℕ → Row → Database → Type 0
IsTooBig name row db = (table : Table) × (table_in name db ≡ Some table) × (r : Row) × In (addition db table row).news r × IsOversized db.schema table r

-- ---- DELETE

-- the trees without the rows of a table that pass a test, before the indexes follow
abbrev pub without_rows : Database → Table → (Row → Bool) → Trees
without_rows db table test = with_tree db.trees table.tree (filter (λ r. not (test (shown table r))) (db.trees table.tree))

abbrev pub RefusesLoss : Table → (Row → Bool) → Database → Error → Type 0
RefusesLoss table test db e =
    ((e ≡ SqliteFailure (code.ConstraintViolation Unique)) × ¬ Keeps Unique db.schema (without_rows db table test))
    ⊎ LacksParent db.schema (without_rows db table test) e

-- The rows aren't taken out: at the limit on steps, or since a rule would be broken by those that are left.
abbrev pub RefusesToRemove : List ℕ → (Row → Bool) → State → Error → Type 0
RefusesToRemove name test old e = IsInterrupted old e ⊎ ((table : Table) × (table_in name old.now ≡ Some table) × RefusesLoss table test old.now e)

-- ---- CREATE and DROP

-- The table isn't made: the name of one of its indexes is in use, or there are too many trees.
abbrev pub RefusesToMake : Table → State → Error → Type 0
RefusesToMake table old e =
    ((e ≡ SqliteFailure code.NameTaken) × (index : Index) × In (automatics table 0 0 table.uniques) index × (is_used old.now.schema index.name ≡ true))
    ⊎ ((e ≡ SqliteFailure code.SchemaTooBig) × (65536 ≤ next_tree old.now.schema + length table.uniques))

-- The table isn't dropped: a view has its name, or a row lacks what a foreign key names, with the table or without it.
abbrev pub RefusesToDrop : List ℕ → State → Error → Type 0
RefusesToDrop name old e =
    ((fault : CompileError) × (e ≡ SqlInputError fault) × (is_some (view_named old.now.schema name) ≡ true))
    ⊎ ((e ≡ SqliteFailure (code.ConstraintViolation ForeignKey))
    × (table : Table) × (table_in name old.now ≡ Some table) × ¬ (Refers All old.now.schema old.now.trees × Refers All (without_table old.now.schema table.tree) old.now.trees))
