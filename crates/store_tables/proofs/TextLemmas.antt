-- What the text of an INSERT stands for, over any schema that has the table.
use Rattle.std.proofs.Common.{◌≡◌, ℕ, ◌+◌, List, [], Some, None, Ok, Err, Result, refl, slice_get}
use Rattle.sqlite.specs.Table.{Table}
use Rattle.sqlite.specs.Schema.{Schema}
use Rattle.sqlite.specs.Source.{Source}
use Rattle.sqlite.specs.Command.TheVariants.{Insert}
use Rattle.sqlite.specs.Compile.{compiled, first, planned, meaning, command, insert_or_abort, insert, new_rows, with_command, returning, shows, timed, small}
use Rattle.sqlite_resolve.specs.declared.error.CompileError.{CompileError}
use Rattle.sqlite.specs.Listing.{understood}
use Rattle.sqlite.proofs.Callers.{IsPlain, command_of}
use Rattle.sqlite_schema.specs.Names.{table_named}
use Rattle.sqlite_ast.specs.declared.Statement.{Statement}
use Rattle.sqlite_ast.specs.declared.Statement.TheVariants as written
use Rattle.sqlite_ast.specs.declared.Conflict.TheVariants as conflict
use Rattle.sqlite_ast.specs.declared.Rows.{Rows}
use Rattle.sqlite_ast.specs.declared.Rows.TheVariants as rows
use Rattle.sqlite_syntax.specs.declared.statement.Parsed.{Parsed}
use Rattle.store_tables.specs.Found.{HasTable}

abbrev pub nothing_read : Parsed
nothing_read = record { statement = written.Empty; names = []; formats = []; start = 0; end = 0; tail = 0 }

abbrev pub parsed_or : Result Parsed CompileError → Parsed
parsed_or (Ok p) = p
parsed_or (Err e) = nothing_read

abbrev pub cols_in : Statement → List (List ℕ)
cols_in (written.Insert how name cols all clauses shown) = cols
cols_in _ = []

abbrev pub rows_in : Statement → Rows
rows_in (written.Insert how name cols all clauses shown) = all
rows_in _ = rows.Defaults

-- ---- an INSERT of one text, over any schema that has the table
module _ (schema : Schema) (at : ℕ) (table : Table) (named : table_named schema table.name ≡ Some at) (is : slice_get schema.tables at ≡ Some table) (timeless : table.stamps.formats ≡ []) (cols : List (List ℕ)) (all : Rows) (s : Source)
  where
    inserts : (base : ℕ) → new_rows schema table base cols all ≡ Ok s → insert_or_abort schema base table.name cols all [] ≡ Ok (Insert at s)
    unfolding insert_or_abort insert
    inserts base h = rw (named, is, h) refl

    plans : (p : Parsed) → p.statement ≡ written.Insert conflict.Abort table.name cols all [] [] → p.formats ≡ [] → new_rows schema table (small p.names + small []) cols all ≡ Ok s → planned schema p ≡ Ok ([], (Insert at s, None))
    unfolding planned meaning command returning shows timed
    plans p statement formats h = rw (statement, formats, named, is, timeless, inserts (small p.names + small []) h) refl

    insert_text_is : (text : List ℕ) (p : Parsed) → first text ≡ Ok p → p.statement ≡ written.Insert conflict.Abort table.name cols all [] [] → p.formats ≡ [] → new_rows schema table (small p.names + small []) cols all ≡ Ok s
        → understood schema text ≡ Ok (with_command p ([], (Insert at s, None)))
    unfolding compiled understood
    insert_text_is text p read statement formats h = rw (read, plans p statement formats h) refl

-- the text is an INSERT into this table, in whatever tree that is
pub record ReadsInsert (text : List ℕ) (p : Parsed) (table : ℕ → Table) (s : Source) : Type 0 where
  pub read : first text ≡ Ok p
  pub statement : (tree : ℕ) → p.statement ≡ written.Insert conflict.Abort (table tree).name (cols_in p.statement) (rows_in p.statement) [] []
  pub formats : p.formats ≡ []
  pub timeless : (tree : ℕ) → (table tree).stamps.formats ≡ []
  pub rows : (schema : Schema) (tree : ℕ) → new_rows schema (table tree) (small p.names + small []) (cols_in p.statement) (rows_in p.statement) ≡ Ok s

module _ (text : List ℕ) (p : Parsed) (table : ℕ → Table) (s : Source) (r : ReadsInsert text p table s) (schema : Schema) (at tree : ℕ) (has : HasTable schema at (table tree)) where
  pub insert_is : understood schema text ≡ Ok (with_command p ([], (Insert at s, None)))
  insert_is = insert_text_is schema at (table tree) has.named has.is (r.timeless tree) (cols_in p.statement) (rows_in p.statement) s text p r.read (r.statement tree) r.formats (r.rows schema tree)

  -- what a caller asks of the text
  pub insert_command : command_of (understood schema text) ≡ Insert at s
  insert_command = rw insert_is refl

  pub insert_plain : IsPlain (understood schema text)
  insert_plain = rw insert_is (refl, refl)
