-- The DELETE statements of the store: what they do, and why they are refused.
use Rattle.std.proofs.Common.{◌≡◌, ◌==◌, ◌^◌, ℕ, List, [], Bool, true, false, Ok, Some, None, Option, refl, sym, subst, find, nat_le, slice_get, ◌⊎◌, ◌≤◌, length, Err, inl, inr, lit≤, Result, IfOk, IfErr, OnOk, IsTrue}
use Rattle.std.proofs.lemmas.Bool.{lt-leb}
use Rattle.sqlite.specs.Order.{Row}
use Rattle.sqlite.specs.Term.{Term}
use Rattle.sqlite.specs.Schema.{Schema}
use Rattle.sqlite.specs.Table.{Table}
use Rattle.sqlite.specs.Compile.{first, with_command}
use Rattle.sqlite_tied.specs.Compute.{everything}
use Rattle.sqlite_resolve.specs.Expr.{lower}
use Rattle.sqlite_resolve.specs.Body.{tests}
use Rattle.sqlite_resolve.specs.Lowering.{fresh, max_budget}
use Rattle.sqlite_typing.specs.Types.{accepts_program}
use Rattle.sqlite_ast.specs.declared.Expr.{Expr}
use Rattle.sqlite_ast.specs.declared.Statement.TheVariants as written
use Rattle.sqlite_syntax.specs.declared.statement.Parsed.{Parsed}
use Rattle.store_tables.specs.Tables.{table_of}
use Rattle.store_tables.proofs.TableLemmas.{name_is}
use Rattle.store_tables.specs.Found.{HasTable}
use Rattle.store_tables.specs.Effects.{Has, HasApartRowids, IsRemoved, WhileOpen, count_in, rows_of, shown}
use Rattle.sqlite.specs.State.{State, HasCleanDisk, Survives, Executes, ExecutesInside, Fails, IsUnchanged, Writes}
use Rattle.sqlite.specs.Held.{Held, state}
use Rattle.sqlite_trees.specs.declared.store.Store.{Ghosts}
use Rattle.sqlite.specs.Listing.{understood}
use Rattle.sqlite.specs.Command.{Command}
use Rattle.sqlite.specs.Command.TheVariants.{Delete}
use Rattle.sqlite.proofs.Callers.{statement_of, runs_as}
use Rattle.store_tables.proofs.ListLemmas.{passes}
use Rattle.store_sql.proofs.DeleteEffects.{removes, counts}
use Rattle.store_sql.specs.Deletes.{clear_text, HasToRemove, Removes, FailsToRemove}
use Rattle.store_tables.proofs.TextLemmas.{parsed_or}
use Rattle.store_tables.proofs.ReadLemmas.{context_of}
use Rattle.store_tables.proofs.DeleteLemmas.{doomed, delete_text_is}
use Rattle.store_tables.specs.declared.tables.StoreTable.{StoreTable}
use Rattle.store_tables.specs.declared.tables.StoreTable.TheVariants as store
use Rattle.sqlite.specs.declared.error.Error.{Error}
use Rattle.sqlite.specs.declared.error.Error.TheVariants.{SqliteFailure}
use Rattle.sqlite.specs.declared.error.ErrorCode.TheVariants.{TransactionState}
use Rattle.sqlite_sql.specs.Program.{ProgramOverflows}
use Rattle.store_tables.specs.Refusals.{RefusesToRemove}
use Rattle.store_sql.proofs.DeleteFaults.{cause}
use Rattle.store_tables.proofs.FaultLemmas.{faults_inside}
use Rattle.store_tables.proofs.StateLemmas.{counted, stated, removes_aside}

-- ---- the texts

-- the text takes out the rows that pass the test, whatever tree the table is in
pub record ReadsDelete (text : List ℕ) (p : Parsed) (table : ℕ → Table) (condition : Option Expr) (filter : List Term) (left : ℕ) : Type 0 where
  pub read : first text ≡ Ok p
  pub statement : (tree : ℕ) → p.statement ≡ written.Delete (table tree).name condition []
  pub formats : p.formats ≡ []
  pub tests : (schema : Schema) (at tree : ℕ) → slice_get schema.tables at ≡ Some (table tree) → tests lower (context_of schema at (table tree) [] false true) [] condition (fresh 2 max_budget)
      ≡ Ok (filter, record (fresh 2 max_budget) { budget = left })
  pub accepted : (schema : Schema) (tree : ℕ) → find (λ t. t.tree == (table tree).tree) schema.tables ≡ Some (table tree) → nat_le (2 ^ 31) (table tree).tree ≡ false → accepts_program schema [] (doomed (table tree) filter) [] ≡ true

-- the text is one statement, and takes these values
pub record Takes (text : List ℕ) (p : Parsed) (table : ℕ → Table) (filter : List Term) (params : Row) : Type 0 where
  pub whole : length text ≤ p.tail
  pub names : length params ≡ length p.names
  pub typed : (schema : Schema) (tree : ℕ) → find (λ t. t.tree == (table tree).tree) schema.tables ≡ Some (table tree) → nat_le (2 ^ 31) (table tree).tree ≡ false → accepts_program schema [] (doomed (table tree) filter) params ≡ true

-- given these values, it takes out the rows of the table that pass the test
pub record TakesOut (text : List ℕ) (values : Row) (table : ℕ → Table) (test : Row → Bool) : Type 0 where
  pub parsed : Parsed
  pub condition : Option Expr
  pub filter : List Term
  pub left : ℕ
  pub reads : ReadsDelete text parsed table condition filter left
  pub takes : Takes text parsed table filter values
  pub named : (tree : ℕ) → (table tree).name ≡ (table 0).name
  pub tested : (tree : ℕ) (row : Row) → passes values filter row ≡ test (shown (table tree) row)

-- ---- those of all rows

unfoldable pub read_clear : StoreTable → Parsed
unfolding everything
read_clear t = parsed_or (first (clear_text t))

pub reads_clear : (t : StoreTable) → ReadsDelete (clear_text t) (read_clear t) (table_of t) None [] 100000
unfolding everything read_clear
reads_clear store.Mark = record { read = refl; statement = λ tree. refl; formats = refl; tests = λ schema at tree is. refl; accepted = λ schema tree alone low. rw (low, alone) refl }
reads_clear store.Item = record { read = refl; statement = λ tree. refl; formats = refl; tests = λ schema at tree is. refl; accepted = λ schema tree alone low. rw (low, alone) refl }
reads_clear store.Member = record { read = refl; statement = λ tree. refl; formats = refl; tests = λ schema at tree is. refl; accepted = λ schema tree alone low. rw (low, alone) refl }
reads_clear store.Edition = record { read = refl; statement = λ tree. refl; formats = refl; tests = λ schema at tree is. refl; accepted = λ schema tree alone low. rw (low, alone) refl }
reads_clear store.Entry = record { read = refl; statement = λ tree. refl; formats = refl; tests = λ schema at tree is. refl; accepted = λ schema tree alone low. rw (low, alone) refl }
reads_clear store.Kept = record { read = refl; statement = λ tree. refl; formats = refl; tests = λ schema at tree is. refl; accepted = λ schema tree alone low. rw (low, alone) refl }

pub takes_clear : (t : StoreTable) → Takes (clear_text t) (read_clear t) (table_of t) [] []
unfolding everything read_clear
takes_clear store.Mark = record { whole = lit≤ tt; names = refl; typed = λ schema tree alone low. rw (low, alone) refl }
takes_clear store.Item = record { whole = lit≤ tt; names = refl; typed = λ schema tree alone low. rw (low, alone) refl }
takes_clear store.Member = record { whole = lit≤ tt; names = refl; typed = λ schema tree alone low. rw (low, alone) refl }
takes_clear store.Edition = record { whole = lit≤ tt; names = refl; typed = λ schema tree alone low. rw (low, alone) refl }
takes_clear store.Entry = record { whole = lit≤ tt; names = refl; typed = λ schema tree alone low. rw (low, alone) refl }
takes_clear store.Kept = record { whole = lit≤ tt; names = refl; typed = λ schema tree alone low. rw (low, alone) refl }

pub clears : (t : StoreTable) → TakesOut (clear_text t) [] (table_of t) (λ _. true)
clears t = record { parsed = read_clear t; condition = None; filter = []; left = 100000; reads = reads_clear t; takes = takes_clear t; named = name_is t; tested = λ tree row. refl }

-- ---- what they do

module _ {text : List ℕ} {values : Row} {table : ℕ → Table} {test : Row → Bool} (d : TakesOut text values table test) where
  module _ (schema : Schema) (at tree : ℕ) (has : HasTable schema at (table tree)) where
    abbrev command : Command
    command = Delete at (record { lets = []; body = doomed (table tree) d.filter })

    compiles : understood schema text ≡ Ok (with_command d.parsed ([], (command, None)))
    compiles =
        delete_text_is schema at (table tree) has d.condition d.filter d.left (d.reads.tests schema at tree has.is) (d.reads.accepted schema tree has.alone (lt-leb (2 ^ 31) (table tree).tree has.stored)) text d.parsed d.reads.read
        (d.reads.statement tree) d.reads.formats

  module _ (old new : State) where
    abbrev statement : List ℕ
    statement = statement_of text (understood old.now.schema text)

    writes : (count : ℕ) (has : Has table old.now) → Executes text values old new (Ok count) → Writes old new None (command old.now.schema has.0 has.1 has.2) statement values count
    writes count has h =
        let s = old.now.schema in
        let compiled = compiles s has.0 has.1 has.2 in
        runs_as text values old new s refl (command s has.0 has.1 has.2) (rw compiled refl) (rw compiled (refl, refl)) count h

    apart_in : (tree : ℕ) → HasApartRowids (rows_of (table 0).name old.now) → HasApartRowids (rows_of (table tree).name old.now)
    apart_in tree = subst (λ n. HasApartRowids (rows_of n old.now)) (sym (d.named tree))

    removes_rows : (count : ℕ) → HasToRemove table old.now → Executes text values old new (Ok count) → IsRemoved (table 0).name test old.now new.now
    removes_rows count it h =
        let tree = it.has.1 in
        subst (λ n. IsRemoved n test old.now new.now) (d.named tree)
        (removes old new it.has.0 (table tree) it.has.2 d.filter statement values count (apart_in tree it.apart) test (d.tested tree) (writes count it.has h))

    counts_rows : (count : ℕ) → HasToRemove table old.now → Executes text values old new (Ok count) → count ≡ count_in (table 0).name test old.now
    counts_rows count it h =
        let tree = it.has.1 in
        subst (λ n. count ≡ count_in n test old.now) (d.named tree)
        (counts old new it.has.0 (table tree) it.has.2 d.filter statement values count (apart_in tree it.apart) test (d.tested tree) (writes count it.has h))

    no_overflow : (tree : ℕ) → ¬ ProgramOverflows old.now.trees values [] [] (doomed (table tree) d.filter)
    no_overflow tree (inl h) = h
    no_overflow tree (inr h) = h.4

    remove_fails : (e : Error) → HasToRemove table old.now → ExecutesInside 0 text values old new (Err e) → (RefusesToRemove (table 0).name test old e × IsUnchanged old new) ⊎ Fails old new ⊥ e
    remove_fails e it h =
        let at = it.has.0 in
        let tree = it.has.1 in
        let there = it.has.2 in
        let s = old.now.schema in
        subst (λ n. (RefusesToRemove n test old e × IsUnchanged old new) ⊎ Fails old new ⊥ e) (d.named tree)
        (cause old new at (table tree) there d.filter text values (apart_in tree it.apart) test (d.tested tree) (d.takes.typed s tree there.alone (lt-leb (2 ^ 31) (table tree).tree there.stored)) (no_overflow tree) e
        (faults_inside text d.parsed (command s at tree there) values old new e (compiles s at tree there) d.takes.whole d.takes.names refl refl h))

  -- as a statement of a transaction, with how many rows these were
  pub takes_out : {S : Type 0} (g : Ghosts S) (before after : Held S) (result : Result ℕ Error) → WhileOpen (state g before) (HasToRemove table)
      → ((state g before).in_transaction ≡ false → (result ≡ Err (SqliteFailure TransactionState)) × (after ≡ before))
      → (HasCleanDisk (state g after) → IsTrue (state g before).in_transaction → ExecutesInside 0 text values (state g before) (state g after) result) → Survives (state g before) (state g after) (λ _. ⊥)
      → HasCleanDisk (state g after) → OnOk result (Removes (table 0).name test (state g before) (state g after)) × IfOk result (λ count. count ≡ count_in (table 0).name test (state g before).now)
      × IfErr result (FailsToRemove (table 0).name test (state g before) (state g after))
  takes_out g before after result has ended runs alone clean =
      let old = state g before in
      let new = state g after in
      let ran = stated g before after text values result _ ⊥ (removes_aside (table 0).name test old) has ended runs alone (removes_rows old new) (remove_fails old new) clean in
      (ran.0, counted g before after text values result has ended runs alone (counts_rows old new) clean, ran.1)
