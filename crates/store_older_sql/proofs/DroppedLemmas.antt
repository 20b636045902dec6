-- What a database has once a table was dropped.
use Rattle.std.proofs.Common.{◌≡◌, ◌==◌, ℕ, find, not, false, Some, None, refl, sym, ap, subst, ◌∙◌, codes, List, true}
use Rattle.std.specs.List.{AllByRecursion}
use Rattle.sqlite.specs.Table.{Table}
use Rattle.sqlite.specs.Schema.{Schema}
use Rattle.sqlite.specs.Effect.{Database, IsDatabase}
use Rattle.sqlite.specs.Change.{is_used, without_table}
use Rattle.sqlite.specs.Does.{lacks_sequence}
use Rattle.sqlite_schema.specs.Names.{same_name, table_named, index_named, view_named}
use Rattle.sqlite_schema.specs.declared.schema.Index.{Index}
use Rattle.store_tables.specs.Definitions.{IsDefinition}
use Rattle.store_tables.specs.Found.{HasOwn}
use Rattle.store_tables.specs.Room.{LeavesRoom, is_referred}
use Rattle.store_tables.proofs.PlaceLemmas.{found}
use Rattle.store_tables.proofs.MadeLemmas.{found_is, name_in, tree_in}
use Rattle.store_tables.proofs.DroppedLemmas.{dropped_own, dropped_unreferred, dropped_room, still_found, none_left, free_left, freed_left, counted_left}
use Rattle.store_tables.specs.Effects.{rows_of, table_in}
use Rattle.store_older_sql.specs.Drops.{IsDropped}

-- a table that is had is found by its name
pub own_in : (table : ℕ → Table) (defined : IsDefinition table) (db : Database) (own : HasOwn db.schema table) → table_in (table 0).name db ≡ Some (table own.tree)
own_in table defined db own =
    let named : table_named db.schema (table 0).name ≡ Some own.at = subst (λ n. table_named db.schema n ≡ Some own.at) (name_in table defined own.tree) own.has.named in let is = own.has.is in rw (named, is) refl

module _ (table : ℕ → Table) (defined : IsDefinition table) (old new : Database) (dropped : IsDropped (table 0).name old new) (own : HasOwn old.schema table) where
  left : new.schema ≡ without_table old.schema own.tree
  left = dropped.schema (table own.tree) (own_in table defined old own) ∙ ap (without_table old.schema) (tree_in table defined own.tree)

  module _ (other : ℕ → Table) (also : IsDefinition other) (apart : same_name (other 0).name (table 0).name ≡ false) (its : HasOwn old.schema other) where
    pub drop_keeps : HasOwn new.schema other
    drop_keeps = subst (λ s. HasOwn s other) (sym left) (dropped_own old.schema table defined own other also apart its)

    pub drop_rows : rows_of (other 0).name new ≡ rows_of (other 0).name old
    drop_rows =
        let was = own_in other also old its in
        let at : find (λ v. same_name v.name (other 0).name) new.schema.tables ≡ Some (other its.tree) =
        ap (λ (s : Schema). find (λ v. same_name v.name (other 0).name) s.tables) left ∙ still_found old.schema table defined own other also apart its in
        let is : table_in (other 0).name new ≡ Some (other its.tree) = found (λ v. same_name v.name (other 0).name) new.schema.tables ∙ at in
        let same : new.trees (other its.tree).tree ≡ old.trees (other its.tree).tree = found_is (λ v. new.trees v.tree ≡ old.trees v.tree) (λ v. same_name v.name (other 0).name) new.schema.tables (other its.tree) dropped.others at in
        rw (is, was, same) refl

  pub drop_leaves : (other : Table) → LeavesRoom old.schema other → LeavesRoom new.schema other
  drop_leaves other room = subst (λ s. LeavesRoom s other) (sym left) (dropped_room old.schema table defined own other room)

  pub drop_unreferred : is_referred new.schema (table 0).name ≡ false
  drop_unreferred = subst (λ s. is_referred s (table 0).name ≡ false) (sym left) (dropped_unreferred old.schema table defined own)

  pub drop_unused : IsDatabase old → index_named old.schema (table 0).name ≡ None → view_named old.schema (table 0).name ≡ None → is_used new.schema (table 0).name ≡ false
  drop_unused sound index view =
      let t = dropped.gone sound in
      let i : index_named new.schema (table 0).name ≡ None = ap (λ (s : Schema). index_named s (table 0).name) left
      ∙ none_left (λ (i : Index). not (i.table == own.tree)) (λ (i : Index). same_name i.name (table 0).name) 0 0 old.schema.indexes index in
      let v : view_named new.schema (table 0).name ≡ None = ap (λ (s : Schema). view_named s (table 0).name) left ∙ view in
      rw (t, i, v) refl

  pub drop_frees : (name : List ℕ) → table_named old.schema name ≡ None → view_named old.schema name ≡ None → AllByRecursion (λ (index : Index). same_name index.name name ≡ true → index.table ≡ own.tree) old.schema.indexes
      → is_used new.schema name ≡ false
  drop_frees name table' view mine = subst (λ s. is_used s name ≡ false) (sym left) (freed_left old.schema table defined own name table' view mine)

  pub drop_still_free : (name : List ℕ) → is_used old.schema name ≡ false → is_used new.schema name ≡ false
  drop_still_free name free = subst (λ s. is_used s name ≡ false) (sym left) (free_left old.schema table defined own name free)

  pub drop_counted : same_name (table 0).name (codes "sqlite_sequence") ≡ false → lacks_sequence old.schema ≡ false → lacks_sequence new.schema ≡ false
  drop_counted other lacks = subst (λ s. lacks_sequence s ≡ false) (sym left) (counted_left old.schema table defined own other lacks)
