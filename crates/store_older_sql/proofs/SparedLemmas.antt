-- What is left of a table of others when one of the product's is made, written or dropped.
use Rattle.std.proofs.Common.{◌≡◌, ◌≢◌, ◌==◌, ◌∙◌, ◌++◌, ◌+◌, ◌<◌, ℕ, Bool, true, false, not, filter, find, slice_get, option_and_then, List, [], ◌∷◌, Option, Some, None, inl, inr, refl, sym, ap, subst, arith}
use Rattle.std.proofs.lemmas.Bool.{false≢true, cases_Bool}
use Rattle.std.proofs.lemmas.Bool.Decides.{nat_tests}
use Rattle.std.proofs.lemmas.List.{append-nil}
use Rattle.std.proofs.lemmas.List.Elements.{filter-append}
use Rattle.sqlite.specs.Change.{automatics, next_tree, without_table}
use Rattle.sqlite.specs.Effect.{Database}
use Rattle.sqlite.specs.Schema.{Schema}
use Rattle.sqlite.specs.Table.{Table}
use Rattle.sqlite_rules.specs.Lists.{Has}
use Rattle.sqlite_rules.proofs.ListLemmas.{has_found, has_kept}
use Rattle.sqlite_schema.specs.Names.{same_name, table_named}
use Rattle.sqlite_schema.specs.declared.schema.Index.{Index}
use Rattle.store_tables.specs.Creates.{IsMade}
use Rattle.store_tables.specs.Definitions.{IsDefinition}
use Rattle.store_tables.specs.Effects.{SameOthers, rows_of, table_in}
use Rattle.store_tables.specs.Found.{HasOwn}
use Rattle.store_tables.proofs.KitLemmas.{table_below}
use Rattle.store_tables.proofs.MadeLemmas.{found_is, name_in, tree_in}
use Rattle.store_tables.proofs.MakeLemmas.{found_later, one_rows}
use Rattle.store_tables.proofs.PlaceLemmas.{found}
use Rattle.store_tables.proofs.UsedLemmas.{find_kept}
use Rattle.store_older_sql.specs.Drops.{IsDropped}
use Rattle.store_older_sql.specs.Others.{SparesTable, indexes_of}
use Rattle.store_older_sql.proofs.DroppedLemmas.{own_in}

-- ---- a table that is found by a name is none of the product's

same_number : (m n : ℕ) → m ≡ n → (m == n) ≡ true
same_number m n e = grind (arith, nat_tests)

module _ (table : ℕ → Table) (defined : IsDefinition table) (db : Database) (own : HasOwn db.schema table) (name : List ℕ) (apart : same_name (table 0).name name ≡ false) (other : Table) (there : table_in name db ≡ Some other) where
  pub stands_at : find (λ (v : Table). same_name v.name name) db.schema.tables ≡ Some other
  stands_at = sym (found (λ (v : Table). same_name v.name name) db.schema.tables) ∙ there

  alone : (other.tree == (table own.tree).tree) ≡ true → ⊥
  alone here =
      let has = has_found (λ (v : Table). same_name v.name name) db.schema.tables other stands_at in
      let only : filter (λ (o : Table). o.tree == (table own.tree).tree) db.schema.tables ≡ table own.tree ∷ [] =
      subst (λ n. filter (λ (o : Table). o.tree == n) db.schema.tables ≡ table own.tree ∷ []) (sym (tree_in table defined own.tree)) own.only in
      let left = subst (λ (l : List Table). Has l other) only (has_kept (λ (o : Table). o.tree == (table own.tree).tree) db.schema.tables other has.0 here) in
      let same : other ≡ table own.tree = elim left [ inl same ↦ same | inr none ↦ absurd none ] in
      false≢true (sym apart ∙ (ap (λ n. same_name n name) (sym (ap (λ (v : Table). v.name) same ∙ name_in table defined own.tree)) ∙ has.1))

  elsewhere : other.tree ≢ (table own.tree).tree
  elsewhere same = alone (same_number other.tree (table own.tree).tree same)

  pub apart_from : (found : Table) → table_in (table 0).name db ≡ Some found → other.tree ≢ found.tree
  apart_from found is =
      let e : Some (table own.tree) ≡ Some found = sym (own_in table defined db own) ∙ is in
      let same : table own.tree ≡ found = cc in
      subst (λ (t : Table). other.tree ≢ t.tree) same elsewhere

-- ---- what is left of a list

-- where none was found, none is found among fewer
find_fewer : {X : Type 0} (p q : X → Bool) (xs : List X) → find p xs ≡ None → find p (filter q xs) ≡ None
find_fewer p q [] none = refl
find_fewer p q (x ∷ xs) none = elim (cases_Bool (p x)) [
  | inl hit ↦ absurd (let e = rw hit at none in cc)
  | inr miss ↦ elim (cases_Bool (q x)) [ inl left ↦ rw left (rw miss (find_fewer p q xs (rw miss at none))) | inr gone ↦ rw gone (find_fewer p q xs (rw miss at none)) ]
]

-- nor among more of which it is none
find_more : {X : Type 0} (p : X → Bool) (x : X) → p x ≡ false → (xs : List X) → find p xs ≡ None → find p (xs ++ x ∷ []) ≡ None
find_more p x other [] none = rw other refl
find_more p x other (y ∷ xs) none = elim (cases_Bool (p y)) [ inl hit ↦ absurd (let e = rw hit at none in cc) | inr miss ↦ rw miss (find_more p x other xs (rw miss at none)) ]

-- those that pass are left, where none of them is taken out
filter_fewer : {X : Type 0} (p q : X → Bool) → ((x : X) → p x ≡ true → q x ≡ true) → (xs : List X) → filter p (filter q xs) ≡ filter p xs
filter_fewer p q stays [] = refl
filter_fewer p q stays (x ∷ xs) = elim (cases_Bool (q x)) [
  | inl left ↦ rw left (elim (cases_Bool (p x)) [ inl hit ↦ rw hit (ap (λ l. x ∷ l) (filter_fewer p q stays xs)) | inr miss ↦ rw miss (filter_fewer p q stays xs) ])
  | inr gone ↦ elim (cases_Bool (p x)) [ inl hit ↦ absurd (false≢true (sym gone ∙ stays x hit)) | inr miss ↦ rw (gone, miss) (filter_fewer p q stays xs) ]
]

-- the indexes of a table's keys are over it alone
keys_away : (table : Table) (tree : ℕ) → (table.tree == tree) ≡ false → (at first : ℕ) (keys : List (List ℕ)) → filter (λ (index : Index). index.table == tree) (automatics table at first keys) ≡ []
keys_away table tree away at first [] = refl
keys_away table tree away at first (key ∷ keys) = rw away (keys_away table tree away (at + 1) (first + 1) keys)

differ_above : (a b : ℕ) → a < b → (b == a) ≡ false
differ_above a b less = elim (cases_Bool (b == a)) [ inl same ↦ absurd (let e : b ≡ a = search arith in omega (arith, e, less)) | inr other ↦ other ]

-- ---- what each step leaves of a table of others

-- a table of this name, in a schema
abbrev named_in : List ℕ → Schema → Option Table
named_in name schema = option_and_then (slice_get schema.tables) (table_named schema name)

finds : (name : List ℕ) (schema : Schema) → named_in name schema ≡ find (λ (v : Table). same_name v.name name) schema.tables
finds name schema = found (λ (v : Table). same_name v.name name) schema.tables

-- it stays as it is, as its rows do, and its indexes
module _ (name : List ℕ) (old new : Database) where
  none_spared : table_in name old ≡ None → table_in name new ≡ None → SparesTable name old new
  none_spared before later = record { table = later ∙ sym before; rows = rw (later, before) refl; indexes = rw (later, before) refl }

  one_spared : (other : Table) → table_in name old ≡ Some other → table_in name new ≡ Some other → rows_of name new ≡ rows_of name old
      → filter (λ (index : Index). index.table == other.tree) new.schema.indexes ≡ filter (λ (index : Index). index.table == other.tree) old.schema.indexes → SparesTable name old new
  one_spared other before later rows over = record { table = later ∙ sym before; rows = rows; indexes = rw (later, before) over }

  -- whether there is one or none
  by_case : (table_in name old ≡ None → SparesTable name old new) → ((other : Table) → table_in name old ≡ Some other → SparesTable name old new) → SparesTable name old new
  by_case none some = go (table_in name old) refl
    where
      go : (it : Option Table) → table_in name old ≡ it → SparesTable name old new
      go None is = none is
      go (Some other) is = some other is

  -- nothing was made or dropped, and its rows stay
  pub spared_steady : new.schema ≡ old.schema → ((other : Table) → table_in name old ≡ Some other → new.trees other.tree ≡ old.trees other.tree) → SparesTable name old new
  spared_steady same trees = by_case (λ none. none_spared none (ap (named_in name) same ∙ none)) (λ other there.
      let later : table_in name new ≡ Some other = ap (named_in name) same ∙ there in
      let kept : new.trees other.tree ≡ old.trees other.tree = trees other there in
      one_spared other there later (rw (later, there, kept) refl) (ap (λ (s : Schema). filter (λ (index : Index). index.table == other.tree) s.indexes) same))

pub spared_same : (name : List ℕ) (old new : Database) → new ≡ old → SparesTable name old new
spared_same name old new same = record { table = ap (table_in name) same; rows = ap (rows_of name) same; indexes = ap (indexes_of name) same }

pub spared_then : (name : List ℕ) (a b c : Database) → SparesTable name a b → SparesTable name b c → SparesTable name a c
spared_then name a b c one two = record { table = two.table ∙ one.table; rows = two.rows ∙ one.rows; indexes = two.indexes ∙ one.indexes }

-- a table of another name was made
module _ (table : Table) (old new : Database) (made : IsMade table old new) (name : List ℕ) (apart : same_name table.name name ≡ false) where
  made_none : table_in name old ≡ None → SparesTable name old new
  made_none none =
      let is = λ (v : Table). same_name v.name name in
      none_spared name old new none
      (finds name new.schema ∙ (ap (λ (s : Schema). find is s.tables) made.schema ∙ find_more is (record table { tree = next_tree old.schema }) apart old.schema.tables (sym (finds name old.schema) ∙ none)))

  module _ (other : Table) (there : table_in name old ≡ Some other) where
    below : other.tree < next_tree old.schema
    below = table_below old.schema other (has_found (λ (v : Table). same_name v.name name) old.schema.tables other (sym (finds name old.schema) ∙ there)).0

    made_one : SparesTable name old new
    made_one =
        let over = λ (index : Index). index.table == other.tree in
        let its : Table = record table { tree = next_tree old.schema } in
        let away : (its.tree == other.tree) ≡ false = differ_above other.tree (next_tree old.schema) below in
        let keys : filter over (automatics its 0 (its.tree + 1) its.uniques) ≡ [] = keys_away its other.tree away 0 (its.tree + 1) its.uniques in
        one_spared name old new other there (found_later table old new made name other there) (one_rows table old new made name other there)
        (ap (λ (s : Schema). filter over s.indexes) made.schema ∙ (filter-append over old.schema.indexes (automatics its 0 (its.tree + 1) its.uniques) ∙ rw (keys, append-nil) refl))

  pub spared_made : SparesTable name old new
  spared_made = by_case name old new made_none made_one

module _ (table : ℕ → Table) (defined : IsDefinition table) (name : List ℕ) (apart : same_name (table 0).name name ≡ false) (old new : Database) (own : HasOwn old.schema table) where
  -- rows were added to a table of the product's, or taken out
  pub spared_rows : new.schema ≡ old.schema → SameOthers (table 0).name old new → SparesTable name old new
  spared_rows same others = spared_steady name old new same (λ other there.
      found_is (λ (v : Table). v.tree ≢ (table own.tree).tree → new.trees v.tree ≡ old.trees v.tree) (λ (v : Table). same_name v.name name) old.schema.tables other
      (others (table own.tree) (own_in table defined old own)) (stands_at table defined old own name apart other there)
      (elsewhere table defined old own name apart other there))

  -- it was dropped
  pub spared_dropped : IsDropped (table 0).name old new → SparesTable name old new
  spared_dropped dropped =
      let tree = (table own.tree).tree in
      let is = λ (v : Table). same_name v.name name in
      let left : new.schema ≡ without_table old.schema tree = dropped.schema (table own.tree) (own_in table defined old own) in
      by_case name old new
      (λ none. none_spared name old new none
      (finds name new.schema ∙ (ap (λ (s : Schema). find is s.tables) left ∙ find_fewer is (λ (v : Table). not (v.tree == tree)) old.schema.tables (sym (finds name old.schema) ∙ none))))
      (λ other there.
      let away : (other.tree == tree) ≡ false = elim (cases_Bool (other.tree == tree)) [ inl same ↦ absurd (alone table defined old own name apart other there same) | inr away ↦ away ] in
      let now : find is new.schema.tables ≡ Some other = ap (λ (s : Schema). find is s.tables) left
      ∙ find_kept is (λ (v : Table). not (v.tree == tree)) old.schema.tables other (stands_at table defined old own name apart other there) (ap not away) in
      let later : table_in name new ≡ Some other = finds name new.schema ∙ now in
      let trees : new.trees other.tree ≡ old.trees other.tree = found_is (λ (v : Table). new.trees v.tree ≡ old.trees v.tree) is new.schema.tables other dropped.others now in
      one_spared name old new other there later (rw (later, there, trees) refl)
      (ap (λ (s : Schema). filter (λ (index : Index). index.table == other.tree) s.indexes) left
      ∙ filter_fewer (λ (index : Index). index.table == other.tree) (λ (index : Index). not (index.table == tree))
      (λ index over. let e : index.table ≡ other.tree = search arith in ap not (subst (λ n. (n == tree) ≡ false) (sym e) away)) old.schema.indexes))
