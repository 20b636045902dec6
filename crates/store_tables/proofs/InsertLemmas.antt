-- What an INSERT of one row does to the rows of a table, whatever else the schema has.
use Rattle.std.proofs.Common.{◌≡◌, ◌≢◌, ◌⊎◌, ◌/◌, Ordering, Less, Equal, Greater, inl, inr, ℕ, ℤ, List, [], ◌∷◌, map, length, slice_get, Bool, true, false, ◌||◌, cond, Option, Some, None, Ok, Err, Result}
use Rattle.std.proofs.Common.{refl, sym, ap, subst, subst₂, ◌∙◌, append-nil}
use Rattle.std.proofs.lemmas.List.Sorted.{IsPermutation-refl, IsPermutation-cons, IsPermutation-trans, IsPermutation-map, IsPermutation-middle}
use Rattle.std.specs.List.Sorted.{IsPermutation}
use Rattle.std.specs.Ordering.{is_eq, match_ordering}
use Rattle.sqlite.specs.Kind.TheVariants.{Integer}
use Rattle.sqlite.specs.Ops.{unary}
use Rattle.sqlite.specs.Term.{Term}
use Rattle.sqlite_rules.specs.Edit.{Applies}
use Rattle.sqlite_schema.specs.declared.schema.Keys.TheVariants.{Enforced}
use Rattle.sqlite.specs.declared.types.Value.{Value}
use Rattle.sqlite.specs.declared.types.Value.TheVariants.{Null, Int}
use Rattle.sqlite.specs.Order.{Row, column, value_cmp}
use Rattle.std.specs.Cmp.{tied_itself}
use Rattle.store_tables.proofs.KitLemmas.{no_works, value_cmp_total}
use Rattle.sqlite.specs.Tree.{Trees, rowid, put_row}
use Rattle.sqlite.specs.Table.{Table}
use Rattle.sqlite.specs.Source.TheVariants.{Values}
use Rattle.sqlite.specs.Command.TheVariants.{Insert}
use Rattle.sqlite.specs.Edit.{Edit, edit_of, is_taken, next_rowid}
use Rattle.sqlite.specs.Rowids.TheVariants.{Chosen}
use Rattle.sqlite.specs.Cast.{cast, cast_all}
use Rattle.std.proofs.lemmas.Bool.{cases_Bool}
use Rattle.sqlite_schema.specs.Names.{table_named}
use Rattle.store_tables.specs.Tables.{simple}
use Rattle.store_tables.specs.Effects.{IsAdded, rows_of, table_in, shown, SameOthers}
use Rattle.sqlite_rules.specs.Edit.{are_fresh, put_all}
use Rattle.sqlite.specs.Does.{Tally}
use Rattle.sqlite.specs.Rows.{Written, Task, Inserts}
use Rattle.sqlite.specs.Effect.{Database, IsDatabase, SparesFrozen, value_rows}
use Rattle.std.specs.List.{AllByRecursion}
use Rattle.sqlite.specs.State.{State, Writes}
use Rattle.sqlite.proofs.Callers.{one_step}
use Rattle.sqlite_schema.specs.declared.schema.Column.{Column}
use Rattle.sqlite_value.specs.declared.keys.Order.{Order}

-- ---- a row whose rowid is free is put in, and no row is lost

by_order : (o : Ordering) (new r : Row) (rows : List Row) → (is_eq o || is_taken rows new) ≡ false → (is_taken rows new ≡ false → IsPermutation (new ∷ rows) (put_row new rows))
    → IsPermutation (new ∷ r ∷ rows) (match_ordering o (r ∷ put_row new rows) (new ∷ rows) (new ∷ r ∷ rows))
by_order Less new r rows free again = IsPermutation-trans _ (r ∷ new ∷ rows) _ (IsPermutation-middle (new ∷ []) r rows) (IsPermutation-cons r _ _ (again free))
by_order Equal new r rows free again = absurd (cc)
by_order Greater new r rows free again = IsPermutation-refl _

pub put_free : (new : Row) (rows : List Row) → is_taken rows new ≡ false → IsPermutation (new ∷ rows) (put_row new rows)
put_free new [] free = IsPermutation-refl (new ∷ [])
put_free new (r ∷ rows) free = by_order (value_cmp (rowid r) (rowid new)) new r rows free (put_free new rows)

-- ---- values that are of their column's type are kept as they are

either : (b : Bool) (x : Value) → cond b x x ≡ x
either true x = refl
either false x = refl

pub cast_null : cast Integer Null ≡ Null
unfolding unary
cast_null = either _ Null

pub cast_int : (n : ℤ) → cast Integer (Int n) ≡ Int n
unfolding unary
cast_int n = either _ (Int n)

-- ---- an INSERT of one row

-- a part that gave a value did not stop on the way
pub went : {B E R : Type 0} {b : B} {Stops : E → Type 0} → ((stop : E) × Stops stop × (Ok b ≡ Err stop)) ⊎ R → R
went (inl stopped) = absurd (let e = stopped.2 in cc)
went (inr on) = on

pub same_value : {B E : Type 0} {a b : B} → ◌≡◌ {A = Result B E} (Ok a) (Ok b) → a ≡ b
same_value e = cc

pub same_some : {B : Type 0} {a b : B} → ◌≡◌ {A = Option B} (Some a) (Some b) → a ≡ b
same_some e = cc

-- ---- a rowid that is not taken

module _ (table : Table) where
  free_in : (id : ℤ) (rest : Row) (rows : List Row) → is_taken rows (Int id ∷ rest) ≡ false → AllByRecursion (λ r. column r 0 ≢ Int id) (map (shown table) rows)
  free_in id rest [] free = tt
  free_in id rest (r ∷ rows) free = elim (cases_Bool (is_eq (value_cmp (rowid r) (Int id)))) [
    | inl taken ↦ absurd (let e = rw taken at free in cc)
    | inr other ↦ (λ same. let e = rw (same, tied_itself value_cmp_total (Int id)) at other in absurd cc, free_in id rest rows (rw other at free))
  ]

module _ (old new : State) (at : ℕ) (name : List ℕ) (tree : ℕ) (columns : List Column) (key : Option ℕ) (primary : List ℕ) (uniques : List (List ℕ)) (orders : List Order)
    (named : table_named old.now.schema name ≡ Some at)
    (is : slice_get old.now.schema.tables at ≡ Some (simple name tree columns key primary uniques orders))
    (terms : List Term) (width : ℕ) (text : List ℕ) (params row : Row) (count : ℕ) (one : value_rows params width (length terms / width) terms ≡ row ∷ [])
  where
    abbrev db : Trees
    db = old.now.trees

    abbrev table : Table
    table = simple name tree columns key primary uniques orders

    abbrev edit : Edit
    edit = edit_of db table [] Chosen 0 (row ∷ [])

    abbrev with : Trees → Database
    with next = record { schema = old.now.schema; trees = next }

    abbrev pub task : Task
    task = record { limit = old.step_limit; keys = Enforced; schema = old.now.schema; table = table; params = params }

    -- what was written is one step
    pub wrote : (it : Written) → Inserts task (Values terms width) db (Ok it) → (next : Trees) × Applies old.now.schema Enforced db edit next × (it.trees ≡ next)
    wrote it h =
        let given = went h in
        let written = went (went given.2).2 in
        let counted = went written.2 in
        let trees : it.trees ≡ written.0 = ap (λ (it : Written). it.trees) (same_value counted.2) ∙ same_value counted.1 in
        let rows : given.0 ≡ row ∷ [] = given.1.1 ∙ ap (λ p. value_rows p width (length terms / width) terms) (append-nil params) ∙ one in
        let step = one_step old.now.schema Enforced db written.0 (edit_of db table [] Chosen 0 given.0) (no_works old.now.schema Enforced 0 tree (edit_of db table [] Chosen 0 given.0).news) written.1 in
        (written.0, subst (λ all. Applies old.now.schema Enforced db (edit_of db table [] Chosen 0 all) written.0) rows step, trees)

    inserted : Writes old new None (Insert at (Values terms width)) text params count → (next : Trees) × Applies old.now.schema Enforced db edit next × (new.now ≡ with next)
    inserted w =
        let done = went (rw is at w.changed) in
        let now = ap (λ (p : Tally × Database). p.1) (same_value (went (went done.2).2).2) in
        let put = wrote done.0 done.1 in
        (put.0, put.1, now ∙ ap (λ t. record { schema = old.now.schema; trees = t }) put.2)

    not_taken : (r : Row) (rows : List Row) → are_fresh rows (r ∷ []) ≡ true → is_taken rows r ≡ false
    not_taken r rows h = elim (cases_Bool (is_taken rows r)) [
      | inl taken ↦ absurd (let e = rw taken at h in cc)
      | inr free ↦ free
    ]

    rows_before : rows_of name old.now ≡ map (shown table) (db tree)
    rows_before = rw (named, is) refl

    rows_after : (next : Trees) → rows_of name (with next) ≡ map (shown table) (next tree)
    rows_after next = rw (named, is) refl

    table_is : table_in name old.now ≡ Some table
    table_is = rw (named, is) refl

    same_others : (next : Trees) → AllByRecursion (λ t. t.tree ≢ tree → next t.tree ≡ db t.tree) old.now.schema.tables → SameOthers name old.now (with next)
    same_others next all other is_other =
        let e : table ≡ other = same_some (sym table_is ∙ is_other) in subst (λ (o : Table). AllByRecursion (λ t. t.tree ≢ o.tree → next t.tree ≡ db t.tree) old.now.schema.tables) e all

    -- the row that is stored, and what it shows
    module _ (id : ℤ) (rest cells : Row) (stored : edit.news ≡ (Int id ∷ rest) ∷ []) (shows : shown table (Int id ∷ rest) ≡ Int id ∷ cells) where
      free : (next : Trees) → Applies old.now.schema Enforced db edit next → is_taken (db tree) (Int id ∷ rest) ≡ false
      free next applied = not_taken (Int id ∷ rest) (db tree) (subst (λ all. are_fresh (db tree) all ≡ true) stored applied.fresh)

      put_in : (next : Trees) → Applies old.now.schema Enforced db edit next → IsPermutation ((Int id ∷ rest) ∷ db tree) (next tree)
      put_in next applied = subst (IsPermutation ((Int id ∷ rest) ∷ db tree)) (sym (applied.rows ∙ ap (put_all (db tree)) stored)) (put_free (Int id ∷ rest) (db tree) (free next applied))

      shown_rows : (next : Trees) → IsPermutation (shown table (Int id ∷ rest) ∷ map (shown table) (db tree)) (map (shown table) (next tree)) → IsPermutation ((Int id ∷ cells) ∷ rows_of name old.now) (rows_of name (with next))
      shown_rows next all = subst₂ (λ a b. IsPermutation ((Int id ∷ cells) ∷ a) b) (sym rows_before) (sym (rows_after next)) (subst (λ (r : Row). IsPermutation (r ∷ map (shown table) (db tree)) (map (shown table) (next tree))) shows all)

      added_by : (next : Trees) → Applies old.now.schema Enforced db edit next → SparesFrozen old.now (with next) → IsDatabase (with next) → IsAdded name cells old.now (with next)
      added_by next applied unread sound = record {
        schema = refl;
        id = id;
        free = subst (AllByRecursion (λ r. column r 0 ≢ Int id)) (sym rows_before) (free_in table id rest (db tree) (free next applied));
        rows = shown_rows next (IsPermutation-map (shown table) _ _ (put_in next applied));
        others = same_others next applied.tables;
        unread = unread;
        sound = sound;
      }

      -- one row more, and nothing else has changed
      pub adds : Writes old new None (Insert at (Values terms width)) text params count → IsAdded name cells old.now new.now
      adds w =
          let done = inserted w in
          subst (IsAdded name cells old.now) (sym done.2) (added_by done.0 done.1 (subst (SparesFrozen old.now) done.2 w.frozen) (subst IsDatabase done.2 w.sound))

    -- where the table has no key of its own, the rowid is chosen
    pub adds_chosen : (values cells : Row) → row ≡ Null ∷ values → ((id : ℤ) → shown table (Int id ∷ cast_all columns values) ≡ Int id ∷ cells) → Writes old new None (Insert at (Values terms width)) text params count
        → IsAdded name cells old.now new.now
    adds_chosen values cells null shows w =
        adds (next_rowid (db tree)) (cast_all columns values) cells (ap (λ r. (edit_of db table [] Chosen 0 (r ∷ [])).news) null ∙ rw cast_null refl) (shows (next_rowid (db tree))) w

    -- where the key is the rowid, it is the one that is given
    pub adds_given : (id : ℤ) (values cells : Row) → row ≡ Int id ∷ values → shown table (Int id ∷ cast_all columns values) ≡ Int id ∷ cells → Writes old new None (Insert at (Values terms width)) text params count
        → IsAdded name cells old.now new.now
    adds_given id values cells given shows w =
        adds id (cast_all columns values) cells (ap (λ r. (edit_of db table [] Chosen 0 (r ∷ [])).news) given ∙ rw (cast_int id) refl) shows w
