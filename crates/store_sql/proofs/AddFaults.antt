-- Why an INSERT of one row is refused, over any schema that has its table.
use Rattle.std.proofs.Common.{◌≡◌, ◌≢◌, ◌⊎◌, ◌==◌, ◌/◌, ◌||◌, ℕ, ℤ, List, [], ◌∷◌, ◌++◌, length, slice_get, nat_lt, true, false, Option, Some, None, Ok, Err, inl, inr, refl, sym, ap, subst, ◌∙◌, append-nil, option_map}
use Rattle.std.proofs.lemmas.Bool.{cases_Bool, eqb-true, eqb-false}
use Rattle.std.specs.List.{AllByRecursion, list_all}
use Rattle.sqlite.specs.Order.{Row}
use Rattle.sqlite.specs.Table.{Table}
use Rattle.sqlite.specs.Term.{Term}
use Rattle.sqlite.specs.Tree.{Trees}
use Rattle.sqlite.specs.Edit.{Edit, edit_of}
use Rattle.sqlite.specs.Rowids.TheVariants.{Chosen}
use Rattle.sqlite.specs.Source.TheVariants.{Values}
use Rattle.sqlite.specs.Command.TheVariants.{Insert}
use Rattle.sqlite.specs.Does.{Does, Concludes}
use Rattle.sqlite.specs.Rows.{Task, Written, Inserts, Sourced}
use Rattle.sqlite.specs.Effect.{edit_error, value_rows}
use Rattle.sqlite.specs.State.{State, Fails, IsUnchanged, mode_of}
use Rattle.sqlite.specs.declared.types.Value.TheVariants.{Int}
use Rattle.sqlite.specs.declared.error.Error.{Error}
use Rattle.sqlite_typing.specs.Types.{accepts_terms}
use Rattle.sqlite_trees.specs.Tree.{with_tree}
use Rattle.sqlite_rules.specs.Action.{Writes}
use Rattle.sqlite_rules.specs.Edit.{IsRefused, IsOversized, edited, have_rowids, is_off}
use Rattle.sqlite_rules.specs.Lists.{Has as In}
use Rattle.sqlite_rules.specs.declared.error.Refusal.{Refusal}
use Rattle.sqlite_rules.specs.declared.error.Refusal.TheVariants.{Violates, Mismatch, NoRowid, BadReference, TooDeep}
use Rattle.sqlite_schema.specs.Names.{table_named}
use Rattle.sqlite_schema.specs.Rules.{are_typed, are_present, passes, references_fit, Refers}
use Rattle.sqlite_schema.specs.declared.schema.Among.TheVariants.{All}
use Rattle.sqlite_schema.specs.declared.schema.Column.{Column}
use Rattle.sqlite_schema.specs.declared.schema.Constraint.TheVariants.{Datatype, NotNull, Check, PrimaryKey, Unique, ForeignKey}
use Rattle.sqlite_schema.specs.declared.schema.Keys.TheVariants.{Enforced}
use Rattle.sqlite_value.specs.declared.keys.Order.{Order}
use Rattle.store_tables.specs.Tables.{simple}
use Rattle.store_tables.specs.Effects.{table_in}
use Rattle.store_tables.specs.Refusals.{IsInterrupted, IsTooBig, RefusesIn, RefusesToAdd, source_by, is_of_keys, with_row}
use Rattle.store_tables.proofs.KitLemmas.{all_from, all_has, no_works}
use Rattle.store_tables.proofs.InsertLemmas.{wrote, task}
use Rattle.store_tables.proofs.FaultLemmas.{failed_step, fails_for, same_refers, same_stop, no_stop}

-- after a step each table has the rows that the step says
pub with_same : (db next : Trees) (tree : ℕ) (rows : List Row) → next tree ≡ rows → (ts : List Table) → AllByRecursion (λ t. t.tree ≢ tree → next t.tree ≡ db t.tree) ts → AllByRecursion (λ t. next t.tree ≡ with_tree db tree rows t.tree) ts
with_same db next tree rows is ts h = all_from _ ts (λ t listed. elim (cases_Bool (t.tree == tree)) [
  | inl same ↦ rw same (ap next (eqb-true t.tree tree same) ∙ is)
  | inr apart ↦ rw apart (all_has _ ts t h listed (eqb-false t.tree tree apart))
])

module _ (old new : State) (at : ℕ) (name : List ℕ) (tree : ℕ) (columns : List Column) (key : Option ℕ) (primary : List ℕ) (uniques : List (List ℕ)) (orders : List Order)
    (named : table_named old.now.schema name ≡ Some at)
    (is : slice_get old.now.schema.tables at ≡ Some (simple name tree columns key primary uniques orders))
    (terms : List Term) (width : ℕ) (text : List ℕ) (params cells : Row)
    (one : value_rows params width (length terms / width) terms ≡ source_by key cells ∷ [])
    (accepts : accepts_terms terms params ≡ true)
    (id : ℤ) (rest : Row)
    (stored : (edit_of old.now.trees (simple name tree columns key primary uniques orders) [] Chosen 0 (source_by key cells ∷ [])).news ≡ (Int id ∷ rest) ∷ [])
    (typed : are_typed key 0 columns rest ≡ true) (present : are_present key 0 columns (Int id ∷ rest) ≡ true)
  where
    abbrev db : Trees
    db = old.now.trees

    abbrev table : Table
    table = simple name tree columns key primary uniques orders

    abbrev edit : Edit
    edit = edit_of db table [] Chosen 0 (source_by key cells ∷ [])

    abbrev Ends : Option Error → Type 0
    Ends (Some e) = IsInterrupted old e ⊎ RefusesIn table cells old.now e
    Ends None = (r : Row) × In edit.news r × IsOversized old.now.schema table r

    -- the values are of their columns' types, so that the keys alone may be against the row
    narrowed : (why : Refusal) → IsRefused old.now.schema Enforced db edit why → is_of_keys why ≡ true
    narrowed (Violates PrimaryKey) h = refl
    narrowed (Violates Unique) h = refl
    narrowed NoRowid h = refl
    narrowed (Violates Datatype) h = absurd (let e = rw typed at (subst (λ news. list_all (passes Datatype old.now.schema db table) news ≡ false) stored h) in cc)
    narrowed (Violates NotNull) h = absurd (let e = rw present at (subst (λ news. list_all (passes NotNull old.now.schema db table) news ≡ false) stored h) in cc)
    narrowed (Violates Check) h = absurd (let e = subst (λ news. list_all (passes Check old.now.schema db table) news ≡ false) stored h in cc)
    narrowed (Violates ForeignKey) h = absurd h
    narrowed Mismatch h = absurd (let e = subst (λ news. have_rowids news ≡ false) stored h in cc)
    narrowed BadReference h = absurd (let e = subst (λ (news : List Row). (is_off Enforced || references_fit old.now.schema table (nat_lt 0 (length news)) (nat_lt 0 0)) ≡ false) stored h in cc)
    narrowed TooDeep h = absurd h

    step_stopped : (end : Option Refusal) → Writes old.now.schema Enforced db edit (Err end) → Ends (option_map edit_error end)
    step_stopped end h = elim (failed_step old.now.schema Enforced db edit end (no_works old.now.schema Enforced 0 tree edit.news) h) [
      | inl refused ↦ subst (λ o. Ends (option_map edit_error o)) (sym refused.2) (inr (inl (record { why = refused.0; of_keys = narrowed refused.0 refused.1; refused = refused.1; told = refl })))
      | inr big ↦ subst (λ o. Ends (option_map edit_error o)) (sym big.3) (big.0, big.1, big.2)
    ]

    abbrev job : Task
    job = task old new at name tree columns key primary uniques orders named is terms width text params (source_by key cells) 0 one

    sourced : (o : Option Error) → Sourced old.step_limit old.now (params ++ []) (Values terms width) (Err o) → Ends o
    sourced None h = absurd h
    sourced (Some e) (inl h) = absurd (let both : true ≡ false = sym accepts ∙ subst (λ p. accepts_terms terms p ≡ false) (append-nil params) h.1 in cc)
    sourced (Some e) (inr h) = inl h

    rows_stopped : (o : Option Error) → Inserts job (Values terms width) db (Err o) → Ends o
    rows_stopped o (inl early) = subst Ends (sym (same_stop early.2)) (sourced early.0 early.1)
    rows_stopped o (inr given) = elim given.2 [
      | inl counted ↦ absurd (no_stop counted.1)
      | inr counter ↦ elim counter.2 [
        | inl step ↦ (let rows = given.1.1 ∙ ap (λ p. value_rows p width (length terms / width) terms) (append-nil params) ∙ one in
            let wrote' = subst (λ all. Writes old.now.schema Enforced db (edit_of db table [] Chosen 0 all) (Err step.1.0)) rows step.1.1 in
            subst Ends (sym (same_stop step.2 ∙ step.1.2)) (step_stopped step.1.0 wrote'))
        | inr mid ↦ elim mid.2 [ inl counts ↦ absurd (no_stop counts.1) | inr last ↦ absurd (no_stop last.2) ]
      ]
    ]

    lacks : (it : Written) → Inserts job (Values terms width) db (Ok it) → Refers All old.now.schema (with_row old.now table cells) → Refers All old.now.schema it.trees
    lacks it h refers =
        let put = wrote old new at name tree columns key primary uniques orders named is terms width text params (source_by key cells) 0 one it h in
        let same = with_same db put.0 tree (edited db edit) put.1.rows old.now.schema.tables put.1.tables in
        subst (Refers All old.now.schema) (sym put.2) (same_refers old.now.schema (with_row old.now table cells) put.0 same refers)

    concluded : (o : Option Error) (it : Written) → Inserts job (Values terms width) db (Ok it) → Concludes job (mode_of old) None it (Err o) → Ends o
    concluded o it done (inl tested) = subst Ends (sym (same_stop tested.2 ∙ tested.1.1)) (inr (inr (refl, λ refers. tested.1.0 (lacks it done refers))))
    concluded o it done (inr rest') = elim rest'.2 [ inl shows ↦ absurd (no_stop shows.1) | inr gives ↦ absurd (no_stop gives.2) ]

    pub insert_fails : (o : Option Error) → Does old.step_limit (mode_of old) params old.now text None (Insert at (Values terms width)) (Err o) → Ends o
    insert_fails o h = elim (rw is at h) [
      | inl early ↦ subst Ends (sym (same_stop early.2)) (rows_stopped early.0 early.1)
      | inr late ↦ concluded o late.0 late.1 late.2
    ]

    table_is : table_in name old.now ≡ Some table
    table_is = rw (named, is) refl

    pub cause : (e : Error) → (Does old.step_limit (mode_of old) params old.now text None (Insert at (Values terms width)) (Err (Some e)) × IsUnchanged old new)
        ⊎ Fails old new (Does old.step_limit (mode_of old) params old.now text None (Insert at (Values terms width)) (Err None)) e
        → (RefusesToAdd name cells old e × IsUnchanged old new) ⊎ Fails old new (IsTooBig name cells old.now) e
    cause e (inl h) = inl (elim (insert_fails (Some e) h.0) [ inl limit ↦ inl limit | inr against ↦ inr (table, table_is, against) ], h.1)
    cause e (inr f) = inr (fails_for old new e _ (IsTooBig name cells old.now) (λ big. let b = insert_fails None big in (table, table_is, b.0, b.1, b.2)) f)
