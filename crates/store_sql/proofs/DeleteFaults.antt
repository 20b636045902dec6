-- Why a DELETE is refused, over any schema that has its table.
use Rattle.std.proofs.Common.{◌≡◌, ◌⊎◌, ◌||◌, ℕ, List, [], length, nat_lt, Bool, true, false, not, Option, Some, None, Ok, Err, inl, inr, refl, sym, ap, subst, ◌∙◌, option_map}
use Rattle.std.proofs.lemmas.List.Elements.{filter_agree}
use Rattle.std.specs.List.{AllByRecursion, list_all}
use Rattle.sqlite.specs.Order.{Row}
use Rattle.sqlite.specs.Table.{Table}
use Rattle.sqlite.specs.Term.{Term}
use Rattle.sqlite.specs.Tree.{Trees}
use Rattle.sqlite.specs.Command.TheVariants.{Delete}
use Rattle.sqlite.specs.Does.{Does, Concludes}
use Rattle.sqlite.specs.Rows.{Written, Deletes, Queried}
use Rattle.sqlite.specs.Effect.{Answers, edit_error}
use Rattle.sqlite.specs.State.{State, Fails, IsUnchanged, mode_of}
use Rattle.sqlite.specs.declared.error.Error.{Error}
use Rattle.sqlite_sql.specs.Program.{ProgramOverflows}
use Rattle.sqlite_typing.specs.Types.{accepts_program}
use Rattle.sqlite_trees.specs.Tree.{with_tree}
use Rattle.sqlite_rules.specs.Action.{Writes}
use Rattle.sqlite_rules.specs.Edit.{IsRefused, edited}
use Rattle.sqlite_rules.specs.declared.error.Refusal.{Refusal}
use Rattle.sqlite_rules.specs.declared.error.Refusal.TheVariants.{Violates, Mismatch, NoRowid, BadReference, TooDeep}
use Rattle.sqlite_schema.specs.Rules.{Keeps, Refers, is_key_if_to, references_fit}
use Rattle.sqlite_schema.specs.declared.schema.Among.TheVariants.{All}
use Rattle.sqlite_schema.specs.declared.schema.Constraint.TheVariants.{Datatype, NotNull, Check, PrimaryKey, Unique, ForeignKey}
use Rattle.sqlite_schema.specs.declared.schema.Keys.TheVariants.{Enforced}
use Rattle.store_tables.specs.Found.{HasTable}
use Rattle.store_tables.specs.Effects.{HasApartRowids, rows_of, table_in, shown}
use Rattle.store_tables.specs.Refusals.{IsInterrupted, RefusesLoss, RefusesToRemove, without_rows}
use Rattle.store_sql.proofs.AddFaults.{with_same}
use Rattle.store_tables.proofs.KitLemmas.{all_has, test_from}
use Rattle.store_sql.proofs.DeleteEffects.{program, edit, no_works, took, task, left_rows}
use Rattle.store_tables.proofs.NameLemmas.{not_parent}
use Rattle.store_tables.proofs.FaultLemmas.{failed_step, fails_for, same_refers, same_stop, no_stop}
use Rattle.store_tables.proofs.ListLemmas.{passes}

-- ---- no foreign key leads into the table, so none is against it

either_way : (b : Bool) → (not b || true) ≡ true
either_way true = refl
either_way false = refl

module _ (old new : State) (at : ℕ) (table : Table) (has : HasTable old.now.schema at table) (tests : List Term) (text : List ℕ) (params : Row) where
  abbrev db : Trees
  db = old.now.trees

  fits : (goes : Bool) → references_fit old.now.schema table false goes ≡ true
  fits goes = rw (test_from (λ (t : Table). list_all (is_key_if_to old.now.schema table) t.references) old.now.schema.tables (λ t listed. test_from (is_key_if_to old.now.schema table) t.references (λ ref named.
      rw (not_parent old.now.schema at table has ref (all_has _ t.references ref (all_has _ old.now.schema.tables t has.unreferred listed) named)) refl))) (either_way goes)

  module _ (apart : HasApartRowids (rows_of table.name old.now)) (test : Row → Bool) (tested : (r : Row) → passes params tests r ≡ test (shown table r))
      (accepts : accepts_program old.now.schema [] (program old new at table has tests text params 0).body params ≡ true) (flows : ¬ ProgramOverflows db params [] [] (program old new at table has tests text params 0).body)
    where
      abbrev Ends : Option Error → Type 0
      Ends (Some e) = IsInterrupted old e ⊎ RefusesLoss table test old.now e
      Ends None = ⊥

      left : (rows : List Row) → Answers old.now (program old new at table has tests text params 0) params rows → with_tree db table.tree (edited db (edit old new at table has tests text params 0 rows)) ≡ without_rows old.now table test
      left rows answers = ap (with_tree db table.tree) (left_rows old new at table has tests text params 0 apart test tested rows answers
          ∙ filter_agree (λ r. not (passes params tests r)) (λ r. not (test (shown table r))) (λ r. ap not (tested r)) (db table.tree))

      narrowed : (rows : List Row) → Answers old.now (program old new at table has tests text params 0) params rows → (why : Refusal) → IsRefused old.now.schema Enforced db (edit old new at table has tests text params 0 rows) why
          → RefusesLoss table test old.now (edit_error why)
      narrowed rows answers (Violates Unique) h = inl (refl, subst (λ trees. ¬ Keeps Unique old.now.schema trees) (left rows answers) h)
      narrowed rows answers (Violates PrimaryKey) h = absurd (let e = h in cc)
      narrowed rows answers (Violates Datatype) h = absurd (let e = h in cc)
      narrowed rows answers (Violates NotNull) h = absurd (let e = h in cc)
      narrowed rows answers (Violates Check) h = absurd (let e = h in cc)
      narrowed rows answers (Violates ForeignKey) h = absurd h
      narrowed rows answers Mismatch h = absurd (let e = h in cc)
      narrowed rows answers NoRowid h = absurd (let e = h in cc)
      narrowed rows answers BadReference h = absurd (let both : true ≡ false = sym (fits (nat_lt 0 (length (edit old new at table has tests text params 0 rows).gone))) ∙ h in cc)
      narrowed rows answers TooDeep h = absurd h

      step_stopped : (rows : List Row) → Answers old.now (program old new at table has tests text params 0) params rows → (end : Option Refusal)
          → Writes old.now.schema Enforced db (edit old new at table has tests text params 0 rows) (Err end) → Ends (option_map edit_error end)
      step_stopped rows answers end h = elim (failed_step old.now.schema Enforced db (edit old new at table has tests text params 0 rows) end (no_works old new at table has tests text params 0 rows) h) [
        | inl refused ↦ subst (λ o. Ends (option_map edit_error o)) (sym refused.2) (inr (narrowed rows answers refused.0 refused.1))
        | inr big ↦ absurd big.1
      ]

      queried : (o : Option Error) → Queried old.step_limit old.now (program old new at table has tests text params 0) params (Err o) → Ends o
      queried None h = absurd h
      queried (Some e) (inl h) = absurd (let both : true ≡ false = sym accepts ∙ h.1 in cc)
      queried (Some e) (inr (inl h)) = absurd (flows h.1)
      queried (Some e) (inr (inr h)) = inl h

      rows_stopped : (o : Option Error) → Deletes (task old new at table has tests text params 0) (program old new at table has tests text params 0) db (Err o) → Ends o
      rows_stopped o (inl early) = subst Ends (sym (same_stop early.2)) (queried early.0 early.1)
      rows_stopped o (inr given) = elim given.2 [
        | inl step ↦ subst Ends (sym (same_stop step.2 ∙ step.1.2)) (step_stopped given.0 given.1 step.1.0 step.1.1)
        | inr last ↦ absurd (no_stop last.2)
      ]

      lacks : (it : Written) → Deletes (task old new at table has tests text params 0) (program old new at table has tests text params 0) db (Ok it) → Refers All old.now.schema (without_rows old.now table test)
          → Refers All old.now.schema it.trees
      lacks it h refers =
          let gone = took old new at table has tests text params 0 it h in
          let same = with_same db gone.1 table.tree (edited db (edit old new at table has tests text params 0 gone.0)) gone.3.rows old.now.schema.tables gone.3.tables in
          subst (Refers All old.now.schema) (sym gone.4) (same_refers old.now.schema (without_rows old.now table test) gone.1
          (subst (λ (trees : Trees). AllByRecursion (λ t. gone.1 t.tree ≡ trees t.tree) old.now.schema.tables) (left gone.0 gone.2) same) refers)

      concluded : (o : Option Error) (it : Written) → Deletes (task old new at table has tests text params 0) (program old new at table has tests text params 0) db (Ok it)
          → Concludes (task old new at table has tests text params 0) (mode_of old) None it (Err o) → Ends o
      concluded o it done (inl tested') = subst Ends (sym (same_stop tested'.2 ∙ tested'.1.1)) (inr (inr (refl, λ refers. tested'.1.0 (lacks it done refers))))
      concluded o it done (inr rest) = elim rest.2 [ inl shows ↦ absurd (no_stop shows.1) | inr gives ↦ absurd (no_stop gives.2) ]

      pub delete_fails : (o : Option Error) → Does old.step_limit (mode_of old) params old.now text None (Delete at (program old new at table has tests text params 0)) (Err o) → Ends o
      delete_fails o h = elim (let is = has.is in rw is at h) [
        | inl early ↦ subst Ends (sym (same_stop early.2)) (rows_stopped early.0 early.1)
        | inr late ↦ concluded o late.0 late.1 late.2
      ]

      table_is : table_in table.name old.now ≡ Some table
      table_is = let named = has.named in let is = has.is in rw (named, is) refl

      pub cause : (e : Error) → (Does old.step_limit (mode_of old) params old.now text None (Delete at (program old new at table has tests text params 0)) (Err (Some e)) × IsUnchanged old new)
          ⊎ Fails old new (Does old.step_limit (mode_of old) params old.now text None (Delete at (program old new at table has tests text params 0)) (Err None)) e
          → (RefusesToRemove table.name test old e × IsUnchanged old new) ⊎ Fails old new ⊥ e
      cause e (inl h) = inl (elim (delete_fails (Some e) h.0) [ inl limit ↦ inl limit | inr against ↦ inr (table, table_is, against) ], h.1)
      cause e (inr f) = inr (fails_for old new e _ ⊥ (delete_fails None) f)
