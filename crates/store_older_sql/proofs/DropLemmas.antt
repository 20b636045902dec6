-- What the DROP TABLE of a table does, over any schema that has it, and why it is refused.
use Rattle.std.proofs.Common.{◌≡◌, ◌==◌, ℕ, ◌+◌, List, [], ◌∷◌, filter, find, Bool, true, false, not, ◌&&◌, is_some, Some, None, Option, Ok, MatchBool, if◌then◌else◌, inl, inr, refl, sym, ap, subst, ◌∙◌, ◌⊎◌, ◌≤◌, length, Err, lit≤}
use Rattle.std.proofs.lemmas.Bool.{cases_Bool}
use Rattle.std.proofs.lemmas.List.Elements.{All-from_recursion}
use Rattle.std.proofs.lemmas.List.Folds.{list_any_none}
use Rattle.std.specs.List.{AllByRecursion, list_any, position_from}
use Rattle.sqlite.specs.Table.{Table}
use Rattle.sqlite.specs.Schema.{Schema}
use Rattle.sqlite.specs.Change.{without_table}
use Rattle.sqlite.specs.Tree.{Trees}
use Rattle.sqlite_trees.specs.Tree.{IsAscending}
use Rattle.sqlite.specs.Does.{Tally, is_acted_on, UncountsIn, Does, Drops, Empties, Leaves}
use Rattle.sqlite.specs.Rows.{Task, sequence}
use Rattle.sqlite.specs.Effect.{Database}
use Rattle.sqlite.specs.State.{State, Writes, Executes, ExecutesIn, ExecutesInside, EndsScope, IsNoStatement, IsNotRun, Fails, IsUnchanged, mode_of}
use Rattle.sqlite.specs.Command.TheVariants.{DropTable}
use Rattle.sqlite.specs.Compile.{compiled, first, planned, meaning, command, drop_table, is_reserved, with_command, returning, timed}
use Rattle.sqlite.specs.Listing.{understood}
use Rattle.sqlite.proofs.Callers.{statement_of, runs_as}
use Rattle.sqlite_resolve.specs.declared.compiled.Compiled.{Compiled}
use Rattle.sqlite_schema.specs.Names.{table_named, view_named, same_name}
use Rattle.sqlite_schema.specs.declared.schema.Keys.{Keys}
use Rattle.sqlite_schema.specs.declared.schema.Keys.TheVariants.{Enforced}
use Rattle.sqlite_rules.specs.Action.{deed_for}
use Rattle.sqlite_rules.specs.Lists.{Has as In}
use Rattle.sqlite_schema.specs.declared.schema.Reference.{Reference}
use Rattle.store_tables.proofs.KitLemmas.{all_from, all_has, lowered}
use Rattle.sqlite_tied.specs.Compute.{everything}
use Rattle.sqlite_ast.specs.declared.Statement.TheVariants as written
use Rattle.sqlite_syntax.specs.declared.statement.Parsed.{Parsed}
use Rattle.store_tables.specs.Found.{HasTable}
use Rattle.store_tables.proofs.PlaceLemmas.{found}
use Rattle.store_tables.proofs.NameLemmas.{itself, found_is, not_parent}
use Rattle.store_tables.specs.declared.tables.StoreTable.{StoreTable}
use Rattle.store_tables.specs.declared.tables.StoreTable.TheVariants as store
use Rattle.store_tables.specs.Effects.{Has, table_in}
use Rattle.store_older_sql.specs.Drops.{drop_text, IsDropped}
use Rattle.store_tables.specs.Tables.{table_of}
use Rattle.store_tables.proofs.InsertLemmas.{went, same_value, same_some}
use Rattle.store_tables.proofs.TextLemmas.{parsed_or}
use Rattle.sqlite.specs.declared.error.Error.{Error}
use Rattle.store_tables.proofs.TableLemmas.{name_is}
use Rattle.store_tables.specs.Refusals.{RefusesToDrop}
use Rattle.store_tables.proofs.FaultLemmas.{faults_inside, fails_for, same_stop, no_stop}

pub not_taken : (b : Bool) (P Q : Type 0) → b ≡ false → MatchBool b P Q → Q
not_taken true P Q e h = absurd (let both = e in cc)
not_taken false P Q e h = h

pub not_counted : (task : Task) (db next : Trees) (b : Bool) (o : Option Table) → b ≡ false → UncountsIn task db (if b then o else None) (Ok next) → next ≡ db
not_counted task db next true o e h = absurd (let both = e in cc)
not_counted task db next false o e h = same_value h

-- ---- names

same_before : (a b c : List ℕ) → same_name a c ≡ true → same_name b c ≡ true → same_name a b ≡ true
same_before a b c one two = (lowered a b).1 ((lowered a c).0 one ∙ sym ((lowered b c).0 two))

no_place : {X : Type 0} (p : X → Bool) (xs : List X) → AllByRecursion (λ x. p x ≡ false) xs → (n : ℕ) → position_from p n xs ≡ None
no_place p [] h n = refl
no_place p (x ∷ xs) h n = rw (h.0) (no_place p xs h.1 (n + 1))

-- ---- the table that goes is the only one of its name

module _ (name : List ℕ) (stays : Table → Bool) where
  abbrev IsNamed : Table → Bool
  IsNamed t = same_name t.name name

  others_named : (t : Table) (ts : List Table) → IsNamed t ≡ true → AllByRecursion (λ u. same_name t.name u.name ≡ false) ts → AllByRecursion (λ u. IsNamed u ≡ false) (filter stays ts)
  others_named t [] it apart = tt
  others_named t (u ∷ ts) it apart = elim (cases_Bool (stays u)) [
    | inl left ↦ rw left (other, others_named t ts it apart.1)
    | inr gone ↦ rw gone (others_named t ts it apart.1)
  ]
    where
      other : IsNamed u ≡ false
      other = elim (cases_Bool (IsNamed u)) [
        | inl too ↦ absurd (let both : true ≡ false = sym (same_before t.name u.name name it too) ∙ apart.0 in cc)
        | inr not' ↦ not'
      ]

  none_left : (ts : List Table) (table : Table) → find IsNamed ts ≡ Some table → stays table ≡ false → IsAscending (λ s t. same_name s.name t.name ≡ false) ts → AllByRecursion (λ u. IsNamed u ≡ false) (filter stays ts)
  none_left [] table is gone apart = absurd (let e = is in cc)
  none_left (t ∷ ts) table is gone apart = elim (cases_Bool (IsNamed t)) [
    | inl hit ↦ (let same : t ≡ table = same_some (rw hit at is) in let goes : stays t ≡ false = ap stays same ∙ gone in rw goes (others_named t ts hit apart.0))
    | inr miss ↦ (let rest = none_left ts table (rw miss at is) gone apart.1 in elim (cases_Bool (stays t)) [ inl left ↦ rw left (miss, rest) | inr goes ↦ rw goes rest ])
  ]

-- ---- no foreign key leads into it, so none acts

none_of : {X : Type 0} (p : X → Bool) (xs : List X) → ((x : X) → In xs x → p x ≡ false) → list_any p xs ≡ false
none_of p xs each = list_any_none p xs (All-from_recursion (λ x. p x ≡ false) xs (all_from (λ x. p x ≡ false) xs each))

module _ (schema : Schema) (at : ℕ) (table : Table) (has : HasTable schema at table) where
  abbrev acts : Keys → Reference → Bool
  acts keys ref = same_name table.name ref.parent && is_some (deed_for keys true ref)

  pub unacted : (keys : Keys) → is_acted_on schema keys table ≡ false
  unacted keys = none_of (λ t. list_any (acts keys) t.references) schema.tables (λ t listed. none_of (acts keys) t.references (λ ref named.
      rw (not_parent schema at table has ref (all_has _ t.references ref (all_has _ schema.tables t has.unreferred listed) named)) refl))

-- ---- the text

-- the text is the DROP TABLE of this table, in whatever tree that is
pub record ReadsDrop (text : List ℕ) (p : Parsed) (table : ℕ → Table) : Type 0 where
  pub read : first text ≡ Ok p
  pub statement : (tree : ℕ) → p.statement ≡ written.DropTable false (table tree).name
  pub formats : p.formats ≡ []
  pub unreserved : (tree : ℕ) → is_reserved (table tree).name ≡ false
  pub uncounted : (tree : ℕ) → (table tree).is_counted ≡ false
  pub named : (tree : ℕ) → (table tree).name ≡ (table 0).name

module _ (text : List ℕ) (p : Parsed) (table : ℕ → Table) (r : ReadsDrop text p table) (schema : Schema) (at tree : ℕ) (has : HasTable schema at (table tree)) where
  abbrev no_view : Type 0
  no_view = is_some (view_named schema (table tree).name) ≡ false

  drops_is : no_view → drop_table schema false (table tree).name ≡ Ok (DropTable at)
  unfolding drop_table
  drops_is none = let named = has.named in rw (r.unreserved tree, none, named) refl

  pub compiles : no_view → understood schema text ≡ Ok (with_command p ([], (DropTable at, None)))
  unfolding compiled understood planned meaning command returning timed
  compiles none = rw (r.read, r.statement tree, r.formats, drops_is none) refl

  pub refuses : is_some (view_named schema (table tree).name) ≡ true → (c : Compiled) → ¬ (understood schema text ≡ Ok c)
  unfolding compiled understood planned meaning command returning timed drop_table
  refuses view c is = let e = rw (r.read, r.statement tree, r.formats, r.unreserved tree, view) at is in cc

  -- where the text is understood, it is that
  is_drop : (c : Compiled) → understood schema text ≡ Ok c → no_view
  is_drop c is = elim (cases_Bool (is_some (view_named schema (table tree).name))) [ inl view ↦ absurd (refuses view c is) | inr none ↦ none ]

module _ (text : List ℕ) (p : Parsed) (table : ℕ → Table) (r : ReadsDrop text p table) (old new : State) (count : ℕ) where
  ran : (at tree : ℕ) (has : HasTable old.now.schema at (table tree)) → Executes text [] old new (Ok count) → Writes old new None (DropTable at) (statement_of text (understood old.now.schema text)) [] count
  unfolding ExecutesIn
  ran at tree has h =
      let is = compiles text p table r old.now.schema at tree has (is_drop text p table r old.now.schema at tree has h.0 h.1.is) in
      runs_as text [] old new old.now.schema refl (DropTable at) (rw is refl) (rw is (refl, refl)) count h

  pub drops : Has table old.now → Executes text [] old new (Ok count) → IsDropped (table 0).name old.now new.now
  drops has h =
      let at = has.0 in
      let tree = has.1 in
      let it = has.2 in
      let is = it.is in
      let w = ran at tree it h in
      let acted = unacted old.now.schema at (table tree) it in
      let first = went (rw is at w.changed) in
      let same : first.0 ≡ old.now.trees = same_value (not_taken _ _ _ (acted Enforced) first.1) in
      let second = went first.2 in
      let still : second.0 ≡ first.0 = not_counted (record { limit = old.step_limit; keys = Enforced; schema = old.now.schema; table = table tree; params = [] }) _ _ (table tree).is_counted (sequence old.now.schema)
      (r.uncounted tree) second.1 in
      let third = went second.2 in
      let fourth = went third.2 in
      let now : new.now ≡ fourth.0 = ap (λ (q : Tally × Database). q.1) (same_value fourth.2) in
      let schema : new.now.schema ≡ without_table old.now.schema (table tree).tree = ap (λ (d : Database). d.schema) now ∙ fourth.1.0 in
      let name : (table tree).name ≡ (table 0).name = r.named tree in
      let there : table_in (table tree).name old.now ≡ Some (table tree) = found (λ t. same_name t.name (table tree).name) old.now.schema.tables ∙ found_is old.now.schema at (table tree) it in
      subst (λ n. IsDropped n old.now new.now) name (record {
        schema = λ t is_it. schema ∙ ap (λ (u : Table). without_table old.now.schema u.tree) (same_some (sym there ∙ is_it));
        gone = λ sound. subst (λ (s : Schema). table_named s (table tree).name ≡ None) (sym schema)
            (no_place (λ t. same_name t.name (table tree).name) _ (none_left (table tree).name (λ t. not (t.tree == (table tree).tree)) old.now.schema.tables (table tree) (found_is old.now.schema at (table tree) it)
            (ap not (itself (table tree).tree)) sound.lists.listed.named) 0);
        others = subst (λ (d : Database). AllByRecursion (λ t. d.trees t.tree ≡ old.now.trees t.tree) d.schema.tables) (sym now)
            (subst (λ (s : Schema). AllByRecursion (λ t. fourth.0.trees t.tree ≡ old.now.trees t.tree) s.tables) (sym fourth.1.0)
            (subst (λ trees. AllByRecursion (λ t. fourth.0.trees t.tree ≡ trees t.tree) (without_table old.now.schema (table tree).tree).tables) (still ∙ same) fourth.1.1));
        unread = w.frozen;
        sound = w.sound;
      })

unfoldable pub read_drop : StoreTable → Parsed
unfolding everything
read_drop t = parsed_or (first (drop_text t))

pub reads_drop : (t : StoreTable) → ReadsDrop (drop_text t) (read_drop t) (table_of t)
unfolding everything read_drop
reads_drop store.Mark = record { read = refl; statement = λ tree. refl; formats = refl; unreserved = λ tree. refl; uncounted = λ tree. refl; named = λ tree. refl }
reads_drop store.Item = record { read = refl; statement = λ tree. refl; formats = refl; unreserved = λ tree. refl; uncounted = λ tree. refl; named = λ tree. refl }
reads_drop store.Member = record { read = refl; statement = λ tree. refl; formats = refl; unreserved = λ tree. refl; uncounted = λ tree. refl; named = λ tree. refl }
reads_drop store.Edition = record { read = refl; statement = λ tree. refl; formats = refl; unreserved = λ tree. refl; uncounted = λ tree. refl; named = λ tree. refl }
reads_drop store.Entry = record { read = refl; statement = λ tree. refl; formats = refl; unreserved = λ tree. refl; uncounted = λ tree. refl; named = λ tree. refl }
reads_drop store.Kept = record { read = refl; statement = λ tree. refl; formats = refl; unreserved = λ tree. refl; uncounted = λ tree. refl; named = λ tree. refl }

pub drops_table : (table : StoreTable) (old new : State) (count : ℕ) → Has (table_of table) old.now → Executes (drop_text table) [] old new (Ok count) → IsDropped (table_of table 0).name old.now new.now
drops_table t = drops (drop_text t) (read_drop t) (table_of t) (reads_drop t)

not_uncounted : (task : Task) (db : Trees) (o : Option Error) (counted : Bool) (t : Option Table) → counted ≡ false → ¬ UncountsIn task db (if counted then t else None) (Err o)
not_uncounted task db o true t e h = absurd (let both = e in cc)
not_uncounted task db o false t e h = no_stop h

module _ (text : List ℕ) (p : Parsed) (table : ℕ → Table) (r : ReadsDrop text p table) (whole : length text ≤ p.tail) (names : 0 ≡ length p.names) (old new : State) (at tree : ℕ) (has : HasTable old.now.schema at (table tree)) where
  abbrev task : Task
  task = record { limit = old.step_limit; keys = Enforced; schema = old.now.schema; table = table tree; params = [] }

  table_is : table_in (table tree).name old.now ≡ Some (table tree)
  table_is = let named = has.named in let is = has.is in rw (named, is) refl

  abbrev Ends : Option Error → Type 0
  Ends (Some e) = RefusesToDrop (table tree).name old e
  Ends None = ⊥

  never_emptied : (o : Option Error) → ¬ Empties task old.now.trees (Err o)
  never_emptied o h = no_stop (not_taken (is_acted_on old.now.schema Enforced (table tree)) _ _ (unacted old.now.schema at (table tree) has Enforced) h)

  emptied : (now : Trees) → Empties task old.now.trees (Ok now) → now ≡ old.now.trees
  emptied now h = same_value (not_taken (is_acted_on old.now.schema Enforced (table tree)) _ _ (unacted old.now.schema at (table tree) has Enforced) h)

  dropped : (o : Option Error) → Drops task (mode_of old) old.now.trees (Err o) → Ends o
  dropped o (inl h) = absurd (never_emptied h.0 h.1)
  dropped o (inr h) = elim h.2 [
    | inl counted ↦ absurd (not_uncounted task h.0 counted.0 (table tree).is_counted (sequence old.now.schema) (r.uncounted tree) counted.1)
    | inr uncounted ↦ elim uncounted.2 [
      | inl tested ↦ (let still : uncounted.0 ≡ old.now.trees = not_counted task h.0 uncounted.0 (table tree).is_counted (sequence old.now.schema) (r.uncounted tree) uncounted.1 ∙ emptied h.0 h.1 in
          subst Ends (sym (same_stop tested.2 ∙ tested.1.1)) (inr (refl, table tree, table_is, λ hold. tested.1.0 (rw still hold))))
      | inr left ↦ elim left.2 [ inl leaves ↦ absurd (never uncounted.0 leaves.0 leaves.1) | inr gives ↦ absurd (no_stop gives.2) ]
    ]
  ]
    where
      never : (trees : Trees) (stop : Option Error) → ¬ Leaves (without_table old.now.schema (table tree).tree) trees (λ _. ⊥) (Err stop)
      never trees None h = h
      never trees (Some e) h = h

  drop_fails : (o : Option Error) → Does old.step_limit (mode_of old) [] old.now text None (DropTable at) (Err o) → Ends o
  drop_fails o h = dropped o (let is = has.is in rw is at h)

  abbrev Cause : Error → Type 0
  Cause e = (RefusesToDrop (table tree).name old e × IsUnchanged old new) ⊎ Fails old new ⊥ e

  plain : (e : Error) → is_some (view_named old.now.schema (table tree).name) ≡ false → ExecutesInside 0 text [] old new (Err e) → Cause e
  plain e none h = elim (faults_inside text p (DropTable at) [] old new e (compiles text p table r old.now.schema at tree has none) whole names refl refl h) [
    | inl against ↦ inl (drop_fails (Some e) against.0, against.1)
    | inr f ↦ inr (fails_for old new e _ ⊥ (drop_fails None) f)
  ]

  -- a view has the name, so that the text stands for no statement
  module _ (view : is_some (view_named old.now.schema (table tree).name) ≡ true) where
    not_one : (c : Compiled) → ¬ (understood old.now.schema text ≡ Ok c)
    not_one = refuses text p table r old.now.schema at tree has view

    named_so : (e : Error) → IsNoStatement old text [] e → RefusesToDrop (table tree).name old e
    named_so e (inl h) = inl (h.0, h.2, view)
    named_so e (inr h) = absurd (not_one h.0 h.1)

    not_run : (e : Error) → IsNotRun old new text [] e → Cause e
    unfolding IsNotRun
    not_run e (inl h) = inl (named_so e h.0, h.1)
    not_run e (inr f) = inr f

    executed : (e : Error) → Executes text [] old new (Err e) → Cause e
    unfolding ExecutesIn
    executed e (inl h) = not_run e h
    executed e (inr h) = absurd (not_one h.0 h.1.is)

    ends_none : ¬ EndsScope 0 text [] old
    unfolding EndsScope
    ends_none h = not_one h.0 h.1.is

    viewed : (e : Error) → ExecutesInside 0 text [] old new (Err e) → Cause e
    viewed e (inl h) = executed e h.0
    viewed e (inr h) = absurd (ends_none h.0)

  pub fails : (e : Error) → ExecutesInside 0 text [] old new (Err e) → Cause e
  fails e h = elim (cases_Bool (is_some (view_named old.now.schema (table tree).name))) [ inl view ↦ viewed view e h | inr none ↦ plain e none h ]

-- ---- the texts

whole_drop : (t : StoreTable) → (length (drop_text t) ≤ (read_drop t).tail) × (0 ≡ length (read_drop t).names)
unfolding everything read_drop
whole_drop store.Mark = (lit≤ tt, refl)
whole_drop store.Item = (lit≤ tt, refl)
whole_drop store.Member = (lit≤ tt, refl)
whole_drop store.Edition = (lit≤ tt, refl)
whole_drop store.Entry = (lit≤ tt, refl)
whole_drop store.Kept = (lit≤ tt, refl)

pub drop_fails_in : (table : StoreTable) (old new : State) (e : Error) → Has (table_of table) old.now → ExecutesInside 0 (drop_text table) [] old new (Err e) → (RefusesToDrop (table_of table 0).name old e × IsUnchanged old new)
    ⊎ Fails old new ⊥ e
drop_fails_in t old new e has h =
    subst (λ n. (RefusesToDrop n old e × IsUnchanged old new) ⊎ Fails old new ⊥ e) (name_is t has.1)
    (fails (drop_text t) (read_drop t) (table_of t) (reads_drop t) (whole_drop t).0 (whole_drop t).1 old new has.0 has.1 has.2 e h)
