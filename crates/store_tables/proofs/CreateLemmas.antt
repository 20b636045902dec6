-- What the CREATE TABLE of a table does, over any schema in which its name is free, and why it is refused.
use Rattle.std.proofs.Common.{◌≡◌, ℕ, ◌==◌, List, [], ◌∷◌, codes, length, find, Bool, true, false, not, ◌&&◌, ◌||◌, is_some, Some, None, Option, Ok, refl, sym, ap, subst, ◌∙◌, ◌⊎◌, ◌≤◌, ◌<◌, ◌+◌, ◌*◌, ◌^◌, nat_lt, Err, inl, inr, arith}
use Rattle.std.proofs.Common.{lit≤}
use Rattle.std.specs.List.{AllByRecursion, list_any, list_all}
use Rattle.sqlite.specs.Table.{Table}
use Rattle.sqlite.specs.Schema.{Schema}
use Rattle.sqlite.specs.Change.{created, next_tree, is_used}
use Rattle.sqlite.specs.Does.{Tally, lacks_sequence, Does, MakesTable, MakesSequence}
use Rattle.sqlite.specs.Effect.{Database, alter_error}
use Rattle.sqlite.specs.State.{State, Writes, Executes, ExecutesInside, Fails, IsUnchanged, mode_of}
use Rattle.sqlite.specs.Command.TheVariants.{CreateTable}
use Rattle.sqlite.specs.Compile.{compiled, first, planned, meaning, command, create_table, creates, is_attached, is_reserved, with_command, returning, timed, table_defined_by}
use Rattle.sqlite.specs.Listing.{understood}
use Rattle.sqlite.proofs.Callers.{statement_of, runs_as}
use Rattle.sqlite_resolve.specs.Define as define
use Rattle.sqlite_schema.specs.Names.{table_named, index_named, view_named, same_name}
use Rattle.sqlite_tied.specs.Compute.{everything}
use Rattle.sqlite_ast.specs.declared.Statement.{Statement}
use Rattle.sqlite_ast.specs.declared.Statement.TheVariants as written
use Rattle.sqlite_ast.specs.declared.CreateTable as ast
use Rattle.sqlite_syntax.specs.declared.statement.Parsed.{Parsed}
use Rattle.store_tables.specs.Tables.{table_of}
use Rattle.store_tables.specs.declared.tables.StoreTable.{StoreTable}
use Rattle.store_tables.specs.Effects.{rows_of, table_in}
use Rattle.store_tables.specs.Creates.{IsFree, IsMade, create_text}
use Rattle.store_tables.proofs.InsertLemmas.{went, same_value}
use Rattle.store_tables.proofs.TextLemmas.{parsed_or}
use Rattle.store_tables.proofs.PlaceLemmas.{found}
use Rattle.store_tables.proofs.FindLemmas.{find_past, lacks_no_more}
use Rattle.store_tables.specs.declared.tables.StoreTable.TheVariants as store
use Rattle.std.proofs.lemmas.Bool.{ltb-true}
use Rattle.std.proofs.lemmas.Str.{IsUtf8-from_ascii}
use Rattle.std.proofs.lemmas.List.Elements.{All-from_recursion}
use Rattle.std.proofs.lemmas.Str.Ascii.{IsAscii-from_all}
use Rattle.std.specs.Str.{IsUtf8}
use Rattle.sqlite.specs.Rows.{Then}
use Rattle.sqlite.specs.declared.types.Value.TheVariants.{Text}
use Rattle.sqlite.specs.declared.error.Error.{Error}
use Rattle.sqlite_catalog.specs.Calls.{RefusesTable}
use Rattle.sqlite_catalog.specs.Change.{is_reserved as is_own_name}
use Rattle.sqlite_catalog.specs.Listing.{is_formed, is_fit}
use Rattle.sqlite_catalog.specs.declared.error.Refusal as refusal
use Rattle.sqlite_catalog.specs.declared.error.Refusal.TheVariants as why
use Rattle.sqlite_rules.specs.Lists.{Has as In}
use Rattle.sqlite_schema.specs.Rules.{table_reals, index_reals}
use Rattle.sqlite_trees.specs.Sound.{fits_kind, is_free_name, begins, same_name as same_letters}
use Rattle.sqlite_value.specs.Order.{value_cmp}
use Rattle.store_tables.specs.Refusals.{RefusesToMake}
use Rattle.store_tables.proofs.FaultLemmas.{faults_inside, fails_for, same_stop, no_stop}
use Rattle.store_tables.proofs.KitLemmas.{all_from, test_has}

abbrev pub nothing_defined : ast.CreateTable
nothing_defined = record { if_missing = false; name = []; body = record { columns = []; rules = [] }; is_strict = false; resolves = false }

abbrev pub def_in : Statement → ast.CreateTable
def_in (written.CreateTable def) = def
def_in _ = nothing_defined

-- ---- a name that is free

nothing_there : {X : Type 0} (o : Option X) → is_some o ≡ false → o ≡ None
nothing_there None h = refl
nothing_there (Some x) h = absurd (let e = h in cc)

neither : (a b c : Bool) → (a || b || c) ≡ false → (a ≡ false) × (b ≡ false) × (c ≡ false)
neither false false false h = (refl, refl, refl)
neither false false true h = absurd (let e = h in cc)
neither false true c h = absurd (let e = h in cc)
neither true b c h = absurd (let e = h in cc)

module _ (schema : Schema) (name : List ℕ) (free : is_used schema name ≡ false) where
  abbrev three : (is_some (table_named schema name) ≡ false) × (is_some (index_named schema name) ≡ false) × (is_some (view_named schema name) ≡ false)
  three = neither (is_some (table_named schema name)) (is_some (index_named schema name)) (is_some (view_named schema name)) free

  no_table : table_named schema name ≡ None
  no_table = nothing_there _ three.0

  no_index : index_named schema name ≡ None
  no_index = nothing_there _ three.1

  no_view : view_named schema name ≡ None
  no_view = nothing_there _ three.2

-- ---- the text

-- the text is the CREATE TABLE of this table
pub record ReadsCreate (text : List ℕ) (p : Parsed) (table : Table) : Type 0 where
  pub read : first text ≡ Ok p
  pub statement : p.statement ≡ written.CreateTable (def_in p.statement)
  pub formats : p.formats ≡ []
  pub name : (def_in p.statement).name ≡ table.name
  pub plain : (def_in p.statement).resolves ≡ false
  pub table_is : define.table [] (def_in p.statement) ≡ Ok table
  pub timeless : length table.computed == length table.stamps.places ≡ true
  pub defined : table_defined_by text ≡ Ok table
  pub itself : same_name table.name table.name ≡ true
  pub unreserved : is_reserved table.name ≡ false
  pub whole : (shape : _) → statement_of text (Ok (with_command p shape)) ≡ text
  pub uncounted : table.is_counted ≡ false

module _ (text : List ℕ) (p : Parsed) (table : Table) (r : ReadsCreate text p table) where
  module _ (schema : Schema) (free : is_used schema table.name ≡ false) where
    unattached : is_attached schema table.name ≡ false
    unfolding is_attached
    unattached = rw (no_view schema table.name free) refl

    creates_is : create_table schema [] (def_in p.statement) ≡ Ok CreateTable
    unfolding create_table creates
    creates_is = rw (r.name, unattached, no_table schema table.name free, no_view schema table.name free, no_index schema table.name free, r.unreserved, r.table_is, r.timeless, r.plain) refl

    planned_is : planned schema p ≡ Ok ([], (CreateTable, None))
    unfolding planned meaning command returning timed
    planned_is = rw (r.statement, r.formats, creates_is) refl

    pub compiles : understood schema text ≡ Ok (with_command p ([], (CreateTable, None)))
    unfolding compiled understood
    compiles = rw (r.read, planned_is) refl

    pub text_stays : statement_of text (understood schema text) ≡ text
    text_stays = rw compiles (r.whole ([], (CreateTable, None)))

  module _ (old new : State) (count : ℕ) (free : IsFree old.now.schema table.name) where
    abbrev schema : Schema
    schema = old.now.schema

    abbrev after : Schema
    after = created schema table

    abbrev made_table : Table
    made_table = record table { tree = next_tree schema }

    -- where the table stands
    stands : find (λ t. same_name t.name table.name) after.tables ≡ Some made_table
    stands =
        let none : find (λ t. same_name t.name table.name) schema.tables ≡ None = sym (found (λ t. same_name t.name table.name) schema.tables) ∙ rw (no_table schema table.name free.unused) refl in
        find_past (λ t. same_name t.name table.name) schema.tables (made_table ∷ []) none ∙ rw r.itself refl

    is_sequence : Table → Bool
    is_sequence t = same_name t.name (codes "sqlite_sequence")

    lacks_by_name : (s : Schema) → lacks_sequence s ≡ (list_any (λ (t : Table). t.is_counted) s.tables && not (is_some (find is_sequence s.tables)))
    unfolding is_sequence
    lacks_by_name s = ap (λ (o : Option Table). list_any (λ (t : Table). t.is_counted) s.tables && not (is_some o)) (found is_sequence s.tables)

    pub lacks_none : lacks_sequence after ≡ false
    lacks_none = lacks_by_name after ∙ lacks_no_more (λ (t : Table). t.is_counted) is_sequence schema.tables made_table r.uncounted (sym (lacks_by_name schema) ∙ free.counted)

    no_rows_yet : (db : Database) → db.schema ≡ after → db.trees (next_tree schema) ≡ [] → rows_of table.name db ≡ []
    no_rows_yet db is none =
        let there : table_in table.name db ≡ Some made_table = found (λ t. same_name t.name table.name) db.schema.tables ∙ ap (λ (s : Schema). find (λ t. same_name t.name table.name) s.tables) is ∙ stands in
        rw there (rw none refl)

    pub makes : Executes text [] old new (Ok count) → IsMade table old.now new.now
    makes h =
        let compiled' = compiles schema free.unused in
        let w = subst (λ t. Writes old new None CreateTable t [] count) (text_stays schema free.unused) (runs_as text [] old new schema refl CreateTable (rw compiled' refl) (rw compiled' (refl, refl)) count h) in
        let all = went w.changed in
        let first = went all.1 in
        let made = first.1 in
        let both : Ok made.table ≡ Ok table = sym made.defined ∙ r.defined in
        let same : made.table ≡ table = cc in
        let is : first.0.schema ≡ after = made.is ∙ ap (created schema) same in
        let plain : lacks_sequence first.0.schema ≡ false = ap lacks_sequence is ∙ lacks_none in
        let now : new.now ≡ first.0 = ap (λ (p : Tally × Database). p.1) (same_value all.2) ∙ same_value (rw plain at first.2) in
        record {
          schema = ap (λ (d : Database). d.schema) now ∙ is;
          counted = ap (λ (d : Database). lacks_sequence d.schema) now ∙ plain;
          empty = no_rows_yet new.now (ap (λ (d : Database). d.schema) now ∙ is) (ap (λ (d : Database). d.trees (next_tree schema)) now ∙ made.empty);
          others = subst (λ (d : Database). AllByRecursion (λ t. d.trees t.tree ≡ old.now.trees t.tree) schema.tables) (sym now) made.others;
          unread = w.frozen;
          sound = w.sound;
        }

unfoldable pub read_create : StoreTable → Parsed
unfolding everything
read_create t = parsed_or (first (create_text t))

pub reads_create : (t : StoreTable) → ReadsCreate (create_text t) (read_create t) (table_of t 0)
unfolding everything read_create
reads_create store.Mark = record { read = refl; statement = refl; formats = refl; name = refl; plain = refl; table_is = refl; timeless = refl; defined = refl; unreserved = refl; itself = refl; whole = λ shape. refl; uncounted = refl }
reads_create store.Item = record { read = refl; statement = refl; formats = refl; name = refl; plain = refl; table_is = refl; timeless = refl; defined = refl; unreserved = refl; itself = refl; whole = λ shape. refl; uncounted = refl }
reads_create store.Member = record { read = refl; statement = refl; formats = refl; name = refl; plain = refl; table_is = refl; timeless = refl; defined = refl; unreserved = refl; itself = refl; whole = λ shape. refl; uncounted = refl }
reads_create store.Edition = record { read = refl; statement = refl; formats = refl; name = refl; plain = refl; table_is = refl; timeless = refl; defined = refl; unreserved = refl; itself = refl; whole = λ shape. refl; uncounted = refl }
reads_create store.Entry = record { read = refl; statement = refl; formats = refl; name = refl; plain = refl; table_is = refl; timeless = refl; defined = refl; unreserved = refl; itself = refl; whole = λ shape. refl; uncounted = refl }
reads_create store.Kept = record { read = refl; statement = refl; formats = refl; name = refl; plain = refl; table_is = refl; timeless = refl; defined = refl; unreserved = refl; itself = refl; whole = λ shape. refl; uncounted = refl }

pub makes_table : (t : StoreTable) (old new : State) (count : ℕ) → IsFree old.now.schema (table_of t 0).name → Executes (create_text t) [] old new (Ok count) → IsMade (table_of t 0) old.now new.now
makes_table t = makes (create_text t) (read_create t) (table_of t 0) (reads_create t)

small_text : (bs : List ℕ) → list_all (λ b. nat_lt b 128) bs ≡ true → IsUtf8 bs
small_text bs h = IsUtf8-from_ascii bs (IsAscii-from_all bs (All-from_recursion (λ b. b < 128) bs (all_from (λ b. b < 128) bs (λ b listed. ltb-true b 128 (test_has (λ b. nat_lt b 128) bs b h listed)))))

-- What is asked of the text and of the table, beside that the name is free.
pub record Stands (text : List ℕ) (p : Parsed) (table : Table) : Type 0 where
  pub whole : length text ≤ p.tail
  pub names : 0 ≡ length p.names
  pub is_text : list_all (λ b. nat_lt b 128) text ≡ true
  pub named : list_all (λ b. nat_lt b 128) table.name ≡ true
  pub unreserved : is_own_name table.name ≡ false
  pub formed : is_formed table ≡ true
  pub fits : is_fit (Text (codes "table")) (Text table.name) (Text table.name) (Text text) ≡ true
  pub short : 2 * length table.name + length text + 200 < 10 ^ 9
  pub plain : table_reals table ≡ 0
  pub keys : (key : List ℕ) → In table.uniques key → index_reals (table_reals table) key < 2 ^ 64

module _ (text : List ℕ) (p : Parsed) (table : Table) (r : ReadsCreate text p table) (s : Stands text p table) (old new : State) (free : IsFree old.now.schema table.name) where
  is_table : (made : Table) → table_defined_by text ≡ Ok made → made ≡ table
  is_table made defined = same_value (sym defined ∙ r.defined)

  abbrev Ends : Option Error → Type 0
  Ends (Some e) = RefusesToMake table old e
  Ends None = ⊥

  not_reals : ¬ (2 ^ 64 ≤ table_reals table)
  not_reals h = absurd (let none : 2 ^ 64 ≤ 0 = subst (λ n. 2 ^ 64 ≤ n) s.plain h in omega (arith, none))

  refused : (reason : refusal.Refusal) → RefusesTable old.now.schema text reason → RefusesToMake table old (alter_error reason)
  refused (why.Invalid e) h = absurd (let both : Err e ≡ Ok table = sym h ∙ r.defined in cc)
  refused why.NameTaken h = elim h.2 [
    | inl used ↦ absurd (let both : true ≡ false = sym used ∙ rw (is_table h.0 h.1) free.unused in cc)
    | inr taken ↦ inl (refl, taken.0, rw (is_table h.0 h.1) at taken.1, taken.2)
  ]
  refused why.BadName h = elim h.2 [
    | inl broken ↦ absurd (broken (rw (is_table h.0 h.1) (small_text table.name s.named)))
    | inr own ↦ absurd (let both : true ≡ false = sym own.0 ∙ rw (is_table h.0 h.1) s.unreserved in cc)
  ]
  refused why.TooBig h = elim (rw (is_table h.0 h.1) at h.2) [
    | inl many ↦ inr (refl, many)
    | inr reals ↦ elim reals [ inl wide ↦ absurd (not_reals wide) | inr key ↦ absurd (omega (arith, key.2, s.keys key.0 key.1)) ]
  ]
  refused why.BadKey h = absurd (let both : true ≡ false = sym s.formed ∙ rw (is_table h.0 h.1) at h.2 in cc)
  refused why.BadText h = absurd (let both : true ≡ false = sym s.fits ∙ rw (is_table h.0 h.1) at h.2 in cc)
  refused (why.Violates rule) h = absurd h

  made : (o : Option Error) → MakesTable text old.now (Err o) → Ends o
  made None h = absurd (omega (arith, s.short, rw (is_table h.0 h.1) at h.2))
  made (Some e) (inl h) = absurd (h.0 (small_text text s.is_text))
  made (Some e) (inr h) = subst (RefusesToMake table old) (sym h.2) (refused h.0 h.1)

  no_sequence : (o : Option Error) (db : Database) → MakesTable text old.now (Ok db) → ¬ MakesSequence db (Err o)
  no_sequence o db h stops = no_stop (rw (ap lacks_sequence (h.is ∙ ap (created old.now.schema) (is_table h.table h.defined)) ∙ lacks_none text p table r old new 0 free) at stops)

  both_parts : (o : Option Error) → Then (MakesTable text old.now) MakesSequence (Err o) → Ends o
  both_parts o (inl early) = subst Ends (sym (same_stop early.2)) (made early.0 early.1)
  both_parts o (inr late) = absurd (no_sequence o late.0 late.1 late.2)

  create_fails : (o : Option Error) → Does old.step_limit (mode_of old) [] old.now text None CreateTable (Err o) → Ends o
  create_fails o (inl early) = subst Ends (sym (same_stop early.2)) (both_parts early.0 early.1)
  create_fails o (inr late) = absurd (no_stop late.2)

  pub make_fails : (e : Error) → ExecutesInside 0 text [] old new (Err e) → (RefusesToMake table old e × IsUnchanged old new) ⊎ Fails old new ⊥ e
  make_fails e h =
      let cause = faults_inside text p CreateTable [] old new e (compiles text p table r old.now.schema free.unused) s.whole s.names refl refl h in
      elim (subst (λ t. (Does old.step_limit (mode_of old) [] old.now t None CreateTable (Err (Some e)) × IsUnchanged old new) ⊎ Fails old new (Does old.step_limit (mode_of old) [] old.now t None CreateTable (Err None)) e)
      (r.whole ([], (CreateTable, None))) cause) [
        | inl refuses ↦ inl (create_fails (Some e) refuses.0, refuses.1)
        | inr f ↦ inr (fails_for old new e _ ⊥ (create_fails None) f)
      ]

-- ---- the texts

-- no key has too many reals, as far as a test tells
short_keys : (reals : ℕ) (keys : List (List ℕ)) → list_all (λ key. nat_lt (index_reals reals key) (2 ^ 64)) keys ≡ true → (key : List ℕ) → In keys key → index_reals reals key < 2 ^ 64
short_keys reals keys short key listed = ltb-true _ _ (test_has (λ key. nat_lt (index_reals reals key) (2 ^ 64)) keys key short listed)

pub stands_made : (t : StoreTable) → Stands (create_text t) (read_create t) (table_of t 0)
unfolding everything read_create fits_kind is_free_name begins same_letters value_cmp lib.Ieee.is_nan lib.Ieee.lt
stands_made store.Mark =
    record { whole = lit≤ tt; names = refl; is_text = refl; named = refl; unreserved = refl; formed = refl; fits = refl; short = lit≤ tt; plain = refl; keys = short_keys 0 (table_of store.Mark 0).uniques refl }
stands_made store.Item =
    record { whole = lit≤ tt; names = refl; is_text = refl; named = refl; unreserved = refl; formed = refl; fits = refl; short = lit≤ tt; plain = refl; keys = short_keys 0 (table_of store.Item 0).uniques refl }
stands_made store.Member =
    record { whole = lit≤ tt; names = refl; is_text = refl; named = refl; unreserved = refl; formed = refl; fits = refl; short = lit≤ tt; plain = refl; keys = short_keys 0 (table_of store.Member 0).uniques refl }
stands_made store.Edition =
    record { whole = lit≤ tt; names = refl; is_text = refl; named = refl; unreserved = refl; formed = refl; fits = refl; short = lit≤ tt; plain = refl; keys = short_keys 0 (table_of store.Edition 0).uniques refl }
stands_made store.Entry =
    record { whole = lit≤ tt; names = refl; is_text = refl; named = refl; unreserved = refl; formed = refl; fits = refl; short = lit≤ tt; plain = refl; keys = short_keys 0 (table_of store.Entry 0).uniques refl }
stands_made store.Kept =
    record { whole = lit≤ tt; names = refl; is_text = refl; named = refl; unreserved = refl; formed = refl; fits = refl; short = lit≤ tt; plain = refl; keys = short_keys 0 (table_of store.Kept 0).uniques refl }

pub make_fails_in : (t : StoreTable) (old new : State) → IsFree old.now.schema (table_of t 0).name → (e : Error) → ExecutesInside 0 (create_text t) [] old new (Err e) → (RefusesToMake (table_of t 0) old e × IsUnchanged old new)
    ⊎ Fails old new ⊥ e
make_fails_in t = make_fails (create_text t) (read_create t) (table_of t 0) (reads_create t) (stands_made t)
