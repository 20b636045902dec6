-- The entries of schemas 2 to 4: their keys are octets, since the columns are strict.
use Rattle.std.proofs.Common.{◌≡◌, ℕ, zero, suc, ◌+◌, Bool, true, false, not, ◌||◌, cond, List, [], ◌∷◌, map, take, drop, codes, Some, None, slice_get, refl, sym, ap, subst, ◌∙◌}
use Rattle.std.specs.List.{AllByRecursion}
use Rattle.std.proofs.lemmas.Bool.{and_parts, false≢true}
use Rattle.sqlite.specs.Effect.{Database, IsDatabase}
use Rattle.sqlite.specs.Tree.{Trees}
use Rattle.sqlite.specs.Schema.{Schema}
use Rattle.sqlite.specs.Order.{Row, column}
use Rattle.sqlite.specs.declared.types.Value.{Value}
use Rattle.sqlite.specs.declared.types.Value.TheVariants.{Null, Int, Real, Text, Blob}
use Rattle.sqlite_sql.specs.Ops.{is_null}
use Rattle.sqlite_schema.specs.declared.schema.Column.{Column}
use Rattle.sqlite_schema.specs.declared.schema.Kind.TheVariants as kind
use Rattle.sqlite_schema.specs.declared.schema.Constraint.TheVariants.{Datatype, NotNull}
use Rattle.sqlite_schema.specs.Rules.{is_of, has_affinity, suits, are_typed, are_present, has_computed, passes}
use Rattle.store_tables.specs.Tables.{needed}
use Rattle.store_tables.specs.Keyed.{entry_with_keys, old_entry}
use Rattle.store_sql.specs.Columns.{HasColumns, entry_columns}
use Rattle.store_tables.specs.Effects.{Has, rows_of, shown}
use Rattle.store_sql.specs.Keyed.{keyed_entry_columns, old_entry_columns}
use Rattle.store_rows.specs.Versions.{Keyed, Shown}
use Rattle.store_sql.specs.Readings.{IsReadable, contents, shown_columns, without_keys}
use Rattle.store_scans.proofs.NumberLemmas.{behind_column}

octets : (v : Value) → is_of kind.Blob v ≡ true → is_null v ≡ false → (b : List ℕ) × (v ≡ Blob b)
octets Null e f = absurd (false≢true (sym f))
octets (Int n) e f = absurd (false≢true e)
octets (Real x) e f = absurd (false≢true e)
octets (Text t) e f = absurd (false≢true e)
octets (Blob b) e f = (b, refl)

not_false : (b : Bool) → not b ≡ true → b ≡ false
not_false true e = absurd (false≢true e)
not_false false e = refl

all_got : {X : Type 0} (P : X → Type 0) (xs : List X) (k : ℕ) (x : X) → AllByRecursion P xs → slice_get xs k ≡ Some x → P x
all_got P [] k x h e = absurd (cc)
all_got P (y ∷ xs) zero x h e = subst P (let same : y ≡ x = cc in same) h.0
all_got P (y ∷ xs) (suc k) x h e = all_got P xs k x h.1 e

-- a strict column of octets
abbrev IsOctets : Column → Type 0
IsOctets c = (c.is_strict ≡ true) × (c.kind ≡ kind.Blob)

typed_one : (c : Column) (v : Value) → IsOctets c → suits c v ≡ true → is_of kind.Blob v ≡ true
typed_one c v h e = subst (λ k. is_of k v ≡ true) h.1 (sym (ap (λ b. cond b (is_of c.kind v) (has_affinity c.kind v)) h.0) ∙ e)

typed_at : (cs : List Column) (at : ℕ) (vs : Row) → are_typed None at cs vs ≡ true → (k : ℕ) (c : Column) → slice_get cs k ≡ Some c → IsOctets c → is_of kind.Blob (column vs k) ≡ true
typed_at [] at vs e k c got h = absurd (cc)
typed_at (d ∷ cs) at [] e k c got h = refl
typed_at (d ∷ cs) at (v ∷ vs) e zero c got h = typed_one d v (subst IsOctets (let same : c ≡ d = cc in same) h) (and_parts (suits d v) (are_typed None (at + 1) cs vs) e).0
typed_at (d ∷ cs) at (v ∷ vs) e (suc k) c got h = typed_at cs (at + 1) vs (and_parts (suits d v) (are_typed None (at + 1) cs vs) e).1 k c got h

present_step : (c : Column) (cs : List Column) (at : ℕ) (r : Row) → are_present None at (c ∷ cs) r ≡ true → (c.not_null ≡ true → is_null (column r (at + 1)) ≡ false) × (are_present None (at + 1) cs r ≡ true)
present_step c cs at r e =
    let parts = and_parts (not c.not_null || not (is_null (column r (at + 1)))) (are_present None (at + 1) cs r) e in
    ((λ n. not_false (is_null (column r (at + 1))) (sym (ap (λ b. not b || not (is_null (column r (at + 1)))) n) ∙ parts.0)), parts.1)

last_two : (a b c d e f g : Column) (more : List Column) (r : Row) → are_present None 0 (a ∷ b ∷ c ∷ d ∷ e ∷ f ∷ g ∷ more) r ≡ true → f.not_null ≡ true → g.not_null ≡ true → (is_null (column r 6) ≡ false) × (is_null (column r 7) ≡ false)
last_two a b c d e f g more r h p q =
    let one = (present_step a (b ∷ c ∷ d ∷ e ∷ f ∷ g ∷ more) 0 r h).1 in
    let two = (present_step b (c ∷ d ∷ e ∷ f ∷ g ∷ more) 1 r one).1 in
    let three = (present_step c (d ∷ e ∷ f ∷ g ∷ more) 2 r two).1 in
    let four = (present_step d (e ∷ f ∷ g ∷ more) 3 r three).1 in
    let five = (present_step e (f ∷ g ∷ more) 4 r four).1 in
    let six = present_step f (g ∷ more) 5 r five in
    (six.0 p, (present_step g more 6 r six.1).0 q)

-- ---- a row

-- the columns of an entry with keys, and what stands behind them
abbrev columns : List Column → List Column
columns more =
    needed (codes "edition") kind.Integer ∷ needed (codes "ord") kind.Integer ∷ needed (codes "headword") kind.Text ∷ needed (codes "start") kind.Integer ∷ needed (codes "length") kind.Integer ∷ needed (codes "key") kind.Blob
    ∷ needed (codes "rkey") kind.Blob ∷ more

module _ (more : List Column) (r : Row) (typed : are_typed None 0 (columns more) (drop 1 r) ≡ true) (present : are_present None 0 (columns more) r ≡ true) where
  kept : (is_null (column r 6) ≡ false) × (is_null (column r 7) ≡ false)
  kept = last_two (needed (codes "edition") kind.Integer) (needed (codes "ord") kind.Integer) (needed (codes "headword") kind.Text) (needed (codes "start") kind.Integer) (needed (codes "length") kind.Integer)
      (needed (codes "key") kind.Blob) (needed (codes "rkey") kind.Blob) more r present refl refl

  key : (b : List ℕ) × (column r 6 ≡ Blob b)
  key = octets (column r 6) (subst (λ v. is_of kind.Blob v ≡ true) (sym (behind_column r 5)) (typed_at (columns more) 0 (drop 1 r) typed 5 _ refl (refl, refl))) kept.0

  reversed : (b : List ℕ) × (column r 7 ≡ Blob b)
  reversed = octets (column r 7) (subst (λ v. is_of kind.Blob v ≡ true) (sym (behind_column r 6)) (typed_at (columns more) 0 (drop 1 r) typed 6 _ refl (refl, refl))) kept.1

-- ---- the entries of schemas 2 and 3

-- a row that stands for an entry has keys that are octets
abbrev IsTyped : Row → Type 0
IsTyped row = HasColumns entry_columns (take 6 row) → HasColumns old_entry_columns row

module _ (tree : ℕ) (schema : Schema) (trees : Trees) where
  one_typed : (r : Row) → passes Datatype schema trees (old_entry tree) r ≡ true → passes NotNull schema trees (old_entry tree) r ≡ true → IsTyped (shown (old_entry tree) r)
  one_typed r typed present h =
      let fits = (and_parts (are_typed None 0 (columns []) (drop 1 r)) (has_computed (old_entry tree) r) typed).0 in
      (h.0, (h.1.0, (h.1.1.0, (h.1.1.1.0, (h.1.1.1.1.0, (h.1.1.1.1.1.0, (key [] r fits present, (reversed [] r fits present, tt))))))))

  rows_typed : (rows : List Row) → AllByRecursion (λ r. passes Datatype schema trees (old_entry tree) r ≡ true) rows → AllByRecursion (λ r. passes NotNull schema trees (old_entry tree) r ≡ true) rows
      → AllByRecursion IsTyped (map (shown (old_entry tree)) rows)
  rows_typed [] h k = tt
  rows_typed (r ∷ rows) h k = (one_typed r h.0 k.0, rows_typed rows h.1 k.1)

rows_are : (db : Database) (has : Has old_entry db) → rows_of (codes "entry") db ≡ map (shown (old_entry has.1)) (db.trees has.1)
rows_are db has = let named = has.2.named in let is = has.2.is in rw (named, is) refl

pub old_typed : (db : Database) → IsDatabase db → Has old_entry db → AllByRecursion IsTyped (rows_of (codes "entry") db)
old_typed db sound has =
    let each = sound.obeys.rules in
    subst (AllByRecursion IsTyped) (sym (rows_are db has))
    (rows_typed has.1 db.schema db.trees (db.trees has.1)
    (all_got (λ t. AllByRecursion (λ r. passes Datatype db.schema db.trees t r ≡ true) (db.trees t.tree)) db.schema.tables has.0 (old_entry has.1) (each Datatype) has.2.is)
    (all_got (λ t. AllByRecursion (λ r. passes NotNull db.schema db.trees t r ≡ true) (db.trees t.tree)) db.schema.tables has.0 (old_entry has.1) (each NotNull) has.2.is))

both : (P Q : Row → Type 0) (rows : List Row) → AllByRecursion (λ row. P row → Q row) rows → AllByRecursion P rows → AllByRecursion Q rows
both P Q [] h k = tt
both P Q (r ∷ rows) h k = (h.0 k.0, both P Q rows h.1 k.1)

pub old_readable : (db : Database) → IsDatabase db → Has old_entry db → IsReadable (contents Keyed) db → AllByRecursion (HasColumns old_entry_columns) (rows_of (codes "entry") db)
old_readable db sound has all = both (λ row. HasColumns entry_columns (take 6 row)) (HasColumns old_entry_columns) (rows_of (codes "entry") db) (old_typed db sound has) all

-- ---- those of schema 4

abbrev IsShownTyped : Row → Type 0
IsShownTyped row = HasColumns shown_columns (without_keys row) → HasColumns keyed_entry_columns row

-- the column behind the keys
abbrev last : List Column
last = needed (codes "shown") kind.Text ∷ []

module _ (tree : ℕ) (schema : Schema) (trees : Trees) where
  one_shown : (r : Row) → passes Datatype schema trees (entry_with_keys tree) r ≡ true → passes NotNull schema trees (entry_with_keys tree) r ≡ true → IsShownTyped (shown (entry_with_keys tree) r)
  one_shown r typed present h =
      let fits = (and_parts (are_typed None 0 (columns last) (drop 1 r)) (has_computed (entry_with_keys tree) r) typed).0 in
      (h.0, (h.1.0, (h.1.1.0, (h.1.1.1.0, (h.1.1.1.1.0, (h.1.1.1.1.1.0, (key last r fits present, (reversed last r fits present, (h.1.1.1.1.1.1.0, tt)))))))))

  rows_shown : (rows : List Row) → AllByRecursion (λ r. passes Datatype schema trees (entry_with_keys tree) r ≡ true) rows → AllByRecursion (λ r. passes NotNull schema trees (entry_with_keys tree) r ≡ true) rows
      → AllByRecursion IsShownTyped (map (shown (entry_with_keys tree)) rows)
  rows_shown [] h k = tt
  rows_shown (r ∷ rows) h k = (one_shown r h.0 k.0, rows_shown rows h.1 k.1)

shown_rows_are : (db : Database) (has : Has entry_with_keys db) → rows_of (codes "entry") db ≡ map (shown (entry_with_keys has.1)) (db.trees has.1)
shown_rows_are db has = let named = has.2.named in let is = has.2.is in rw (named, is) refl

pub shown_typed : (db : Database) → IsDatabase db → Has entry_with_keys db → AllByRecursion IsShownTyped (rows_of (codes "entry") db)
shown_typed db sound has =
    let each = sound.obeys.rules in
    subst (AllByRecursion IsShownTyped) (sym (shown_rows_are db has))
    (rows_shown has.1 db.schema db.trees (db.trees has.1)
    (all_got (λ t. AllByRecursion (λ r. passes Datatype db.schema db.trees t r ≡ true) (db.trees t.tree)) db.schema.tables has.0 (entry_with_keys has.1) (each Datatype) has.2.is)
    (all_got (λ t. AllByRecursion (λ r. passes NotNull db.schema db.trees t r ≡ true) (db.trees t.tree)) db.schema.tables has.0 (entry_with_keys has.1) (each NotNull) has.2.is))

pub shown_readable : (db : Database) → IsDatabase db → Has entry_with_keys db → IsReadable (contents Shown) db → AllByRecursion (HasColumns keyed_entry_columns) (rows_of (codes "entry") db)
shown_readable db sound has all = both (λ row. HasColumns shown_columns (without_keys row)) (HasColumns keyed_entry_columns) (rows_of (codes "entry") db) (shown_typed db sound has) all
