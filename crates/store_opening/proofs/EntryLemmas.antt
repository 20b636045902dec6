-- Entries, as the tables of a layout have them.
use Rattle.std.proofs.Common.{◌≡◌, ℤ, Bool, true, false, List, [], ◌∷◌, ◌++◌, map, filter, cond, codes, refl, sym, ap, subst, ◌∙◌}
use Rattle.std.specs.Prelude.{◌≤ℤ◌}
use Rattle.std.specs.List.{AllByRecursion}
use Rattle.std.specs.List.Sorted.{IsPermutation, IsSorted}
use Rattle.std.specs.Ordering.{is_lt, ordering_then}
use Rattle.std.specs.declared.cmp.Ordering.TheVariants.{Equal}
use Rattle.std.proofs.lemmas.List.Sorted.{IsPermutation-map, IsPermutation-trans}
use Rattle.sqlite_trees.proofs.ListLemmas.{IsPermutation-filter}
use Rattle.sqlite.specs.Effect.{Database}
use Rattle.sqlite.specs.Order.{Row, column, value_cmp}
use Rattle.sqlite.specs.declared.types.Value.TheVariants.{Int}
use Rattle.dict_text.proofs.AllLemmas.{all_append, all_filter, all_map, all_of, all_weaker}
use Rattle.store_tables.specs.Records as spec
use Rattle.store_tables.specs.Effects.{rows_of, same_value, equals_number}
use Rattle.store_sql.specs.Reads.{by_columns}
use Rattle.store_rows.specs.Order.{InOrder}
use Rattle.store_rows.specs.Tables.{Tables, same_number}
use Rattle.store_rows.specs.Versions.{Layout, Plain, Keyed, Parted}
use Rattle.store_rows.proofs.OrderLemmas.{order_given, all_same}
use Rattle.store_holdings.specs.AllTables.{with_derived}
use Rattle.store_sql.specs.Readings.{KeepsRows, AreShownIn, contents}
use Rattle.store_sql.proofs.ReadLemmas.{sorted_order, one_le}
use Rattle.store_holdings.proofs.ReadingLemmas.{map_twice}
use Rattle.store_scans.specs.Entries.{looked_behind_rowid, entry_cells}
use Rattle.store_holdings.proofs.OneLemmas.{both_where}
use Rattle.store_sql.proofs.DecodeLemmas.{decode_entry, decode_shown, entry_back, shown_back}
use Rattle.store_scans.proofs.NumberLemmas.{behind_column, same_int}
use Rattle.store_scans.proofs.RowidLemmas.{all_of_map}

-- ---- by layout

abbrev decode_cells : Layout → Row → spec.EntryRecord
decode_cells Plain cells = decode_entry cells
decode_cells Keyed cells = decode_entry cells
decode_cells layout cells = decode_shown cells

-- the layout has a row for each entry
abbrev pub HasEntryTable : Layout → Type 0
HasEntryTable Parted = ⊥
HasEntryTable layout = Unit {0}

-- the entry is shown as one of the layout may be
abbrev pub IsShownIn : Layout → spec.EntryRecord → Type 0
IsShownIn Plain e = spec.ShowsHeadword e
IsShownIn Keyed e = spec.ShowsHeadword e
IsShownIn layout e = Unit {0}

pub each_shown : (layout : Layout) (es : List spec.EntryRecord) → AreShownIn layout es → AllByRecursion (IsShownIn layout) es
each_shown Plain es h = h
each_shown Keyed es h = h
each_shown layout es h = all_of (λ (e : spec.EntryRecord). Unit {0}) (λ e. tt) es

pub none_shown : (layout : Layout) → AreShownIn layout []
none_shown Plain = tt
none_shown layout = tt

pub more_shown : (layout : Layout) (xs ys : List spec.EntryRecord) → AreShownIn layout xs → AreShownIn layout ys → AreShownIn layout (xs ++ ys)
more_shown Plain xs ys h k = all_append spec.ShowsHeadword xs ys h k
more_shown Keyed xs ys h k = all_append spec.ShowsHeadword xs ys h k
more_shown layout xs ys h k = tt

pub cells_back : (layout : Layout) (e : spec.EntryRecord) → IsShownIn layout e → decode_cells layout (entry_cells layout e) ≡ e
cells_back Plain e h = entry_back e h
cells_back Keyed e h = entry_back e h
cells_back layout e h = shown_back e

number_seen : (layout : Layout) (row : Row) → column row 1 ≡ column (looked_behind_rowid layout row) 0
number_seen Plain row = behind_column row 0
number_seen layout [] = refl
number_seen layout (x ∷ []) = refl
number_seen layout (x ∷ y ∷ row) = refl

ord_seen : (layout : Layout) (row : Row) → column row 2 ≡ column (looked_behind_rowid layout row) 1
ord_seen Plain row = behind_column row 1
ord_seen layout [] = refl
ord_seen layout (x ∷ []) = refl
ord_seen layout (x ∷ y ∷ []) = refl
ord_seen layout (x ∷ y ∷ z ∷ row) = refl

numbers_in : (layout : Layout) (e : spec.EntryRecord) → (column (entry_cells layout e) 0 ≡ Int e.edition) × (column (entry_cells layout e) 1 ≡ Int e.ord)
numbers_in Plain e = (refl, refl)
numbers_in layout e = (refl, refl)

-- the rows of what a database keeps
pub entries_rows : (layout : Layout) → HasEntryTable layout → (db : Database) (o : List spec.Part) (t : Tables) → KeepsRows (contents layout) db (with_derived o t)
    → IsPermutation (map (entry_cells layout) t.entries) (map (looked_behind_rowid layout) (rows_of (codes "entry") db))
entries_rows Parted has db o t k = absurd has
entries_rows layout has db o t k = k.rows

-- ---- rows of entries

-- what passes a test of an image is the image of what passes the test
filter_where : {X Y : Type 0} (f : X → Y) (p : X → Bool) (q : Y → Bool) (xs : List X) → AllByRecursion (λ x. q (f x) ≡ p x) xs → filter q (map f xs) ≡ map f (filter p xs)
filter_where f p q [] same = refl
filter_where {X} {Y} f p q (x ∷ xs) same = ap (λ b. cond b (f x ∷ filter q (map f xs)) (filter q (map f xs))) same.0 ∙ by (p x) (filter_where f p q xs same.1)
  where
    by : (b : Bool) → filter q (map f xs) ≡ map f (filter p xs) → cond b (f x ∷ filter q (map f xs)) (filter q (map f xs)) ≡ map f (cond b (x ∷ filter p xs) (filter p xs))
    by true rest = ap (λ l. f x ∷ l) rest
    by false rest = rest

module _ (layout : Layout) where
  -- the entry of a row
  abbrev pub entry_in : Row → spec.EntryRecord
  entry_in row = decode_cells layout (looked_behind_rowid layout row)

  abbrev pub IsEntryRow : Row → Type 0
  IsEntryRow row = (e : spec.EntryRecord) × (looked_behind_rowid layout row ≡ entry_cells layout e) × IsShownIn layout e

  pub entry_is : (row : Row) (e : spec.EntryRecord) → IsShownIn layout e → looked_behind_rowid layout row ≡ entry_cells layout e → entry_in row ≡ e
  entry_is row e shown is = ap (decode_cells layout) is ∙ cells_back layout e shown

  undone : (es : List spec.EntryRecord) → AllByRecursion (IsShownIn layout) es → map (decode_cells layout) (map (entry_cells layout) es) ≡ es
  undone [] h = refl
  undone (e ∷ es) h = λ i. cells_back layout e h.0 i ∷ undone es h.1 i

  pub entries_are : (rows : List Row) (es : List spec.EntryRecord) → AreShownIn layout es → map (looked_behind_rowid layout) rows ≡ map (entry_cells layout) es → map entry_in rows ≡ es
  entries_are rows es shown is = sym (map_twice (looked_behind_rowid layout) (decode_cells layout) rows) ∙ ap (map (decode_cells layout)) is ∙ undone es (each_shown layout es shown)

  pub number_is : (row : Row) (e : spec.EntryRecord) → looked_behind_rowid layout row ≡ entry_cells layout e → column row 1 ≡ Int e.edition
  number_is row e is = number_seen layout row ∙ ap (λ r. column r 0) is ∙ (numbers_in layout e).0

  pub ord_is : (row : Row) (e : spec.EntryRecord) → looked_behind_rowid layout row ≡ entry_cells layout e → column row 2 ≡ Int e.ord
  ord_is row e is = ord_seen layout row ∙ ap (λ r. column r 1) is ∙ (numbers_in layout e).1

  pub of_number : (n : ℤ) (row : Row) (e : spec.EntryRecord) → looked_behind_rowid layout row ≡ entry_cells layout e → equals_number 1 n row ≡ same_number e.edition n
  of_number n row e is = ap (λ v. same_value v (Int n)) (number_is row e is) ∙ same_int e.edition n

  pub number_of_row : (row : Row) (e : spec.EntryRecord) (n : ℤ) → looked_behind_rowid layout row ≡ entry_cells layout e → equals_number 1 n row ≡ true → same_value (Int e.edition) (Int n) ≡ true
  number_of_row row e n is h = sym (ap (λ v. same_value v (Int n)) (number_is row e is)) ∙ h

  filter_numbered : (n : ℤ) (rows : List Row) → AllByRecursion IsEntryRow rows → filter (λ e. same_number e.edition n) (map entry_in rows) ≡ map entry_in (filter (equals_number 1 n) rows)
  filter_numbered n rows all =
      filter_where entry_in (equals_number 1 n) (λ (e : spec.EntryRecord). same_number e.edition n) rows
      (all_weaker IsEntryRow (λ r. same_number (entry_in r).edition n ≡ equals_number 1 n r)
      (λ r w. ap (λ (e : spec.EntryRecord). same_number e.edition n) (entry_is r w.0 w.2 w.1) ∙ sym (of_number n r w.0 w.1)) rows all)

  order_read : (T : spec.EntryRecord → spec.EntryRecord → Type 0) (rows : List Row) → InOrder (λ a b. T (entry_in a) (entry_in b)) rows → InOrder T (map entry_in rows)
  order_read T [] h = tt
  order_read T (r ∷ rows) h = (all_map (λ b. T (entry_in r) (entry_in b)) (T (entry_in r)) entry_in (λ b h. h) rows h.0, order_read T rows h.1)

  abbrev Up : spec.EntryRecord → spec.EntryRecord → Type 0
  Up a b = a.ord ≤ℤ b.ord

  rises : (r s : Row) (w v : spec.EntryRecord) → looked_behind_rowid layout r ≡ entry_cells layout w → looked_behind_rowid layout s ≡ entry_cells layout v → is_lt (by_columns (2 ∷ []) s r) ≡ false → Up w v
  rises r s w v e f h = one_le w.ord v.ord (sym (λ i. is_lt (ordering_then (value_cmp (ord_is s v f i) (ord_is r w e i)) Equal)) ∙ h)

  -- rows that come in the order of their places
  pub entries_order : (rows : List Row) → AllByRecursion IsEntryRow rows → IsSorted (by_columns (2 ∷ [])) rows → InOrder (λ (a b : spec.EntryRecord). a.ord ≤ℤ b.ord) (map entry_in rows)
  entries_order rows all up =
      order_read Up rows
      (order_given IsEntryRow (λ a b. is_lt (by_columns (2 ∷ []) b a) ≡ false) (λ a b. Up (entry_in a) (entry_in b))
      (λ a b qa qb r. subst (λ w. Up w (entry_in b)) (sym (entry_is a qa.0 qa.2 qa.1)) (subst (Up qa.0) (sym (entry_is b qb.0 qb.2 qb.1)) (rises a b qa.0 qb.0 qa.1 qb.1 r))) rows all (sorted_order (2 ∷ []) rows up))

  module _ (db : Database) (es : List spec.EntryRecord) (kept : IsPermutation (map (entry_cells layout) es) (map (looked_behind_rowid layout) (rows_of (codes "entry") db))) where
    -- what holds of all entries holds of that of each row
    pub each_row : (P : spec.EntryRecord → Type 0) → AllByRecursion P es → AllByRecursion (λ row. (e : spec.EntryRecord) × (looked_behind_rowid layout row ≡ entry_cells layout e) × P e) (rows_of (codes "entry") db)
    each_row P all =
        all_of_map (looked_behind_rowid layout) (λ s. (e : spec.EntryRecord) × (s ≡ entry_cells layout e) × P e) (λ row. (e : spec.EntryRecord) × (looked_behind_rowid layout row ≡ entry_cells layout e) × P e) (λ row h. h)
        (rows_of (codes "entry") db)
        (all_same (λ s. (e : spec.EntryRecord) × (s ≡ entry_cells layout e) × P e) (map (entry_cells layout) es) (map (looked_behind_rowid layout) (rows_of (codes "entry") db)) kept
        (all_map P (λ s. (e : spec.EntryRecord) × (s ≡ entry_cells layout e) × P e) (entry_cells layout) (λ e h. (e, refl, h)) es all))

    pub entries_written : AreShownIn layout es → AllByRecursion IsEntryRow (rows_of (codes "entry") db)
    entries_written shown = each_row (IsShownIn layout) (each_shown layout es shown)

    pub entries_kept : AreShownIn layout es → IsPermutation es (map entry_in (rows_of (codes "entry") db))
    entries_kept shown = subst (λ l. IsPermutation l (map entry_in (rows_of (codes "entry") db))) (undone es (each_shown layout es shown))
        (subst (IsPermutation (map (decode_cells layout) (map (entry_cells layout) es))) (map_twice (looked_behind_rowid layout) (decode_cells layout) (rows_of (codes "entry") db))
        (IsPermutation-map (decode_cells layout) _ _ kept))

    -- those of an edition
    pub entries_selected : AreShownIn layout es → (n : ℤ) (rows : List Row) → IsPermutation (filter (equals_number 1 n) (rows_of (codes "entry") db)) rows
        → IsPermutation (filter (λ (e : spec.EntryRecord). same_number e.edition n) es) (map entry_in rows) × AllByRecursion IsEntryRow rows
    entries_selected shown n rows same = (
      IsPermutation-trans (filter (λ (e : spec.EntryRecord). same_number e.edition n) es) (map entry_in (filter (equals_number 1 n) (rows_of (codes "entry") db))) (map entry_in rows)
          (subst (IsPermutation (filter (λ (e : spec.EntryRecord). same_number e.edition n) es)) (filter_numbered n (rows_of (codes "entry") db) (entries_written shown))
          (IsPermutation-filter (λ (e : spec.EntryRecord). same_number e.edition n) _ _ (entries_kept shown))) (IsPermutation-map entry_in _ _ same),
      all_same IsEntryRow (filter (equals_number 1 n) (rows_of (codes "entry") db)) rows same (all_filter IsEntryRow (equals_number 1 n) (rows_of (codes "entry") db) (entries_written shown)),
    )

  -- entries with the same rows are the same, in whatever order
  pub entries_both : (xs ys : List spec.EntryRecord) (rows : List Row) → AreShownIn layout xs → AreShownIn layout ys → IsPermutation (map (entry_cells layout) xs) rows → IsPermutation (map (entry_cells layout) ys) rows → IsPermutation xs ys
  entries_both xs ys rows h k a b = both_where (IsShownIn layout) (entry_cells layout) (decode_cells layout) (cells_back layout) xs ys rows (each_shown layout xs h) (each_shown layout ys k) a b
