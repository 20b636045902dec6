-- Rowids that come in their order.
use Rattle.std.proofs.Common.{◌≡◌, ℤ, true, false, List, [], ◌∷◌, ◌++◌, map, refl, sym, ap, subst, ◌∙◌}
use Rattle.std.specs.Prelude.{◌≤ℤ◌}
use Rattle.std.specs.List.{AllByRecursion, IsDistinct}
use Rattle.std.specs.Ordering.{is_lt, is_eq, ordering_then, ordering_reverse}
use Rattle.std.specs.declared.cmp.Ordering.{Ordering}
use Rattle.std.specs.declared.cmp.Ordering.TheVariants.{Less, Equal, Greater}
use Rattle.std.proofs.lemmas.List.{map-append}
use Rattle.std.proofs.lemmas.Bool.{false≢true}
use Rattle.std.proofs.lemmas.List.Sorted.{IsPermutation-sym}
use Rattle.std.specs.List.Sorted.{IsPermutation, IsSorted}
use Rattle.sqlite.specs.declared.types.Value.{Value}
use Rattle.sqlite.specs.declared.types.Value.TheVariants.{Int}
use Rattle.sqlite.specs.Effect.{Database}
use Rattle.sqlite.specs.Order.{Row, column, value_cmp}
use Rattle.store_tables.specs.Tables.{table_of}
use Rattle.store_tables.specs.declared.tables.StoreTable.{StoreTable}
use Rattle.store_tables.specs.Effects.{HasApartRowids, rows_of, same_value}
use Rattle.store_sql.specs.Reads.{by_columns, rowid_and_number}
use Rattle.store_sql.specs.Streams.Scan.{ByRowid}
use Rattle.store_scans.specs.Cursors.Cursor.{InStore}
use Rattle.store_tables.proofs.KitLemmas.{value_cmp_total}
use Rattle.store_tables.proofs.Callers.{apart_same, differs}
use Rattle.store_sql.proofs.ReadLemmas.{sorted_order, one_le, records_order}
use Rattle.store_rows.specs.Order.{InOrder}
use Rattle.store_rows.specs.Apart.{HasTakenRowids}
use Rattle.store_rows.proofs.ApartLemmas.{rowids_apart}
use Rattle.store_rows.specs.declared.apart.RowidReader.{RowidReader}
use Rattle.store_scans.specs.Scans.{TakesAll, HasRefused}
use Rattle.store_scans.specs.Takers.{AreRowids, takes_rowids, refuses_rowids}

pub all_of_map : {X Y : Type 0} (f : X → Y) (P : Y → Type 0) (Q : X → Type 0) → ((x : X) → P (f x) → Q x) → (xs : List X) → AllByRecursion P (map f xs) → AllByRecursion Q xs
all_of_map f P Q w [] h = tt
all_of_map f P Q w (x ∷ xs) h = (w x h.0, all_of_map f P Q w xs h.1)

pub order_of_map : {X Y : Type 0} (f : X → Y) (T : Y → Y → Type 0) (R : X → X → Type 0) → ((a b : X) → T (f a) (f b) → R a b) → (xs : List X) → InOrder T (map f xs) → InOrder R xs
order_of_map f T R w [] h = tt
order_of_map f T R w (x ∷ xs) h = (all_of_map f (T (f x)) (R x) (w x) xs h.0, order_of_map f T R w xs h.1)

-- a value isn't above a later one
abbrev NotAbove : Value → Value → Type 0
NotAbove u v = is_lt (ordering_then (value_cmp v u) Equal) ≡ false

rising : {R : Type 0} (stored : R → Row) (given : List R) (ids : List ℤ) → AreRowids stored given ids → InOrder (λ a b. is_lt (by_columns (0 ∷ []) b a) ≡ false) (map stored given) → InOrder (λ m n. m ≤ℤ n) ids
rising stored given ids are h =
    order_of_map Int NotAbove (λ m n. m ≤ℤ n) (λ m n r. one_le m n r) ids
    (subst (InOrder NotAbove) are (records_order stored (λ r. column (stored r) 0) (λ (a b : Row). is_lt (by_columns (0 ∷ []) b a) ≡ false) NotAbove (λ a b r. r) given h))

-- ---- rowids that are apart

integers_of : {R : Type 0} (stored : R → Row) (given : List R) (ids : List ℤ) → AreRowids stored given ids → AllByRecursion (λ r. (n : ℤ) × (column r 0 ≡ Int n)) (map stored given)
integers_of stored [] ids are = tt
integers_of stored (r ∷ given) [] are = absurd (cc)
integers_of stored (r ∷ given) (n ∷ ids) are = ((n, let e : column (stored r) 0 ≡ Int n = cc in e), integers_of stored given ids (let e : map (λ r. column (stored r) 0) given ≡ map Int ids = cc in e))

others : (n : ℤ) (ids : List ℤ) → AllByRecursion (λ m. n ≡ m → ⊥) ids → AllByRecursion (λ y. same_value (Int n) y ≡ false) (map Int ids)
others n [] h = tt
others n (m ∷ ids) h = (differs n (Int m) (m, refl) (λ e. h.0 (let same : n ≡ m = cc in same)), others n ids h.1)

distinct : (ids : List ℤ) → InOrder (λ a b. a ≡ b → ⊥) ids → IsDistinct same_value (map Int ids)
unfolding IsDistinct
distinct [] h = tt
distinct (n ∷ ids) h = (others n ids h.0, distinct ids h.1)

columns_of : {R : Type 0} (stored : R → Row) (given : List R) → map (λ (r : Row). column r 0) (map stored given) ≡ map (λ r. column (stored r) 0) given
columns_of stored [] = refl
columns_of stored (r ∷ given) = ap (λ l. column (stored r) 0 ∷ l) (columns_of stored given)

module _ {R : Type 0} (stored : R → Row) (all : List Row) (first : RowidReader) (none : HasTakenRowids first []) (given : List R) where
  pub all_apart : (last : RowidReader) → IsPermutation all (map stored given) → IsSorted (by_columns (0 ∷ [])) (map stored given) → takes_rowids stored first given last → HasApartRowids all
  all_apart last same sorted h =
      let ids = h.0 in
      let up = rising stored given ids h.1 (sorted_order (0 ∷ []) (map stored given) sorted) in
      let apart = rowids_apart last ids (h.2 [] none) up in
      apart_same (map stored given) all (IsPermutation-sym _ _ same) (record {
        integers = integers_of stored given ids h.1;
        apart = subst (IsDistinct same_value) (sym (columns_of stored given ∙ h.1)) (distinct ids apart);
      })

pub rowids_whole : {R : Type 0} (stored : R → Row) (table : StoreTable) (db : Database) (first last : RowidReader) → HasTakenRowids first [] → TakesAll stored (takes_rowids stored) (InStore (ByRowid table)) db first last
    → HasApartRowids (rows_of (table_of table 0).name db)
rowids_whole stored table db first last none h = all_apart stored (rows_of (table_of table 0).name db) first none h.0 last h.1.same h.1.sorted h.2

-- ---- rowids that aren't

unlike : (m n : ℤ) → same_value (Int m) (Int n) ≡ false → same_value (Int m) (Int m) ≡ true → m ≡ n → ⊥
unlike m n apart same e = false≢true (sym apart ∙ ap (λ k. same_value (Int m) (Int k)) (sym e) ∙ same)

itself : (x : Ordering) → x ≡ ordering_reverse x → x ≡ Equal
itself Less e = cc
itself Equal e = refl
itself Greater e = cc

pub value_itself : (v : Value) → same_value v v ≡ true
value_itself v = ap is_eq (itself (value_cmp v v) (value_cmp_total.antisymm v v))

all_unlike : (n : ℤ) (ids : List ℤ) (vs : List Value) → AllByRecursion (λ y. same_value (Int n) y ≡ false) (map Int ids ++ vs) → AllByRecursion (λ m. n ≡ m → ⊥) ids
all_unlike n [] vs h = tt
all_unlike n (m ∷ ids) vs h = ((λ e. unlike n m h.0 (value_itself (Int n)) e), all_unlike n ids vs h.1)

front_apart : (ids : List ℤ) (vs : List Value) → IsDistinct same_value (map Int ids ++ vs) → InOrder (λ a b. a ≡ b → ⊥) ids
unfolding IsDistinct
front_apart [] vs h = tt
front_apart (n ∷ ids) vs h = (all_unlike n ids vs h.0, front_apart ids vs h.1)

pub all_wrong : {R : Type 0} (stored : R → Row) (all : List Row) (first : RowidReader) → HasTakenRowids first [] → (given : List R) (tail : List Row) → IsPermutation all (map stored given ++ tail)
    → refuses_rowids stored first given → HasApartRowids all → ⊥
all_wrong stored all first none given tail same h apart =
    let ids = h.0 in
    let there = apart_same all (map stored given ++ tail) same apart in
    let columns = map-append (λ (r : Row). column r 0) (map stored given) tail ∙ ap (λ l. l ++ map (λ (r : Row). column r 0) tail) (columns_of stored given ∙ h.1) in
    h.2 [] none (front_apart ids (map (λ (r : Row). column r 0) tail) (subst (IsDistinct same_value) columns there.apart))

pub rowids_wrong : {R : Type 0} (stored : R → Row) (table : StoreTable) (db : Database) (first : RowidReader) → HasTakenRowids first [] → HasRefused stored (refuses_rowids stored) (InStore (ByRowid table)) db first
    → HasApartRowids (rows_of (table_of table 0).name db) → ⊥
rowids_wrong stored table db first none h = all_wrong stored (rows_of (table_of table 0).name db) first none h.0 h.1.0 h.1.1.same h.2

-- ---- the rowids of the editions, of which the texts aren't read

abbrev HasRowid : Row → Type 0
HasRowid r = (n : ℤ) × (column r 0 ≡ Int n)

firsts : (rows : List Row) → map (λ (r : Row). column r 0) (map rowid_and_number rows) ≡ map (λ (r : Row). column r 0) rows
firsts [] = refl
firsts (r ∷ rows) = ap (λ l. column r 0 ∷ l) (firsts rows)

pub all_numbered : (P Q : Row → Type 0) → ((r : Row) → P r → Q (rowid_and_number r)) → (rows : List Row) → AllByRecursion P rows → AllByRecursion Q (map rowid_and_number rows)
all_numbered P Q w [] h = tt
all_numbered P Q w (r ∷ rows) h = (w r h.0, all_numbered P Q w rows h.1)

pub apart_from_numbered : (rows : List Row) → HasApartRowids (map rowid_and_number rows) → HasApartRowids rows
apart_from_numbered rows apart = record { integers = all_of_map rowid_and_number HasRowid HasRowid (λ r p. p) rows apart.integers; apart = subst (IsDistinct same_value) (firsts rows) apart.apart }

pub numbered_apart : (rows : List Row) → HasApartRowids rows → HasApartRowids (map rowid_and_number rows)
numbered_apart rows apart = record { integers = all_numbered HasRowid HasRowid (λ r p. p) rows apart.integers; apart = subst (IsDistinct same_value) (sym (firsts rows)) apart.apart }
