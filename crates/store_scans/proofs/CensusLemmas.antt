-- Rows that were read in the order of their rowids, beside the numbers of the editions that there are.
use Rattle.std.proofs.Common.{◌≡◌, ◌↔◌, ◌⊎◌, ℕ, ℤ, pos, Bool, true, false, cond, ◌||◌, List, [], ◌∷◌, ◌++◌, map, codes, inl, inr, refl, sym, ap, subst, ◌∙◌}
use Rattle.std.specs.List.{AllByRecursion}
use Rattle.std.specs.List.Sorted.{IsPermutation, IsSorted}
use Rattle.std.proofs.lemmas.Bool.{false≢true}
use Rattle.std.proofs.lemmas.List.{map-append}
use Rattle.std.proofs.lemmas.List.Sorted.{IsPermutation-sym}
use Rattle.sqlite.specs.Effect.{Database}
use Rattle.sqlite.specs.Order.{Row, column}
use Rattle.sqlite.specs.declared.types.Value.TheVariants.{Int}
use Rattle.dict_text.proofs.AllLemmas.{all_map}
use Rattle.store_sql.specs.Columns.{Content, HasColumns, edition_columns, number_columns}
use Rattle.store_tables.specs.Effects.{HasApartRowids, rows_of, same_value, equals_number}
use Rattle.store_sql.specs.Encodings.{stored_number}
use Rattle.store_sql.specs.Reads.{IsSelection, by_columns, rowid_and_number}
use Rattle.store_sql.specs.Streams.Scan.{EditionNumbers}
use Rattle.store_sql.specs.PartRecords.{part_columns, stored_part}
use Rattle.store_sql.specs.declared.part_records.StoredPart.{StoredPart}
use Rattle.store_tables.proofs.RemoveLemmas.{all_pass}
use Rattle.store_rows.specs.Apart.{HasTakenRowids}
use Rattle.store_rows.specs.Order.{is_of, InOrder}
use Rattle.store_rows.specs.Tables.{same_number}
use Rattle.store_rows.proofs.OrderLemmas.{all_same}
use Rattle.store_rows.proofs.TakenLemmas.{same_number_is, same_itself}
use Rattle.store_scans.specs.Census.{one_of, is_in_file, may_stand, AreKnownApart, AreNumberedApart, HasPartRows, TakesCensus, refuses_census, TakesPartCensus, refuses_part_census}
use Rattle.store_scans.specs.Cursors.{Cursor, IsScannedToEnd, IsFrontOfScan}
use Rattle.store_scans.specs.Cursors.Cursor.{InStore, PartsByRowid}
use Rattle.store_scans.specs.Scans.{TakesAll, HasNoRecordIn, IsWrong}
use Rattle.store_scans.specs.Takers.{takes_rowids, refuses_rowids}
use Rattle.store_rows.specs.declared.apart.RowidReader.{RowidReader}
use Rattle.store_scans.specs.declared.census.Census.{Census}
use Rattle.store_scans.specs.declared.census.PartCensus.{PartCensus}
use Rattle.store_scans.proofs.NumberLemmas.{same_int}
use Rattle.store_scans.proofs.PlaceLemmas.{last_holds}
use Rattle.store_scans.proofs.RowidLemmas.{all_apart, all_wrong, all_numbered, all_of_map, apart_from_numbered, numbered_apart}
use Rattle.store_scans.proofs.TakerLemmas.{all_push, rowids_next, rowids_refused}

-- ---- numbers

pub known_row : (numbers : List ℤ) (row : Row) (n : ℤ) → column row 1 ≡ Int n → one_of numbers row ≡ is_of numbers n
known_row [] row n e = refl
known_row (m ∷ numbers) row n e = λ i. (ap (λ v. same_value v (Int m)) e ∙ same_int n m) i || known_row numbers row n e i

-- ---- one row more

module _ {R : Type 0} (stored : R → Row) (first : Census) (given : List R) (next : R) (old : Census) (t : TakesCensus stored first given old) (id edition : ℤ) (rowid : column (stored next) 0 ≡ Int id)
    (number : column (stored next) 1 ≡ Int edition) where
  pub census_next : (new : Census) → new.numbers ≡ old.numbers → ((taken : List ℤ) → HasTakenRowids old.rowids taken → HasTakenRowids new.rowids (taken ++ id ∷ [])) → is_of old.numbers.now edition ≡ true
      → TakesCensus stored first (given ++ next ∷ []) new
  census_next new same more known = record {
    numbers = ap (λ n. n.now) same ∙ t.numbers;
    rowids = rowids_next stored first.rowids given next id old.rowids rowid t.rowids new.rowids more;
    known = all_push (λ r. one_of first.numbers.now (stored r) ≡ true) given next t.known (known_row first.numbers.now (stored next) edition number ∙ ap (λ (l : List ℤ). is_of l edition) (sym t.numbers) ∙ known);
  }

  pub census_refused : ((taken : List ℤ) → HasTakenRowids old.rowids taken → InOrder (λ a b. a ≡ b → ⊥) (taken ++ id ∷ []) → ⊥) ⊎ (is_of old.numbers.now edition ≡ false) → refuses_census stored first (given ++ next ∷ [])
  census_refused (inl twice) = inl (rowids_refused stored first.rowids given next id old.rowids rowid t.rowids twice)
  census_refused (inr unknown) = inr (given, next, refl, known_row first.numbers.now (stored next) edition number ∙ ap (λ (l : List ℤ). is_of l edition) (sym t.numbers) ∙ unknown)

-- all rows that pass whatever they are
pub selection_lists : (name : List ℕ) (db : Database) (rows : List Row) → IsSelection name (λ _. true) (0 ∷ []) db rows → IsPermutation (rows_of name db) rows × IsSorted (by_columns (0 ∷ [])) rows
selection_lists name db rows h = (subst (λ l. IsPermutation l rows) (all_pass (rows_of name db)) h.same, h.sorted)

-- ---- all rows

-- no two of the rows have one rowid, and each passes the test
record ArePassedApart (test : Row → Bool) (all : List Row) : Type 0 where
  apart : HasApartRowids all
  known : AllByRecursion (λ row. test row ≡ true) all

module _ {R : Type 0} (stored : R → Row) (columns : List Content) (what : Cursor) (all : List Row) (db : Database) (test : Row → Bool) (first : RowidReader) (none : HasTakenRowids first [])
    (lists : (rows : List Row) → IsScannedToEnd what db rows → IsPermutation all rows × IsSorted (by_columns (0 ∷ [])) rows) where
  passed_all : (given : List R) → IsScannedToEnd what db (map stored given) → (last : RowidReader) → takes_rowids stored first given last → AllByRecursion (λ r. test (stored r) ≡ true) given → ArePassedApart test all
  passed_all given scanned last rowids known =
      let l = lists (map stored given) scanned in
      record {
        apart = all_apart stored all first none given last l.0 l.1 rowids;
        known = all_same (λ row. test row ≡ true) (map stored given) all (IsPermutation-sym all (map stored given) l.0)
            (all_map (λ r. test (stored r) ≡ true) (λ row. test row ≡ true) stored (λ r p. p) given known);
      }

  -- two of the rows that were read have one rowid, or the last doesn't pass
  abbrev IsRefused : List R → Type 0
  IsRefused given = refuses_rowids stored first given ⊎ ((front : List R) × (next : R) × (given ≡ front ++ next ∷ []) × (test (stored next) ≡ false))

  passed_none : AllByRecursion (HasColumns columns) all → ArePassedApart test all → HasNoRecordIn stored columns what db ⊎ ((given : List R) × IsFrontOfScan what db (map stored given) × IsRefused given) → ⊥
  passed_none readable apart (inl w) = w.3 (last_holds (HasColumns columns) all (map stored w.0) w.2.0 w.1 readable (lists ((map stored w.0 ++ w.1 ∷ []) ++ w.2.0) w.2.1).0)
  passed_none readable apart (inr (given, begins, inl twice)) = all_wrong stored all first none given begins.0 (lists (map stored given ++ begins.0) begins.1).0 twice apart.apart
  passed_none readable apart (inr (given, begins, inr (front, next, is, fails))) =
      let rows : map stored given ≡ map stored front ++ stored next ∷ [] = ap (map stored) is ∙ map-append stored front (next ∷ []) in
      let passes = last_holds (λ row. test row ≡ true) all (map stored front) begins.0 (stored next) apart.known
      (lists ((map stored front ++ stored next ∷ []) ++ begins.0) (subst (λ l. IsScannedToEnd what db (l ++ begins.0)) rows begins.1)).0 in
      false≢true (sym fails ∙ passes)

module _ {R : Type 0} (stored : R → Row) (columns : List Content) (what : Cursor) (all : List Row) (db : Database) (numbers : List ℤ) (first : Census) (same : first.numbers.now ≡ numbers) (none : HasTakenRowids first.rowids [])
    (lists : (rows : List Row) → IsScannedToEnd what db rows → IsPermutation all rows × IsSorted (by_columns (0 ∷ [])) rows) where
  census_all : (last : Census) → TakesAll stored (TakesCensus stored) what db first last → ArePassedApart (one_of numbers) all
  census_all last h =
      subst (λ ns. ArePassedApart (one_of ns) all) same (passed_all stored columns what all db (one_of first.numbers.now) first.rowids none lists h.0 h.1 last.rowids h.2.rowids h.2.known)

  census_none : AllByRecursion (HasColumns columns) all → ArePassedApart (one_of numbers) all → IsWrong stored columns (refuses_census stored) what db first → ⊥
  census_none readable apart w =
      passed_none stored columns what all db (one_of first.numbers.now) first.rowids none lists readable (subst (λ ns. ArePassedApart (one_of ns) all) (sym same) apart) w

module _ {R : Type 0} (stored : R → Row) (columns : List Content) (what : Cursor) (name : List ℕ) (db : Database) (numbers : List ℤ) (first : Census) (same : first.numbers.now ≡ numbers) (none : HasTakenRowids first.rowids [])
    (lists : (rows : List Row) → IsScannedToEnd what db rows → IsPermutation (rows_of name db) rows × IsSorted (by_columns (0 ∷ [])) rows) where
  pub census_whole : (last : Census) → TakesAll stored (TakesCensus stored) what db first last → AreNumberedApart numbers name db
  census_whole last h = let it = census_all stored columns what (rows_of name db) db numbers first same none lists last h in record { apart = it.apart; known = it.known }

  pub census_wrong : AllByRecursion (HasColumns columns) (rows_of name db) → AreNumberedApart numbers name db → IsWrong stored columns (refuses_census stored) what db first → ⊥
  census_wrong readable apart w = census_none stored columns what (rows_of name db) db numbers first same none lists readable (record { apart = apart.apart; known = apart.known }) w

-- ---- the numbers of editions, of which the texts aren't read

first_two : (r : Row) → HasColumns edition_columns r → HasColumns number_columns (rowid_and_number r)
first_two [] h = absurd h
first_two (v ∷ []) h = absurd h.1
first_two (v ∷ w ∷ r) h = (h.0, (h.1.0, tt))

module _ (db : Database) (numbers : List ℤ) (first : Census) (same : first.numbers.now ≡ numbers) (none : HasTakenRowids first.rowids []) where
  abbrev editions : List Row
  editions = rows_of (codes "edition") db

  pub numbers_whole : (last : Census) → TakesAll stored_number (TakesCensus stored_number) (InStore EditionNumbers) db first last → AreNumberedApart numbers (codes "edition") db
  numbers_whole last h =
      let it = census_all stored_number number_columns (InStore EditionNumbers) (map rowid_and_number editions) db numbers first same none (λ rows l. (l.same, l.sorted)) last h in
      record { apart = apart_from_numbered editions it.apart; known = all_of_map rowid_and_number (λ row. one_of numbers row ≡ true) (λ row. one_of numbers row ≡ true) (λ row p. p) editions it.known }

  pub numbers_wrong : AllByRecursion (HasColumns edition_columns) editions → AreNumberedApart numbers (codes "edition") db → IsWrong stored_number number_columns (refuses_census stored_number) (InStore EditionNumbers) db first → ⊥
  numbers_wrong readable apart w =
      census_none stored_number number_columns (InStore EditionNumbers) (map rowid_and_number editions) db numbers first same none (λ rows l. (l.same, l.sorted))
      (all_numbered (HasColumns edition_columns) (HasColumns number_columns) first_two editions readable)
      (record { apart = numbered_apart editions apart.apart; known = all_numbered (λ row. one_of numbers row ≡ true) (λ row. one_of numbers row ≡ true) (λ row p. p) editions apart.known }) w

-- ---- the parts of files

module _ (db : Database) (first : PartCensus) (none : HasTakenRowids first.rowids []) where
  abbrev parts : List Row
  parts = rows_of (codes "dictcat_part") db

  abbrev stands : Row → Bool
  stands = may_stand first.may_have_orphans first.numbers.now

  lists : (rows : List Row) → IsScannedToEnd PartsByRowid db rows → IsPermutation parts rows × IsSorted (by_columns (0 ∷ [])) rows
  lists rows h = selection_lists (codes "dictcat_part") db rows h

  pub parts_whole : (last : PartCensus) → TakesAll stored_part TakesPartCensus PartsByRowid db first last → AreKnownApart stands (codes "dictcat_part") db
  parts_whole last h =
      let it = passed_all stored_part part_columns PartsByRowid parts db stands first.rowids none lists h.0 h.1 last.rowids h.2.rowids h.2.known in
      record { apart = it.apart; known = it.known }

  pub parts_read : (last : PartCensus) → TakesAll stored_part TakesPartCensus PartsByRowid db first last → HasPartRows db
  parts_read last h = (h.0, (lists (map stored_part h.0) h.1).0)

  pub parts_wrong : AllByRecursion (HasColumns part_columns) parts → AreKnownApart stands (codes "dictcat_part") db → IsWrong stored_part part_columns refuses_part_census PartsByRowid db first → ⊥
  parts_wrong readable apart w = passed_none stored_part part_columns PartsByRowid parts db stands first.rowids none lists readable (record { apart = apart.apart; known = apart.known }) w

-- one part more
module _ (first : PartCensus) (given : List StoredPart) (next : StoredPart) (old : PartCensus) (t : TakesPartCensus first given old) (id : ℤ) (rowid : next.rowid ≡ id) where
  pub part_next : (new : PartCensus) → new.numbers ≡ old.numbers → new.may_have_orphans ≡ old.may_have_orphans → ((taken : List ℤ) → HasTakenRowids old.rowids taken → HasTakenRowids new.rowids (taken ++ id ∷ []))
      → may_stand old.may_have_orphans old.numbers.now (stored_part next) ≡ true → TakesPartCensus first (given ++ next ∷ []) new
  part_next new same orphans more stands = record {
    numbers = ap (λ n. n.now) same ∙ t.numbers;
    orphans = orphans ∙ t.orphans;
    rowids = rowids_next stored_part first.rowids given next id old.rowids (ap Int rowid) t.rowids new.rowids more;
    known = all_push (λ r. may_stand first.may_have_orphans first.numbers.now (stored_part r) ≡ true) given next t.known ((λ i. may_stand (sym t.orphans i) (sym t.numbers i) (stored_part next)) ∙ stands);
  }

  pub part_twice : ((taken : List ℤ) → HasTakenRowids old.rowids taken → InOrder (λ a b. a ≡ b → ⊥) (taken ++ id ∷ []) → ⊥) → refuses_part_census first (given ++ next ∷ [])
  part_twice twice = inl (rowids_refused stored_part first.rowids given next id old.rowids (ap Int rowid) t.rowids twice)

pub part_strays : (first : PartCensus) (given : List StoredPart) (next : StoredPart) (old : PartCensus) → TakesPartCensus first given old → may_stand old.may_have_orphans old.numbers.now (stored_part next) ≡ false
    → refuses_part_census first (given ++ next ∷ [])
part_strays first given next old t strays = inr (given, next, refl, (λ i. may_stand (sym t.orphans i) (sym t.numbers i) (stored_part next)) ∙ strays)

-- a part of a number that is one of these may stand where it is of a file, and one of another where there may be orphans
module _ (orphans : Bool) (numbers : List ℤ) (part : StoredPart) (known : Bool) (is : known ≡ is_of numbers part.part.edition) where
  pub known_stands : known ≡ true → may_stand orphans numbers (stored_part part) ≡ is_in_file (stored_part part)
  known_stands found = ap (λ b. cond b (is_in_file (stored_part part)) orphans) (known_row numbers (stored_part part) part.part.edition refl ∙ sym is ∙ found)

  pub unknown_stands : known ≡ false → may_stand orphans numbers (stored_part part) ≡ orphans
  unknown_stands missing = ap (λ b. cond b (is_in_file (stored_part part)) orphans) (known_row numbers (stored_part part) part.part.edition refl ∙ sym is ∙ missing)

-- a part of the index, and one that is none
pub in_index : (part : StoredPart) (b : Bool) → b ≡ same_number part.part.file (pos 0) → b ≡ true → b ≡ is_in_file (stored_part part)
in_index part b e passes = passes ∙ sym (λ i. (same_int part.part.file (pos 0) ∙ sym e ∙ passes) i || equals_number 2 (pos 1) (stored_part part))

pub in_text : (part : StoredPart) (a b : Bool) → a ≡ same_number part.part.file (pos 0) → a ≡ false → b ≡ same_number part.part.file (pos 1) → b ≡ is_in_file (stored_part part)
in_text part a b e fails f = f ∙ sym (λ i. (same_int part.part.file (pos 0) ∙ sym e ∙ fails) i || same_int part.part.file (pos 1) i)

-- the test of two numbers
alike : (s t : Bool) → (s ≡ true → t ≡ true) → (t ≡ true → s ≡ true) → s ≡ t
alike true t f g = sym (f refl)
alike false true f g = g refl
alike false false f g = refl

pub decided : (a n : ℤ) (b : Bool) → (b ≡ true) ↔ (a ≡ n) → b ≡ same_number a n
decided a n b h = alike b (same_number a n) (λ t. subst (λ m. same_number a m ≡ true) (h.0 t) (same_itself a)) (λ s. h.1 (same_number_is a n s))
