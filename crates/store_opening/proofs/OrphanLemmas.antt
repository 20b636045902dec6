-- Parts of no edition among the parts that were read.
use Rattle.std.proofs.Common.{◌≡◌, ℕ, ℤ, pos, ◌<◌, Bool, true, false, cond, ◌&&◌, ◌||◌, List, [], ◌∷◌, ◌++◌, map, drop, filter, codes, refl, sym, ap, subst, ◌∙◌, arith}
use Rattle.std.specs.Prelude.{not}
use Rattle.std.specs.List.{AllByRecursion, list_any}
use Rattle.std.specs.List.Sorted.{IsPermutation}
use Rattle.std.proofs.lemmas.Bool.{not-true}
use Rattle.std.proofs.lemmas.Bool.Decides.{nat_tests}
use Rattle.std.proofs.lemmas.List.{map-append}
use Rattle.std.proofs.lemmas.List.Sorted.{IsPermutation-map, IsPermutation-sym}
use Rattle.sqlite_trees.proofs.ListLemmas.{IsPermutation-filter}
use Rattle.sqlite.specs.Effect.{Database}
use Rattle.sqlite.specs.Order.{Row}
use Rattle.dict_text.proofs.AllLemmas.{all_map, all_weaker}
use Rattle.store_tables.specs.Records.{Part}
use Rattle.store_tables.specs.Effects.{rows_of}
use Rattle.store_tables.proofs.RemoveLemmas.{all_pass}
use Rattle.store_sql.specs.PartRecords.{part_row, stored_part, owned_part}
use Rattle.store_sql.specs.declared.part_records.StoredPart.{StoredPart}
use Rattle.dict_catalogue.specs.Items.{edition_numbers}
use Rattle.dict_catalogue.specs.Steps.{Catalogue}
use Rattle.store_rows.specs.Order.{is_of}
use Rattle.store_rows.specs.Stands.{has_number}
use Rattle.store_rows.specs.Tables.{Tables, same_number}
use Rattle.store_rows.specs.Taken.{items_in}
use Rattle.store_rows.specs.Versions.{Layout, Parted}
use Rattle.store_rows.specs.declared.reader.Reader.{Reader}
use Rattle.store_rows.proofs.AfterLemmas.{filter_none}
use Rattle.store_rows.proofs.OrderLemmas.{all_passed, all_same}
use Rattle.store_rows.proofs.SelectionLemmas.{filter_whole}
use Rattle.store_holdings.proofs.RowLemmas.{filter_map}
use Rattle.store_holdings.specs.AllTables.{with_derived}
use Rattle.store_holdings.specs.Files.{all_parts}
use Rattle.store_holdings.specs.Holds.{AreOrphans}
use Rattle.store_sql.specs.Readings.{editions, contents, table_name_of}
use Rattle.store_holdings.proofs.ReadingLemmas.{map_twice}
use Rattle.store_scans.specs.Census.{one_of, is_in_file, is_known_part, may_stand, is_of_contents, may_be_in_contents, HasPartRows}
use Rattle.store_scans.proofs.CensusLemmas.{known_row}
use Rattle.store_scans.proofs.RowidLemmas.{all_of_map}
use Rattle.store_opening.specs.Opens.{HasRows, HasRowsOf, ArePartRows, may_have_orphans, numbers_in}
use Rattle.store_opening.proofs.PartLemmas.{numbers_is, rows_join}

-- ---- numbers

-- parts whose numbers are none of those of the items are of no edition of a catalogue with these items
pub are_orphans : (version : ℕ) (reader : Reader) (M : Catalogue) (orphans : List Part) → edition_numbers M.items ≡ edition_numbers (items_in reader) → AllByRecursion (λ (row : Part). is_of (numbers_in reader) row.edition ≡ false) orphans
    → (version < 6 → orphans ≡ []) → AreOrphans version M orphans
are_orphans version reader M orphans same unknown later = record {
  apart = all_weaker (λ (row : Part). is_of (numbers_in reader) row.edition ≡ false) (λ (row : Part). has_number M.items row.edition ≡ false)
      (λ row none. ap (λ ns. list_any (λ one. same_number (pos one) row.edition) ns) same ∙ numbers_is (edition_numbers (items_in reader)) row.edition ∙ none) orphans unknown;
  later = later;
}

-- before version 6 there are none
pub none_before : (version : ℕ) → version < 6 → may_have_orphans version ≡ false
none_before version before = grind (arith, nat_tests)

pub some_since : (version : ℕ) → may_have_orphans version ≡ false → version < 6
some_since version never = grind (arith, nat_tests)

-- ---- rows of the parts that were read

either_way : (b : Bool) → true ≡ (not b || b)
either_way true = refl
either_way false = refl

never_both : (b : Bool) → (not b && b) ≡ false
never_both true = refl
never_both false = refl

filter_same : {X : Type 0} (p q : X → Bool) (xs : List X) → AllByRecursion (λ x. p x ≡ q x) xs → filter p xs ≡ filter q xs
filter_same p q [] same = refl
filter_same p q (x ∷ xs) same = λ i. cond (same.0 i) (x ∷ filter_same p q xs same.1 i) (filter_same p q xs same.1 i)

-- a row that may stand is one of a known part where its number is known
stands_known : (one file may : Bool) → cond one file may ≡ true → (one && file) ≡ one
stands_known true file may stands = stands
stands_known false file may stands = refl

-- it has a known number where there are no orphans
stands_one : (one file may : Bool) → may ≡ false → cond one file may ≡ true → one ≡ true
stands_one true file may never stands = refl
stands_one false file may never stands = sym never ∙ stands

module _ (numbers : List ℤ) where
  abbrev is_other : StoredPart → Bool
  is_other r = not (is_of numbers r.part.edition)

  unknown_in : (given : List StoredPart) → AllByRecursion (λ (row : Part). is_of numbers row.edition ≡ false) (map (λ (r : StoredPart). owned_part r.part) (filter is_other given))
  unknown_in given =
      all_map (λ (r : StoredPart). is_other r ≡ true) (λ (row : Part). is_of numbers row.edition ≡ false) (λ (r : StoredPart). owned_part r.part) (λ r h. not-true (is_of numbers r.part.edition) h) (filter is_other given)
      (all_passed is_other given)

  module _ (db : Database) (may : Bool) (read : HasPartRows db) (known : AllByRecursion (λ row. may_stand may numbers row ≡ true) (rows_of (codes "dictcat_part") db)) where
    abbrev rows : List Row
    rows = rows_of (codes "dictcat_part") db

    abbrev given : List StoredPart
    given = read.0

    abbrev others : List Part
    others = map (λ (r : StoredPart). owned_part r.part) (filter is_other given)

    abbrev other : Row → Bool
    other row = not (one_of numbers row)

    others_are : map (drop 1) (filter other (map stored_part given)) ≡ map part_row others
    others_are =
        ap (map (drop 1)) (filter_map stored_part is_other other (λ r. ap not (known_row numbers (stored_part r) r.part.edition refl)) given)
        ∙ map_twice stored_part (drop 1) (filter is_other given)
        ∙ sym (map_twice (λ (r : StoredPart). owned_part r.part) part_row (filter is_other given))

    other_rows : IsPermutation (map part_row others) (map (drop 1) (filter other rows))
    other_rows =
        subst (λ l. IsPermutation l (map (drop 1) (filter other rows))) others_are
        (IsPermutation-map (drop 1) (filter other (map stored_part given)) (filter other rows)
        (IsPermutation-filter other (map stored_part given) rows (IsPermutation-sym rows (map stored_part given) read.1)))

    known_rows : filter (is_known_part numbers) rows ≡ filter (one_of numbers) rows
    known_rows =
        filter_same (is_known_part numbers) (one_of numbers) rows
        (all_weaker (λ row. may_stand may numbers row ≡ true) (λ row. is_known_part numbers row ≡ one_of numbers row) (λ row h. stands_known (one_of numbers row) (is_in_file row) may h) rows known)

    rows_split : (parts : List Part) → IsPermutation (map part_row parts) (map (drop 1) (filter (is_known_part numbers) rows)) → IsPermutation (map part_row (others ++ parts)) (map (drop 1) rows)
    rows_split parts of_known =
        subst (λ l. IsPermutation l (map (drop 1) rows)) (sym (map-append part_row others parts))
        (subst (λ l. IsPermutation (map part_row others ++ map part_row parts) (map (drop 1) l)) (all_pass rows)
        (rows_join (drop 1) other (one_of numbers) (λ _. true) (λ row. either_way (one_of numbers row)) (λ row. never_both (one_of numbers row)) rows (map part_row others) (map part_row parts) other_rows
        (subst (λ l. IsPermutation (map part_row parts) (map (drop 1) l)) known_rows of_known)))

    none_other : may ≡ false → others ≡ []
    none_other never =
        ap (map (λ (r : StoredPart). owned_part r.part)) (filter_none is_other given
        (all_of_map stored_part (λ row. one_of numbers row ≡ true) (λ r. is_other r ≡ false) (λ r h. ap not (sym (known_row numbers (stored_part r) r.part.edition refl) ∙ h)) given
        (all_same (λ row. one_of numbers row ≡ true) rows (map stored_part given) read.1
        (all_weaker (λ row. may_stand may numbers row ≡ true) (λ row. one_of numbers row ≡ true) (λ row h. stands_one (one_of numbers row) (is_in_file row) may never h) rows known))))

-- ---- as a layout has them

-- what is kept of the entries is that of the editions of these numbers, and orphans
pub record HasFound (layout : Layout) (may : Bool) (db : Database) (numbers : List ℤ) (taken : Tables) : Type 0 where
  pub orphans : List Part
  pub contents_are : HasRows db orphans taken (contents layout)
  pub unknown : AllByRecursion (λ (row : Part). is_of numbers row.edition ≡ false) orphans
  pub later : may ≡ false → orphans ≡ []

module _ (may : Bool) (db : Database) (numbers : List ℤ) (taken : Tables) where
  pub has_found : (layout : Layout) → ArePartRows layout db → AllByRecursion (λ row. may_be_in_contents may layout numbers row ≡ true) (rows_of (table_name_of (contents layout)) db)
      → HasRowsOf (is_of_contents layout numbers) db taken (contents layout) → HasFound layout may db numbers taken
  has_found Parted read known are = record {
    orphans = map (λ (r : StoredPart). owned_part r.part) (filter (λ (r : StoredPart). not (is_of numbers r.part.edition)) read.0);
    contents_are = rows_split numbers db may read known (all_parts taken) are;
    unknown = unknown_in numbers read.0;
    later = none_other numbers db may read known;
  }
  has_found layout read known are = record { orphans = []; contents_are = all_rows layout known are; unknown = tt; later = λ never. refl }
    where
      all_rows : (layout : Layout) → AllByRecursion (λ row. is_of_contents layout numbers row ≡ true) (rows_of (table_name_of (contents layout)) db) → HasRowsOf (is_of_contents layout numbers) db taken (contents layout)
          → HasRows db [] taken (contents layout)
      all_rows layout known are =
          subst (λ rows. IsPermutation ((contents layout).rows (with_derived [] taken)) (map (λ row. drop 1 ((contents layout).looked row)) rows))
          (filter_whole (is_of_contents layout numbers) (rows_of (table_name_of (contents layout)) db) known) are

-- editions have the same rows whatever orphans there are
pub editions_beside : (layout : Layout) (db : Database) (orphans : List Part) (t : Tables) → HasRows db [] t (editions layout) → HasRows db orphans t (editions layout)
editions_beside Parted db orphans t h = h
editions_beside layout db orphans t h = h
