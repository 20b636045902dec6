-- The records of an edition and of its entries, as they are selected.
use Rattle.std.proofs.Common.{◌≡◌, ◌≢◌, ◌∙◌, ℕ, ℤ, false, List, [], ◌∷◌, map, drop, length, codes, refl, sym, subst, String, Vec}
use Rattle.std.specs.Prelude.{◌≤ℤ◌}
use Rattle.std.specs.List.{AllByRecursion}
use Rattle.std.specs.List.Sorted.{IsPermutation}
use Rattle.std.specs.Ordering.{is_lt}
use Rattle.std.specs.declared.alloc.Global.{Global}
use Rattle.std.proofs.lemmas.List.Sorted.{IsPermutation-map, IsPermutation-sym, length_permutation}
use Rattle.store_tables.specs.KeyedRecords.{owned_old_entry, owned_keyed_entry, plain_entry}
use Rattle.store_tables.specs.Records.{ShowsHeadword}
use Rattle.store_tables.specs.Typed.{owned_edition, owned_entry, owned_header}
use Rattle.store_tables.specs.declared.headers.HeaderRecord.{HeaderRecord as TypedHeader}
use Rattle.store_tables.specs.declared.keyed_records.KeyedEntry.{KeyedEntry as TypedShown}
use Rattle.store_tables.specs.declared.keyed_records.OldEntry.{OldEntry as TypedOld}
use Rattle.store_tables.specs.declared.records.EditionRecord.{EditionRecord as TypedEdition}
use Rattle.store_tables.specs.declared.records.EntryRecord.{EntryRecord as TypedEntry}
use Rattle.store_tables.specs.declared.records.StoredRow.{StoredRow}
use Rattle.store_sql.specs.HeaderRecords.{header_row}
use Rattle.store_sql.specs.Encodings.{stored_edition, stored_entry}
use Rattle.store_sql.specs.Keyed.{entry_without_keys, stored_keyed_entry, stored_old_entry}
use Rattle.store_sql.specs.Reads.{IsSelection, by_columns}
use Rattle.store_sql.specs.Readings.{AreShownIn}
use Rattle.store_holdings.proofs.ReadingLemmas.{map_twice}
use Rattle.dict_text.proofs.AllLemmas.{all_map, all_of}
use Rattle.std.proofs.lemmas.List.{length-map}
use Rattle.store_sql.proofs.ReadLemmas.{sorted_order, one_le, records_order}
use Rattle.store_migration.specs.Older.{older_entry_cells, layout_as, looked_at}
use Rattle.store_migration.specs.MigrationParts.{HasNotOne}
use Rattle.store_migration.specs.Steps.{AreEntriesOf, IsEditionOf, edition_rows, entry_rows}
use Rattle.store_migration.specs.declared.older.Older.{Older}
use Rattle.store_migration.specs.declared.older.Older.TheVariants.{Plain, Keyed, Shown}
use Rattle.store_migration.proofs.KitLemmas.{Database, equals_number, Row, EditionRecord, EntryRecord, edition_row}

-- ---- entries

module _ {X : Type 0} (encode : X → Row) (entry : X → EntryRecord) (older : Older) (cells : (x : X) → drop 1 (looked_at older (encode x)) ≡ older_entry_cells older (entry x))
    (le : (a b : X) → is_lt (by_columns (2 ∷ []) (encode b) (encode a)) ≡ false → (entry a).ord ≤ℤ (entry b).ord) where
  cells_are : (all : List X) → map (λ row. drop 1 (looked_at older row)) (map encode all) ≡ map (older_entry_cells older) (map entry all)
  cells_are [] = refl
  cells_are (x ∷ all) = λ i. cells x i ∷ cells_are all i

  selected : (number : ℤ) (db : Database) (all : List X) → AreShownIn (layout_as older) (map entry all) → IsSelection (codes "entry") (equals_number 1 number) (2 ∷ []) db (map encode all) → AreEntriesOf older number db (map entry all)
  selected number db all shown it = record {
    rows = IsPermutation-sym _ _
        (subst (IsPermutation (map (λ row. drop 1 (looked_at older row)) (entry_rows number db))) (cells_are all) (IsPermutation-map (λ row. drop 1 (looked_at older row)) (entry_rows number db) (map encode all) it.same));
    order = records_order encode entry (λ (a b : Row). is_lt (by_columns (2 ∷ []) b a) ≡ false) (λ (a b : EntryRecord). a.ord ≤ℤ b.ord) le all (sorted_order (2 ∷ []) (map encode all) it.sorted);
    shown = shown;
  }

abbrev pub PlainRow : Type 0
PlainRow = StoredRow (TypedEntry (String Global))

abbrev pub KeyedRow : Type 0
KeyedRow = StoredRow (TypedOld (String Global) (Vec ℕ Global))

abbrev pub ShownRow : Type 0
ShownRow = StoredRow (TypedShown (String Global) (Vec ℕ Global))

abbrev pub plain_of : PlainRow → EntryRecord
plain_of row = owned_entry row.value

abbrev pub keyed_of : KeyedRow → EntryRecord
keyed_of row = plain_entry (owned_old_entry row.value)

abbrev pub shown_of : ShownRow → EntryRecord
shown_of row = entry_without_keys (owned_keyed_entry row.value)

-- each of those whose headword is shown
headwords : {X : Type 0} (entry : X → EntryRecord) → ((x : X) → ShowsHeadword (entry x)) → (all : List X) → AllByRecursion ShowsHeadword (map entry all)
headwords {X = X} entry each all = all_map (λ (x : X). Unit {0}) ShowsHeadword entry (λ x any. each x) all (all_of (λ (x : X). Unit {0}) (λ x. tt) all)

pub plain_selected : (number : ℤ) (db : Database) (all : List PlainRow) → IsSelection (codes "entry") (equals_number 1 number) (2 ∷ []) db (map stored_entry all) → AreEntriesOf Plain number db (map plain_of all)
plain_selected number db all it = selected stored_entry plain_of Plain (λ x. refl) (λ a b r. one_le a.value.ord b.value.ord r) number db all (headwords plain_of (λ x. refl) all) it

pub keyed_selected : (number : ℤ) (db : Database) (all : List KeyedRow) → IsSelection (codes "entry") (equals_number 1 number) (2 ∷ []) db (map stored_old_entry all) → AreEntriesOf Keyed number db (map keyed_of all)
keyed_selected number db all it = selected stored_old_entry keyed_of Keyed (λ x. refl) (λ a b r. one_le a.value.ord b.value.ord r) number db all (headwords keyed_of (λ x. refl) all) it

pub shown_selected : (number : ℤ) (db : Database) (all : List ShownRow) → IsSelection (codes "entry") (equals_number 1 number) (2 ∷ []) db (map stored_keyed_entry all) → AreEntriesOf Shown number db (map shown_of all)
shown_selected number db all it = selected stored_keyed_entry shown_of Shown (λ x. refl) (λ a b r. one_le a.value.ord b.value.ord r) number db all tt it

-- ---- the record of an edition

abbrev pub EditionRow : Type 0
EditionRow = StoredRow (TypedEdition (String Global) (Vec ℕ Global))

abbrev pub edition_in : EditionRow → EditionRecord
edition_in row = owned_edition row.value

rows_are : (all : List EditionRow) → map (drop 1) (map stored_edition all) ≡ map edition_row (map edition_in all)
rows_are all = map_twice stored_edition (drop 1) all ∙ sym (map_twice edition_in edition_row all)

module _ (number : ℤ) (db : Database) (all : List EditionRow) (it : IsSelection (codes "edition") (equals_number 1 number) (1 ∷ []) db (map stored_edition all)) where
  read : IsPermutation (map edition_row (map edition_in all)) (map (drop 1) (edition_rows number db))
  read = IsPermutation-sym _ _ (subst (IsPermutation (map (drop 1) (edition_rows number db))) (rows_are all) (IsPermutation-map (drop 1) (edition_rows number db) (map stored_edition all) it.same))

  pub one_read : (edition : EditionRecord) → map edition_in all ≡ edition ∷ [] → IsEditionOf number db edition
  one_read edition one = subst (λ l. IsPermutation (map edition_row l) (map (drop 1) (edition_rows number db))) one read

  pub none_read : length all ≢ 1 → HasNotOne number db
  none_read other edition one =
      let a : length (map (drop 1) (edition_rows number db)) ≡ 1 = length_permutation (edition_row edition ∷ []) (map (drop 1) (edition_rows number db)) one in
      let b : length (map (drop 1) (edition_rows number db)) ≡ length (map edition_row (map edition_in all)) = length_permutation (map edition_row (map edition_in all)) (map (drop 1) (edition_rows number db)) read in
      other (sym (length-map (map edition_in all) edition_row ∙ length-map all edition_in) ∙ (sym b ∙ a))

-- ---- headers

abbrev pub owned_row : TypedHeader (String Global) → Row
owned_row h = header_row (owned_header h)
