-- Records that are read of rows, and the rows that records are written as.
use Rattle.std.proofs.Common.{◌≡◌, ℕ, Bool, true, false, List, [], ◌∷◌, map, drop, filter, cond, refl, sym, ap, subst, ◌∙◌, String, Vec}
use Rattle.std.specs.List.{AllByRecursion}
use Rattle.std.specs.List.Sorted.{IsPermutation, IsSorted}
use Rattle.std.specs.Ordering.{is_lt}
use Rattle.std.proofs.lemmas.List.Sorted.{IsPermutation-map, IsPermutation-trans}
use Rattle.std.specs.declared.alloc.Global.{Global}
use Rattle.sqlite_trees.proofs.ListLemmas.{IsPermutation-filter}
use Rattle.sqlite.specs.Effect.{Database}
use Rattle.sqlite.specs.Order.{Row}
use Rattle.dict_text.proofs.AllLemmas.{all_filter}
use Rattle.store_tables.specs.Records as spec
use Rattle.store_tables.specs.Typed.{owned_mark, owned_item, owned_member, owned_edition, owned_header, owned_kept}
use Rattle.store_tables.specs.declared.records as typed
use Rattle.store_tables.specs.declared.records.StoredRow.{StoredRow}
use Rattle.store_tables.specs.Effects.{rows_of}
use Rattle.store_sql.specs.Encodings.{mark_row, item_row, member_row, edition_row, kept_row, stored_mark, stored_item, stored_member, stored_edition, stored_kept}
use Rattle.store_sql.specs.Reads.{by_columns}
use Rattle.store_sql.specs.HeaderRecords.{header_row, stored_header}
use Rattle.store_sql.specs.declared.header_records.StoredHeader.{StoredHeader}
use Rattle.store_sql.specs.PartRecords.{part_row, owned_part, stored_part}
use Rattle.store_sql.specs.declared.part_records.StoredPart.{StoredPart}
use Rattle.store_sql.specs.Readings.{Keeps}
use Rattle.store_sql.proofs.ReadLemmas.{sorted_order}
use Rattle.store_sql.proofs.DecodeLemmas.{decode_mark, decode_item, decode_member, decode_edition, decode_header, decode_part, decode_kept, mark_back, item_back, member_back, edition_back, header_back, part_back, kept_back}
use Rattle.store_rows.specs.Order.{InOrder}
use Rattle.store_rows.proofs.OrderLemmas.{order_given, all_same}
use Rattle.store_scans.proofs.RowidLemmas.{all_of_map}

-- how the records of a table are written, and read
pub record Codec (R W : Type 0) : Type 0 where
  pub stored : R → Row
  pub owned : R → W
  pub encode : W → Row
  pub decode : Row → W
  pub undo : (w : W) → decode (encode w) ≡ w
  pub behind : (r : R) → drop 1 (stored r) ≡ encode (owned r)

module _ {R W : Type 0} (k : Codec R W) where
  -- the record of a row, behind its rowid
  abbrev pub read : Row → W
  read row = k.decode (drop 1 row)

  -- the row is that of this record
  abbrev pub IsRow : Row → Type 0
  IsRow row = (w : W) × (drop 1 row ≡ k.encode w)

  pub read_is : (row : Row) (w : W) → drop 1 row ≡ k.encode w → read row ≡ w
  read_is row w e = ap k.decode e ∙ k.undo w

  pub read_stored : (given : List R) → map read (map k.stored given) ≡ map k.owned given
  read_stored [] = refl
  read_stored (r ∷ given) = λ i. read_is (k.stored r) (k.owned r) (k.behind r) i ∷ read_stored given i

  pub stored_rows : (given : List R) → map (drop 1) (map k.stored given) ≡ map k.encode (map k.owned given)
  stored_rows [] = refl
  stored_rows (r ∷ given) = λ i. k.behind r i ∷ stored_rows given i

  undone : (ws : List W) → map k.decode (map k.encode ws) ≡ ws
  undone [] = refl
  undone (w ∷ ws) = λ i. k.undo w i ∷ undone ws i

  behind_rowids : (rows : List Row) → map k.decode (map (drop 1) rows) ≡ map read rows
  behind_rowids [] = refl
  behind_rowids (r ∷ rows) = ap (λ l. read r ∷ l) (behind_rowids rows)

  all_written : (ws : List W) → AllByRecursion (λ s. (w : W) × (s ≡ k.encode w)) (map k.encode ws)
  all_written [] = tt
  all_written (w ∷ ws) = ((w, refl), all_written ws)

  filter_step : (test : Row → Bool) (pass : W → Bool) (r : Row) (rows : List Row) (a b : Bool) → pass (read r) ≡ a → test r ≡ b → a ≡ b → filter pass (map read rows) ≡ map read (filter test rows)
      → cond (pass (read r)) (read r ∷ filter pass (map read rows)) (filter pass (map read rows)) ≡ map read (cond (test r) (r ∷ filter test rows) (filter test rows))
  filter_step test pass r rows true true ea eb same rest = ap (λ b. cond b (read r ∷ filter pass (map read rows)) (filter pass (map read rows))) ea ∙ ap (λ l. read r ∷ l) rest
      ∙ ap (λ b. map read (cond b (r ∷ filter test rows) (filter test rows))) (sym eb)
  filter_step test pass r rows false false ea eb same rest = ap (λ b. cond b (read r ∷ filter pass (map read rows)) (filter pass (map read rows))) ea ∙ rest ∙ ap (λ b. map read (cond b (r ∷ filter test rows) (filter test rows))) (sym eb)
  filter_step test pass r rows true false ea eb same rest = absurd (cc)
  filter_step test pass r rows false true ea eb same rest = absurd (cc)

  filter_read : (test : Row → Bool) (pass : W → Bool) → ((row : Row) (w : W) → drop 1 row ≡ k.encode w → test row ≡ pass w) → (rows : List Row) → AllByRecursion IsRow rows → filter pass (map read rows) ≡ map read (filter test rows)
  filter_read test pass agrees [] all = refl
  filter_read test pass agrees (r ∷ rows) all =
      filter_step test pass r rows (pass (read r)) (test r) refl refl (ap pass (read_is r all.0.0 all.0.1) ∙ sym (agrees r all.0.0 all.0.1)) (filter_read test pass agrees rows all.1)

  order_read : (R' : Row → Row → Type 0) (T : W → W → Type 0) → (rows : List Row) → InOrder (λ a b. T (read a) (read b)) rows → InOrder T (map read rows)
  order_read R' T [] h = tt
  order_read R' T (r ∷ rows) h = (all_read (T (read r)) rows h.0, order_read R' T rows h.1)
    where
      all_read : (P : W → Type 0) (rows : List Row) → AllByRecursion (λ b. P (read b)) rows → AllByRecursion P (map read rows)
      all_read P [] h = tt
      all_read P (r ∷ rows) h = (h.0, all_read P rows h.1)

  -- rows that are in the order of columns
  pub rows_order : (columns : List ℕ) (T : W → W → Type 0) → ((r s : Row) (w v : W) → drop 1 r ≡ k.encode w → drop 1 s ≡ k.encode v → is_lt (by_columns columns s r) ≡ false → T w v) → (rows : List Row) → AllByRecursion IsRow rows
      → IsSorted (by_columns columns) rows → InOrder T (map read rows)
  rows_order columns T means rows all up =
      order_read (λ a b. is_lt (by_columns columns b a) ≡ false) T rows
      (order_given IsRow (λ a b. is_lt (by_columns columns b a) ≡ false) (λ a b. T (read a) (read b))
      (λ a b qa qb r. subst (λ w. T w (read b)) (sym (read_is a qa.0 qa.1)) (subst (T qa.0) (sym (read_is b qb.0 qb.1)) (means a b qa.0 qb.0 qa.1 qb.1 r))) rows all (sorted_order columns rows up))

  -- what is read of rows that are those of these records
  pub records_in : (ws : List W) (rows : List Row) → IsPermutation (map k.encode ws) (map (drop 1) rows) → IsPermutation ws (map read rows) × AllByRecursion IsRow rows
  records_in ws rows same = (
    subst (λ xs. IsPermutation xs (map read rows)) (undone ws) (subst (IsPermutation (map k.decode (map k.encode ws))) (behind_rowids rows) (IsPermutation-map k.decode _ _ same)),
    all_of_map (drop 1) (λ s. (w : W) × (s ≡ k.encode w)) IsRow (λ r h. h) rows (all_same (λ s. (w : W) × (s ≡ k.encode w)) (map k.encode ws) (map (drop 1) rows) same (all_written ws)),
  )

  module _ (name : List ℕ) (db : Database) (ws : List W) (keeps : Keeps name k.encode db ws) where
    pub written : AllByRecursion IsRow (rows_of name db)
    written = all_of_map (drop 1) (λ s. (w : W) × (s ≡ k.encode w)) IsRow (λ r h. h) (rows_of name db) (all_same (λ s. (w : W) × (s ≡ k.encode w)) (map k.encode ws) (map (drop 1) (rows_of name db)) keeps.rows (all_written ws))

    pub records_kept : IsPermutation ws (map read (rows_of name db))
    records_kept = subst (λ xs. IsPermutation xs (map read (rows_of name db))) (undone ws) (subst (IsPermutation (map k.decode (map k.encode ws))) (behind_rowids (rows_of name db)) (IsPermutation-map k.decode _ _ keeps.rows))

    -- all rows
    pub listed_records : (rows : List Row) → IsPermutation (rows_of name db) rows → IsPermutation ws (map read rows) × AllByRecursion IsRow rows
    listed_records rows same = (IsPermutation-trans ws (map read (rows_of name db)) (map read rows) records_kept (IsPermutation-map read _ _ same), all_same IsRow (rows_of name db) rows same written)

    -- those that pass a test
    pub selected_records : (test : Row → Bool) (pass : W → Bool) → ((row : Row) (w : W) → drop 1 row ≡ k.encode w → test row ≡ pass w) → (rows : List Row) → IsPermutation (filter test (rows_of name db)) rows
        → IsPermutation (filter pass ws) (map read rows) × AllByRecursion IsRow rows
    selected_records test pass agrees rows same = (
      IsPermutation-trans (filter pass ws) (map read (filter test (rows_of name db))) (map read rows)
          (subst (IsPermutation (filter pass ws)) (filter_read test pass agrees (rows_of name db) written) (IsPermutation-filter pass _ _ records_kept)) (IsPermutation-map read _ _ same),
      all_same IsRow (filter test (rows_of name db)) rows same (all_filter IsRow test (rows_of name db) written),
    )

-- ---- the six tables

abbrev pub mark_codec : Codec (StoredRow (typed.Mark.Mark (String Global))) spec.Mark
mark_codec = record { stored = stored_mark; owned = (λ row. owned_mark row.value); encode = mark_row; decode = decode_mark; undo = mark_back; behind = (λ r. refl) }

abbrev pub item_codec : Codec (StoredRow (typed.ItemRecord.ItemRecord (String Global))) spec.ItemRecord
item_codec = record { stored = stored_item; owned = (λ row. owned_item row.value); encode = item_row; decode = decode_item; undo = item_back; behind = (λ r. refl) }

abbrev pub member_codec : Codec (StoredRow (typed.Member.Member (String Global))) spec.Member
member_codec = record { stored = stored_member; owned = (λ row. owned_member row.value); encode = member_row; decode = decode_member; undo = member_back; behind = (λ r. refl) }

abbrev pub edition_codec : Codec (StoredRow (typed.EditionRecord.EditionRecord (String Global) (Vec ℕ Global))) spec.EditionRecord
edition_codec = record { stored = stored_edition; owned = (λ row. owned_edition row.value); encode = edition_row; decode = decode_edition; undo = edition_back; behind = (λ r. refl) }

abbrev pub kept_codec : Codec (StoredRow (typed.KeptRecord.KeptRecord (String Global))) spec.KeptRecord
kept_codec = record { stored = stored_kept; owned = (λ row. owned_kept row.value); encode = kept_row; decode = decode_kept; undo = kept_back; behind = (λ r. refl) }

-- ---- headers, and parts

abbrev pub header_codec : Codec StoredHeader spec.HeaderRecord
header_codec = record { stored = stored_header; owned = (λ row. owned_header row.value); encode = header_row; decode = decode_header; undo = header_back; behind = (λ r. refl) }

abbrev pub part_codec : Codec StoredPart spec.Part
part_codec = record { stored = stored_part; owned = (λ row. owned_part row.part); encode = part_row; decode = decode_part; undo = part_back; behind = (λ r. refl) }
