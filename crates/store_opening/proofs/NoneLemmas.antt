-- A database in which a row stands for no record, or an edition or its index isn't there once, keeps no tables that stand for a catalogue.
use Rattle.std.proofs.Common.{◌≡◌, ℕ, ◌+◌, ℤ, Bool, List, [], ◌∷◌, ◌++◌, map, drop, filter, length, codes, inl, inr, refl, sym, ap, subst, ◌∙◌, arith}
use Rattle.std.specs.Prelude.{slice_index_or}
use Rattle.std.specs.List.{AllByRecursion, Contains}
use Rattle.sqlite.specs.Effect.{Database}
use Rattle.sqlite.specs.Order.{Row}
use Rattle.dict_text.proofs.AllLemmas.{all_filter, all_weaker}
use Rattle.store_tables.specs.Records as spec
use Rattle.store_tables.specs.Records.{header_of}
use Rattle.dict_index.specs.Line.{Line}
use Rattle.store_sql.specs.Columns.{Content, HasColumns, edition_columns}
use Rattle.store_tables.specs.Effects.{rows_of, equals_number}
use Rattle.store_sql.specs.Encodings.{edition_row}
use Rattle.store_sql.specs.HeaderRecords.{header_columns, header_row}
use Rattle.dict_catalogue.specs.Items.{Item}
use Rattle.dict_catalogue.specs.Steps.{Catalogue}
use Rattle.dict_index.specs.Edition.{Edition}
use Rattle.store_rows.specs.Tables.{Tables, same_number, entries_of}
use Rattle.store_rows.specs.Versions.{Layout, Parted, layout_of}
use Rattle.store_rows.specs.Written.{numbered, entry_record}
use Rattle.store_rows.specs.Taken.{BeginsWith, HasTaken, StandsForNone, with_edition, IsOfLast}
use Rattle.store_rows.specs.Whole.{AreOfLast, with_entries}
use Rattle.store_rows.specs.declared.reader.Reader.{Reader}
use Rattle.store_rows.proofs.FoundLemmas.{Found}
use Rattle.store_rows.proofs.OrderLemmas.{Same, same_from, one_once}
use Rattle.store_holdings.specs.Files.{index_octets}
use Rattle.store_sql.specs.Readings.{Keeps}
use Rattle.store_sql.specs.Readings.{contents}
use Rattle.store_holdings.proofs.TellLemmas.{storable}
use Rattle.store_holdings.proofs.ReadingLemmas.{editions_kept, parts_kept}
use Rattle.store_scans.specs.Entries.{HasWrongEntries, HasWrongRows, HasWrongIndex, next_entries}
use Rattle.store_scans.proofs.CodecLemmas.{Codec, read, read_stored, selected_records, edition_codec, header_codec}
use Rattle.store_scans.proofs.NumberLemmas.{first_number}
use Rattle.store_holdings.proofs.LookupLemmas.{all_contains}
use Rattle.store_opening.specs.Opens.{Keeping, KeepsNone, AllGoOnFrom, CanReadOne, IsNotOne, HasRecord, HasNoEdition}
use Rattle.store_opening.proofs.EntryLemmas.{HasEntryTable, IsEntryRow, entries_rows, entries_written}
use Rattle.store_opening.proofs.FileLemmas.{has_index, has_text, headers_of}
use Rattle.store_opening.proofs.FitLemmas.{goes_edition, goes_entries, none_kept}
use Rattle.store_opening.proofs.ToldLemmas.{KeptAs, kept_as, find, its_record, its_lines, only, headers_keep, record_number, begun_number, lines_number, edition_told, entries_begun, index_told}

one_long : {R W : Type 0} (owned : R → W) (rows : List R) (x : W) → map owned rows ≡ x ∷ [] → length rows ≡ 1
one_long owned [] x e = absurd (cc)
one_long owned (r ∷ []) x e = refl
one_long owned (r ∷ s ∷ rows) x e = absurd (cc)

pub one_item : {X : Type 0} (items : List X) (x : X) → length items ≡ 1 → x ≡ slice_index_or items 0 x → items ≡ x ∷ []
one_item [] x e f = absurd (omega arith)
one_item (y ∷ []) x e f = ap (λ z. z ∷ []) (sym f)
one_item (y ∷ z ∷ zs) x e f = absurd (omega arith)

-- ---- a record that isn't there once

module _ {R W : Type 0} (k : Codec R W) (columns : List Content) (db : Database) (n : ℤ) (pass : W → Bool) (agrees : (row : Row) (w : W) → drop 1 row ≡ k.encode w → equals_number 1 n row ≡ pass w) (ws : List W)
    (keeps : Keeps (codes "edition") k.encode db ws) (x : W) (one : filter pass ws ≡ x ∷ []) where
  not_one : AllByRecursion (HasColumns columns) (rows_of (codes "edition") db) → IsNotOne k.stored columns db n → ⊥
  not_one readable (inl h) = h.2 (all_contains (HasColumns columns) (filter (equals_number 1 n) (rows_of (codes "edition") db)) h.0 (all_filter (HasColumns columns) (equals_number 1 n) (rows_of (codes "edition") db) readable) h.1)
  not_one readable (inr h) =
      let rows = h.0 in
      let same = (selected_records k (codes "edition") db ws keeps (equals_number 1 n) pass agrees (map k.stored rows) h.1.same).0 in
      let read_one : map (read k) (map k.stored rows) ≡ x ∷ [] = one_once x (map (read k) (map k.stored rows))
      (subst (λ l. Same l (map (read k) (map k.stored rows))) one (same_from (filter pass ws) (map (read k) (map k.stored rows)) same)) in
      h.2 (one_long k.owned rows x (sym (read_stored k rows) ∙ read_one))

module _ (db : Database) (T : Tables) (items : List (Item Edition)) (n : ℤ) (found : Found T items n) where
  no_whole : Keeps (codes "edition") edition_row db T.editions → AllByRecursion (HasColumns edition_columns) (rows_of (codes "edition") db) → IsNotOne edition_codec.stored edition_columns db n → ⊥
  no_whole keeps readable h =
      not_one edition_codec edition_columns db n (λ (e : spec.EditionRecord). same_number e.number n) (λ row w e. first_number row (edition_row w) w.number n e refl) T.editions keeps (its_record db T items n found)
      (only db T items n found) readable h

  pub no_edition : (layout : Layout) → KeptAs layout db T → HasNoEdition layout db n → ⊥
  no_edition Parted k (inl h) =
      not_one header_codec header_columns db n (λ (e : spec.HeaderRecord). same_number e.number n) (λ row w e. first_number row (header_row w) w.number n e refl) (map header_of T.editions)
      (headers_keep db k.orphans T k.keeps) (header_of (its_record db T items n found)) (headers_of n T.editions ∙ ap (map header_of) (only db T items n found)) k.records.1.1.1.1.0 h
  no_edition Parted k (inr none) = none k.records.1.1.1.1.1.0 (its_record db T items n found).body (has_text db k.orphans T (parts_kept db k.orphans T k.keeps).rows n (its_record db T items n found) (only db T items n found) found.is
      (k.beside n (its_record db T items n found) (only db T items n found)))
  no_edition layout k h = no_whole (editions_kept layout db k.orphans T refl k.keeps) k.records.1.1.1.1.0 h

-- the first lines of an edition are its first entries
numbered_begins : (number place : ℕ) (given rest : List Line) → BeginsWith (numbered (entry_record number) place (given ++ rest)) (numbered (entry_record number) place given)
numbered_begins number place [] rest = (numbered (entry_record number) place rest, refl)
numbered_begins number place (line ∷ given) rest = let more = numbered_begins number (place + 1) given rest in (more.0, ap (λ l. entry_record number place line ∷ l) more.1)

-- ---- the edition of a number that is read next

module _ (version : ℕ) (db : Database) (taken : Tables) (n : ℤ) (can : CanReadOne version db taken n) where
  abbrev pub Kept : Layout → Type 0
  Kept layout = (T : Tables) (M : Catalogue) → Keeping version db taken.members T M → KeptAs layout db T

  pub kept : Kept (layout_of version)
  kept T M K = kept_as version db taken.members T M K

  pub there : (T : Tables) (M : Catalogue) → Keeping version db taken.members T M → Found T M.items n
  there T M K = find version T M n K.stands (can.known T M K)

  pub edition_missing : HasNoEdition (layout_of version) db n → KeepsNone version db taken.members
  edition_missing h T M K = no_edition db T M.items n (there T M K) (layout_of version) (kept T M K) h

  module _ (e : spec.EditionRecord) (r : HasRecord (layout_of version) db n e) where
    number_is : e.number ≡ n
    number_is = record_number (layout_of version) db n e r

    pub now_fits : AllGoOnFrom version db (with_edition taken e)
    now_fits T M K = goes_edition n taken T (can.fits T M K) e number_is (edition_told db T M.items n (there T M K) (layout_of version) (kept T M K) e r) can.no_editions

    pub edition_refused : (reader : Reader) → HasTaken version reader taken → ((version : ℕ) (before : Tables) → HasTaken version reader before → StandsForNone version (with_edition before e)) → KeepsNone version db taken.members
    edition_refused reader h wrong = none_kept version db (with_edition taken e) now_fits (wrong version taken h)

    are_of : (given : List spec.EntryRecord) → AllByRecursion (λ (x : spec.EntryRecord). x.edition ≡ n) given → AreOfLast (with_edition taken e) given
    are_of given all = all_weaker (λ (x : spec.EntryRecord). x.edition ≡ n) (IsOfLast (with_edition taken e)) (λ x p. (taken.editions, e, refl, p ∙ sym number_is)) given all

    module _ (reader : Reader) (h : HasTaken version reader (with_edition taken e)) where
      wrong_rows : (layout : Layout) → HasEntryTable layout → Kept layout → HasWrongRows layout db n reader → KeepsNone version db taken.members
      wrong_rows layout has keeps (inl w) T M K =
          let k = keeps T M K in
          let test = equals_number 1 n in
          let rows = rows_of (codes "entry") db in
          let written = all_contains (IsEntryRow layout) (filter test rows) w.0 (all_filter (IsEntryRow layout) test rows (entries_written layout db T.entries (entries_rows layout has db k.orphans T k.keeps.1.1.1.1.1.0) k.shown)) w.1 in
          w.2 (readable layout has k w.1) written.0 written.1
        where
          readable : (layout : Layout) → HasEntryTable layout → KeptAs layout db T → Contains (filter (equals_number 1 n) (rows_of (codes "entry") db)) w.0 → HasColumns (contents layout).columns ((contents layout).looked w.0)
          readable Parted has k there = absurd has
          readable layout has k there = all_contains (λ row. HasColumns (contents layout).columns ((contents layout).looked row)) _ w.0
              (all_filter (λ row. HasColumns (contents layout).columns ((contents layout).looked row)) (equals_number 1 n) (rows_of (codes "entry") db) k.records.1.1.1.1.1.0) there
      wrong_rows layout has keeps (inr (given, front, refused)) T M K =
          let all = begun_number layout db n given front in
          refused version (with_edition taken e) h (are_of given all) T M
          (goes_entries n (with_edition taken e) T (now_fits T M K) given all (entries_begun db T M.items n (there T M K) layout has (keeps T M K) given front) can.no_entries) K.stands

      -- the lines of an index begin with some that aren't taken
      wrong_index : Kept Parted → HasWrongIndex db n reader → KeepsNone version db taken.members
      wrong_index keeps (inl none) T M K =
          let k = keeps T M K in
          let found = there T M K in
          none k.records.1.1.1.1.1.0 (index_octets (entries_of n T.entries)) (has_index db k.orphans T (parts_kept db k.orphans T k.keeps).rows n (its_record db T M.items n found) (only db T M.items n found) found.is
          (k.beside n (its_record db T M.items n found) (only db T M.items n found)))
      wrong_index keeps (inr (octets, file, wrong)) T M K =
          let found = there T M K in
          let number = found.stored.number in
          let lines = found.holds.reading.lines in
          let w = wrong number (sym found.is) lines (storable T found.owner found.stored found.holds found.lawful) (index_told db T M.items n found (keeps T M K) octets file) in
          let given = w.0 in
          let es = numbered (entry_record number) 0 given in
          let next : next_entries (with_edition taken e) number given ≡ es = subst (λ m. numbered (entry_record number) (length (entries_of m taken.entries)) given ≡ es) (sym found.is)
          (ap (λ (l : List spec.EntryRecord). numbered (entry_record number) (length l) given) can.no_entries) in
          let refused = subst (λ l. StandsForNone version (with_entries (with_edition taken e) l)) next (w.3 version (with_edition taken e) number h (taken.editions, e, refl, found.is ∙ sym number_is)) in
          let begun : BeginsWith (entries_of n T.entries) es = subst (λ l. BeginsWith l es) (sym (its_lines db T M.items n found ∙ ap (numbered (entry_record number) 0) w.2)) (numbered_begins number 0 given w.1) in
          refused T M (goes_entries n (with_edition taken e) T (now_fits T M K) es (lines_number n number (sym found.is) 0 given) begun can.no_entries) K.stands

      entries_wrong : (layout : Layout) → Kept layout → HasWrongEntries layout db n reader → KeepsNone version db taken.members
      entries_wrong Parted keeps w = wrong_index keeps w
      entries_wrong layout keeps w = wrong_rows layout tt keeps w

      pub edition_wrong : HasWrongEntries (layout_of version) db n reader → KeepsNone version db taken.members
      edition_wrong w = entries_wrong (layout_of version) kept w
