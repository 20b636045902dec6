-- What the record of an edition and its entries, as they were read, tell of the tables that a database keeps.
use Rattle.std.proofs.Common.{◌≡◌, ℕ, ◌+◌, ℤ, pos, true, List, [], ◌∷◌, ◌++◌, map, drop, filter, codes, refl, sym, ap, subst, ◌∙◌}
use Rattle.std.specs.Prelude.{IsTrue}
use Rattle.std.specs.List.{AllByRecursion}
use Rattle.std.proofs.lemmas.List.{map-append}
use Rattle.std.proofs.lemmas.List.Sorted.{IsPermutation-sym}
use Rattle.std.specs.List.Sorted.{IsPermutation}
use Rattle.sqlite.specs.Effect.{Database}
use Rattle.sqlite.specs.Order.{Row}
use Rattle.dict_text.proofs.AllLemmas.{all_append_parts, all_filter}
use Rattle.store_tables.specs.Records as spec
use Rattle.store_tables.specs.Records.{header_of}
use Rattle.store_tables.specs.Typed.{owned_edition, owned_header}
use Rattle.dict_index.specs.Edition.{Edition}
use Rattle.dict_index.specs.Line.{Line}
use Rattle.store_tables.specs.Effects.{rows_of, equals_number}
use Rattle.store_sql.specs.Encodings.{edition_row, stored_edition}
use Rattle.store_sql.specs.Reads.{IsSelection}
use Rattle.store_sql.specs.HeaderRecords.{header_row, stored_header}
use Rattle.dict_catalogue.specs.Items.{Item}
use Rattle.dict_catalogue.specs.Steps.{Catalogue}
use Rattle.store_rows.specs.Stored.{stored_index}
use Rattle.store_rows.specs.Order.{InOrder}
use Rattle.store_rows.specs.Stands.{Stands, has_number}
use Rattle.store_rows.specs.Tables.{Tables, same_number, editions_numbered, entries_of}
use Rattle.store_rows.specs.Taken.{BeginsWith, with_edition}
use Rattle.store_rows.specs.Versions.{Layout, Parted, layout_of}
use Rattle.store_rows.specs.Written.{numbered, edition_record, entry_record}
use Rattle.store_rows.proofs.IndexLemmas.{says_one_list}
use Rattle.store_rows.proofs.FoundLemmas.{Found, found_in}
use Rattle.store_rows.proofs.TakenLemmas.{same_number_is}
use Rattle.store_rows.proofs.OrderLemmas.{Same, Below, all_passed, all_same, same_from, one_once, ordered_once, numbered_rise}
use Rattle.store_holdings.specs.AllTables.{with_derived}
use Rattle.store_holdings.specs.Files.{index_octets}
use Rattle.store_sql.specs.Readings.{Keeps}
use Rattle.store_sql.specs.Readings.{KeepsAll, AreShownIn, HasReadableRows}
use Rattle.store_holdings.proofs.OrphanLemmas.{beside_orphans}
use Rattle.store_holdings.proofs.TellLemmas.{storable}
use Rattle.store_holdings.proofs.ReadingLemmas.{map_twice, editions_kept, headers_kept, parts_kept}
use Rattle.store_scans.specs.Entries.{looked_behind_rowid, entry_cells, HasEntries, HasEntryRows, HasIndexFile, BeginsWithEntries, IsFresh}
use Rattle.store_scans.specs.Files.{HasFile}
use Rattle.store_scans.proofs.CodecLemmas.{read, read_is, selected_records, edition_codec, header_codec}
use Rattle.store_scans.proofs.FileLemmas.{file_told}
use Rattle.store_scans.proofs.NumberLemmas.{int_is, first_number}
use Rattle.store_opening.specs.Opens.{Keeping, HasRecord, HasWholeRecord}
use Rattle.store_opening.proofs.EntryLemmas.{HasEntryTable, entry_in, entries_are, entries_rows, entries_order, entries_selected, number_of_row}
use Rattle.store_opening.proofs.FileLemmas.{AreBeside, has_index, has_text, headers_of, index_is}

-- ---- numbers

-- the rows of a number have it
all_selected : (name columns : List ℕ) (db : Database) (n : ℤ) (rows : List Row) → IsSelection name (equals_number 1 n) columns db rows → AllByRecursion (λ r. equals_number 1 n r ≡ true) rows
all_selected name columns db n rows s = all_same (λ r. equals_number 1 n r ≡ true) (filter (equals_number 1 n) (rows_of name db)) rows s.same (all_passed (equals_number 1 n) (rows_of name db))

-- so has its record
pub record_number : (layout : Layout) (db : Database) (n : ℤ) (e : spec.EditionRecord) → HasRecord layout db n e → e.number ≡ n
record_number Parted db n e (r, text) =
    ap (λ (h : spec.HeaderRecord). h.number) r.2 ∙ int_is r.0.value.number n (all_selected (codes "edition") (1 ∷ []) db n (stored_header r.0 ∷ []) r.1).0
record_number layout db n e r =
    ap (λ (x : spec.EditionRecord). x.number) r.2 ∙ int_is r.0.value.number n (all_selected (codes "edition") (1 ∷ []) db n (stored_edition r.0 ∷ []) r.1).0

-- where none of its entries was taken, they come next
pub fresh_record : (layout : Layout) (db : Database) (n : ℤ) (e : spec.EditionRecord) → HasRecord layout db n e → (taken : Tables) → entries_of n taken.entries ≡ [] → IsFresh n (with_edition taken e)
fresh_record layout db n e r taken none = record { last = (taken.editions, e, refl, sym (record_number layout db n e r)); none = none }

-- the entries of a number have it
rows_number : (layout : Layout) (n : ℤ) (rows : List Row) (es : List spec.EntryRecord) → map (looked_behind_rowid layout) rows ≡ map (entry_cells layout) es → AllByRecursion (λ r. equals_number 1 n r ≡ true) rows
    → AllByRecursion (λ (x : spec.EntryRecord). x.edition ≡ n) es
rows_number layout n [] [] is h = tt
rows_number layout n (r ∷ rows) [] is h = tt
rows_number layout n [] (x ∷ es) is h = absurd (cc)
rows_number layout n (r ∷ rows) (x ∷ es) is h =
    let first : looked_behind_rowid layout r ≡ entry_cells layout x = cc in
    let rest : map (looked_behind_rowid layout) rows ≡ map (entry_cells layout) es = cc in
    (int_is x.edition n (number_of_row layout r x n first h.0), rows_number layout n rows es rest h.1)

-- those with which its rows begin, too
pub begun_number : (layout : Layout) (db : Database) (n : ℤ) (es : List spec.EntryRecord) → BeginsWithEntries layout db n es → AllByRecursion (λ (x : spec.EntryRecord). x.edition ≡ n) es
begun_number layout db n es front =
    rows_number layout n front.0 es front.3 (all_append_parts (λ r. equals_number 1 n r ≡ true) front.0 front.1 (all_selected (codes "entry") (2 ∷ []) db n (front.0 ++ front.1) front.2)).0

pub lines_number : (n : ℤ) (edition : ℕ) → n ≡ pos edition → (place : ℕ) (lines : List Line) → AllByRecursion (λ (x : spec.EntryRecord). x.edition ≡ n) (numbered (entry_record edition) place lines)
lines_number n edition is place [] = tt
lines_number n edition is place (line ∷ lines) = (sym is, lines_number n edition is (place + 1) lines)

pub entries_number : (layout : Layout) (db : Database) (n : ℤ) (es : List spec.EntryRecord) → HasEntries layout db n es → AllByRecursion (λ (x : spec.EntryRecord). x.edition ≡ n) es
entries_number Parted db n es (octets, file, is) = subst (AllByRecursion (λ (x : spec.EntryRecord). x.edition ≡ n)) (sym is.entries) (lines_number n is.edition is.is 0 is.lines)
entries_number layout db n es h = rows_number layout n h.0 es h.2 (all_selected (codes "entry") (2 ∷ []) db n h.0 h.1)

-- ---- what is kept

-- what a database keeps of tables, as a layout has it
pub record KeptAs (layout : Layout) (db : Database) (T : Tables) : Type 0 where
  pub orphans : List spec.Part
  pub keeps : KeepsAll layout db (with_derived orphans T)
  pub shown : AreShownIn layout T.entries
  pub records : HasReadableRows layout db
  pub beside : (n : ℤ) (e : spec.EditionRecord) → editions_numbered n T.editions ≡ e ∷ [] → AreBeside orphans T n

-- the number of an edition that the tables have is one of the catalogue's
record_known : (T : Tables) (items : List (Item Edition)) → AllByRecursion (λ (row : spec.EditionRecord). IsTrue (has_number items row.number)) T.editions → (n : ℤ) (e : spec.EditionRecord) → editions_numbered n T.editions ≡ e ∷ []
    → has_number items n ≡ true
record_known T items known n e one =
    let is : same_number e.number n ≡ true = (subst (AllByRecursion (λ (row : spec.EditionRecord). same_number row.number n ≡ true)) one (all_passed (λ (row : spec.EditionRecord). same_number row.number n) T.editions)).0 in
    subst (λ m. has_number items m ≡ true) (same_number_is e.number n is)
    (subst (AllByRecursion (λ (row : spec.EditionRecord). IsTrue (has_number items row.number))) one
    (all_filter (λ (row : spec.EditionRecord). IsTrue (has_number items row.number)) (λ row. same_number row.number n) T.editions known)).0

pub kept_as : (version : ℕ) (db : Database) (members : List spec.Member) (T : Tables) (M : Catalogue) → Keeping version db members T M → KeptAs (layout_of version) db T
kept_as version db members T M K = record {
  orphans = K.orphans;
  keeps = K.keeps;
  shown = K.shown;
  records = K.records;
  beside = (λ n e one. beside_orphans version M K.orphans T n K.beside (record_known T M.items K.stands.numbers n e one));
}

-- the headers of the editions, where their texts stand in parts
pub headers_keep : (db : Database) (o : List spec.Part) (T : Tables) → KeepsAll Parted db (with_derived o T) → Keeps (codes "edition") header_row db (map header_of T.editions)
headers_keep db o T keeps =
    let kept = headers_kept db o T keeps in
    record { rows = subst (λ l. IsPermutation l (map (drop 1) (rows_of (codes "edition") db))) (sym (map_twice header_of header_row T.editions)) kept.rows; apart = kept.apart }

pub find : (version : ℕ) (T : Tables) (M : Catalogue) (n : ℤ) → Stands version T M → has_number M.items n ≡ true → Found T M.items n
find version T M n s known = found_in T M.items n known s.editions s.well_formed.editions

module _ (db : Database) (T : Tables) (items : List (Item Edition)) (n : ℤ) (found : Found T items n) where
  abbrev pub its_record : spec.EditionRecord
  its_record = edition_record found.owner found.stored.number found.holds.reading

  pub only : editions_numbered n T.editions ≡ its_record ∷ []
  only = subst (λ m. editions_numbered m T.editions ≡ its_record ∷ []) found.is found.holds.row

  pub its_lines : entries_of n T.entries ≡ numbered (entry_record found.stored.number) 0 found.holds.reading.lines
  its_lines = subst (λ m. entries_of m T.entries ≡ numbered (entry_record found.stored.number) 0 found.holds.reading.lines) found.is found.holds.entries

  -- ---- the files

  module _ (k : KeptAs Parted db T) where
    its_text : HasFile db n (pos 1) its_record.body
    its_text = has_text db k.orphans T (parts_kept db k.orphans T k.keeps).rows n its_record only found.is (k.beside n its_record only)

    its_index : HasFile db n (pos 0) (index_octets (entries_of n T.entries))
    its_index = has_index db k.orphans T (parts_kept db k.orphans T k.keeps).rows n its_record only found.is (k.beside n its_record only)

  -- ---- the record

  whole_told : Keeps (codes "edition") edition_row db T.editions → (e : spec.EditionRecord) → HasWholeRecord db n e → editions_numbered n T.editions ≡ e ∷ []
  whole_told keeps e r =
      let same = (selected_records edition_codec (codes "edition") db T.editions keeps (equals_number 1 n) (λ row. same_number row.number n) (λ row w e. first_number row (edition_row w) w.number n e refl) (stored_edition r.0 ∷ [])
      r.1.same).0 in
      let is : read edition_codec (stored_edition r.0) ≡ e = read_is edition_codec (stored_edition r.0) (owned_edition r.0.value) refl ∙ sym r.2 in
      one_once e (editions_numbered n T.editions) (subst (λ x. Same (x ∷ []) (editions_numbered n T.editions)) is (same_from (read edition_codec (stored_edition r.0) ∷ []) (editions_numbered n T.editions) (IsPermutation-sym _ _ same)))

  parted_told : KeptAs Parted db T → (e : spec.EditionRecord) → HasRecord Parted db n e → editions_numbered n T.editions ≡ e ∷ []
  parted_told k e (r, text) =
      let same = (selected_records header_codec (codes "edition") db (map header_of T.editions) (headers_keep db k.orphans T k.keeps) (equals_number 1 n) (λ h. same_number h.number n)
      (λ row w e. first_number row (header_row w) w.number n e refl) (stored_header r.0 ∷ []) r.1.same).0 in
      let is : read header_codec (stored_header r.0) ≡ owned_header r.0.value = read_is header_codec (stored_header r.0) (owned_header r.0.value) refl in
      let one : map header_of (editions_numbered n T.editions) ≡ owned_header r.0.value ∷ [] =
      one_once (owned_header r.0.value) (map header_of (editions_numbered n T.editions))
      (subst (λ x. Same (x ∷ []) (map header_of (editions_numbered n T.editions))) is
      (subst (Same (read header_codec (stored_header r.0) ∷ [])) (headers_of n T.editions) (same_from (read header_codec (stored_header r.0) ∷ []) _ (IsPermutation-sym _ _ same)))) in
      let both : header_of its_record ∷ [] ≡ owned_header r.0.value ∷ [] = sym (ap (map header_of) only) ∙ one in
      let head : header_of its_record ≡ header_of e = (let h : header_of its_record ≡ owned_header r.0.value = cc in h) ∙ sym r.2 in
      let body : its_record.body ≡ e.body = file_told db n (pos 1) its_record.body e.body (its_text k) text in
      let whole : its_record ≡ e = λ i. record {
        number = ap (λ (x : spec.HeaderRecord). x.number) head i;
        owner = ap (λ (x : spec.HeaderRecord). x.owner) head i;
        title = ap (λ (x : spec.HeaderRecord). x.title) head i;
        info = ap (λ (x : spec.HeaderRecord). x.info) head i;
        body = body i;
      } in
      only ∙ ap (λ (x : spec.EditionRecord). x ∷ []) whole

  pub edition_told : (layout : Layout) → KeptAs layout db T → (e : spec.EditionRecord) → HasRecord layout db n e → editions_numbered n T.editions ≡ e ∷ []
  edition_told Parted k e r = parted_told k e r
  edition_told layout k e r = whole_told (editions_kept layout db k.orphans T refl k.keeps) e r

  -- ---- the entries

  rows_read : (layout : Layout) → HasEntryTable layout → KeptAs layout db T → (rows : List Row) → IsSelection (codes "entry") (equals_number 1 n) (2 ∷ []) db rows → entries_of n T.entries ≡ map (entry_in layout) rows
  rows_read layout has k rows s =
      let got = entries_selected layout db T.entries (entries_rows layout has db k.orphans T k.keeps.1.1.1.1.1.0) k.shown n rows s.same in
      let up = entries_order layout rows got.1 s.sorted in
      ordered_once (λ (row : spec.EntryRecord). row.ord) (entries_of n T.entries) (map (entry_in layout) rows) (same_from (entries_of n T.entries) (map (entry_in layout) rows) got.0)
      (subst (InOrder (λ (a b : spec.EntryRecord). Below a.ord b.ord)) (sym its_lines) (numbered_rise (entry_record found.stored.number) (λ (row : spec.EntryRecord). row.ord) (λ n x. refl) 0 found.holds.reading.lines)) up

  table_told : (layout : Layout) → HasEntryTable layout → KeptAs layout db T → (es : List spec.EntryRecord) → HasEntryRows layout db n es → entries_of n T.entries ≡ es
  table_told layout has k es h = rows_read layout has k h.0 h.1 ∙ entries_are layout h.0 es h.3 h.2

  -- of an edition of which some entries were read
  pub entries_begun : (layout : Layout) → HasEntryTable layout → KeptAs layout db T → (es : List spec.EntryRecord) → BeginsWithEntries layout db n es → BeginsWith (entries_of n T.entries) es
  entries_begun layout has k es front =
      (map (entry_in layout) front.1, rows_read layout has k (front.0 ++ front.1) front.2 ∙ map-append (entry_in layout) front.0 front.1 ∙ ap (λ l. l ++ map (entry_in layout) front.1) (entries_are layout front.0 es front.4 front.3))

  -- the octets of the index are those of the edition's lines
  pub index_told : KeptAs Parted db T → (octets : List ℕ) → HasFile db n (pos 0) octets → octets ≡ stored_index found.holds.reading.lines
  index_told k octets file =
      file_told db n (pos 0) octets (index_octets (entries_of n T.entries)) file (its_index k)
      ∙ subst (λ m. index_octets (entries_of m T.entries) ≡ stored_index found.holds.reading.lines) found.is (index_is T found.stored.number found.holds.reading.lines found.holds.entries)

  lines_told : KeptAs Parted db T → (es : List spec.EntryRecord) → HasIndexFile db n es → entries_of n T.entries ≡ es
  lines_told k es (octets, file, is) =
      let same : found.stored.number ≡ is.edition = let e : pos found.stored.number ≡ pos is.edition = found.is ∙ is.is in cc in
      let lines : found.holds.reading.lines ≡ is.lines =
      says_one_list found.holds.reading.lines is.lines (storable T found.owner found.stored found.holds found.lawful) is.storable (sym (index_told k octets file) ∙ is.octets_are) in
      its_lines ∙ (λ i. numbered (entry_record (same i)) 0 (lines i)) ∙ sym is.entries

  pub entries_told : (layout : Layout) → KeptAs layout db T → (es : List spec.EntryRecord) → HasEntries layout db n es → entries_of n T.entries ≡ es
  entries_told Parted k es h = lines_told k es h
  entries_told layout k es h = table_told layout tt k es h
