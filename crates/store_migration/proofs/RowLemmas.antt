-- Rows of editions and entries, as they are selected, and what their files are.
use Rattle.std.proofs.Common.{◌≡◌, ◌⊎◌, ℕ, ℤ, Bool, true, false, List, [], ◌∷◌, ◌++◌, map, drop, filter, codes, inl, inr, refl, sym, ap, subst, ◌∙◌, append-nil, append_assoc}
use Rattle.std.specs.Prelude.{flat_map, filter}
use Rattle.std.specs.List.Sorted.{IsPermutation}
use Rattle.std.proofs.lemmas.Bool.{false≢true, cases_Bool}
use Rattle.std.proofs.lemmas.List.{map-append}
use Rattle.std.proofs.lemmas.List.Sorted.{IsPermutation-refl, IsPermutation-map, IsPermutation-sym, IsPermutation-trans, IsPermutation-append_left}
use Rattle.sqlite.specs.Order.{column}
use Rattle.sqlite.specs.declared.types.Value.TheVariants.{Int}
use Rattle.sqlite_trees.proofs.ListLemmas.{IsPermutation-filter}
use Rattle.dict_text.proofs.AllLemmas.{all_filter}
use Rattle.store_tables.specs.Records.{ShowsHeadword}
use Rattle.store_tables.specs.Effects.{same_value}
use Rattle.store_sql.specs.Encodings.{entry_row}
use Rattle.store_older_sql.proofs.NamedLemmas.{ints, ints_back, behind, filter_map}
use Rattle.store_rows.specs.Tables.{Tables, same_number, editions_numbered, entries_of}
use Rattle.store_rows.specs.Written.{entry_record}
use Rattle.store_rows.specs.Order.{InOrder, is_of, editions_of_numbers}
use Rattle.store_rows.proofs.OrderLemmas.{Below, same_from, ordered_once, one_once, numbered_rise}
use Rattle.store_rows.proofs.SelectionLemmas.{editions_more, numbers_more}
use Rattle.store_rows.proofs.TakenLemmas.{same_number_is, same_itself}
use Rattle.store_holdings.specs.Files.{all_parts, edition_parts, index_octets, parts_under}
use Rattle.store_holdings.proofs.FileLemmas.{part_once}
use Rattle.store_sql.specs.Readings.{AreShownIn, shown_row}
use Rattle.store_holdings.proofs.OneLemmas.{both, both_where}
use Rattle.store_sql.proofs.DecodeLemmas.{decode_edition, edition_back, decode_entry, entry_back, decode_shown, shown_back}
use Rattle.store_migration.specs.Older.{older_entry_cells, layout_as, looked_at, form_of}
use Rattle.store_migration.specs.Steps.{AreEntriesOf, IsEditionOf, IsPartedOne, edition_rows, entry_rows, AreParted}
use Rattle.store_migration.specs.declared.older.Older.{Older}
use Rattle.store_migration.specs.declared.older.Older.TheVariants.{Plain, Keyed, Shown}
use Rattle.store_migration.proofs.KitLemmas.{Database, AreAdded, HasApartRowids, equals_number, rows_of, edition, store_defined, apart_none, part, part_defined, entry_table_of, form_defined, Row, EditionRecord, EntryRecord}
use Rattle.store_migration.proofs.KitLemmas.{HeaderRecord, Part, header_of, edition_row, part_row}
use Rattle.store_migration.proofs.NumberLemmas.{AreNumbered, AreFresh}
use Rattle.std.specs.List.{AllByRecursion}
use Rattle.store_tables.specs.declared.tables.StoreTable.TheVariants as store
use Rattle.store_migration.proofs.SpareLemmas.{Owns, added_rows, edition_part, entry_part, own_still, same_entries}

-- ---- rows by the number that stands first

-- a record whose row begins with its number
of_first : {X : Type 0} (key : X → ℤ) (encode : X → Row) → ((x : X) → column (encode x) 0 ≡ Int (key x)) → (n : ℤ) (x : X) → same_number (key x) n ≡ equals_number 0 n (encode x)
of_first key encode first n x = by (cases_Bool (same_number (key x) n))
  where
    by : (same_number (key x) n ≡ true) ⊎ (same_number (key x) n ≡ false) → same_number (key x) n ≡ equals_number 0 n (encode x)
    by (inl hit) = hit ∙ sym (ap (λ v. same_value v (Int n)) (first x) ∙ ap (λ m. same_value (Int m) (Int n)) (same_number_is (key x) n hit) ∙ ints_back n)
    by (inr miss) = miss ∙ sym (none (cases_Bool (equals_number 0 n (encode x))))
      where
        none : (equals_number 0 n (encode x) ≡ true) ⊎ (equals_number 0 n (encode x) ≡ false) → equals_number 0 n (encode x) ≡ false
        none (inl same) =
            absurd (false≢true (sym miss ∙ (ap (λ m. same_number m n) (ints (key x) n (ap (λ v. same_value v (Int n)) (sym (first x)) ∙ same)) ∙ same_itself n)))
        none (inr other) = other

-- of the rows that a table has, those of a number are those of the records that have it
part_of : {X : Type 0} (key : X → ℤ) (encode : X → Row) → ((x : X) → column (encode x) 0 ≡ Int (key x)) → (look : Row → Row) → ((row : Row) → column row 1 ≡ column (look row) 0)
    → (n : ℤ) (xs : List X) (rows : List Row) → IsPermutation (map encode xs) (map look rows) → IsPermutation (map encode (filter (λ x. same_number (key x) n) xs)) (map look (filter (equals_number 1 n) rows))
part_of key encode first look behind n xs rows had =
    let found = IsPermutation-filter (equals_number 0 n) (map encode xs) (map look rows) had in
    subst (λ l. IsPermutation l (map look (filter (equals_number 1 n) rows))) (sym (filter_map encode (λ x. same_number (key x) n) (equals_number 0 n) (of_first key encode first n) xs))
    (subst (IsPermutation (filter (equals_number 0 n) (map encode xs))) (sym (filter_map look (equals_number 1 n) (equals_number 0 n) (λ row. ap (λ v. same_value v (Int n)) (behind row)) rows)) found)

-- ---- what is looked at of the rows of entries

cells_first : (older : Older) (e : EntryRecord) → column (older_entry_cells older e) 0 ≡ Int e.edition
cells_first Plain e = refl
cells_first Keyed e = refl
cells_first Shown e = refl

looked_first : (older : Older) (row : Row) → column row 1 ≡ column (drop 1 (looked_at older row)) 0
looked_first Plain row = behind row 0
looked_first Keyed [] = refl
looked_first Keyed (x ∷ []) = refl
looked_first Keyed (x ∷ y ∷ row) = refl
looked_first Shown [] = refl
looked_first Shown (x ∷ []) = refl
looked_first Shown (x ∷ y ∷ row) = refl

-- two lists of entries that are written as the same cells
same_cells : (older : Older) (xs ys : List EntryRecord) (rows : List Row) → AreShownIn (layout_as older) xs → AreShownIn (layout_as older) ys → IsPermutation (map (older_entry_cells older) xs) rows
    → IsPermutation (map (older_entry_cells older) ys) rows → IsPermutation xs ys
same_cells Plain xs ys rows qx qy a b = both_where ShowsHeadword entry_row decode_entry entry_back xs ys rows qx qy a b
same_cells Keyed xs ys rows qx qy a b = both_where ShowsHeadword entry_row decode_entry entry_back xs ys rows qx qy a b
same_cells Shown xs ys rows qx qy a b = both shown_row decode_shown shown_back xs ys rows a b

some_shown : (older : Older) (p : EntryRecord → Bool) (es : List EntryRecord) → AreShownIn (layout_as older) es → AreShownIn (layout_as older) (filter p es)
some_shown Plain p es shown = all_filter ShowsHeadword p es shown
some_shown Keyed p es shown = all_filter ShowsHeadword p es shown
some_shown Shown p es shown = tt

-- ---- what an older version has of its editions and entries

pub record HasRecordsOf (older : Older) (t : Tables) (db : Database) : Type 0 where
  pub editions : IsPermutation (map edition_row t.editions) (map (drop 1) (rows_of (codes "edition") db))
  pub entries : IsPermutation (map (older_entry_cells older) t.entries) (map (λ row. drop 1 (looked_at older row)) (rows_of (codes "entry") db))
  pub shown : AreShownIn (layout_as older) t.entries

module _ (older : Older) (t : Tables) (db : Database) (has : HasRecordsOf older t db) (n : ℤ) (are : AreNumbered t n) where
  -- the record that was read is that of the edition
  pub edition_is : (edition : EditionRecord) → IsEditionOf n db edition → edition ≡ are.edition
  edition_is edition read =
      let part = part_of (λ (e : EditionRecord). e.number) edition_row (λ e. refl) (drop 1) (λ row. behind row 0) n t.editions (rows_of (codes "edition") db) has.editions in
      let same : IsPermutation (editions_numbered n t.editions) (edition ∷ []) = both edition_row decode_edition edition_back (editions_numbered n t.editions) (edition ∷ []) (map (drop 1) (edition_rows n db)) part read in
      let one : IsPermutation (are.edition ∷ []) (edition ∷ []) = subst (λ l. IsPermutation l (edition ∷ [])) are.one same in
      head_is (one_once are.edition (edition ∷ []) (same_from (are.edition ∷ []) (edition ∷ []) one))
    where
      head_is : edition ∷ [] ≡ are.edition ∷ [] → edition ≡ are.edition
      head_is e = cc

  -- and so are its entries
  pub entries_are : (entries : List EntryRecord) → AreEntriesOf older n db entries → entries ≡ entries_of n t.entries
  entries_are entries read =
      let part = part_of (λ (e : EntryRecord). e.edition) (older_entry_cells older) (cells_first older) (λ row. drop 1 (looked_at older row)) (looked_first older) n t.entries (rows_of (codes "entry") db) has.entries in
      let same : IsPermutation (entries_of n t.entries) entries =
      same_cells older (entries_of n t.entries) entries (map (λ row. drop 1 (looked_at older row)) (entry_rows n db)) (some_shown older (λ (e : EntryRecord). same_number e.edition n) t.entries has.shown) read.shown part read.rows in
      let strict = subst (InOrder (λ (a b : EntryRecord). Below a.ord b.ord)) (sym are.entries) (numbered_rise (entry_record are.number) (λ (e : EntryRecord). e.ord) (λ m line. refl) 0 are.lines) in
      sym (ordered_once (λ (e : EntryRecord). e.ord) (entries_of n t.entries) entries (same_from (entries_of n t.entries) entries same) strict read.order)

-- ---- the parts and the headers of the editions so far

pub record IsFiled (done : List ℤ) (headers : List HeaderRecord) (t : Tables) (db : Database) : Type 0 where
  pub parts : IsPermutation (map part_row (filter (λ (p : Part). is_of done p.edition) (all_parts t))) (map (drop 1) (rows_of (codes "dictcat_part") db))
  pub apart : HasApartRowids (rows_of (codes "dictcat_part") db)
  pub heads : IsPermutation (map header_of (editions_of_numbers done t.editions)) headers

-- rows that are added are those by which what a table is to have has grown
pub grown : (name : List ℕ) (before added after : List Row) (old new : Database) → AreAdded name added old new → IsPermutation before (map (drop 1) (rows_of name old)) → IsPermutation (before ++ added) after
    → IsPermutation after (map (drop 1) (rows_of name new))
grown name before added after old new more had same =
    IsPermutation-trans after (before ++ added) (map (drop 1) (rows_of name new)) (IsPermutation-sym (before ++ added) after same)
    (IsPermutation-trans (before ++ added) (map (drop 1) (rows_of name old) ++ added) (map (drop 1) (rows_of name new)) (IsPermutation-append_left added before (map (drop 1) (rows_of name old)) had) more.rows)

module _ (older : Older) (t : Tables) (old new : Database) (has : HasRecordsOf older t old) (done : List ℤ) (headers : List HeaderRecord) (n : ℤ) (header : HeaderRecord) (fresh : is_of done n ≡ false) (are : AreNumbered t n)
    (one : IsPartedOne older n header old new) where
  those : parts_under n (index_octets one.entries) one.edition.body ≡ edition_parts t.entries are.edition
  those =
      (λ i. parts_under n (index_octets (entries_are older t old has n are one.entries one.lines i)) (edition_is older t old has n are one.edition one.one i).body)
      ∙ ap (λ m. parts_under m (index_octets (entries_of m t.entries)) are.edition.body) (sym are.its)

  parts_more : IsPermutation (filter (λ (p : Part). is_of (done ++ n ∷ []) p.edition) (all_parts t)) (filter (λ (p : Part). is_of done p.edition) (all_parts t) ++ edition_parts t.entries are.edition)
  parts_more =
      let its_parts = part_once t n ∙ ap (flat_map (edition_parts t.entries)) are.one ∙ append-nil (edition_parts t.entries are.edition) in
      numbers_more (λ (p : Part). p.edition) done n (all_parts t) (filter (λ (p : Part). is_of done p.edition) (all_parts t)) (edition_parts t.entries are.edition) fresh
      (IsPermutation-refl _) (subst (IsPermutation (filter (λ (p : Part). same_number p.edition n) (all_parts t))) its_parts (IsPermutation-refl _))

  heads_more : IsPermutation (editions_of_numbers (done ++ n ∷ []) t.editions) (editions_of_numbers done t.editions ++ are.edition ∷ [])
  heads_more =
      editions_more done n t.editions (editions_of_numbers done t.editions) (are.edition ∷ []) fresh
      (IsPermutation-refl _) (subst (IsPermutation (editions_numbered n t.editions)) are.one (IsPermutation-refl _))

  pub filed_more : IsFiled done headers t old → IsFiled (done ++ n ∷ []) (headers ++ header ∷ []) t new
  filed_more k =
      let before = map part_row (filter (λ (p : Part). is_of done p.edition) (all_parts t)) in
      let added = map part_row (edition_parts t.entries are.edition) in
      let after = map part_row (filter (λ (p : Part). is_of (done ++ n ∷ []) p.edition) (all_parts t)) in
      let put = subst (λ l. AreAdded (codes "dictcat_part") (map part_row l) old new) those one.added in
      let joined : IsPermutation (before ++ added) after =
      IsPermutation-sym after (before ++ added)
      (subst (IsPermutation after) (map-append part_row (filter (λ (p : Part). is_of done p.edition) (all_parts t)) (edition_parts t.entries are.edition)) (IsPermutation-map part_row _ _ parts_more)) in
      let heads = map header_of (editions_of_numbers done t.editions) in
      let all_heads = map header_of (editions_of_numbers (done ++ n ∷ []) t.editions) in
      let both_heads : IsPermutation all_heads (heads ++ header_of are.edition ∷ []) =
      subst (IsPermutation all_heads) (map-append header_of (editions_of_numbers done t.editions) (are.edition ∷ [])) (IsPermutation-map header_of _ _ heads_more) in
      record {
        parts = grown (codes "dictcat_part") before added after old new put k.parts joined;
        apart = put.apart k.apart;
        heads = subst (λ h. IsPermutation all_heads (headers ++ h ∷ [])) (sym (one.header_is ∙ ap header_of (edition_is older t old has n are one.edition one.one)))
            (IsPermutation-trans all_heads (heads ++ header_of are.edition ∷ []) (headers ++ header_of are.edition ∷ []) both_heads (IsPermutation-append_left (header_of are.edition ∷ []) heads headers k.heads));
      }

-- ---- the files of the editions are put in, one edition after the other

module _ (older : Older) (t : Tables) where
  pub records_same : (old new : Database) → rows_of (codes "edition") new ≡ rows_of (codes "edition") old → rows_of (codes "entry") new ≡ rows_of (codes "entry") old → HasRecordsOf older t old → HasRecordsOf older t new
  records_same old new one two has = record {
    editions = subst (λ l. IsPermutation (map edition_row t.editions) (map (drop 1) l)) (sym one) has.editions;
    entries = subst (λ l. IsPermutation (map (older_entry_cells older) t.entries) (map (λ row. drop 1 (looked_at older row)) l)) (sym two) has.entries;
    shown = has.shown;
  }

  one_still : (n : ℤ) (header : HeaderRecord) (old new : Database) → Owns older old → IsPartedOne older n header old new → HasRecordsOf older t old → HasRecordsOf older t new
  one_still n header old new own one has =
      records_same old new (added_rows part part_defined edition (store_defined store.Edition) edition_part _ old new one.added own.parts own.editions)
      (subst (λ name. rows_of name new ≡ rows_of name old) (same_entries (form_of older))
      (added_rows part part_defined (entry_table_of (form_of older)) (form_defined (form_of older)) (entry_part (form_of older)) _ old new one.added own.parts own.entries)) has

  owns_still : (n : ℤ) (header : HeaderRecord) (old new : Database) → IsPartedOne older n header old new → Owns older old → Owns older new
  owns_still n header old new one own = record {
    editions = own_still edition old new one.added.schema own.editions;
    entries = own_still (entry_table_of (form_of older)) old new one.added.schema own.entries;
    parts = own_still part old new one.added.schema own.parts;
  }

  pub all_filed : (ns done : List ℤ) (before headers : List HeaderRecord) (old new : Database) → AreFresh done ns → AllByRecursion (AreNumbered t) ns → Owns older old → AreParted older ns headers old new
      → HasRecordsOf older t old → IsFiled done before t old → IsFiled (done ++ ns) (before ++ headers) t new
  all_filed [] done before headers old new fresh are own h has k =
      subst (λ hs. IsFiled (done ++ []) (before ++ hs) t new) (sym h.0)
      (subst (λ l. IsFiled l (before ++ []) t new) (sym (append-nil done)) (subst (λ hs. IsFiled done hs t new) (sym (append-nil before)) (subst (IsFiled done before t) (sym h.1) k)))
  all_filed (n ∷ ns) done before headers old new fresh are own h has k =
      let mid = h.0 in
      let header = h.1 in
      let rest = h.2 in
      let one = h.4 in
      let next = filed_more older t old mid has done before n header fresh.0 are.0 one k in
      let later = all_filed ns (done ++ n ∷ []) (before ++ header ∷ []) rest mid new fresh.1 are.1 (owns_still n header old mid one own) h.5 (one_still n header old mid own one has) next in
      subst (λ hs. IsFiled (done ++ n ∷ ns) (before ++ hs) t new) (sym h.3)
      (subst (λ l. IsFiled l (before ++ header ∷ rest) t new) (append_assoc done (n ∷ []) ns) (subst (λ hs. IsFiled ((done ++ n ∷ []) ++ ns) hs t new) (append_assoc before (header ∷ []) rest) later))

-- nothing is put in yet
no_part : (ps : List Part) → filter (λ (p : Part). is_of [] p.edition) ps ≡ []
no_part [] = refl
no_part (p ∷ ps) = no_part ps

no_edition : (es : List EditionRecord) → editions_of_numbers [] es ≡ []
no_edition [] = refl
no_edition (e ∷ es) = no_edition es

pub none_filed : (t : Tables) (db : Database) → rows_of (codes "dictcat_part") db ≡ [] → IsFiled [] [] t db
none_filed t db empty = record {
  parts = subst (λ l. IsPermutation (map part_row l) (map (drop 1) (rows_of (codes "dictcat_part") db))) (sym (no_part (all_parts t))) (subst (λ l. IsPermutation [] (map (drop 1) l)) (sym empty) (IsPermutation-refl []));
  apart = subst HasApartRowids (sym empty) apart_none;
  heads = subst (λ l. IsPermutation (map header_of l) []) (sym (no_edition t.editions)) (IsPermutation-refl []);
}
