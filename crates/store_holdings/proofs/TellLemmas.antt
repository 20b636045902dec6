-- The parts of files tell the records.
use Rattle.std.proofs.Common.{◌≡◌, ℕ, ℤ, pos, ◌+◌, ◌<◌, ◌^◌, Bool, true, false, cond, List, [], ◌∷◌, ◌++◌, length, map, refl, ap, sym, subst, ◌∙◌, append-nil, inl}
use Rattle.std.specs.Prelude.{◌≤ℤ◌, filter, flat_map, IsTrue}
use Rattle.std.specs.List.{AllByRecursion, concat}
use Rattle.std.proofs.lemmas.List.Elements.{filter-append}
use Rattle.std.specs.List.Sorted.{IsPermutation}
use Rattle.std.proofs.lemmas.List.Sorted.{IsPermutation-refl}
use Rattle.dict_text.proofs.AllLemmas.{all_weaker, all_map, all_unmapped}
use Rattle.store_tables.specs.Records.{EditionRecord, EntryRecord, HeaderRecord, Part, header_of}
use Rattle.dict_index.specs.Edition.{Edition as AnEdition, entry_in}
use Rattle.dict_index.specs.Line.{Line}
use Rattle.dict_index.specs.WellFormed.{IsWellFormedEdition, IsWellFormedEntry}
use Rattle.dict_catalogue.specs.Items.{Stored, Item, name_of, editions_of}
use Rattle.dict_catalogue.specs.Steps.{Catalogue}
use Rattle.dict_catalogue.specs.WellFormed.{HasWellFormedEditions}
use Rattle.store_rows.specs.Stored.{IsStorable, stored_index}
use Rattle.store_rows.specs.Parts.{parts_of}
use Rattle.store_rows.specs.Tables.{Tables, same_number, entries_of, editions_numbered}
use Rattle.store_rows.specs.Written.{numbered, edition_record, entry_record}
use Rattle.store_rows.specs.Stands.{HoldsEdition, HoldsEditions, IsWithin, has_number, Stands}
use Rattle.store_rows.specs.Order.{InOrder}
use Rattle.store_rows.proofs.ListLemmas.{each_numbered}
use Rattle.store_rows.proofs.IndexLemmas.{says_one_list}
use Rattle.store_rows.proofs.StoredLemmas.{of_entries}
use Rattle.store_rows.proofs.PartLemmas.{parts_join}
use Rattle.store_rows.proofs.EntryLemmas.{lines_lawful}
use Rattle.store_rows.proofs.FoundLemmas.{Found, found_in}
use Rattle.store_rows.proofs.LawfulLemmas.{pos_same}
use Rattle.store_rows.proofs.OnceLemmas.{catalogue_same}
use Rattle.store_rows.proofs.OrderLemmas.{IsIn, Same, Below, in_all, in_passed, same_from, same_passed, one_once, ordered_once, numbered_rise, all_with, all_same, ordered_stands}
use Rattle.store_holdings.specs.Files.{parts_under, edition_parts, all_parts, index_octets}
use Rattle.store_rows.specs.FileParts.{part_at, file_parts}
use Rattle.store_holdings.specs.Holds.{AreOrphans}
use Rattle.store_holdings.specs.Told.{HaveSameFiles}
use Rattle.store_holdings.proofs.FileLemmas.{passes, part_once, lines_back}
use Rattle.store_holdings.proofs.OrphanLemmas.{beside_orphans}
use Rattle.store_holdings.proofs.RowLemmas.{filter_map}
use Rattle.store_rows.proofs.RiseLemmas.{order_weaker, ordered}

-- ---- one file of an edition

-- its parts pass the test of their file
of_file : (edition file one : ℤ) (b : Bool) → same_number file one ≡ b → (n : ℕ) (os : List (List ℕ)) → filter (λ (p : Part). same_number p.file one) (numbered (part_at edition file) n os) ≡ cond b (numbered (part_at edition file) n os) []
of_file edition file one b e n os =
    passes (λ (p : Part). same_number p.file one) b (numbered (part_at edition file) n os) (each_numbered (part_at edition file) (λ (p : Part). same_number p.file one ≡ b) (λ n o. e) n os)

pub index_under : (edition : ℤ) (index text : List ℕ) → filter (λ (p : Part). same_number p.file (pos 0)) (parts_under edition index text) ≡ file_parts edition (pos 0) index
index_under edition index text =
    filter-append (λ (p : Part). same_number p.file (pos 0)) (file_parts edition (pos 0) index) (file_parts edition (pos 1) text)
    ∙ (λ i. of_file edition (pos 0) (pos 0) true refl 0 (parts_of index) i ++ of_file edition (pos 1) (pos 0) false refl 0 (parts_of text) i)
    ∙ append-nil (file_parts edition (pos 0) index)

pub text_under : (edition : ℤ) (index text : List ℕ) → filter (λ (p : Part). same_number p.file (pos 1)) (parts_under edition index text) ≡ file_parts edition (pos 1) text
text_under edition index text =
    filter-append (λ (p : Part). same_number p.file (pos 1)) (file_parts edition (pos 0) index) (file_parts edition (pos 1) text)
    ∙ (λ i. of_file edition (pos 0) (pos 1) false refl 0 (parts_of index) i ++ of_file edition (pos 1) (pos 1) true refl 0 (parts_of text) i)

octets_back : (edition file : ℤ) (n : ℕ) (os : List (List ℕ)) → map (λ (p : Part). p.octets) (numbered (part_at edition file) n os) ≡ os
octets_back edition file n [] = refl
octets_back edition file n (o ∷ os) = ap (λ l. o ∷ l) (octets_back edition file (n + 1) os)

-- the same parts of a file are those of one file
file_once : (edition file : ℤ) (x y : List ℕ) → Same (file_parts edition file x) (file_parts edition file y) → x ≡ y
file_once edition file x y same =
    let rise : (os : List (List ℕ)) → InOrder (λ (a b : Part). Below a.number b.number) (numbered (part_at edition file) 0 os) = λ os. numbered_rise (part_at edition file) (λ (p : Part). p.number) (λ n o. refl) 0 os in
    let parts : file_parts edition file x ≡ file_parts edition file y =
    ordered_once (λ (p : Part). p.number) (file_parts edition file x) (file_parts edition file y) same (rise (parts_of x))
    (order_weaker (λ (a b : Part). Below a.number b.number) (λ (a b : Part). a.number ≤ℤ b.number) (λ a b below. below.0) (file_parts edition file y) (rise (parts_of y))) in
    let octets : parts_of x ≡ parts_of y = sym (octets_back edition file 0 (parts_of x)) ∙ ap (map (λ (p : Part). p.octets)) parts ∙ octets_back edition file 0 (parts_of y) in
    sym (parts_join x) ∙ ap concat octets ∙ parts_join y

-- ---- the record of an edition

headers_of : (number : ℤ) (es : List EditionRecord) → filter (λ (h : HeaderRecord). same_number h.number number) (map header_of es) ≡ map header_of (editions_numbered number es)
headers_of number es = filter_map header_of (λ (e : EditionRecord). same_number e.number number) (λ (h : HeaderRecord). same_number h.number number) (λ e. refl) es

one_of_map : {X Y : Type 0} (f : X → Y) (xs : List X) (y : Y) → map f xs ≡ y ∷ [] → (x : X) × (xs ≡ x ∷ []) × (f x ≡ y)
one_of_map f [] y e = absurd (cc)
one_of_map f (x ∷ []) y e = (x, refl, let same : f x ≡ y = cc in same)
one_of_map f (x ∷ z ∷ xs) y e = absurd (cc)

-- the parts of a number of which there is one record
parts_of_one : (t : Tables) (number : ℤ) (e : EditionRecord) → editions_numbered number t.editions ≡ e ∷ [] → filter (λ (p : Part). same_number p.edition number) (all_parts t) ≡ edition_parts t.entries e
parts_of_one t number e one = part_once t number ∙ ap (flat_map (edition_parts t.entries)) one ∙ append-nil (edition_parts t.entries e)

-- the index of a number is that of its lines
index_is : (t : Tables) (number : ℕ) (lines : List Line) → entries_of (pos number) t.entries ≡ numbered (entry_record number) 0 lines → index_octets (entries_of (pos number) t.entries) ≡ stored_index lines
index_is t number lines is = ap index_octets is ∙ ap stored_index (lines_back number 0 lines)

all_storable : (text : List ℕ) (lines : List Line) → length text < 64 ^ 6 → AllByRecursion (λ line. IsWithin text line × IsWellFormedEntry (entry_in text line)) lines → AllByRecursion IsStorable lines
all_storable text lines short h = all_weaker (λ line. IsWithin text line × IsWellFormedEntry (entry_in text line)) IsStorable (λ line both. of_entries text line short both.0 both.1) lines h

pub storable : (t : Tables) (owner : List ℕ) (stored : Stored AnEdition) (h : HoldsEdition t owner stored) → IsWellFormedEdition stored.content → AllByRecursion IsStorable h.reading.lines
storable t owner stored h lawful =
    all_storable h.reading.text h.reading.lines h.short (lines_lawful h.reading.text h.reading.lines h.within (subst IsWellFormedEdition h.says lawful).entries)

-- ---- what the tables have of an edition that they hold

pub file_told : (edition file : ℤ) (x y : List ℕ) → IsPermutation (file_parts edition file x) (file_parts edition file y) → x ≡ y
file_told edition file x y same = file_once edition file x y (same_from (file_parts edition file x) (file_parts edition file y) same)

pub parts_held : (t : Tables) (owner : List ℕ) (stored : Stored AnEdition) (h : HoldsEdition t owner stored)
    → filter (λ (p : Part). same_number p.edition (pos stored.number)) (all_parts t) ≡ parts_under (pos stored.number) (stored_index h.reading.lines) h.reading.text
parts_held t owner stored h =
    parts_of_one t (pos stored.number) (edition_record owner stored.number h.reading) h.row
    ∙ ap (λ octets. parts_under (pos stored.number) octets h.reading.text) (index_is t stored.number h.reading.lines h.entries)

module _ (version : ℕ) (o p : List Part) (a b : Tables) (M N : Catalogue) (same : HaveSameFiles o p a b) (orphans_a : AreOrphans version M o) (orphans_b : AreOrphans version N p) (sa : Stands version a M)
    (sb : Stands version b N) where
  -- one record of the number is there, with the same header and the same files
  edition_told : (owner : List ℕ) (stored : Stored AnEdition) → HoldsEdition a owner stored → IsWellFormedEdition stored.content → HoldsEdition b owner stored
  edition_told owner stored h lawful =
      let number = pos stored.number in
      let mine : EditionRecord = edition_record owner stored.number h.reading in
      let headers : Same (map header_of (editions_numbered number a.editions)) (map header_of (editions_numbered number b.editions)) =
      subst (λ l. Same l (map header_of (editions_numbered number b.editions))) (headers_of number a.editions)
      (subst (Same (filter (λ (x : HeaderRecord). same_number x.number number) (map header_of a.editions))) (headers_of number b.editions)
      (same_passed (λ (x : HeaderRecord). same_number x.number number) (map header_of a.editions) (map header_of b.editions) (same_from (map header_of a.editions) (map header_of b.editions) same.headers))) in
      let header : map header_of (editions_numbered number b.editions) ≡ header_of mine ∷ [] = one_once (header_of mine) _ (subst (λ l. Same (map header_of l) (map header_of (editions_numbered number b.editions))) h.row headers) in
      let found = one_of_map header_of (editions_numbered number b.editions) (header_of mine) header in
      let theirs : EditionRecord = found.0 in
      let at : theirs.number ≡ number = ap (λ (x : HeaderRecord). x.number) found.2 in
      let there : IsIn mine a.editions = (in_passed (λ (r : EditionRecord). same_number r.number number) mine a.editions (subst (IsIn mine) (sym h.row) (inl refl))).0 in
      let here : IsIn theirs b.editions = (in_passed (λ (r : EditionRecord). same_number r.number number) theirs b.editions (subst (IsIn theirs) (sym found.1) (inl refl))).0 in
      let known_a : has_number M.items number ≡ true = in_all (λ (r : EditionRecord). IsTrue (has_number M.items r.number)) mine a.editions sa.numbers there in
      let known : has_number N.items number ≡ true = subst (λ n. has_number N.items n ≡ true) at (in_all (λ (r : EditionRecord). IsTrue (has_number N.items r.number)) theirs b.editions sb.numbers here) in
      let parts : Same (edition_parts a.entries mine) (edition_parts b.entries theirs) =
      subst (λ l. Same l (edition_parts b.entries theirs)) (beside_orphans version M o a number orphans_a known_a ∙ parts_of_one a number mine h.row)
      (subst (Same (filter (λ (r : Part). same_number r.edition number) (o ++ all_parts a))) (beside_orphans version N p b number orphans_b known ∙ parts_of_one b number theirs found.1)
      (same_passed (λ (r : Part). same_number r.edition number) (o ++ all_parts a) (p ++ all_parts b) (same_from (o ++ all_parts a) (p ++ all_parts b) same.parts))) in
      let index_a = index_octets (entries_of number a.entries) in
      let index_b = index_octets (entries_of number b.entries) in
      let parts_at : Same (parts_under number index_a h.reading.text) (parts_under number index_b theirs.body) =
      subst (λ n. Same (parts_under number index_a h.reading.text) (parts_under n (index_octets (entries_of n b.entries)) theirs.body)) at parts in
      let indexes : Same (file_parts number (pos 0) index_a) (file_parts number (pos 0) index_b) =
      subst (λ l. Same l (file_parts number (pos 0) index_b)) (index_under number index_a h.reading.text)
      (subst (Same (filter (λ (p : Part). same_number p.file (pos 0)) (parts_under number index_a h.reading.text))) (index_under number index_b theirs.body)
      (same_passed (λ (p : Part). same_number p.file (pos 0)) (parts_under number index_a h.reading.text) (parts_under number index_b theirs.body) parts_at)) in
      let texts : Same (file_parts number (pos 1) h.reading.text) (file_parts number (pos 1) theirs.body) =
      subst (λ l. Same l (file_parts number (pos 1) theirs.body)) (text_under number index_a h.reading.text)
      (subst (Same (filter (λ (p : Part). same_number p.file (pos 1)) (parts_under number index_a h.reading.text))) (text_under number index_b theirs.body)
      (same_passed (λ (p : Part). same_number p.file (pos 1)) (parts_under number index_a h.reading.text) (parts_under number index_b theirs.body) parts_at)) in
      let index : index_a ≡ index_b = file_once number (pos 0) index_a index_b indexes in
      let text : h.reading.text ≡ theirs.body = file_once number (pos 1) h.reading.text theirs.body texts in
      let other : Found b N.items number = found_in b N.items number known sb.editions sb.well_formed.editions in
      let n : other.stored.number ≡ stored.number = pos_same _ _ other.is in
      let lines_b = other.holds.reading.lines in
      let entries_b : entries_of number b.entries ≡ numbered (entry_record stored.number) 0 lines_b =
      subst (λ (k : ℕ). entries_of (pos k) b.entries ≡ numbered (entry_record k) 0 lines_b) n other.holds.entries in
      let lines : h.reading.lines ≡ lines_b =
      says_one_list h.reading.lines lines_b (storable a owner stored h lawful) (storable b other.owner other.stored other.holds other.lawful)
      (sym (index_is a stored.number h.reading.lines h.entries) ∙ index ∙ index_is b stored.number lines_b entries_b) in
      let whole : theirs ≡ mine = λ i. record {
        number = ap (λ (x : HeaderRecord). x.number) found.2 i;
        owner = ap (λ (x : HeaderRecord). x.owner) found.2 i;
        title = ap (λ (x : HeaderRecord). x.title) found.2 i;
        info = ap (λ (x : HeaderRecord). x.info) found.2 i;
        body = sym text i;
      } in
      record {
        reading = h.reading;
        says = h.says;
        short = h.short;
        within = h.within;
        row = found.1 ∙ ap (λ (e : EditionRecord). e ∷ []) whole;
        entries = entries_b ∙ ap (numbered (entry_record stored.number) 0) (sym lines);
      }

  item_told : (item : Item AnEdition) → HoldsEditions a item → HasWellFormedEditions item → HoldsEditions b item
  item_told item h lawful = all_with (HoldsEdition a (name_of item)) (λ stored. IsWellFormedEdition stored.content) (HoldsEdition b (name_of item)) (edition_told (name_of item)) (editions_of item) h lawful

  numbers_told : AllByRecursion (λ (row : EditionRecord). IsTrue (has_number M.items row.number)) b.editions
  numbers_told =
      all_unmapped (λ (x : HeaderRecord). IsTrue (has_number M.items x.number)) header_of b.editions
      (all_same (λ (x : HeaderRecord). IsTrue (has_number M.items x.number)) (map header_of a.editions) (map header_of b.editions) same.headers
      (all_map (λ (e : EditionRecord). IsTrue (has_number M.items e.number)) (λ (x : HeaderRecord). IsTrue (has_number M.items x.number)) header_of (λ e k. k) a.editions sa.numbers))

  number_told : (number : ℤ) → has_number N.items number ≡ true → has_number M.items number ≡ true
  number_told number known =
      let other : Found b N.items number = found_in b N.items number known sb.editions sb.well_formed.editions in
      let row : EditionRecord = edition_record other.owner other.stored.number other.holds.reading in
      let here : IsIn row b.editions = (in_passed (λ (r : EditionRecord). same_number r.number (pos other.stored.number)) row b.editions (subst (IsIn row) (sym other.holds.row) (inl refl))).0 in
      subst (λ n. has_number M.items n ≡ true) other.is (in_all (λ (r : EditionRecord). IsTrue (has_number M.items r.number)) row b.editions numbers_told here)

  -- the records but for editions and entries
  abbrev between : Tables
  between = record b { editions = a.editions; entries = a.entries }

  between_stands : Stands version between M
  between_stands = ordered_stands version a between M
      (record { marks = same.marks; items = same.items; members = same.members; editions = IsPermutation-refl a.editions; entries = IsPermutation-refl a.entries; kept = same.kept })
      (record { items = (ordered version b N sb).items; members = (ordered version b N sb).members; entries = (ordered version a M sa).entries; kept = (ordered version b N sb).kept })
      sa

  told_stands : Stands version b M
  told_stands = record {
    well_formed = sa.well_formed;
    marks = between_stands.marks;
    items = between_stands.items;
    members = between_stands.members;
    owners = between_stands.owners;
    editions = all_with (HoldsEditions a) HasWellFormedEditions (HoldsEditions b) item_told M.items sa.editions sa.well_formed.editions;
    numbers = numbers_told;
    entries = all_weaker (λ (row : EntryRecord). IsTrue (has_number N.items row.edition)) (λ (row : EntryRecord). IsTrue (has_number M.items row.edition)) (λ row k. number_told row.edition k) b.entries sb.entries;
    kept = between_stands.kept;
  }

  pub told_once : M ≡ N
  told_once = catalogue_same version b M N told_stands sb
