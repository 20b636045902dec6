-- What is found wrong with a table, and that then no catalogue is held.
use Rattle.std.proofs.Common.{◌≡◌, ◌⊎◌, ℕ, ◌+◌, ℤ, ◌≤◌, pos, Bool, true, false, ◌||◌, ◌&&◌, ◌==◌, List, [], ◌∷◌, ◌++◌, map, drop, codes, inl, inr, refl, sym, ap, subst, ◌∙◌, arith, String}
use Rattle.std.specs.Prelude.{cond, not, nat_le, length, bytes_eq, ◌≤ℤ◌, IsTrue}
use Rattle.std.specs.List.{AllByRecursion, list_any, list_all}
use Rattle.std.specs.List.Sorted.{IsPermutation}
use Rattle.std.specs.Ordering.{is_lt, ordering_then, ordering_reverse}
use Rattle.std.specs.declared.cmp.Ordering.{Ordering}
use Rattle.std.specs.declared.cmp.Ordering.TheVariants.{Less, Equal, Greater}
use Rattle.std.proofs.lemmas.Bool.{false≢true, and_parts, or_parts, not-true}
use Rattle.std.proofs.Math.Bool.{or-true}
use Rattle.std.proofs.lemmas.Bool.Decides.{nat_tests}
use Rattle.std.proofs.lemmas.List.{map-append}
use Rattle.std.proofs.lemmas.List.Sorted.{IsPermutation-refl, IsPermutation-map, IsPermutation-sym, IsPermutation-trans}
use Rattle.std.proofs.lemmas.Map.Lookups.{exact_bytes}
use Rattle.sqlite.specs.Effect.{Database}
use Rattle.sqlite.specs.Order.{Row, column, value_cmp}
use Rattle.sqlite.specs.declared.types.Value.TheVariants.{Int, Text}
use Rattle.sqlite_value.proofs.OrderLemmas.{value_cmp-Text, then-Equal}
use Rattle.dict_text.proofs.AllLemmas.{all_append, all_weaker, all_flat_map, all_map}
use Rattle.store_tables.specs.Tables.{table_of}
use Rattle.store_tables.specs.declared.tables.StoreTable.{StoreTable}
use Rattle.store_tables.specs.Records as spec
use Rattle.store_tables.specs.Records.{header_of}
use Rattle.store_tables.specs.Typed.{owned_member, owned_kept}
use Rattle.store_tables.specs.declared.records as typed
use Rattle.store_tables.specs.declared.records.StoredRow.{StoredRow as Beside}
use Rattle.std.specs.declared.alloc.Global.{Global}
use Rattle.store_sql.specs.Columns.{Content, HasColumns, kept_columns}
use Rattle.store_tables.specs.Effects.{HasApartRowids, rows_of, same_value, equals_number}
use Rattle.store_sql.specs.Encodings.{stored_mark, stored_item, stored_member, stored_kept, member_row, edition_row}
use Rattle.store_sql.specs.Reads.{IsListing, by_columns}
use Rattle.store_sql.specs.Streams.Scan.{AllKept, KeptById, ByRowid}
use Rattle.store_tables.proofs.KitLemmas.{value_cmp_total}
use Rattle.store_sql.specs.HeaderRecords.{header_row}
use Rattle.store_sql.specs.PartRecords.{part_row}
use Rattle.dict_catalogue.specs.Items.{Item, edition_numbers}
use Rattle.dict_catalogue.specs.Steps.{Catalogue}
use Rattle.dict_catalogue.specs.WellFormed.{total, IsEachOnce}
use Rattle.dict_catalogue.proofs.ListLemmas.{sum_append}
use Rattle.store_rows.specs.Parts.{parts_of as parts_of_octets}
use Rattle.store_rows.specs.Tables.{Tables, same_number, entries_of}
use Rattle.store_rows.specs.Tests.{has_numbers_once, has_lawful_numbers, has_lawful_items, is_lawful_item, has_names_once, has_known_members, is_from_one_to}
use Rattle.store_rows.specs.Given.{marks_given, items_given, members_given, kept_given}
use Rattle.store_rows.specs.Order.{InOrder, is_of}
use Rattle.store_rows.specs.Stands.{Stands, has_number}
use Rattle.store_rows.specs.Taken.{HasTaken, StandsForNone, begun, items_in}
use Rattle.store_rows.specs.Versions.{Layout, Parted, layout_of}
use Rattle.store_rows.specs.Whole.{with_replies}
use Rattle.store_rows.specs.Written.{numbered}
use Rattle.store_rows.specs.declared.reader.Reader.{Reader}
use Rattle.store_rows.proofs.ApartLemmas.{neighbours_apart, apart_once}
use Rattle.store_rows.proofs.LawfulLemmas.{once_true}
use Rattle.store_rows.proofs.FinishLemmas.{ids_same}
use Rattle.store_rows.proofs.OrderLemmas.{ordered_stands, Same, same_from, all_same}
use Rattle.store_rows.proofs.StrayLemmas.{numbers_taken}
use Rattle.store_rows.proofs.TakenLemmas.{same_itself}
use Rattle.store_holdings.specs.AllTables.{with_derived}
use Rattle.store_holdings.specs.Files.{parts_under, edition_parts, all_parts, index_octets}
use Rattle.store_rows.specs.FileParts.{part_at, file_parts}
use Rattle.store_holdings.specs.Holds.{AreOrphans}
use Rattle.store_sql.specs.Readings.{Keeps}
use Rattle.store_sql.specs.Readings.{KeepsRows, KeepsAll, editions, contents, table_name_of}
use Rattle.store_sql.proofs.ReadLemmas.{sorted_order, second_le, records_order}
use Rattle.store_rows.proofs.RiseLemmas.{ordered}
use Rattle.store_holdings.proofs.ReadableLemmas.{held_readable}
use Rattle.store_holdings.proofs.ReadingLemmas.{map_twice, members_kept, replies_kept, parts_kept}
use Rattle.store_scans.specs.Census.{one_of, may_stand, may_be_in_contents, AreKnownApart}
use Rattle.store_scans.specs.Cursors.{InStore}
use Rattle.store_scans.specs.Entries.{looked_behind_rowid, entry_cells}
use Rattle.store_scans.specs.Scans.{HasNoRecordIn, IsWrong}
use Rattle.store_scans.specs.Takers.{KeptRow, ids_given, HasIdsApart, HasIdTwice, refuses_replies}
use Rattle.store_scans.proofs.CodecLemmas.{Codec, read, read_stored, stored_rows, listed_records, member_codec, kept_codec, mark_codec, item_codec}
use Rattle.store_scans.proofs.CensusLemmas.{known_row}
use Rattle.store_scans.proofs.NumberLemmas.{behind_column, same_int}
use Rattle.store_scans.proofs.RowidLemmas.{all_of_map}
use Rattle.store_opening.specs.Opens.{Keeping, KeepsNone, AllGoOnFrom, HoldsNoneAs, HasBegun, CanRead, AreReadableEditions, AreAllKnown, may_have_orphans, numbers_in}
use Rattle.store_opening.proofs.EntryLemmas.{HasEntryTable, entries_rows, each_row, number_is}
use Rattle.store_opening.proofs.FitLemmas.{front_read, fits_begun, fits_replies, none_kept}
use Rattle.store_scans.proofs.PlaceLemmas.{last_holds}
use Rattle.store_opening.proofs.PartLemmas.{numbered_row, numbers_is}
use Rattle.store_opening.proofs.OrphanLemmas.{some_since}
use Rattle.store_opening.proofs.ToldLemmas.{KeptAs, kept_as}

-- ---- rowids

pub wrong_rowids : {R : Type 0} (stored : R → Row) (columns : List Content) (table : StoreTable) (db later : Database) → later ≡ db → AllByRecursion (HasColumns columns) (rows_of (table_of table 0).name db)
    → HasApartRowids (rows_of (table_of table 0).name db) →
    HasNoRecordIn stored columns (InStore (ByRowid table)) later ⊎ (HasApartRowids (rows_of (table_of table 0).name later) → ⊥) → ⊥
wrong_rowids stored columns table db later same all apart wrong = split (subst (λ (d : Database). HasNoRecordIn stored columns (InStore (ByRowid table)) d ⊎ (HasApartRowids (rows_of (table_of table 0).name d) → ⊥)) same wrong)
  where
    split : HasNoRecordIn stored columns (InStore (ByRowid table)) db ⊎ (HasApartRowids (rows_of (table_of table 0).name db) → ⊥) → ⊥
    split (inl w) = w.3 (last_holds (HasColumns columns) (rows_of (table_of table 0).name db) (map stored w.0) w.2.0 w.1 all w.2.1.same)
    split (inr w) = w apart

-- ---- the mark, the items and the members

pub rows_listed : {R W : Type 0} (k : Codec R W) (name columns : List ℕ) (db : Database) (given : List R) → IsListing name columns db (map k.stored given) → IsPermutation (map k.encode (map k.owned given)) (map (drop 1) (rows_of name db))
rows_listed k name columns db given l = subst (λ xs. IsPermutation xs (map (drop 1) (rows_of name db))) (stored_rows k given) (IsPermutation-map (drop 1) _ _ (IsPermutation-sym _ _ l.same))

abbrev MemberRow : Type 0
MemberRow = Beside (typed.Member.Member (String Global))

members_order : (db : Database) (rows : List MemberRow) → IsListing (codes "member") (1 ∷ 2 ∷ []) db (map stored_member rows) → InOrder (λ (a b : spec.Member). a.owner ≡ b.owner → a.ord ≤ℤ b.ord) (members_given rows)
members_order db rows h =
    records_order stored_member (λ (row : MemberRow). owned_member row.value) (λ (a b : Row). is_lt (by_columns (1 ∷ 2 ∷ []) b a) ≡ false) (λ (a b : spec.Member). a.owner ≡ b.owner → a.ord ≤ℤ b.ord)
    (λ a b r same. second_le (owned_member a.value).owner (owned_member b.value).owner a.value.ord b.value.ord same r) rows (sorted_order (1 ∷ 2 ∷ []) (map stored_member rows) h.sorted)

-- the same tables with their members in another order
module _ (db : Database) (o : List spec.Part) (T : Tables) (members : List spec.Member) (rows : IsPermutation (map member_row members) (map (drop 1) (rows_of (codes "member") db))) where
  abbrev changed : Tables
  changed = record T { members = members }

  editions_so : (layout : Layout) → KeepsRows (editions layout) db (with_derived o T) → KeepsRows (editions layout) db (with_derived o changed)
  editions_so Parted k = record { rows = k.rows; apart = k.apart }
  editions_so layout k = record { rows = k.rows; apart = k.apart }

  contents_so : (layout : Layout) → KeepsRows (contents layout) db (with_derived o T) → KeepsRows (contents layout) db (with_derived o changed)
  contents_so Parted k = record { rows = k.rows; apart = k.apart }
  contents_so layout k = record { rows = k.rows; apart = k.apart }

  keeps_so : (layout : Layout) → KeepsAll layout db (with_derived o T) → KeepsAll layout db (with_derived o changed)
  keeps_so layout k = (
    record { rows = k.0.rows; apart = k.0.apart },
    (
      record { rows = k.1.0.rows; apart = k.1.0.apart },
      (
        record { rows = rows; apart = k.1.1.0.apart },
        (record { rows = k.1.1.1.0.rows; apart = k.1.1.1.0.apart }, (editions_so layout k.1.1.1.1.0, (contents_so layout k.1.1.1.1.1.0, tt))),
      ),
    ),
  )

module _ (version : ℕ) (db : Database) (marks : List (Beside (typed.Mark.Mark (String Global)))) (items : List (Beside (typed.ItemRecord.ItemRecord (String Global)))) (members : List MemberRow)
    (lm : IsListing (codes "mark") (1 ∷ []) db (map stored_mark marks)) (li : IsListing (codes "item") (1 ∷ []) db (map stored_item items)) (lo : IsListing (codes "member") (1 ∷ 2 ∷ []) db (map stored_member members)) where
  stands_so : (T : Tables) (M : Catalogue) → Keeps (codes "member") member_row db T.members → Stands version T M → Stands version (record T { members = members_given members }) M
  stands_so T M keeps s =
      let same : IsPermutation T.members (members_given members) =
      subst (IsPermutation T.members) (read_stored member_codec members) (listed_records member_codec (codes "member") db T.members keeps (map stored_member members) lo.same).0 in
      let order = ordered version T M s in
      ordered_stands version T (record T { members = members_given members }) M
      (record { marks = IsPermutation-refl T.marks; items = IsPermutation-refl T.items; members = same; editions = IsPermutation-refl T.editions; entries = IsPermutation-refl T.entries; kept = IsPermutation-refl T.kept })
      (record { items = order.items; members = members_order db members lo; entries = order.entries; kept = order.kept }) s

  listed : IsPermutation (map member_row (members_given members)) (map (drop 1) (rows_of (codes "member") db))
  listed = rows_listed member_codec (codes "member") (1 ∷ 2 ∷ []) db members lo

  pub has_begun : HasBegun version db (begun (marks_given marks) (items_given items) (members_given members))
  has_begun = record {
    marks = rows_listed mark_codec (codes "mark") (1 ∷ []) db marks lm;
    items = rows_listed item_codec (codes "item") (1 ∷ []) db items li;
    members = listed;
    no_editions = refl;
    no_entries = refl;
    no_kept = refl;
    fits = fits_begun version db marks items members lm li;
    none = (λ none M h.
        none (record h.tables { members = members_given members }) M (record {
          orphans = h.orphans;
          keeps = keeps_so db h.orphans h.tables (members_given members) listed (layout_of version) h.keeps;
          shown = h.shown;
          same_members = refl;
          stands = stands_so h.tables M (members_kept (layout_of version) db h.orphans h.tables h.keeps) h.stands;
          records = held_readable version db M h;
          beside = h.apart;
        }));
  }

  pub begin_wrong : StandsForNone version (begun (marks_given marks) (items_given items) (members_given members)) → HoldsNoneAs version db
  begin_wrong none = has_begun.none (none_kept version db (begun (marks_given marks) (items_given items) (members_given members)) has_begun.fits none)

-- ---- numbers

pub each_known : (ns : List ℕ) → AllByRecursion (λ n. list_any (λ one. same_number (pos one) n) ns ≡ true) (map pos ns)
each_known [] = tt
each_known (m ∷ ns) = (
  ap (λ b. b || list_any (λ one. same_number (pos one) (pos m)) ns) (same_itself (pos m)),
  all_weaker (λ n. list_any (λ one. same_number (pos one) n) ns ≡ true) (λ n. list_any (λ one. same_number (pos one) n) (m ∷ ns) ≡ true)
      (λ n h. ap (λ b. same_number (pos m) n || b) h ∙ or-true (same_number (pos m) n)) (map pos ns) (each_known ns),
)

unlike_all : (n : ℕ) (ns : List ℕ) → list_any (λ one. one == n) ns ≡ false → AllByRecursion (λ m. pos n ≡ m → ⊥) (map pos ns)
unlike_all n [] h = tt
unlike_all n (k ∷ ns) h =
    let p = or_parts (k == n) (list_any (λ one. one == n) ns) h in
    ((λ e. let same : n ≡ k = cc in false≢true (sym p.0 ∙ ap (λ z. k == z) same ∙ itself k)), unlike_all n ns p.1)
  where
    itself : (k : ℕ) → (k == k) ≡ true
    itself k = grind (arith, nat_tests)

numbers_apart : (ns : List ℕ) → has_numbers_once ns ≡ true → InOrder (λ a b. a ≡ b → ⊥) (map pos ns)
numbers_apart [] h = tt
numbers_apart (n ∷ ns) h = let p = and_parts (not (list_any (λ one. one == n) ns)) (has_numbers_once ns) h in (unlike_all n ns (not-true (list_any (λ one. one == n) ns) p.0), numbers_apart ns p.1)

once_of : {A : Type 0} (installs : ℕ) (items : List (Item A)) → has_lawful_items installs items ≡ true → has_numbers_once (edition_numbers items) ≡ true
once_of installs items h =
    let a = and_parts (nat_le (length items) 64 && list_all is_lawful_item items && has_names_once items && list_all (has_known_members items) items) (has_lawful_numbers installs (edition_numbers items)) h in
    (and_parts (list_all (is_from_one_to installs) (edition_numbers items)) (has_numbers_once (edition_numbers items)) a.1).1

pub numbers_in_apart : (version : ℕ) (reader : Reader) (front : Tables) → HasTaken version reader front → InOrder (λ a b. a ≡ b → ⊥) (numbers_in reader)
numbers_in_apart version reader front h = numbers_apart (edition_numbers (items_in reader)) (once_of reader.installs (items_in reader) h.lawful)

pub can_read : (version : ℕ) (db : Database) (reader : Reader) (front : Tables) → HasTaken version reader front → HasBegun version db front → CanRead version db reader (numbers_in reader) front
can_read version db reader front h b = record {
  taken = h;
  no_editions = b.no_editions;
  no_entries = b.no_entries;
  fits = b.fits;
  known = each_known (edition_numbers (items_in reader));
  apart = numbers_in_apart version reader front h;
}

-- ---- strays

-- the parts of an edition are of its index and of its text
abbrev IsPartOf : ℤ → spec.Part → Type 0
IsPartOf edition p = (p.edition ≡ edition) × ((same_number p.file (pos 0) || same_number p.file (pos 1)) ≡ true)

parts_so : (edition file : ℤ) → (same_number file (pos 0) || same_number file (pos 1)) ≡ true → (n : ℕ) (os : List (List ℕ)) → AllByRecursion (IsPartOf edition) (numbered (part_at edition file) n os)
parts_so edition file is n [] = tt
parts_so edition file is n (o ∷ os) = ((refl, is), parts_so edition file is (n + 1) os)

edition_parts_so : (edition : ℤ) (index text : List ℕ) → AllByRecursion (IsPartOf edition) (parts_under edition index text)
edition_parts_so edition index text =
    all_append (IsPartOf edition) (file_parts edition (pos 0) index) (file_parts edition (pos 1) text) (parts_so edition (pos 0) refl 0 (parts_of_octets index)) (parts_so edition (pos 1) refl 0 (parts_of_octets text))

-- what is kept of editions and of their entries is of editions that the items name
module _ (version : ℕ) (db : Database) (reader : Reader) (taken : Tables) (h : HasTaken version reader taken) (fits : AllGoOnFrom version db taken) (T : Tables) (M : Catalogue) (K : Keeping version db taken.members T M) where
  abbrev numbers : List ℤ
  numbers = numbers_in reader

  numbers_are : edition_numbers M.items ≡ edition_numbers (items_in reader)
  numbers_are = numbers_taken version reader taken T M h (fits T M K) K.stands

  number_named : (n : ℤ) → has_number M.items n ≡ true → is_of numbers n ≡ true
  number_named n known = sym (numbers_is (edition_numbers (items_in reader)) n) ∙ sym (ap (λ ns. list_any (λ one. same_number (pos one) n) ns) numbers_are) ∙ known

  -- rows whose first column is the number of an edition that the items name
  module _ {W : Type 0} (name : List ℕ) (encode : W → Row) (number : W → ℤ) (first : (w : W) → column (encode w) 0 ≡ Int (number w)) where
    abbrev IsNamed : Row → Type 0
    IsNamed s = (n : ℤ) × (column s 0 ≡ Int n) × (is_of numbers n ≡ true)

    named : (ws : List W) → IsPermutation (map encode ws) (map (drop 1) (rows_of name db)) → AllByRecursion (λ w. is_of numbers (number w) ≡ true) ws → AllByRecursion (λ row. one_of numbers row ≡ true) (rows_of name db)
    named ws same known =
        all_of_map (drop 1) IsNamed (λ row. one_of numbers row ≡ true) (λ row p. numbered_row row p.0 numbers (behind_column row 0 ∙ p.1) p.2) (rows_of name db)
        (all_same IsNamed (map encode ws) (map (drop 1) (rows_of name db)) same
        (all_map (λ w. is_of numbers (number w) ≡ true) IsNamed encode (λ w k. (number w, first w, k)) ws known))

  editions_known : AllByRecursion (λ (e : spec.EditionRecord). is_of numbers e.number ≡ true) T.editions
  editions_known = all_weaker (λ (e : spec.EditionRecord). IsTrue (has_number M.items e.number)) (λ (e : spec.EditionRecord). is_of numbers e.number ≡ true) (λ e k. number_named e.number k) T.editions K.stands.numbers

  -- ---- editions

  editions_named : (layout : Layout) → KeptAs layout db T → AreKnownApart (one_of numbers) (table_name_of (editions layout)) db
  editions_named Parted k = record { apart = k.keeps.1.1.1.1.0.apart; known = named (codes "edition") (λ e. header_row (header_of e)) (λ (e : spec.EditionRecord). e.number) (λ e. refl) T.editions k.keeps.1.1.1.1.0.rows editions_known }
  editions_named layout k = record { apart = k.keeps.1.1.1.1.0.apart; known = named (codes "edition") edition_row (λ (e : spec.EditionRecord). e.number) (λ e. refl) T.editions k.keeps.1.1.1.1.0.rows editions_known }

  -- ---- entries

  entries_named : (layout : Layout) → HasEntryTable layout → KeptAs layout db T → AllByRecursion (λ row. one_of numbers row ≡ true) (rows_of (codes "entry") db)
  entries_named layout has k =
      all_weaker (λ row. (e : spec.EntryRecord) × (looked_behind_rowid layout row ≡ entry_cells layout e) × IsTrue (has_number M.items e.edition)) (λ row. one_of numbers row ≡ true)
      (λ row e. numbered_row row e.0.edition numbers (number_is layout row e.0 e.1) (number_named e.0.edition e.2)) (rows_of (codes "entry") db)
      (each_row layout db T.entries (entries_rows layout has db k.orphans T k.keeps.1.1.1.1.1.0) (λ (e : spec.EntryRecord). IsTrue (has_number M.items e.edition)) K.stands.entries)

  -- ---- parts

  abbrev IsKnownPart : spec.Part → Type 0
  IsKnownPart p = (is_of numbers p.edition ≡ true) × ((same_number p.file (pos 0) || same_number p.file (pos 1)) ≡ true)

  parts_known : AllByRecursion IsKnownPart (all_parts T)
  parts_known =
      all_flat_map IsKnownPart (edition_parts T.entries) T.editions
      (all_weaker (λ (e : spec.EditionRecord). is_of numbers e.number ≡ true) (λ e. AllByRecursion IsKnownPart (edition_parts T.entries e))
      (λ e k. all_weaker (IsPartOf e.number) IsKnownPart (λ p is. (ap (is_of numbers) is.0 ∙ k, is.1)) (edition_parts T.entries e) (edition_parts_so e.number (index_octets (entries_of e.number T.entries)) e.body)) T.editions editions_known)

  abbrev may : Bool
  may = may_have_orphans version

  -- a part of such a number is of a file, and others are there where there may be orphans
  abbrev IsStanding : ℤ → ℤ → Type 0
  IsStanding edition file = cond (is_of numbers edition) (same_number file (pos 0) || same_number file (pos 1)) may ≡ true

  abbrev StandsPart : spec.Part → Type 0
  StandsPart p = IsStanding p.edition p.file

  abbrev StandsRow : Row → Type 0
  StandsRow s = (n f : ℤ) × (column s 0 ≡ Int n) × (column s 1 ≡ Int f) × IsStanding n f

  row_stands : (row : Row) → StandsRow (drop 1 row) → may_stand may numbers row ≡ true
  row_stands row p = (λ i. cond (edition_is i) (file_is (pos 0) i || file_is (pos 1) i) may) ∙ p.4
    where
      edition_is : one_of numbers row ≡ is_of numbers p.0
      edition_is = known_row numbers row p.0 (behind_column row 0 ∙ p.2)

      file_is : (f : ℤ) → equals_number 2 f row ≡ same_number p.1 f
      file_is f = ap (λ v. same_value v (Int f)) (behind_column row 1 ∙ p.3) ∙ same_int p.1 f

  number_unnamed : (n : ℤ) → has_number M.items n ≡ false → is_of numbers n ≡ false
  number_unnamed n unknown = sym (numbers_is (edition_numbers (items_in reader)) n) ∙ sym (ap (λ ns. list_any (λ one. same_number (pos one) n) ns) numbers_are) ∙ unknown

  orphans_stand : (o : List spec.Part) → AreOrphans version M o → (b : Bool) → may ≡ b → AllByRecursion StandsPart o
  orphans_stand o are true always =
      all_weaker (λ (p : spec.Part). has_number M.items p.edition ≡ false) StandsPart
      (λ p unknown. ap (λ b. cond b (same_number p.file (pos 0) || same_number p.file (pos 1)) may) (number_unnamed p.edition unknown) ∙ always) o are.apart
  orphans_stand o are false never = subst (AllByRecursion StandsPart) (sym (are.later (some_since version never))) tt

  parts_named : (o : List spec.Part) → KeepsAll Parted db (with_derived o T) → AreOrphans version M o → AreKnownApart (may_stand may numbers) (codes "dictcat_part") db
  parts_named o keeps are =
      let rows = rows_of (codes "dictcat_part") db in
      let kept = parts_kept db o T keeps in
      let all = all_append StandsPart o (all_parts T) (orphans_stand o are may refl)
      (all_weaker IsKnownPart StandsPart (λ p k. ap (λ b. cond b (same_number p.file (pos 0) || same_number p.file (pos 1)) may) k.0 ∙ k.1) (all_parts T) parts_known) in
      record {
        apart = kept.apart;
        known = all_of_map (drop 1) StandsRow (λ row. may_stand may numbers row ≡ true) row_stands rows
            (all_same StandsRow (map part_row (o ++ all_parts T)) (map (drop 1) rows) kept.rows
            (all_map StandsPart StandsRow part_row (λ p k. (p.edition, p.file, refl, refl, k)) (o ++ all_parts T) all));
      }

  contents_named : (layout : Layout) → KeptAs layout db T → (o : List spec.Part) → KeepsAll layout db (with_derived o T) → AreOrphans version M o → AreKnownApart (may_be_in_contents may layout numbers) (table_name_of (contents layout)) db
  contents_named Parted k o keeps are = let it = parts_named o keeps are in record { apart = it.apart; known = it.known }
  contents_named layout k o keeps are = record { apart = k.keeps.1.1.1.1.1.0.apart; known = entries_named layout tt k }

  pub all_named : AreAllKnown (layout_of version) may db numbers
  all_named =
      let k = kept_as version db taken.members T M K in
      record { editions = editions_named (layout_of version) k; contents = contents_named (layout_of version) k K.orphans K.keeps K.beside }

pub rows_stray : (version : ℕ) (db : Database) (reader : Reader) (taken : Tables) → HasTaken version reader taken → AllGoOnFrom version db taken
    → (AreReadableEditions (layout_of version) db → AreAllKnown (layout_of version) (may_have_orphans version) db (numbers_in reader) → ⊥) → KeepsNone version db taken.members
rows_stray version db reader taken h fits wrong T M K = wrong (K.records.1.1.1.1.0, (K.records.1.1.1.1.1.0, tt)) (all_named version db reader taken h fits T M K)

-- ---- the kept replies

pub replies_wrong : (version : ℕ) (db : Database) (reader : Reader) (taken : Tables) → HasTaken version reader taken → AllGoOnFrom version db taken → taken.kept ≡ []
    → IsWrong stored_kept kept_columns refuses_replies (InStore AllKept) db reader → KeepsNone version db taken.members
replies_wrong version db reader taken h fits none (inl w) T M K = w.3 (last_holds (HasColumns kept_columns) (rows_of (codes "kept") db) (map stored_kept w.0) w.2.0 w.1 K.records.1.1.1.0 w.2.1.same)
replies_wrong version db reader taken h fits none (inr w) T M K = none_kept version db (with_replies taken (kept_given w.0)) (fits_replies version db taken fits none w.0 w.1) (w.2 version taken h) T M K

once_same : (xs ys : List (List ℕ)) → Same xs ys → IsEachOnce xs → IsEachOnce ys
once_same xs ys s h text = let few : total (λ one. cond (bytes_eq one text) 1 0) xs ≤ 1 = h text in let same = s.counts (λ one. bytes_eq one text) in omega (arith, few, same)

once_front : (xs ys : List (List ℕ)) → IsEachOnce (xs ++ ys) → IsEachOnce xs
once_front xs ys h text =
    let few : total (λ one. cond (bytes_eq one text) 1 0) (xs ++ ys) ≤ 1 = h text in
    let whole = sum_append (λ one. cond (bytes_eq one text) 1 0) xs ys in
    omega (arith, few, whole)

abbrev id_of : spec.KeptRecord → List ℕ
id_of row = row.id

pub ids_twice : (version : ℕ) (db : Database) (members : List spec.Member) → HasNoRecordIn stored_kept kept_columns (InStore KeptById) db ⊎ HasIdTwice db → KeepsNone version db members
ids_twice version db members (inl w) T M K = w.3 (last_holds (HasColumns kept_columns) (rows_of (codes "kept") db) (map stored_kept w.0) w.2.0 w.1 K.records.1.1.1.0 w.2.1.same)
ids_twice version db members (inr w) T M K =
    let rows = map stored_kept w.0 ++ w.1.0 in
    let found = (listed_records kept_codec (codes "kept") db T.kept (replies_kept (layout_of version) db K.orphans T K.keeps) rows w.1.1.same).0 in
    let once : IsEachOnce (map id_of T.kept) = subst IsEachOnce (sym (ap (map id_of) K.stands.kept ∙ ids_same M.kept)) K.stands.well_formed.ids in
    let there = once_same (map id_of T.kept) (map id_of (map (read kept_codec) rows)) (same_from _ _ (IsPermutation-map id_of T.kept (map (read kept_codec) rows) found)) once in
    let split : map id_of (map (read kept_codec) rows) ≡ ids_given w.0 ++ map id_of (map (read kept_codec) w.1.0) = ap (map id_of) (front_read kept_codec w.0 w.1.0) ∙ map-append id_of (kept_given w.0) (map (read kept_codec) w.1.0) in
    w.2 (once_front (ids_given w.0) (map id_of (map (read kept_codec) w.1.0)) (subst IsEachOnce split there))

-- one id isn't above another
abbrev NotAbove : List ℕ → List ℕ → Type 0
NotAbove a b = is_lt (ordering_then (value_cmp (Text b) (Text a)) Equal) ≡ false

tied : (o p : Ordering) → p ≡ ordering_reverse o → is_lt o ≡ false → is_lt p ≡ false → o ≡ Equal
tied Less p e h k = absurd (false≢true (sym h))
tied Equal p e h k = refl
tied Greater p e h k = absurd (false≢true (sym k ∙ ap is_lt e))

both : (a b : List ℕ) → NotAbove a b → NotAbove b a → a ≡ b
both a b h k =
    let o = value_cmp (Text b) (Text a) in
    let p = value_cmp (Text a) (Text b) in
    sym (exact_bytes b a (sym (value_cmp-Text b a) ∙ tied o p (value_cmp_total.antisymm (Text a) (Text b)) (sym (ap is_lt (then-Equal o)) ∙ h) (sym (ap is_lt (then-Equal p)) ∙ k)))

ids_order : (db : Database) (given : List KeptRow) → IsListing (codes "kept") (1 ∷ []) db (map stored_kept given) → InOrder NotAbove (ids_given given)
ids_order db given l =
    subst (InOrder NotAbove) (sym (map_twice (λ (row : KeptRow). owned_kept row.value) id_of given))
    (records_order stored_kept (λ (row : KeptRow). id_of (owned_kept row.value)) (λ a b. is_lt (by_columns (1 ∷ []) b a) ≡ false) NotAbove (λ a b up. up) given (sorted_order (1 ∷ []) (map stored_kept given) l.sorted))

-- the ids of all kept replies, in whatever order they were read
pub ids_apart : (db : Database) (given : List KeptRow) → IsListing (codes "kept") (2 ∷ []) db (map stored_kept given) → HasIdsApart db → IsEachOnce (ids_given given)
ids_apart db given l h =
    let other = h.0 in
    let once = once_true (ids_given other) (apart_once (ids_given other) (neighbours_apart NotAbove both (ids_given other) h.2 (ids_order db other h.1))) in
    let rows : IsPermutation (map stored_kept other) (map stored_kept given) = IsPermutation-trans (map stored_kept other) (rows_of (codes "kept") db) (map stored_kept given) (IsPermutation-sym _ _ h.1.same) l.same in
    let records : IsPermutation (kept_given other) (kept_given given) = subst (λ xs. IsPermutation xs (kept_given given)) (read_stored kept_codec other)
    (subst (IsPermutation (map (read kept_codec) (map stored_kept other))) (read_stored kept_codec given) (IsPermutation-map (read kept_codec) _ _ rows)) in
    once_same (ids_given other) (ids_given given) (same_from (ids_given other) (ids_given given) (IsPermutation-map id_of (kept_given other) (kept_given given) records)) once
