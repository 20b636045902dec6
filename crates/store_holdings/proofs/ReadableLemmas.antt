-- Each row of a database that holds a catalogue stands for a record.
use Rattle.std.proofs.Common.{◌≡◌, ◌⊎◌, inl, inr, ℕ, ℤ, pos, true, ◌&&◌, List, [], ◌∷◌, ◌++◌, map, drop, take, codes, Option, Some, None, refl, sym, subst, ◌∙◌}
use Rattle.std.specs.Prelude.{bytes_eq, IsTrue, option_map}
use Rattle.std.specs.List.{AllByRecursion, list_any}
use Rattle.std.specs.Str.{IsUtf8}
use Rattle.std.proofs.lemmas.Bool.{and_parts}
use Rattle.sqlite.specs.Effect.{Database}
use Rattle.sqlite.specs.Order.{Row, column}
use Rattle.sqlite.specs.declared.types.Value.TheVariants.{Null, Int}
use Rattle.dict_text.proofs.AllLemmas.{all_map, all_unmapped, all_weaker, all_flat_map}
use Rattle.dict_text.proofs.AsciiLemmas.{word_utf8, name_utf8, id_utf8}
use Rattle.store_tables.specs.Records as spec
use Rattle.store_sql.specs.Columns.{Content, Number, HasColumns, IsNumber, mark_columns, item_columns, member_columns, edition_columns, entry_columns, kept_columns}
use Rattle.store_tables.specs.Effects.{rows_of}
use Rattle.store_sql.specs.Encodings.{number_or_null, mark_row, item_row, member_row, edition_row, entry_row, kept_row}
use Rattle.dict_index.specs.Line.{Line}
use Rattle.dict_index.specs.Edition.{Edition, entry_in}
use Rattle.dict_index.specs.WellFormed.{IsWellFormedEntry, IsWellFormedEdition}
use Rattle.dict_catalogue.specs.Items.{Stored, Item, regular, virtual, name_of, is_regular, members_of, editions_of, is_named, is_known, names_regular, numbers_of, edition_numbers}
use Rattle.dict_catalogue.specs.Steps.{KeptFor, Catalogue}
use Rattle.dict_catalogue.specs.WellFormed.{IsLawfulItem, IsLawfulReply, HasKnownMembers, HasWellFormedEditions}
use Rattle.dict_catalogue.specs.declared.reply.Verb.{Verb}
use Rattle.dict_catalogue.specs.declared.reply.Verb.TheVariants.{Install, Rollback, Retire, Virtual, Place}
use Rattle.dict_catalogue.proofs.ItemLemmas.{same_text, text_itself}
use Rattle.dict_catalogue.proofs.WellFormedLemmas.{item_name}
use Rattle.store_rows.specs.Tables.{Tables, same_number, members_of_owner, editions_numbered, entries_of}
use Rattle.store_rows.specs.Written.{item_record, member_record, entry_record, verb_name, kept_record}
use Rattle.store_rows.specs.Stands.{HoldsMembers, HoldsEdition, HoldsEditions, has_number, Stands}
use Rattle.store_rows.proofs.ListLemmas.{all_numbered}
use Rattle.store_rows.proofs.OrderLemmas.{each_in, in_all, all_same, all_with, passed_in}
use Rattle.store_rows.proofs.TakenLemmas.{same_number_is, same_itself}
use Rattle.store_holdings.specs.Holds.{Holds}
use Rattle.store_sql.specs.Readings as looks
use Rattle.store_sql.specs.Readings.{TableReading, KeepsRows, KeepsAll, IsReadable, HasReadableRows}
use Rattle.store_rows.specs.Versions.{Layout, Plain, Keyed, Shown, Parted, layout_of}
use Rattle.store_sql.specs.HeaderRecords.{header_row, header_columns}
use Rattle.store_sql.specs.PartRecords.{part_row, part_columns}
use Rattle.store_holdings.specs.AllTables.{AllTables, with_derived}
use Rattle.store_holdings.specs.Files.{all_parts}
use Rattle.store_rows.proofs.RiseLemmas.{any_holds}

-- ---- rows of records

row_of : (columns : List Content) (row : Row) → HasColumns columns (drop 1 row) → (n : ℤ) × (column row 0 ≡ Int n) → HasColumns (Number ∷ columns) row
row_of columns [] h id = absurd (let none : Null ≡ Int id.0 = id.1 in cc)
row_of columns (value ∷ row) h id = ((id.0, id.1), h)

maybe_number : (o : Option ℤ) → (number_or_null o ≡ Null) ⊎ IsNumber (number_or_null o)
maybe_number None = inl refl
maybe_number (Some n) = inr (n, refl)

-- ---- the records of a catalogue

abbrev MarkRow : spec.Mark → Type 0
MarkRow m = HasColumns (drop 1 mark_columns) (mark_row m)

abbrev ItemRow : spec.ItemRecord → Type 0
ItemRow m = HasColumns (drop 1 item_columns) (item_row m)

abbrev MemberRow : spec.Member → Type 0
MemberRow m = HasColumns (drop 1 member_columns) (member_row m)

abbrev EditionRow : spec.EditionRecord → Type 0
EditionRow e = HasColumns (drop 1 edition_columns) (edition_row e)

abbrev EntryRow : spec.EntryRecord → Type 0
EntryRow e = HasColumns (drop 1 entry_columns) (entry_row e) × IsUtf8 e.shown

abbrev KeptRow : spec.KeptRecord → Type 0
KeptRow k = HasColumns (drop 1 kept_columns) (kept_row k)

mark_rows : (version : ℕ) (tables : Tables) (M : Catalogue) → Stands version tables M → AllByRecursion MarkRow tables.marks
mark_rows version tables M s =
    subst (AllByRecursion MarkRow) (sym s.marks) (((pos 1, refl), ((codes "dictcat", refl, word_utf8 (codes "dictcat") refl), ((pos version, refl), ((pos M.installs, refl), tt)))), tt)

one_item : (place : ℕ) (item : Item Edition) → IsLawfulItem item → ItemRow (item_record place item)
one_item place (regular name current former) h =
    ((pos place, refl), ((name, refl, name_utf8 name h), ((pos 0, refl), (inl refl, (inr (pos current.number, refl), (maybe_number (option_map (λ stored. pos stored.number) former), tt))))))
one_item place (virtual name title members) h =
    ((pos place, refl), ((name, refl, name_utf8 name h.0), ((pos 1, refl), (inr (title, refl, h.1.0), (inl refl, (inl refl, tt))))))

item_rows : (version : ℕ) (tables : Tables) (M : Catalogue) → Stands version tables M → AllByRecursion ItemRow tables.items
item_rows version tables M s = subst (AllByRecursion ItemRow) (sym s.items) (all_numbered item_record IsLawfulItem ItemRow one_item 0 M.items s.well_formed.items)

-- ---- members

member_utf8 : (items : List (Item Edition)) → AllByRecursion IsLawfulItem items → (member : List ℕ) → IsTrue (names_regular items member) → IsUtf8 member
member_utf8 items lawful member e =
    any_holds (λ (item : Item Edition). is_named member item && is_regular item) IsLawfulItem (IsUtf8 member)
    (λ item named h. subst IsUtf8 (same_text (name_of item) member (and_parts (is_named member item) (is_regular item) named).0) (item_name item h)) items e lawful

owned_rows : (all : List (Item Edition)) (members : List spec.Member) → AllByRecursion IsLawfulItem all → (item : Item Edition) → IsLawfulItem item → HoldsMembers members item × HasKnownMembers all item
    → AllByRecursion MemberRow (members_of_owner (name_of item) members)
owned_rows all members lawful item h held =
    subst (AllByRecursion MemberRow) (sym held.0)
    (all_numbered (member_record (name_of item)) (λ member. IsTrue (names_regular all member)) MemberRow
    (λ n member known. ((name_of item, refl, item_name item h), ((pos n, refl), ((member, refl, member_utf8 all lawful member known), tt)))) 0 (members_of item) held.1)

member_rows : (version : ℕ) (tables : Tables) (M : Catalogue) → Stands version tables M → AllByRecursion MemberRow tables.members
member_rows version tables M s =
    let members = tables.members in
    let lawful = s.well_formed.items in
    let owned : AllByRecursion (λ item. AllByRecursion MemberRow (members_of_owner (name_of item) members)) M.items =
    all_with IsLawfulItem (λ (item : Item Edition). HoldsMembers members item × HasKnownMembers M.items item) (λ item. AllByRecursion MemberRow (members_of_owner (name_of item) members))
    (owned_rows M.items members lawful) M.items lawful (all_with (HoldsMembers members) (HasKnownMembers M.items) (λ (item : Item Edition). HoldsMembers members item × HasKnownMembers M.items item) (λ item a b. (a, b)) M.items
    s.members s.well_formed.members) in
    each_in MemberRow members (λ row i.
    any_holds (is_named row.owner) (λ item. AllByRecursion MemberRow (members_of_owner (name_of item) members)) (MemberRow row)
    (λ (item : Item Edition) named all. in_all MemberRow row (members_of_owner (name_of item) members) all
    (passed_in (λ (r : spec.Member). bytes_eq r.owner (name_of item)) row members (subst (λ name. bytes_eq row.owner name ≡ true) (sym (same_text (name_of item) row.owner named)) (text_itself row.owner)) i))
    M.items (in_all (λ (r : spec.Member). IsTrue (is_known M.items r.owner)) row members s.owners i) owned)

-- ---- editions and their entries

-- the records that have the number
record AreRows (tables : Tables) (number : ℤ) : Type 0 where
  editions : AllByRecursion EditionRow (editions_numbered number tables.editions)
  entries : AllByRecursion EntryRow (entries_of number tables.entries)

stored_rows : (tables : Tables) (owner : List ℕ) → IsUtf8 owner → (stored : Stored Edition) → IsWellFormedEdition stored.content → HoldsEdition tables owner stored → AreRows tables (pos stored.number)
stored_rows tables owner named stored well h =
    let reading = h.reading in
    let content = subst IsWellFormedEdition h.says well in
    record {
      editions = subst (AllByRecursion EditionRow) (sym h.row)
          (((pos stored.number, refl), ((owner, refl, named), ((reading.title, refl, content.title.0), ((reading.info, refl, content.info.0.0), ((reading.text, refl), tt))))), tt);
      entries = subst (AllByRecursion EntryRow) (sym h.entries)
          (all_numbered (entry_record stored.number) (λ (line : Line). IsUtf8 line.headword × IsUtf8 line.shown) EntryRow
          (λ n line utf8. (((pos stored.number, refl), ((pos n, refl), ((line.headword, refl, utf8.0), ((pos line.offset, refl), ((pos line.size, refl), tt))))), utf8.1)) 0 reading.lines
          (all_weaker (λ line. IsWellFormedEntry (entry_in reading.text line)) (λ line. IsUtf8 line.headword × IsUtf8 line.shown) (λ line good. (good.headword.0, good.shown.0)) reading.lines
          (all_unmapped IsWellFormedEntry (entry_in reading.text) reading.lines content.entries)));
    }

item_editions : (tables : Tables) (item : Item Edition) → IsLawfulItem item → HasWellFormedEditions item × HoldsEditions tables item → AllByRecursion (λ number. AreRows tables (pos number)) (numbers_of item)
item_editions tables item h both =
    all_map (λ (stored : Stored Edition). AreRows tables (pos stored.number)) (λ number. AreRows tables (pos number)) (λ (stored : Stored Edition). stored.number) (λ stored rows. rows) (editions_of item)
    (all_with (λ stored. IsWellFormedEdition stored.content) (HoldsEdition tables (name_of item)) (λ stored. AreRows tables (pos stored.number)) (stored_rows tables (name_of item) (item_name item h)) (editions_of item) both.0 both.1)

numbered_rows : (version : ℕ) (tables : Tables) (M : Catalogue) → Stands version tables M → (number : ℤ) → list_any (λ one. same_number (pos one) number) (edition_numbers M.items) ≡ true → AreRows tables number
numbered_rows version tables M s number known =
    any_holds (λ (one : ℕ). same_number (pos one) number) (λ (one : ℕ). AreRows tables (pos one)) (AreRows tables number) (λ one same rows. subst (AreRows tables) (same_number_is (pos one) number same) rows) (edition_numbers M.items) known
    (all_flat_map (λ one. AreRows tables (pos one)) numbers_of M.items
    (all_with IsLawfulItem (λ item. HasWellFormedEditions item × HoldsEditions tables item) (λ item. AllByRecursion (λ one. AreRows tables (pos one)) (numbers_of item)) (item_editions tables) M.items s.well_formed.items
    (all_with HasWellFormedEditions (HoldsEditions tables) (λ item. HasWellFormedEditions item × HoldsEditions tables item) (λ item a b. (a, b)) M.items s.well_formed.editions s.editions)))

edition_rows : (version : ℕ) (tables : Tables) (M : Catalogue) → Stands version tables M → AllByRecursion EditionRow tables.editions
edition_rows version tables M s = each_in EditionRow tables.editions (λ row i.
    in_all EditionRow row (editions_numbered row.number tables.editions) (numbered_rows version tables M s row.number (in_all (λ (r : spec.EditionRecord). IsTrue (has_number M.items r.number)) row tables.editions s.numbers i)).editions
    (passed_in (λ (r : spec.EditionRecord). same_number r.number row.number) row tables.editions (same_itself row.number) i))

entry_rows : (version : ℕ) (tables : Tables) (M : Catalogue) → Stands version tables M → AllByRecursion EntryRow tables.entries
entry_rows version tables M s = each_in EntryRow tables.entries (λ row i.
    in_all EntryRow row (entries_of row.edition tables.entries) (numbered_rows version tables M s row.edition (in_all (λ (r : spec.EntryRecord). IsTrue (has_number M.items r.edition)) row tables.entries s.entries i)).entries
    (passed_in (λ (r : spec.EntryRecord). same_number r.edition row.edition) row tables.entries (same_itself row.edition) i))

-- ---- the kept replies

verb_utf8 : (verb : Verb) → IsUtf8 (verb_name verb)
verb_utf8 Install = word_utf8 (codes "install") refl
verb_utf8 Rollback = word_utf8 (codes "rollback") refl
verb_utf8 Retire = word_utf8 (codes "retire") refl
verb_utf8 Virtual = word_utf8 (codes "virtual") refl
verb_utf8 Place = word_utf8 (codes "place") refl

one_reply : (kept : KeptFor) → IsLawfulReply kept → KeptRow (kept_record kept)
one_reply kept h = (
  (kept.id, refl, id_utf8 kept.id h.0),
  (
    (pos kept.reply.number, refl),
    (
      (verb_name kept.reply.verb, refl, verb_utf8 kept.reply.verb),
      ((kept.reply.name, refl, name_utf8 kept.reply.name h.1), (maybe_number (option_map pos kept.reply.edition), tt)),
    ),
  ),
)

reply_rows : (version : ℕ) (tables : Tables) (M : Catalogue) → Stands version tables M → AllByRecursion KeptRow tables.kept
reply_rows version tables M s = subst (AllByRecursion KeptRow) (sym s.kept) (all_map IsLawfulReply KeptRow kept_record one_reply M.kept s.well_formed.replies)

-- ---- all tables

-- rows of which some columns are looked at, the rowid among them
looked_whole : (looked : Row → Row) → ((row : Row) → column (looked row) 0 ≡ column row 0) → (columns : List Content) (rows : List Row) → AllByRecursion (HasColumns columns) (map (λ row. drop 1 (looked row)) rows)
    → AllByRecursion (λ row. (n : ℤ) × (column row 0 ≡ Int n)) rows
    → AllByRecursion (λ row. HasColumns (Number ∷ columns) (looked row)) rows
looked_whole looked first columns [] h ids = tt
looked_whole looked first columns (row ∷ rows) h ids = (row_of columns (looked row) h.0 (ids.0.0, first row ∙ ids.0.1), looked_whole looked first columns rows h.1 ids.1)

-- a table whose rows have their columns behind the rowid is readable
kept_readable : (r : TableReading) → r.columns ≡ Number ∷ drop 1 r.columns → ((row : Row) → column (r.looked row) 0 ≡ column row 0) → (db : Database) (all : AllTables) → KeepsRows r db all
    → AllByRecursion (HasColumns (drop 1 r.columns)) (r.rows all) → IsReadable r db
kept_readable r is first db all keeps h =
    subst (λ cs. AllByRecursion (λ row. HasColumns cs (r.looked row)) (rows_of (looks.table_name_of r) db)) (sym is)
    (looked_whole r.looked first (drop 1 r.columns) (rows_of (looks.table_name_of r) db)
    (all_same (HasColumns (drop 1 r.columns)) (r.rows all) (map (λ row. drop 1 (r.looked row)) (rows_of (looks.table_name_of r) db)) keeps.rows h) keeps.apart.integers)

first_six : (row : Row) → column (take 6 row) 0 ≡ column row 0
first_six [] = refl
first_six (v ∷ row) = refl

first_of_six : (row : Row) → column (looks.without_keys row) 0 ≡ column row 0
first_of_six [] = refl
first_of_six (v ∷ row) = refl

-- the columns of an entry, with what is shown behind them
shown_cells : (e : spec.EntryRecord) → EntryRow e → HasColumns (drop 1 looks.shown_columns) (looks.shown_row e)
shown_cells e h = (h.0.0, (h.0.1.0, (h.0.1.1.0, (h.0.1.1.1.0, (h.0.1.1.1.1.0, ((e.shown, refl, h.1), tt))))))

header_cells : (e : spec.EditionRecord) → EditionRow e → HasColumns (drop 1 header_columns) (header_row (spec.header_of e))
header_cells e h = (h.0, (h.1.0, (h.1.1.0, (h.1.1.1.0, tt))))

each_part : (ps : List spec.Part) → AllByRecursion (HasColumns (drop 1 part_columns)) (map part_row ps)
each_part [] = tt
each_part (p ∷ ps) = (((p.edition, refl), ((p.file, refl), ((p.number, refl), ((p.octets, refl), tt)))), each_part ps)

module _ (version : ℕ) (db : Database) (orphans : List spec.Part) (tables : Tables) (M : Catalogue) (s : Stands version tables M) where
  abbrev all : AllTables
  all = with_derived orphans tables

  whole_readable : KeepsRows looks.whole_editions db all → IsReadable looks.whole_editions db
  whole_readable k = kept_readable looks.whole_editions refl (λ row. refl) db all k (all_map EditionRow (HasColumns (drop 1 edition_columns)) edition_row (λ e h. h) tables.editions (edition_rows version tables M s))

  editions_readable : (layout : Layout) → KeepsRows (looks.editions layout) db all → IsReadable (looks.editions layout) db
  editions_readable Plain k = whole_readable k
  editions_readable Keyed k = whole_readable k
  editions_readable Shown k = whole_readable k
  editions_readable Parted k =
      kept_readable (looks.editions Parted) refl (λ row. refl) db all k
      (all_map EditionRow (HasColumns (drop 1 header_columns)) (λ e. header_row (spec.header_of e)) header_cells tables.editions (edition_rows version tables M s))

  contents_readable : (layout : Layout) → KeepsRows (looks.contents layout) db all → IsReadable (looks.contents layout) db
  contents_readable Plain k = kept_readable (looks.contents Plain) refl (λ row. refl) db all k (all_map EntryRow (HasColumns (drop 1 entry_columns)) entry_row (λ e h. h.0) tables.entries (entry_rows version tables M s))
  contents_readable Keyed k = kept_readable (looks.contents Keyed) refl first_six db all k (all_map EntryRow (HasColumns (drop 1 entry_columns)) entry_row (λ e h. h.0) tables.entries (entry_rows version tables M s))
  contents_readable Shown k = kept_readable (looks.contents Shown) refl first_of_six db all k (all_map EntryRow (HasColumns (drop 1 looks.shown_columns)) looks.shown_row shown_cells tables.entries (entry_rows version tables M s))
  contents_readable Parted k = kept_readable (looks.contents Parted) refl (λ row. refl) db all k (each_part (orphans ++ all_parts tables))

  pub stands_readable : (layout : Layout) → KeepsAll layout db all → HasReadableRows layout db
  stands_readable layout k = (
    kept_readable looks.marks refl (λ row. refl) db all k.0 (all_map MarkRow (HasColumns (drop 1 mark_columns)) mark_row (λ m h. h) tables.marks (mark_rows version tables M s)),
    (
      kept_readable looks.items refl (λ row. refl) db all k.1.0 (all_map ItemRow (HasColumns (drop 1 item_columns)) item_row (λ i h. h) tables.items (item_rows version tables M s)),
      (
        kept_readable looks.members refl (λ row. refl) db all k.1.1.0 (all_map MemberRow (HasColumns (drop 1 member_columns)) member_row (λ m h. h) tables.members (member_rows version tables M s)),
        (
          kept_readable looks.kept_replies refl (λ row. refl) db all k.1.1.1.0 (all_map KeptRow (HasColumns (drop 1 kept_columns)) kept_row (λ r h. h) tables.kept (reply_rows version tables M s)),
          (editions_readable layout k.1.1.1.1.0, (contents_readable layout k.1.1.1.1.1.0, tt)),
        ),
      ),
    ),
  )

pub held_readable : (version : ℕ) (db : Database) (M : Catalogue) → Holds version db M → HasReadableRows (layout_of version) db
held_readable version db M h = stands_readable version db h.orphans h.tables M h.stands (layout_of version) h.keeps

-- those of the replies, whatever the layout
pub held_replies : (version : ℕ) (db : Database) (M : Catalogue) → Holds version db M → AllByRecursion (HasColumns kept_columns) (rows_of (codes "kept") db)
held_replies version db M h = (held_readable version db M h).1.1.1.0
