-- What lookups find in a database that holds a catalogue.
use Rattle.std.proofs.Common.{◌≡◌, ℕ, ◌+◌, ◌≤◌, ◌&&◌, Bool, true, false, cond, List, [], ◌∷◌, ◌++◌, length, map, drop, codes, refl, ap, sym, subst, ◌∙◌, arith}
use Rattle.std.specs.Prelude.{ℤ, pos, filter, Contains, IsPermutation}
use Rattle.std.specs.List.{AllByRecursion}
use Rattle.sqlite.specs.Order.{Row, column}
use Rattle.sqlite.specs.Effect.{Database}
use Rattle.sqlite.specs.Table.{Table}
use Rattle.sqlite.specs.declared.types.Value.TheVariants.{Int}
use Rattle.dict_text.proofs.AllLemmas.{all_filter, all_flat_map_parts, all_unmapped}
use Rattle.store_tables.specs.Records.{EditionRecord, Part, header_of}
use Rattle.store_tables.specs.Found.{HasOwn}
use Rattle.store_sql.specs.Columns.{HasColumns}
use Rattle.store_tables.specs.Effects.{Has, rows_of, equals_number, same_value}
use Rattle.store_sql.specs.HeaderRecords.{header_row, header_columns}
use Rattle.store_sql.specs.ChosenParts.{is_of_file}
use Rattle.store_sql.specs.PartRecords.{part_row, part_columns}
use Rattle.dict_index.specs.Edition.{Edition as AnEdition, ReadEdition, edition_of}
use Rattle.dict_catalogue.specs.Items.{Stored, Item, name_of, editions_of, edition_numbers, numbers_of}
use Rattle.dict_catalogue.specs.Steps.{Catalogue, KeptFor}
use Rattle.dict_catalogue.specs.WellFormed.{IsWellFormed, how_many, is_install}
use Rattle.store_rows.specs.Stored.{stored_index}
use Rattle.store_rows.specs.Tables.{Tables, same_number, editions_numbered}
use Rattle.store_rows.specs.Stands.{HoldsEdition, HoldsEditions, has_number}
use Rattle.store_rows.specs.Versions.{Parted, layout_of, known}
use Rattle.store_rows.proofs.ChangeLemmas.{each_among}
use Rattle.store_rows.proofs.SelectionLemmas.{filter_filter}
use Rattle.store_holdings.specs.AllTables.{with_derived}
use Rattle.store_holdings.specs.Files.{all_parts}
use Rattle.store_rows.specs.FileParts.{file_parts}
use Rattle.store_holdings.proofs.OrphanLemmas.{beside_orphans}
use Rattle.store_holdings.proofs.TellLemmas.{file_told, text_under, parts_held}
use Rattle.dict_desk.specs.Shown.{HasEdition}
use Rattle.store_sql.specs.Readings.{KeepsAll}
use Rattle.store_holdings.specs.Holds.{HasLayout, Holds}
use Rattle.store_holdings.specs.HeldTexts.{HoldsText, text_rows, rows_under}
use Rattle.store_holdings.proofs.ReadableLemmas as holdings
use Rattle.store_search.specs.Entries.{entry_of}
use Rattle.store_holdings.specs.Searches.{HasLookupTables, HoldsOne, IsEditionReadable}
use Rattle.store_holdings.specs.CutTexts.{Cuts}
use Rattle.store_holdings.proofs.LookupLemmas.{all_contains}
use Rattle.store_holdings.proofs.RowLemmas.{column_behind, rows_tested, rows_numbered, same_int}
use Rattle.store_holdings.proofs.OneLemmas.{both}
use Rattle.store_sql.proofs.DecodeLemmas.{decode_part, part_back}

-- ---- the rows of a number

module _ (db : Database) (orphans : List Part) (T : Tables) (k : KeepsAll Parted db (with_derived orphans T)) (number : ℕ) where
  pub headers_under : IsPermutation (map (λ (e : EditionRecord). header_row (header_of e)) (editions_numbered (pos number) T.editions)) (rows_under (codes "edition") number db)
  headers_under = rows_numbered (λ (e : EditionRecord). header_row (header_of e)) (λ (e : EditionRecord). e.number) (λ e. refl) (codes "edition") db T.editions k.1.1.1.1.0.rows (pos number)

-- the test of a part, on its row
abbrev behind_test : (n f : ℤ) → Row → Bool
behind_test n f row = same_value (column row 0) (Int n) && same_value (column row 1) (Int f)

abbrev part_test : (n f : ℤ) → Part → Bool
part_test n f p = same_number p.edition n && same_number p.file f

row_test : (n f : ℤ) (p : Part) → behind_test n f (part_row p) ≡ part_test n f p
row_test n f p = let first = same_int p.edition n in let second = same_int p.file f in λ i. first i && second i

rowid_test : (n f : ℤ) (row : Row) → behind_test n f (drop 1 row) ≡ is_of_file n f row
rowid_test n f row =
    let first = column_behind row 0 (drop 1 row) refl in
    let second = column_behind row 1 (drop 1 row) refl in
    λ i. same_value (sym first i) (Int n) && same_value (sym second i) (Int f)

-- of parts that are the rows of the table, those of a file are its rows
parts_of_file : (db : Database) (ps : List Part) → IsPermutation (map part_row ps) (map (drop 1) (rows_of (codes "dictcat_part") db)) → (n f : ℤ)
    → IsPermutation (map part_row (filter (part_test n f) ps)) (map (drop 1) (filter (is_of_file n f) (rows_of (codes "dictcat_part") db)))
parts_of_file db ps same n f = rows_tested part_row (part_test n f) (behind_test n f) (is_of_file n f) (row_test n f) (rowid_test n f) ps (rows_of (codes "dictcat_part") db) same

-- ---- each row under a number stands for a header, or for a part

pub held_readable : (db : Database) (M : Catalogue) (number : ℕ) → Holds known db M → IsEditionReadable db number
held_readable db M number holds =
    let all = holdings.held_readable known db M holds in
    record {
      headers = all_filter (HasColumns header_columns) (equals_number 1 (pos number)) (rows_of (codes "edition") db) all.1.1.1.1.0;
      parts = all_filter (HasColumns part_columns) (is_of_file (pos number) (pos 1)) (rows_of (codes "dictcat_part") db) all.1.1.1.1.1.0;
    }

-- ---- the edition of a number

how_many_few : {X : Type 0} (test : X → Bool) (xs : List X) → how_many test xs ≤ length xs
how_many_few test [] = omega arith
how_many_few test (x ∷ xs) = by_test (test x) (how_many_few test xs)
  where
    by_test : (b : Bool) → how_many test xs ≤ length xs → cond b 1 0 + how_many test xs ≤ length (x ∷ xs)
    by_test true h = omega arith
    by_test false h = omega arith

number_all : {A : Type 0} (P : ℕ → Type 0) (stored : List (Stored A)) (one : Stored A) → AllByRecursion P (map (λ s. s.number) stored) → Contains stored one → P one.number
number_all P stored one all at = all_contains (λ s. P s.number) stored one (all_unmapped P (λ s. s.number) stored all) at

-- a number is that of no more than the commands that were kept
pub number_few : (M : Catalogue) → IsWellFormed M → (number : ℕ) (edition : AnEdition) → HasEdition M number edition → number ≤ 9223372036854775807
number_few M well number edition has =
    let item = has.item in
    let stored : Stored AnEdition = record { number = number; content = edition } in
    let ranges = all_flat_map_parts (λ n. (1 ≤ n) × (n ≤ M.installs)) numbers_of M.items well.edition_range in
    let within : (1 ≤ number) × (number ≤ M.installs) = number_all (λ n. (1 ≤ n) × (n ≤ M.installs)) (editions_of item) stored
    (all_contains (λ (i : Item AnEdition). AllByRecursion (λ n. (1 ≤ n) × (n ≤ M.installs)) (numbers_of i)) M.items item ranges has.stands) has.stored in
    let few = how_many_few (λ (kept : KeptFor). is_install kept.reply.verb) M.kept in
    bound number M.installs (how_many (λ (kept : KeptFor). is_install kept.reply.verb) M.kept) (length M.kept) 9223372036854775807 within.1 well.installs few well.accepted_limit
  where
    bound : (a b c d e : ℕ) → a ≤ b → b ≡ c → c ≤ d → d ≤ e → a ≤ e
    bound a b c d e p q r s = omega arith

-- the catalogue has its number
pub number_known : (M : Catalogue) (number : ℕ) (edition : AnEdition) → HasEdition M number edition → has_number M.items (pos number) ≡ true
number_known M number edition has =
    let stored : Stored AnEdition = record { number = number; content = edition } in
    let each = all_flat_map_parts (λ n. has_number M.items (pos n) ≡ true) numbers_of M.items (each_among (edition_numbers M.items)) in
    number_all (λ n. has_number M.items (pos n) ≡ true) (editions_of has.item) stored
    (all_contains (λ (i : Item AnEdition). AllByRecursion (λ n. has_number M.items (pos n) ≡ true) (numbers_of i)) M.items has.item each has.stands) has.stored

-- no orphan has the number
abbrev pub AreBeside : List Part → Tables → ℕ → Type 0
AreBeside orphans T number = filter (λ (p : Part). same_number p.edition (pos number)) (orphans ++ all_parts T) ≡ filter (λ (p : Part). same_number p.edition (pos number)) (all_parts T)

-- the parts of its text, whatever orphans are beside
text_under_number : (orphans : List Part) (T : Tables) (owner : List ℕ) (stored : Stored AnEdition) (one : HoldsEdition T owner stored) → AreBeside orphans T stored.number
    → filter (part_test (pos stored.number) (pos 1)) (orphans ++ all_parts T) ≡ file_parts (pos stored.number) (pos 1) one.reading.text
text_under_number orphans T owner stored one beside =
    sym (filter_filter (λ (p : Part). same_number p.file (pos 1)) (λ (p : Part). same_number p.edition (pos stored.number)) (part_test (pos stored.number) (pos 1)) (λ p. refl) (orphans ++ all_parts T))
    ∙ ap (filter (λ (p : Part). same_number p.file (pos 1))) (beside ∙ parts_held T owner stored one) ∙ text_under (pos stored.number) (stored_index one.reading.lines) one.reading.text

pub text_held : (db : Database) (orphans : List Part) (T : Tables) (k : KeepsAll Parted db (with_derived orphans T)) (owner : List ℕ) (stored : Stored AnEdition) (one : HoldsEdition T owner stored) → AreBeside orphans T stored.number
    → stored.number ≤ 9223372036854775807 → HoldsText db stored.number one.reading.text
text_held db orphans T k owner stored one beside few =
    let parts : IsPermutation (map part_row (filter (part_test (pos stored.number) (pos 1)) (orphans ++ all_parts T))) (text_rows stored.number db) =
    parts_of_file db (orphans ++ all_parts T) k.1.1.1.1.1.0.rows (pos stored.number) (pos 1) in
    record { few = few; rows = subst (λ (l : List Part). IsPermutation (map part_row l) (text_rows stored.number db)) (text_under_number orphans T owner stored one beside) parts }

-- ---- one text stands under a number

pub text_once : (db : Database) (number : ℕ) (x y : List ℕ) → HoldsText db number x → HoldsText db number y → x ≡ y
text_once db number x y a b =
    file_told (pos number) (pos 1) x y (both part_row decode_part part_back (file_parts (pos number) (pos 1) x) (file_parts (pos number) (pos 1) y) (text_rows number db) a.rows b.rows)

-- ---- an edition of the catalogue

pub held_one : (db : Database) (M : Catalogue) (number : ℕ) (edition : AnEdition) → Holds known db M → HasEdition M number edition
    → (reading : ReadEdition) × HoldsOne db number reading × (edition ≡ edition_of reading) × HoldsText db number reading.text × Cuts (map entry_of reading.lines) edition reading.text
held_one db M number edition holds has =
    let T = holds.tables in
    let orphans = holds.orphans in
    let k : KeepsAll Parted db (with_derived orphans T) = holds.keeps in
    let item = has.item in
    let stored : Stored AnEdition = record { number = number; content = edition } in
    let one : HoldsEdition T (name_of item) stored = all_contains (HoldsEdition T (name_of item)) (editions_of item) stored (all_contains (HoldsEditions T) M.items item holds.stands.editions has.stands) has.stored in
    let few = number_few M holds.stands.well_formed number edition has in (
      one.reading,
      record {
        few = few;
        owner = name_of item;
        row = subst (λ (l : List EditionRecord). IsPermutation (map (λ (e : EditionRecord). header_row (header_of e)) l) (rows_under (codes "edition") number db)) one.row (headers_under db orphans T k number);
      },
      one.says,
      text_held db orphans T k (name_of item) stored one (beside_orphans known M orphans T (pos number) holds.apart (number_known M number edition has)) few,
      record { lines = one.reading.lines; entries = refl; cut = ap (λ (e : AnEdition). e.entries) one.says; short = one.short },
    )

-- ---- the tables

had : (table : ℕ → Table) (db : Database) → HasOwn db.schema table → Has table db
had table db own = (own.at, own.tree, own.has)

pub held_tables : (db : Database) → HasLayout (layout_of known) db.schema → HasLookupTables db
held_tables db own = record { headers = had _ db own.tables.1.1.1.1.0; parts = had _ db own.tables.1.1.1.1.1.0 }
