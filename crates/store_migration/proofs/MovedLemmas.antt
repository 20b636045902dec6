-- What a whole migration makes.
use Rattle.std.proofs.Common.{◌≡◌, ◌++◌, ◌∙◌, ◌<◌, ℕ, ℤ, pos, Option, Some, None, true, false, not, List, [], ◌∷◌, map, drop, filter, codes, refl, sym, subst}
use Rattle.std.specs.List.Sorted.{IsPermutation}
use Rattle.std.proofs.lemmas.List.Sorted.{IsPermutation-map, IsPermutation-trans}
use Rattle.sqlite_schema.specs.Names.{same_name}
use Rattle.dict_catalogue.specs.Items.{edition_numbers}
use Rattle.dict_catalogue.specs.Steps.{Catalogue}
use Rattle.store_tables.specs.Records as spec
use Rattle.store_tables.specs.declared.tables.StoreTable.TheVariants as store
use Rattle.store_sql.specs.Deletes.{HasToRemove}
use Rattle.store_sql.specs.HeaderRecords.{header_row}
use Rattle.store_rows.specs.Tables.{Tables}
use Rattle.store_rows.specs.Stands.{Stands}
use Rattle.store_rows.specs.Versions.{Parted, layout_of, known}
use Rattle.store_rows.specs.Order.{is_of}
use Rattle.store_rows.proofs.SelectionLemmas.{filter_whole}
use Rattle.store_holdings.specs.AllTables.{AllTables, with_derived, as_version}
use Rattle.store_holdings.specs.Files.{all_parts}
use Rattle.store_sql.specs.Readings.{TableReading, KeepsAll, KeepsRows, table_name_of, marks, items, members, editions, contents, kept_replies, AreShownIn}
use Rattle.store_holdings.specs.Holds.{HasLayout, Holds}
use Rattle.store_holdings.proofs.KeepLemmas.{keeps_added, keeps_none}
use Rattle.store_holdings.proofs.OneLemmas.{same_version}
use Rattle.store_holdings.proofs.OrphanLemmas.{no_orphans}
use Rattle.store_holdings.proofs.ReadingLemmas.{map_twice}
use Rattle.store_migration.specs.Migrated.{IsMigrated}
use Rattle.store_migration.specs.Moved.{AreHeaded, AreTakenApart, IsMarkedAnew, IsMoved, IsRenewed}
use Rattle.store_migration.specs.Older.{IsOld, form_of, layout_as, layout_before}
use Rattle.store_migration.specs.Spared.{IsBeside, Spares}
use Rattle.store_migration.specs.declared.older.Older.{Older}
use Rattle.store_migration.specs.declared.older.Older.TheVariants.{Plain, Keyed, Shown}
use Rattle.store_migration.proofs.KitLemmas.{Database, Table, IsDefinition, HasOwn, mark, item, member, edition, kept, store_defined, HasApartRowids, rows_of, apart_none, own_has, own_in, one_keeps, one_own, one_rows, header}
use Rattle.store_migration.proofs.KitLemmas.{header_defined, part, part_defined, entry_table_of, form_defined, Row, mark_row, part_row, mark_record}
use Rattle.store_migration.proofs.RowLemmas.{all_filed, none_filed, records_same, HasRecordsOf, IsFiled}
use Rattle.store_migration.proofs.FlowLemmas.{apart_headed, apart_part, apart_parts_are, apart_spares, old_has, made_owns}
use Rattle.store_migration.proofs.NumberLemmas.{all_fresh, all_numbered, editions_known, parts_known}
use Rattle.store_migration.proofs.SpareLemmas.{added_rows, apart_mark, others_rows, own_still, part_header, same_entries, spares_added, spares_made, spares_then}

-- the tables that stay
beside : IsBeside (codes "mark") × IsBeside (codes "item") × IsBeside (codes "member") × IsBeside (codes "kept")
unfolding same_name
beside = (
  record { entries = refl; words = refl; grams = refl; editions = refl; parts = refl },
  record { entries = refl; words = refl; grams = refl; editions = refl; parts = refl },
  record { entries = refl; words = refl; grams = refl; editions = refl; parts = refl },
  record { entries = refl; words = refl; grams = refl; editions = refl; parts = refl },
)

-- ---- the headers

module _ (older : Older) (numbers : List ℤ) (headers : List spec.HeaderRecord) (old apart new : Database) (its : IsOld (layout_as older) old) (takes : AreTakenApart older numbers headers old apart) (h : AreHeaded headers apart new) where
  pub made_header : HasOwn h.with_table.schema header
  made_header =
      let may = apart_headed older numbers headers old apart its takes in
      one_own header header_defined apart h.with_table h.made may.sound may.room.unused may.room.unreferred

  parts_made : HasOwn h.with_table.schema part
  parts_made = one_keeps header header_defined apart h.with_table h.made part part_defined (apart_part older numbers headers old apart its takes)

  pub headed_part : HasOwn new.schema part
  headed_part = own_still part h.with_table new h.added.schema parts_made

  pub headed_parts_are : rows_of (part 0).name new ≡ rows_of (part 0).name takes.with_files
  headed_parts_are =
      let own = apart_part older numbers headers old apart its takes in
      added_rows header header_defined part part_defined part_header _ h.with_table new h.added made_header parts_made
      ∙ one_rows (header 0) apart h.with_table h.made (part 0).name (part own.tree) (own_in part part_defined apart own)
      ∙ apart_parts_are older numbers headers old apart its takes

  pub headed_rows : IsPermutation (map header_row headers) (map (drop 1) (rows_of (codes "edition") new))
  headed_rows = subst (λ l. IsPermutation (map (drop 1) l ++ map header_row headers) (map (drop 1) (rows_of (codes "edition") new))) h.made.empty h.added.rows

  pub headed_spares : Spares old new
  headed_spares =
      spares_then old apart new (apart_spares older numbers headers old apart its takes)
      (spares_then apart h.with_table new (spares_made header header_defined apart h.with_table h.made) (spares_added header header_defined (λ name b. b.editions) _ h.with_table new h.added made_header))

  pub marks_own : HasOwn new.schema mark
  marks_own = (headed_spares mark (store_defined store.Mark) beside.0 its.own.tables.0).0

  pub mark_behind : HasToRemove mark new
  mark_behind =
      let stays = headed_spares mark (store_defined store.Mark) beside.0 its.own.tables.0 in
      record { has = own_has mark new stays.0; apart = subst HasApartRowids (sym stays.1) its.marks }

-- ---- the mark anew

none_left : (rows : List Row) → filter (λ (r : Row). not true) rows ≡ []
none_left [] = refl
none_left (r ∷ rows) = none_left rows

module _ (installs : ℕ) (last new : Database) (own : HasOwn last.schema mark) (h : IsMarkedAnew installs last new) where
  pub marked_rows : (other : ℕ → Table) → IsDefinition other → same_name (other 0).name (mark 0).name ≡ false → HasOwn last.schema other → rows_of (other 0).name new ≡ rows_of (other 0).name last
  marked_rows other also apart its =
      others_rows mark (store_defined store.Mark) other also apart h.cleared new h.put.schema h.put.others (own_still mark last h.cleared h.taken.schema own) (own_still other last h.cleared h.taken.schema its)
      ∙ others_rows mark (store_defined store.Mark) other also apart last h.cleared h.taken.schema h.taken.others own its

  pub marked_marks : (version : ℕ) (t : Tables) → t.marks ≡ mark_record version installs ∷ [] → KeepsRows marks new (with_derived [] (as_version known t))
  marked_marks version t is =
      let k = keeps_added (codes "mark") mark_row h.cleared new [] (mark_record known installs) h.put (keeps_none (codes "mark") mark_row h.cleared (h.taken.rows ∙ none_left (rows_of (codes "mark") last))) in
      let rows = map (drop 1) (rows_of (codes "mark") new) in
      record {
        rows = subst (λ (ms : List spec.Mark). IsPermutation (map mark_row (map (λ (m : spec.Mark). record m { version = pos known }) ms)) rows) (sym is) k.rows;
        apart = k.apart;
      }

-- ---- all of it

-- these records stand for the one catalogue that is held
one_held_so : (version : ℕ) (db : Database) (M N : Catalogue) → Holds version db N → (t : Tables) → KeepsAll (layout_of version) db (with_derived [] t) → AreShownIn (layout_of version) t.entries → Stands version t M → M ≡ N
one_held_so version db M N held t k shown s = same_version version db M N (record { own = held.own; tables = t; orphans = []; keeps = k; shown = shown; stands = s; apart = no_orphans version M }) held

again : (r : TableReading) (A B : AllTables) (old new : Database) → r.rows A ≡ r.rows B → rows_of (table_name_of r) new ≡ rows_of (table_name_of r) old → KeepsRows r old A → KeepsRows r new B
again r A B old new same still k = record {
  rows = subst (λ l. IsPermutation (r.rows B) (map (λ row. drop 1 (r.looked row)) l)) (sym still) (subst (λ l. IsPermutation l (map (λ row. drop 1 (r.looked row)) (rows_of (table_name_of r) old))) same k.rows);
  apart = subst HasApartRowids (sym still) k.apart;
}

records_of : (older : Older) (t : Tables) (db : Database) → KeepsAll (layout_as older) db (with_derived [] t) → AreShownIn (layout_as older) t.entries → HasRecordsOf older t db
records_of Plain t db k shown = record { editions = k.1.1.1.1.0.rows; entries = k.1.1.1.1.1.0.rows; shown = shown }
records_of Keyed t db k shown = record { editions = k.1.1.1.1.0.rows; entries = k.1.1.1.1.1.0.rows; shown = shown }
records_of Shown t db k shown = record { editions = k.1.1.1.1.0.rows; entries = k.1.1.1.1.1.0.rows; shown = shown }

module _ (older : Older) (version : ℕ) (is : layout_of version ≡ layout_as older) (before : version < known) (N : Catalogue) (old new : Database) (its : IsOld (layout_as older) old) (held : Holds version old N)
    (m : IsMoved older (map pos (edition_numbers N.items)) N.installs old new) where
  abbrev numbers : List ℤ
  numbers = map pos (edition_numbers N.items)

  stays : (other : ℕ → Table) → IsDefinition other → IsBeside (other 0).name → HasOwn old.schema other → HasOwn m.headed.schema other × (rows_of (other 0).name m.headed ≡ rows_of (other 0).name old)
  stays = headed_spares older numbers m.headers old m.apart m.headed its m.takes m.heads

  mark_last : HasOwn m.headed.schema mark
  mark_last = (stays mark (store_defined store.Mark) beside.0 its.own.tables.0).0

  same_schema : new.schema ≡ m.headed.schema
  same_schema = m.marked.put.schema ∙ m.marked.taken.schema

  own_new : (table : ℕ → Table) → HasOwn m.headed.schema table → HasOwn new.schema table
  own_new table own = own_still table m.headed new same_schema own

  other_new : (table : ℕ → Table) → IsDefinition table → IsBeside (table 0).name → HasOwn old.schema table → HasOwn new.schema table
  other_new table defined beside own = own_new table (stays table defined beside own).0

  parts_last : HasOwn m.headed.schema part
  parts_last = headed_part older numbers m.headers old m.apart m.headed its m.takes m.heads

  headers_last : HasOwn m.headed.schema header
  headers_last = own_still header m.heads.with_table m.headed m.heads.added.schema (made_header older numbers m.headers old m.apart m.headed its m.takes m.heads)

  moved_own : HasLayout (layout_of known) new.schema
  moved_own =
      let own = its.own.tables in
      record {
        tables = (
          own_new mark mark_last,
          (
            other_new item (store_defined store.Item) beside.1 own.1.0,
            (
              other_new member (store_defined store.Member) beside.2 own.1.1.0,
              (other_new kept (store_defined store.Kept) beside.3 own.1.1.1.0, (own_new header headers_last, (own_new part parts_last, tt))),
            ),
          ),
        );
        room = tt;
      }

  module _ (t : Tables) (s : Stands version t N) (shown : AreShownIn (layout_as older) t.entries) (k : KeepsAll (layout_as older) old (with_derived [] t)) where
    first_records : HasRecordsOf older t m.takes.with_table
    first_records =
        let own = (old_has older old.schema its.own).edition in
        let its_own = (old_has older old.schema its.own).entries in
        let f = form_of older in
        let rows = one_rows (part 0) old m.takes.with_table m.takes.made in
        records_same older t old m.takes.with_table (rows (edition 0).name (edition own.tree) (own_in edition (store_defined store.Edition) old own))
        (subst (λ name. rows_of name m.takes.with_table ≡ rows_of name old) (same_entries f) (rows (entry_table_of f 0).name (entry_table_of f its_own.tree) (own_in (entry_table_of f) (form_defined f) old its_own)))
        (records_of older t old k shown)

    all_done : IsFiled numbers m.headers t m.takes.with_files
    all_done =
        all_filed older t numbers [] [] m.headers m.takes.with_table m.takes.with_files (all_fresh version t N s) (all_numbered version t N s) (made_owns older old m.takes.with_table its m.takes.made) m.takes.parted first_records
        (none_filed t m.takes.with_table m.takes.made.empty)

    rows_new : (table : ℕ → Table) → IsDefinition table → same_name (table 0).name (mark 0).name ≡ false → HasOwn m.headed.schema table → rows_of (table 0).name new ≡ rows_of (table 0).name m.headed
    rows_new = marked_rows N.installs m.headed new mark_last m.marked

    -- a table that stays has what it had
    other_kept : (r : TableReading) → IsDefinition r.table → IsBeside (table_name_of r) → same_name (table_name_of r) (mark 0).name ≡ false → HasOwn old.schema r.table
        → r.rows (with_derived [] t) ≡ r.rows (with_derived [] (as_version known t)) → KeepsRows r old (with_derived [] t) → KeepsRows r new (with_derived [] (as_version known t))
    other_kept r defined beside apart own same kept =
        let stay = stays r.table defined beside own in
        again r (with_derived [] t) (with_derived [] (as_version known t)) old new same (rows_new r.table defined apart stay.0 ∙ stay.1) kept

    -- all parts
    parts_kept : KeepsRows (contents Parted) new (with_derived [] (as_version known t))
    parts_kept =
        let whole = filter_whole (λ (p : spec.Part). is_of numbers p.edition) (all_parts t) (parts_known version t N s) in
        let same = rows_new part part_defined apart_mark.1.1 parts_last ∙ headed_parts_are older numbers m.headers old m.apart m.headed its m.takes m.heads in
        record {
          rows = subst (λ l. IsPermutation (map part_row (all_parts t)) (map (drop 1) l)) (sym same)
              (subst (λ ps. IsPermutation (map part_row ps) (map (drop 1) (rows_of (codes "dictcat_part") m.takes.with_files))) whole all_done.parts);
          apart = subst HasApartRowids (sym same) all_done.apart;
        }

    -- all headers
    headers_kept : KeepsRows (editions Parted) new (with_derived [] (as_version known t))
    headers_kept =
        let whole = filter_whole (λ (e : spec.EditionRecord). is_of numbers e.number) t.editions (editions_known version t N s) in
        let same = rows_new header header_defined apart_mark.1.0 headers_last in
        let rows = map (drop 1) (rows_of (codes "edition") m.headed) in
        let heads : IsPermutation (map spec.header_of t.editions) m.headers = subst (λ es. IsPermutation (map spec.header_of es) m.headers) whole all_done.heads in
        let all = IsPermutation-trans (map header_row (map spec.header_of t.editions)) (map header_row m.headers) rows (IsPermutation-map header_row _ _ heads)
        (headed_rows older numbers m.headers old m.apart m.headed its m.takes m.heads) in
        record {
          rows = subst (λ l. IsPermutation (map (λ e. header_row (spec.header_of e)) t.editions) (map (drop 1) l)) (sym same) (subst (λ l. IsPermutation l rows) (map_twice spec.header_of header_row t.editions) all);
          apart = subst HasApartRowids (sym same) (m.heads.added.apart (subst HasApartRowids (sym m.heads.made.empty) apart_none));
        }

    moved_keeps : KeepsAll (layout_of known) new (with_derived [] (as_version known t))
    moved_keeps =
        let own = its.own.tables in
        let away = apart_mark in (
          marked_marks N.installs m.headed new mark_last m.marked version t s.marks,
          (
            other_kept items (store_defined store.Item) beside.1 away.0.0 own.1.0 refl k.1.0,
            (
              other_kept members (store_defined store.Member) beside.2 away.0.1 own.1.1.0 refl k.1.1.0,
              (other_kept kept_replies (store_defined store.Kept) beside.3 away.0.2 own.1.1.1.0 refl k.1.1.1.0, (headers_kept, (parts_kept, tt))),
            ),
          ),
        )

  pub moved : IsMigrated version old new
  moved = record {
    before = before;
    own = moved_own;
    keeps = λ t M k shown s.
        let same : M ≡ N = one_held_so version old M N held t k shown s in
        moved_keeps t (subst (Stands version t) same s) (subst (λ layout. AreShownIn layout t.entries) is shown) (subst (λ layout. KeepsAll layout old (with_derived [] t)) is k);
  }

-- ---- of tables that are laid out as those of the known version, the mark alone

module _ (version : ℕ) (is : layout_of version ≡ Parted) (before : version < known) (N : Catalogue) (old new : Database) (its : IsOld Parted old) (held : Holds version old N) (m : IsMarkedAnew N.installs old new) where
  -- a table has what it had
  still_kept : (t : Tables) (r : TableReading) → IsDefinition r.table → same_name (table_name_of r) (mark 0).name ≡ false → HasOwn old.schema r.table → r.rows (with_derived [] t) ≡ r.rows (with_derived [] (as_version known t))
      → KeepsRows r old (with_derived [] t) → KeepsRows r new (with_derived [] (as_version known t))
  still_kept t r defined apart own same kept = again r (with_derived [] t) (with_derived [] (as_version known t)) old new same (marked_rows N.installs old new its.own.tables.0 m r.table defined apart own) kept

  all_kept : (t : Tables) → Stands version t N → KeepsAll Parted old (with_derived [] t) → KeepsAll (layout_of known) new (with_derived [] (as_version known t))
  all_kept t s k =
      let own = its.own.tables in
      let away = apart_mark in (
        marked_marks N.installs old new own.0 m version t s.marks,
        (
          still_kept t items (store_defined store.Item) away.0.0 own.1.0 refl k.1.0,
          (
            still_kept t members (store_defined store.Member) away.0.1 own.1.1.0 refl k.1.1.0,
            (
              still_kept t kept_replies (store_defined store.Kept) away.0.2 own.1.1.1.0 refl k.1.1.1.0,
              (still_kept t (editions Parted) header_defined away.1.0 own.1.1.1.1.0 refl k.1.1.1.1.0, (still_kept t (contents Parted) part_defined away.1.1 own.1.1.1.1.1.0 refl k.1.1.1.1.1.0, tt)),
            ),
          ),
        ),
      )

  pub marked : IsMigrated version old new
  marked = record {
    before = before;
    own = subst (HasLayout Parted) (sym (m.put.schema ∙ m.taken.schema)) its.own;
    keeps = λ t M k shown s.
        let same : M ≡ N = one_held_so version old M N held t k shown s in
        all_kept t (subst (Stands version t) same s) (subst (λ layout. KeepsAll layout old (with_derived [] t)) is k);
  }

-- either
pub renewed : (older : Option Older) (version : ℕ) → layout_of version ≡ layout_before older → version < known → (N : Catalogue) (old new : Database) → IsOld (layout_before older) old → Holds version old N
    → IsRenewed older (map pos (edition_numbers N.items)) N.installs old new → IsMigrated version old new
renewed (Some older) version is before N old new its held m = moved older version is before N old new its held m
renewed None version is before N old new its held m = marked version is before N old new its held m
