-- The empty tables of the known version, made one after the other.
use Rattle.std.proofs.Common.{◌≡◌, ◌∙◌, ℕ, false, true, List, [], ◌∷◌, map, drop, codes, refl, sym, subst, rules}
use Rattle.std.specs.List.Sorted.{IsPermutation}
use Rattle.std.proofs.lemmas.List.Sorted.{IsPermutation-refl}
use Rattle.sqlite_schema.specs.Names.{same_name}
use Rattle.dict_catalogue.specs.Steps.{empty_catalogue}
use Rattle.dict_catalogue.proofs.WellFormedLemmas.{empty_well_formed}
use Rattle.store_tables.specs.Definitions.{are_named_apart}
use Rattle.store_tables.specs.Room.{LeavesRoom}
use Rattle.store_tables.specs.declared.tables.StoreTable.{StoreTable}
use Rattle.store_tables.specs.declared.tables.StoreTable.TheVariants.{Mark, Item, Member, Edition, Kept}
use Rattle.store_tables.proofs.MadeLemmas.{room_for}
use Rattle.store_tables.specs.Creates.{AreApart, AreMade}
use Rattle.store_tables.proofs.MakeLemmas.{all_made, one_leaves, turn_counted, turn_leaves, turn_sound}
use Rattle.store_sql.proofs.HeaderDefinitionLemmas.{apart_as}
use Rattle.store_sql.proofs.PartDefinitionLemmas.{from_store as part_apart}
use Rattle.store_rows.specs.Tables.{Tables}
use Rattle.store_rows.specs.Versions.{Parted, known}
use Rattle.store_holdings.specs.AllTables.{with_derived}
use Rattle.store_sql.specs.Readings.{TableReading, KeepsRows, table_name_of, marks, items, members, editions, contents, kept_replies}
use Rattle.store_holdings.specs.Holds.{HasPlace, Holds}
use Rattle.store_holdings.proofs.KeepLemmas.{keeps_added, keeps_none}
use Rattle.store_holdings.proofs.OrphanLemmas.{no_orphans}
use Rattle.store_migration.specs.Making.{lasting_tables}
use Rattle.store_migration.proofs.KitLemmas.{Database, IsDatabase, Table, IsDefinition, HasOwn, mark, item, member, kept, table_of, store_defined, IsFree, IsMade, MadeInTurn, HasApartRowids, IsAdded, rows_of, apart_none, own_in}
use Rattle.store_migration.proofs.KitLemmas.{one_keeps, one_own, one_rows, header, header_defined, part, part_defined, mark_row, mark_record}
use Rattle.store_migration.proofs.SpareLemmas.{apart_mark, others_rows, own_still}

-- ---- what is made first leaves room for the others

pub lasting_apart : AreApart lasting_tables
lasting_apart = search rules

turn_room : (other : Table) → ((t : StoreTable) → are_named_apart (table_of t 0) other ≡ true) → (ts : List StoreTable) (old new : Database) → MadeInTurn ts old new → LeavesRoom old.schema other → LeavesRoom new.schema other
turn_room other apart [] old new h room = subst (λ (d : Database). LeavesRoom d.schema other) (sym h) room
turn_room other apart (t ∷ ts) old new h room = turn_room other apart ts h.0 new h.2 (one_leaves (table_of t) (store_defined t) old h.0 h.1 other (apart t) room)

module _ (old mid : Database) (place : HasPlace old.schema) (sound : IsDatabase old) (made : MadeInTurn lasting_tables old mid) where
  room_of_headers : LeavesRoom mid.schema (header 0)
  room_of_headers =
      let room = turn_leaves Edition lasting_tables old mid ((λ e. cc), ((λ e. cc), ((λ e. cc), ((λ e. cc), tt)))) made (room_for old.schema place.room Edition) in
      record { unused = room.unused; unreferred = room.unreferred; unindexed = room.unindexed }

  pub headers_free : IsFree mid.schema (header 0).name
  headers_free = record { unused = room_of_headers.unused; counted = turn_counted lasting_tables old mid made place.room.counted }

  all_there : AreMade lasting_tables old mid
  all_there = all_made lasting_tables old mid lasting_apart (record { room = place.room; sound = sound }) made

  module _ (next : Database) (headed : IsMade (header 0) mid next) where
    next_room : LeavesRoom next.schema (part 0)
    next_room =
        let room = turn_room (part 0) (λ t. (part_apart t).1) lasting_tables old mid made place.later in
        one_leaves header header_defined mid next headed (part 0) ((apart_as (part 0)).0 ∙ (part_apart Edition).1) room

    pub parts_free : IsFree next.schema (part 0).name
    parts_free = record { unused = next_room.unused; counted = headed.counted }

    module _ (late : Database) (parted : IsMade (part 0) next late) where
      late_own : (table : ℕ → Table) → IsDefinition table → HasOwn mid.schema table → HasOwn late.schema table
      late_own table defined own = one_keeps part part_defined next late parted table defined (one_keeps header header_defined mid next headed table defined own)

      pub mark_there : HasOwn late.schema mark
      mark_there = late_own mark (store_defined Mark) all_there.own.0

      late_none : (table : ℕ → Table) (defined : IsDefinition table) → HasOwn mid.schema table → rows_of (table 0).name mid ≡ [] → rows_of (table 0).name late ≡ []
      late_none table defined own none =
          let there = one_keeps header header_defined mid next headed table defined own in
          one_rows (part 0) next late parted (table 0).name (table there.tree) (own_in table defined next there) ∙ (one_rows (header 0) mid next headed (table 0).name (table own.tree) (own_in table defined mid own) ∙ none)

      next_headers : HasOwn next.schema header
      next_headers = one_own header header_defined mid next headed (turn_sound lasting_tables old mid made sound) room_of_headers.unused room_of_headers.unreferred

      late_headers : HasOwn late.schema header
      late_headers = one_keeps part part_defined next late parted header header_defined next_headers

      no_headers : rows_of (header 0).name late ≡ []
      no_headers = one_rows (part 0) next late parted (header 0).name (header next_headers.tree) (own_in header header_defined next next_headers) ∙ headed.empty

      late_parts : HasOwn late.schema part
      late_parts = one_own part part_defined next late parted headed.sound next_room.unused next_room.unreferred

      module _ (new : Database) (put : IsAdded (codes "mark") (mark_row (mark_record known 0)) late new) where
        abbrev empty_tables : Tables
        empty_tables = record { marks = mark_record known 0 ∷ []; items = []; members = []; editions = []; entries = []; kept = [] }

        own_new : (table : ℕ → Table) → HasOwn late.schema table → HasOwn new.schema table
        own_new table own = own_still table late new put.schema own

        none_new : (r : TableReading) → IsDefinition r.table → same_name (table_name_of r) (mark 0).name ≡ false → HasOwn late.schema r.table → rows_of (table_name_of r) late ≡ [] → r.rows (with_derived [] empty_tables) ≡ []
            → KeepsRows r new (with_derived [] empty_tables)
        none_new r defined apart own none no_rows =
            let empty = others_rows mark (store_defined Mark) r.table defined apart late new put.schema put.others mark_there own ∙ none in
            record {
              rows = subst (λ l. IsPermutation l (map (λ row. drop 1 (r.looked row)) (rows_of (table_name_of r) new))) (sym no_rows) (subst (λ l. IsPermutation [] (map (λ row. drop 1 (r.looked row)) l)) (sym empty) (IsPermutation-refl []));
              apart = subst HasApartRowids (sym empty) apart_none;
            }

        marks_new : KeepsRows marks new (with_derived [] empty_tables)
        marks_new =
            let k = keeps_added (codes "mark") mark_row late new [] (mark_record known 0) put (keeps_none (codes "mark") mark_row late (late_none mark (store_defined Mark) all_there.own.0 all_there.empty.0)) in
            record { rows = k.rows; apart = k.apart }

        pub empty_held : Holds known new empty_catalogue
        empty_held =
            let own = all_there.own in
            let none = all_there.empty in
            let away = apart_mark in
            let its_item = late_own item (store_defined Item) own.1.0 in
            let its_member = late_own member (store_defined Member) own.1.1.0 in
            let its_kept = late_own kept (store_defined Kept) own.1.1.1.0 in
            record {
              own = record {
                tables = (own_new mark mark_there, (own_new item its_item, (own_new member its_member, (own_new kept its_kept, (own_new header late_headers, (own_new part late_parts, tt))))));
                room = tt;
              };
              tables = empty_tables;
              orphans = [];
              keeps = (
                marks_new,
                (
                  none_new items (store_defined Item) away.0.0 its_item (late_none item (store_defined Item) own.1.0 none.1.0) refl,
                  (
                    none_new members (store_defined Member) away.0.1 its_member (late_none member (store_defined Member) own.1.1.0 none.1.1.0) refl,
                    (
                      none_new kept_replies (store_defined Kept) away.0.2 its_kept (late_none kept (store_defined Kept) own.1.1.1.0 none.1.1.1.0) refl,
                      (none_new (editions Parted) header_defined away.1.0 late_headers no_headers refl, (none_new (contents Parted) part_defined away.1.1 late_parts parted.empty refl, tt)),
                    ),
                  ),
                ),
              );
              shown = tt;
              stands = record { well_formed = empty_well_formed; marks = refl; items = refl; members = tt; owners = tt; editions = tt; numbers = tt; entries = tt; kept = refl };
              apart = no_orphans known empty_catalogue;
            }
