-- What a statement on one table makes of the records of all.
use Rattle.std.proofs.Common.{◌≡◌, ◌≢◌, ◌⊎◌, inl, inr, ℕ, List, [], ◌∷◌, ◌++◌, codes, map, drop, true, false, bytes_eq, Some, refl, sym, subst, ◌∙◌}
use Rattle.std.specs.List.{AllByRecursion}
use Rattle.std.specs.List.Sorted.{IsPermutation}
use Rattle.std.proofs.lemmas.Bool.{false≢true}
use Rattle.std.proofs.lemmas.List.Sorted.{IsPermutation-refl, IsPermutation-trans}
use Rattle.std.proofs.lemmas.Slice.Eq.{bytes_eq-Decides}
use Rattle.sqlite.specs.Effect.{Database}
use Rattle.sqlite.specs.Table.{Table}
use Rattle.sqlite.specs.Order.{Row}
use Rattle.sqlite.specs.Schema.{Schema}
use Rattle.sqlite_schema.specs.Names.{table_named}
use Rattle.dict_text.proofs.AllLemmas.{all_weaker}
use Rattle.store_tables.specs.Found.{HasOwn, found_table}
use Rattle.store_tables.specs.Tables.{mark, item, member, kept}
use Rattle.store_tables.specs.Effects.{Has, HasApartRowids, IsAdded, IsRemoved, SameOthers, rows_of, table_in}
use Rattle.store_sql.specs.Deletes.{HasToRemove}
use Rattle.store_sql.specs.Encodings.{mark_row, item_row, member_row, kept_row}
use Rattle.store_tables.proofs.Callers.{own_has}
use Rattle.store_sql.specs.HeaderTable.{header}
use Rattle.store_sql.specs.HeaderRecords.{header_row}
use Rattle.store_sql.specs.PartTable.{part}
use Rattle.store_sql.specs.PartRecords.{part_row}
use Rattle.store_tables.specs.Records.{Mark, ItemRecord, Member, EditionRecord, EntryRecord, Part, KeptRecord, header_of}
use Rattle.store_rows.specs.Versions.{Parted}
use Rattle.store_holdings.specs.AllTables.{AllTables}
use Rattle.store_sql.specs.Readings as reading
use Rattle.store_sql.specs.Readings.{TableReading, table_name_of, readings, KeepsRows}
use Rattle.store_holdings.specs.Holds.{HasLayout}
use Rattle.store_sql.specs.Readings.{Keeps}
use Rattle.store_holdings.proofs.KeepLemmas.{unmoved, keeps_added}
use Rattle.store_commands.specs.KeptRecords.{HasRecords, IsUsable, IsOther, SparesTablesOfOthers, TurnsRecords}
use Rattle.store_commands.specs.Changes.{without_items, without_members, with_more_items, with_more_members, with_more_editions, with_more_parts}
use Rattle.store_commands.proofs.RowLemmas.{keeps_cleared}

-- the row of the record of an edition, which has no text
abbrev pub edition_row : EditionRecord → Row
edition_row e = header_row (header_of e)

abbrev AreOwn : Schema → Type 0
AreOwn s = HasLayout Parted s

names_apart : (a b : List ℕ) → bytes_eq a b ≡ false → a ≢ b
names_apart a b apart same = false≢true (sym apart ∙ (bytes_eq-Decides a b).1 same)

-- ---- one table has changed, and the others stay

-- the reading is of another table than the one of this name, which is to have what it had
record IsAnother (name : List ℕ) (all turned : AllTables) (q : TableReading) : Type 0 where
  apart : bytes_eq name (table_name_of q) ≡ false
  named : (tree : ℕ) → (q.table tree).name ≡ table_name_of q
  same : q.rows turned ≡ q.rows all

module _ (a : ℕ → Table) (name : List ℕ) (old new : Database) (all turned : AllTables) (names : (t : ℕ) → (a t).name ≡ name) (trees : (t : ℕ) → (a t).tree ≡ t) (own : HasOwn old.schema a)
    (schema : new.schema ≡ old.schema) (rest : SameOthers name old new) where
  -- of each reading: it is of another table, or what it reads was told
  abbrev IsTurned : TableReading → Type 0
  IsTurned q = IsAnother name all turned q ⊎ KeepsRows q new turned

  one_turned : (q : TableReading) → HasOwn old.schema q.table → IsTurned q → KeepsRows q old all → KeepsRows q new turned
  one_turned q has (inr done) k = done
  one_turned q has (inl is) k =
      let same : rows_of (table_name_of q) new ≡ rows_of (table_name_of q) old = unmoved name (table_name_of q) a q.table old new names is.named trees (names_apart name (table_name_of q) is.apart) own has schema rest in
      record {
        rows = subst (λ l. IsPermutation l (map (λ row. drop 1 (q.looked row)) (rows_of (table_name_of q) new))) (sym is.same)
            (subst (λ l. IsPermutation (q.rows all) (map (λ row. drop 1 (q.looked row)) l)) (sym same) k.rows);
        apart = subst HasApartRowids (sym same) k.apart;
      }

  all_turned : (qs : List TableReading) → AllByRecursion (λ q. HasOwn old.schema q.table) qs → AllByRecursion IsTurned qs → AllByRecursion (λ q. KeepsRows q old all) qs → AllByRecursion (λ q. KeepsRows q new turned) qs
  all_turned [] has are k = tt
  all_turned (q ∷ qs) has are k = (one_turned q has.0 are.0 k.0, all_turned qs has.1 are.1 k.1)

  there : table_in name old ≡ Some (a own.tree)
  there =
      let named : table_named old.schema name ≡ Some own.at = subst (λ n. table_named old.schema n ≡ Some own.at) (names own.tree) own.has.named in
      rw (named) own.has.is

  spared : ((t : Table) → IsOther old.schema t → (found : Table) → found_table old.schema name ≡ Some found → t.tree ≢ found.tree) → SparesTablesOfOthers old new
  spared pick = record {
    schema = schema;
    others = all_weaker (λ (t : Table). t.tree ≢ (a own.tree).tree → new.trees t.tree ≡ old.trees t.tree) (λ (t : Table). IsOther old.schema t → new.trees t.tree ≡ old.trees t.tree)
        (λ t same other. same (pick t other (a own.tree) there)) old.schema.tables (rest (a own.tree) there);
  }

module _ (old new : Database) (all : AllTables) (it : HasRecords old all) (schema : new.schema ≡ old.schema) where
  owns : AreOwn new.schema
  owns = subst AreOwn (sym schema) it.own

  -- the table of this name has changed, and what each reading tells then is given: of all but its own, that it is of another table
  module _ (a : ℕ → Table) (name : List ℕ) (turned : AllTables) (names : (t : ℕ) → (a t).name ≡ name) (trees : (t : ℕ) → (a t).tree ≡ t) (own : HasOwn old.schema a) (rest : SameOthers name old new)
      (pick : (t : Table) → IsOther old.schema t → (found : Table) → found_table old.schema name ≡ Some found → t.tree ≢ found.tree) where
    abbrev Tells : TableReading → Type 0
    Tells q = IsAnother name all turned q ⊎ KeepsRows q new turned

    table_turned : Tells reading.marks → Tells reading.items → Tells reading.members → Tells reading.kept_replies → Tells (reading.editions Parted) → Tells (reading.contents Parted)
        → HasRecords new turned × SparesTablesOfOthers old new
    table_turned marks items members kept editions parts = (
      record {
        own = owns;
        keeps = all_turned a name old new all turned names trees own schema rest (readings Parted) it.own.tables (marks, (items, (members, (kept, (editions, (parts, tt)))))) it.keeps;
      },
      spared a name old new all turned names trees own schema rest pick,
    )

  pub marks_turned : (records : List Mark) → SameOthers (codes "mark") old new → Keeps (codes "mark") mark_row new records → HasRecords new (record all { marks = records }) × SparesTablesOfOthers old new
  marks_turned records rest k =
      table_turned mark (codes "mark") (record all { marks = records }) (λ t. refl) (λ t. refl) it.own.tables.0 rest (λ t other. other.0)
      (inr (record { rows = k.rows; apart = k.apart })) (inl (record { apart = refl; named = λ t. refl; same = refl })) (inl (record { apart = refl; named = λ t. refl; same = refl }))
      (inl (record { apart = refl; named = λ t. refl; same = refl })) (inl (record { apart = refl; named = λ t. refl; same = refl })) (inl (record { apart = refl; named = λ t. refl; same = refl }))

  pub items_turned : (records : List ItemRecord) → SameOthers (codes "item") old new → Keeps (codes "item") item_row new records → HasRecords new (record all { items = records }) × SparesTablesOfOthers old new
  items_turned records rest k =
      table_turned item (codes "item") (record all { items = records }) (λ t. refl) (λ t. refl) it.own.tables.1.0 rest (λ t other. other.1.0)
      (inl (record { apart = refl; named = λ t. refl; same = refl })) (inr (record { rows = k.rows; apart = k.apart })) (inl (record { apart = refl; named = λ t. refl; same = refl }))
      (inl (record { apart = refl; named = λ t. refl; same = refl })) (inl (record { apart = refl; named = λ t. refl; same = refl })) (inl (record { apart = refl; named = λ t. refl; same = refl }))

  pub members_turned : (records : List Member) → SameOthers (codes "member") old new → Keeps (codes "member") member_row new records → HasRecords new (record all { members = records }) × SparesTablesOfOthers old new
  members_turned records rest k =
      table_turned member (codes "member") (record all { members = records }) (λ t. refl) (λ t. refl) it.own.tables.1.1.0 rest (λ t other. other.1.1.0)
      (inl (record { apart = refl; named = λ t. refl; same = refl })) (inl (record { apart = refl; named = λ t. refl; same = refl })) (inr (record { rows = k.rows; apart = k.apart }))
      (inl (record { apart = refl; named = λ t. refl; same = refl })) (inl (record { apart = refl; named = λ t. refl; same = refl })) (inl (record { apart = refl; named = λ t. refl; same = refl }))

  pub kept_turned : (records : List KeptRecord) → SameOthers (codes "kept") old new → Keeps (codes "kept") kept_row new records → HasRecords new (record all { kept = records }) × SparesTablesOfOthers old new
  kept_turned records rest k =
      table_turned kept (codes "kept") (record all { kept = records }) (λ t. refl) (λ t. refl) it.own.tables.1.1.1.0 rest (λ t other. other.1.1.1.0)
      (inl (record { apart = refl; named = λ t. refl; same = refl })) (inl (record { apart = refl; named = λ t. refl; same = refl })) (inl (record { apart = refl; named = λ t. refl; same = refl }))
      (inr (record { rows = k.rows; apart = k.apart })) (inl (record { apart = refl; named = λ t. refl; same = refl })) (inl (record { apart = refl; named = λ t. refl; same = refl }))

  pub editions_turned : (records : List EditionRecord) → SameOthers (codes "edition") old new → Keeps (codes "edition") edition_row new records → HasRecords new (record all { editions = records }) × SparesTablesOfOthers old new
  editions_turned records rest k =
      table_turned header (codes "edition") (record all { editions = records }) (λ t. refl) (λ t. refl) it.own.tables.1.1.1.1.0 rest (λ t other. other.1.1.1.1.0)
      (inl (record { apart = refl; named = λ t. refl; same = refl })) (inl (record { apart = refl; named = λ t. refl; same = refl })) (inl (record { apart = refl; named = λ t. refl; same = refl }))
      (inl (record { apart = refl; named = λ t. refl; same = refl })) (inr (record { rows = k.rows; apart = k.apart })) (inl (record { apart = refl; named = λ t. refl; same = refl }))

  pub parts_turned : (records : List Part) → SameOthers (codes "dictcat_part") old new → Keeps (codes "dictcat_part") part_row new records → HasRecords new (record all { parts = records }) × SparesTablesOfOthers old new
  parts_turned records rest k =
      table_turned part (codes "dictcat_part") (record all { parts = records }) (λ t. refl) (λ t. refl) it.own.tables.1.1.1.1.1.0 rest (λ t other. other.1.1.1.1.1.0)
      (inl (record { apart = refl; named = λ t. refl; same = refl })) (inl (record { apart = refl; named = λ t. refl; same = refl })) (inl (record { apart = refl; named = λ t. refl; same = refl }))
      (inl (record { apart = refl; named = λ t. refl; same = refl })) (inl (record { apart = refl; named = λ t. refl; same = refl })) (inr (record { rows = k.rows; apart = k.apart }))

-- ---- what each keeps

-- so it keeps other records of the same rows
same_kept : (db : Database) (all turned : AllTables) (qs : List TableReading) → AllByRecursion (λ q. IsPermutation (q.rows turned) (q.rows all)) qs → AllByRecursion (λ q. KeepsRows q db all) qs
    → AllByRecursion (λ q. KeepsRows q db turned) qs
same_kept db all turned [] same k = tt
same_kept db all turned (q ∷ qs) same k = (
  record { rows = IsPermutation-trans (q.rows turned) (q.rows all) (map (λ row. drop 1 (q.looked row)) (rows_of (table_name_of q) db)) same.0 k.0.rows; apart = k.0.apart },
  same_kept db all turned qs same.1 k.1,
)

module _ (db : Database) (all : AllTables) (it : HasRecords db all) where
  pub marks_kept : Keeps (codes "mark") mark_row db all.marks
  marks_kept = record { rows = it.keeps.0.rows; apart = it.keeps.0.apart }

  pub items_kept : Keeps (codes "item") item_row db all.items
  items_kept = record { rows = it.keeps.1.0.rows; apart = it.keeps.1.0.apart }

  pub members_kept : Keeps (codes "member") member_row db all.members
  members_kept = record { rows = it.keeps.1.1.0.rows; apart = it.keeps.1.1.0.apart }

  pub kept_kept : Keeps (codes "kept") kept_row db all.kept
  kept_kept = record { rows = it.keeps.1.1.1.0.rows; apart = it.keeps.1.1.1.0.apart }

  pub editions_kept : Keeps (codes "edition") edition_row db all.editions
  editions_kept = record { rows = it.keeps.1.1.1.1.0.rows; apart = it.keeps.1.1.1.1.0.apart }

  pub parts_kept : Keeps (codes "dictcat_part") part_row db all.parts
  parts_kept = record { rows = it.keeps.1.1.1.1.1.0.rows; apart = it.keeps.1.1.1.1.1.0.apart }

  -- none of them keeps an entry
  pub other_entries : (entries : List EntryRecord) → HasRecords db (record all { entries = entries })
  other_entries entries = record {
    own = it.own;
    keeps = same_kept db all (record all { entries = entries }) (readings Parted) (IsPermutation-refl _, (IsPermutation-refl _, (IsPermutation-refl _, (IsPermutation-refl _, (IsPermutation-refl _, (IsPermutation-refl _, tt)))))) it.keeps;
  }

  -- nor which of the parts of the same rows
  pub other_parts : (parts : List Part) → IsPermutation (map part_row parts) (map part_row all.parts) → HasRecords db (record all { parts = parts })
  other_parts parts same = record {
    own = it.own;
    keeps = same_kept db all (record all { parts = parts }) (readings Parted) (IsPermutation-refl _, (IsPermutation-refl _, (IsPermutation-refl _, (IsPermutation-refl _, (IsPermutation-refl _, (same, tt)))))) it.keeps;
  }

-- ---- the statements can use the tables

pub has_marks : (db : Database) → IsUsable db → Has mark db
has_marks db it = own_has mark db it.1.own.tables.0

pub has_items : (db : Database) → IsUsable db → Has item db
has_items db it = own_has item db it.1.own.tables.1.0

pub has_members : (db : Database) → IsUsable db → Has member db
has_members db it = own_has member db it.1.own.tables.1.1.0

pub has_kept : (db : Database) → IsUsable db → Has kept db
has_kept db it = own_has kept db it.1.own.tables.1.1.1.0

pub has_editions : (db : Database) → IsUsable db → Has header db
has_editions db it = own_has header db it.1.own.tables.1.1.1.1.0

pub has_parts : (db : Database) → IsUsable db → Has part db
has_parts db it = own_has part db it.1.own.tables.1.1.1.1.1.0

pub marks_to_remove : (db : Database) → IsUsable db → HasToRemove mark db
marks_to_remove db it = record { has = has_marks db it; apart = (marks_kept db it.0 it.1).apart }

pub items_to_remove : (db : Database) → IsUsable db → HasToRemove item db
items_to_remove db it = record { has = has_items db it; apart = (items_kept db it.0 it.1).apart }

pub members_to_remove : (db : Database) → IsUsable db → HasToRemove member db
members_to_remove db it = record { has = has_members db it; apart = (members_kept db it.0 it.1).apart }

pub editions_to_remove : (db : Database) → IsUsable db → HasToRemove header db
editions_to_remove db it = record { has = has_editions db it; apart = (editions_kept db it.0 it.1).apart }

pub parts_to_remove : (db : Database) → IsUsable db → HasToRemove part db
parts_to_remove db it = record { has = has_parts db it; apart = (parts_kept db it.0 it.1).apart }

-- ---- a table is cleared

pub marks_cleared : (old new : Database) → IsRemoved (codes "mark") (λ _. true) old new → TurnsRecords (λ all. record all { marks = [] }) old new
marks_cleared old new gone = λ all it. marks_turned old new all it gone.schema [] gone.others (keeps_cleared (codes "mark") mark_row old new gone)

pub items_cleared : (old new : Database) → IsRemoved (codes "item") (λ _. true) old new → TurnsRecords (without_items) old new
items_cleared old new gone = λ all it. items_turned old new all it gone.schema [] gone.others (keeps_cleared (codes "item") item_row old new gone)

pub members_cleared : (old new : Database) → IsRemoved (codes "member") (λ _. true) old new → TurnsRecords (without_members) old new
members_cleared old new gone = λ all it. members_turned old new all it gone.schema [] gone.others (keeps_cleared (codes "member") member_row old new gone)

-- ---- a record more

pub marks_added : (r : Mark) (old new : Database) → IsAdded (codes "mark") (mark_row r) old new → TurnsRecords (λ all. record all { marks = all.marks ++ r ∷ [] }) old new
marks_added r old new one = λ all it. marks_turned old new all it one.schema (all.marks ++ r ∷ []) one.others (keeps_added (codes "mark") mark_row old new all.marks r one (marks_kept old all it))

pub items_added : (r : ItemRecord) (old new : Database) → IsAdded (codes "item") (item_row r) old new → TurnsRecords (with_more_items (r ∷ [])) old new
items_added r old new one = λ all it. items_turned old new all it one.schema (all.items ++ r ∷ []) one.others (keeps_added (codes "item") item_row old new all.items r one (items_kept old all it))

pub members_added : (r : Member) (old new : Database) → IsAdded (codes "member") (member_row r) old new → TurnsRecords (with_more_members (r ∷ [])) old new
members_added r old new one = λ all it. members_turned old new all it one.schema (all.members ++ r ∷ []) one.others (keeps_added (codes "member") member_row old new all.members r one (members_kept old all it))

pub kept_added : (r : KeptRecord) (old new : Database) → IsAdded (codes "kept") (kept_row r) old new → TurnsRecords (λ all. record all { kept = all.kept ++ r ∷ [] }) old new
kept_added r old new one = λ all it. kept_turned old new all it one.schema (all.kept ++ r ∷ []) one.others (keeps_added (codes "kept") kept_row old new all.kept r one (kept_kept old all it))

pub editions_added : (r : EditionRecord) (old new : Database) → IsAdded (codes "edition") (edition_row r) old new → TurnsRecords (with_more_editions (r ∷ [])) old new
editions_added r old new one = λ all it. editions_turned old new all it one.schema (all.editions ++ r ∷ []) one.others (keeps_added (codes "edition") edition_row old new all.editions r one (editions_kept old all it))

pub parts_added : (r : Part) (old new : Database) → IsAdded (codes "dictcat_part") (part_row r) old new → TurnsRecords (with_more_parts (r ∷ [])) old new
parts_added r old new one = λ all it. parts_turned old new all it one.schema (all.parts ++ r ∷ []) one.others (keeps_added (codes "dictcat_part") part_row old new all.parts r one (parts_kept old all it))
