-- The indexes that an opening has made, over the tables of the known version.
use Rattle.std.proofs.Common.{◌≡◌, ℕ, pos, ◌≤◌, List, [], map, refl, ap, subst}
use Rattle.std.specs.List.{AllByRecursion}
use Rattle.sqlite.specs.Effect.{Database}
use Rattle.dict_index.specs.Edition.{Edition}
use Rattle.dict_catalogue.specs.Items.{Stored, Item, editions_of, name_of}
use Rattle.dict_catalogue.specs.Steps.{Catalogue}
use Rattle.store_holdings.specs.AllTables.{with_derived, as_version}
use Rattle.dict_desk.specs.Shown.{HasEdition}
use Rattle.store_holdings.specs.Holds.{AreOrphans}
use Rattle.store_sql.specs.Readings.{KeepsAll}
use Rattle.store_holdings.proofs.OrphanLemmas.{beside_orphans, no_orphans}
use Rattle.store_tables.specs.Records.{Part}
use Rattle.store_holdings.proofs.HeldLemmas.{number_few, number_known, text_held}
use Rattle.store_migration.specs.Migrated.{IsMigrated}
use Rattle.store_rows.specs.Tables.{Tables}
use Rattle.store_rows.specs.Versions.{Parted, known, layout_of}
use Rattle.store_search.specs.Entries.{Indexed, entry_of}
use Rattle.store_opening.specs.Indexed.{HasIndex, IsHeldIndexed}
use Rattle.store_desk.specs.Indexed.{AreHeldCut, IsHeldCut}
use Rattle.store_desk.proofs.IndexedLemmas.{each_has}
use Rattle.dict_text.proofs.AllLemmas.{all_weaker}
use Rattle.store_rows.proofs.OrderLemmas.{all_with}

-- what the tables hold of an edition, the database has under its number, whatever orphans are beside it
held_cut : (db : Database) (o : List Part) (T : Tables) (k : KeepsAll Parted db (with_derived o T)) (M : Catalogue) (apart : AreOrphans known M o)
    (indexes : List (ℕ × List Indexed)) (owner : List ℕ) (well : (n : ℕ) (e : Edition) → HasEdition M n e → n ≤ 9223372036854775807)
    (stored : Stored Edition) → HasIndex T owner indexes stored → HasEdition M stored.number stored.content → IsHeldCut db indexes stored
held_cut db o T k M apart indexes owner well stored one has =
    let reading = one.held.reading in
    record {
      index = map entry_of reading.lines;
      stands = one.stands;
      text = reading.text;
      held = text_held db o T k owner stored one.held (beside_orphans known M o T (pos stored.number) apart (number_known M stored.number stored.content has)) (well stored.number stored.content has);
      cuts = record { lines = reading.lines; entries = refl; cut = ap (λ (e : Edition). e.entries) one.held.says; short = one.held.short };
    }

module _ (db : Database) (o : List Part) (T : Tables) (k : KeepsAll Parted db (with_derived o T)) (M : Catalogue) (apart : AreOrphans known M o)
    (indexes : List (ℕ × List Indexed)) (well : (n : ℕ) (e : Edition) → HasEdition M n e → n ≤ 9223372036854775807) where
  pub all_cut : AllByRecursion (λ item. AllByRecursion (HasIndex T (name_of item) indexes) (editions_of item)) M.items → AreHeldCut db M indexes
  all_cut h =
      all_with (λ (item : Item Edition). AllByRecursion (HasIndex T (name_of item) indexes) (editions_of item)) (λ item. AllByRecursion (λ (stored : Stored Edition). HasEdition M stored.number stored.content) (editions_of item))
      (λ item. AllByRecursion (IsHeldCut db indexes) (editions_of item))
      (λ item a b. all_with (HasIndex T (name_of item) indexes) (λ (stored : Stored Edition). HasEdition M stored.number stored.content) (IsHeldCut db indexes)
      (held_cut db o T k M apart indexes (name_of item) well) (editions_of item) a b) M.items h (each_has M)

pub indexed_known : (db : Database) (M : Catalogue) (indexes : List (ℕ × List Indexed)) → IsHeldIndexed known db M indexes → AreHeldCut db M indexes
indexed_known db M indexes it = all_cut db it.holds.orphans it.holds.tables it.holds.keeps M it.holds.apart indexes (number_few M it.holds.stands.well_formed) it.each

-- a migration has the same records of editions, and the same entries
moved_index : (T : Tables) (owner : List ℕ) (indexes : List (ℕ × List Indexed)) (stored : Stored Edition) → HasIndex T owner indexes stored → HasIndex (as_version known T) owner indexes stored
moved_index T owner indexes stored one = record {
  held = record { reading = one.held.reading; says = one.held.says; short = one.held.short; within = one.held.within; row = one.held.row; entries = one.held.entries };
  stands = one.stands;
}

pub indexed_moved : (version : ℕ) (old new : Database) → IsMigrated version old new → (M : Catalogue) (indexes : List (ℕ × List Indexed)) → IsHeldIndexed version old M indexes → AreHeldCut new M indexes
indexed_moved version old new migrated M indexes it =
    let T = it.holds.tables in
    let none : it.holds.orphans ≡ [] = it.holds.apart.later migrated.before in
    let was : KeepsAll (layout_of version) old (with_derived [] T) = subst (λ (o : List Part). KeepsAll (layout_of version) old (with_derived o T)) none it.holds.keeps in
    let keeps = migrated.keeps T M was it.holds.shown it.holds.stands in
    all_cut new [] (as_version known T) keeps M (no_orphans known M) indexes (number_few M it.holds.stands.well_formed)
    (all_weaker (λ (item : Item Edition). AllByRecursion (HasIndex T (name_of item) indexes) (editions_of item)) (λ item. AllByRecursion (HasIndex (as_version known T) (name_of item) indexes) (editions_of item))
    (λ item p. all_weaker (HasIndex T (name_of item) indexes) (HasIndex (as_version known T) (name_of item) indexes) (moved_index T (name_of item) indexes) (editions_of item) p) M.items it.each)
