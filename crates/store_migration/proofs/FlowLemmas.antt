-- What the parts of a migration need of one another.
use Rattle.std.proofs.Common.{◌≡◌, ◌++◌, ◌∙◌, ◌+◌, ◌<◌, ℕ, ℤ, false, List, [], ◌∷◌, take, length, get_or, refl, sym, ap, subst}
use Rattle.std.specs.List.{AllByRecursion}
use Rattle.std.proofs.lemmas.List.{take_more}
use Rattle.sqlite.specs.Does.{lacks_sequence}
use Rattle.store_tables.specs.Room.{LeavesRoom}
use Rattle.store_tables.specs.declared.tables.StoreTable.TheVariants as store
use Rattle.store_holdings.specs.Holds.{HasLayout}
use Rattle.store_migration.specs.declared.older.Older.{Older}
use Rattle.store_migration.specs.declared.older.Older.TheVariants.{Plain, Keyed, Shown}
use Rattle.store_migration.specs.Moved.{AreTakenApart}
use Rattle.store_migration.specs.Older.{DroppedInTurn, IsOld, form_of, gone_names, gone_tables, layout_as}
use Rattle.store_migration.specs.Spared.{Spares}
use Rattle.store_migration.specs.Steps.{AreParted, HasThree, IsPartedOne, MayBeHeaded}
use Rattle.store_migration.proofs.KitLemmas.{Database, IsDatabase, Schema, Table, HasOwn, edition, store_defined, IsFree, IsMade, rows_of, still_has, own_has, one_keeps, one_own, entry_table_of, form_defined, header, part}
use Rattle.store_migration.proofs.KitLemmas.{part_defined, HeaderRecord}
use Rattle.store_migration.proofs.SpareLemmas.{ends_headed, may_go, names_are, names_in, turn_again, turn_counted, turn_keeps, turn_sound, own_still, part_away, spares_added, spares_gone, spares_made, spares_same, spares_then, MayGo, Owns}

-- ---- the files of editions, one after the other

module _ (older : Older) where
  pub parted_schema : (numbers : List ℤ) (headers : List HeaderRecord) (old new : Database) → AreParted older numbers headers old new → new.schema ≡ old.schema
  parted_schema [] headers old new h = ap (λ (d : Database). d.schema) h.1
  parted_schema (n ∷ ns) headers old new h = parted_schema ns h.2 h.0 new h.5 ∙ h.4.added.schema

  pub parted_sound : (numbers : List ℤ) (headers : List HeaderRecord) (old new : Database) → AreParted older numbers headers old new → IsDatabase old → IsDatabase new
  parted_sound [] headers old new h sound = subst IsDatabase (sym h.1) sound
  parted_sound (n ∷ ns) headers old new h sound = parted_sound ns h.2 h.0 new h.5 (h.4.added.sound sound)

  pub parted_one : (numbers : List ℤ) (headers : List HeaderRecord) (n : ℤ) (one : HeaderRecord) (old mid new : Database) → AreParted older numbers headers old mid → IsPartedOne older n one mid new
      → AreParted older (numbers ++ n ∷ []) (headers ++ one ∷ []) old new
  parted_one [] headers n one old mid new done it = (new, one, [], ap (λ l. l ++ one ∷ []) done.0, subst (λ d. IsPartedOne older n one d new) done.1 it, (refl, refl))
  parted_one (m ∷ ns) headers n one old mid new done it = (done.0, done.1, done.2 ++ one ∷ [], ap (λ l. l ++ one ∷ []) done.3, done.4, parted_one ns done.2 n one done.0 mid new done.5 it)

  pub parted_spares : (numbers : List ℤ) (headers : List HeaderRecord) (old new : Database) → AreParted older numbers headers old new → HasOwn old.schema part → Spares old new
  parted_spares [] headers old new h own = spares_same old new h.1
  parted_spares (n ∷ ns) headers old new h own =
      spares_then old h.0 new (spares_added part part_defined (λ name b. b.parts) _ old h.0 h.4.added own) (parted_spares ns h.2 h.0 new h.5 (own_still part old h.0 h.4.added.schema own))

  pub number_parted : (all : List ℤ) (i : ℕ) (d n : ℤ) → i < length all → n ≡ get_or all i d → (headers : List HeaderRecord) (one : HeaderRecord) (first mid new : Database)
      → AreParted older (take i all) headers first mid → IsPartedOne older n one mid new → AreParted older (take (i + 1) all) (headers ++ one ∷ []) first new
  number_parted all i d n within is headers one first mid new before it =
      subst (λ l. AreParted older l (headers ++ one ∷ []) first new) (sym (take_more all i d within)) (parted_one (take i all) headers (get_or all i d) one first mid new before (subst (λ m. IsPartedOne older m one mid new) is it))

  pub three_still : (old new : Database) → new.schema ≡ old.schema → HasThree older old → HasThree older new
  three_still old new same h = record {
    editions = still_has edition old new same h.editions;
    entries = still_has (entry_table_of (form_of older)) old new same h.entries;
    parts = still_has part old new same h.parts;
  }

-- ---- what the old tables give

-- the tables that are dropped are among those of the layout
pub record OldHas (older : Older) (schema : Schema) : Type 0 where
  pub gone : AllByRecursion (HasOwn schema) (gone_tables older)
  pub edition : HasOwn schema edition
  pub entries : HasOwn schema (entry_table_of (form_of older))
  pub room : LeavesRoom schema (part 0)
  pub counted : lacks_sequence schema ≡ false

pub old_has : (older : Older) (schema : Schema) → HasLayout (layout_as older) schema → OldHas older schema
old_has Plain schema own = let its = own.tables.1.1.1.1 in record { gone = (its.1.0, (its.0, tt)); edition = its.0; entries = its.1.0; room = own.room.part; counted = own.room.counted }
old_has Keyed schema own = let its = own.tables.1.1.1.1 in record { gone = (its.1.0, (its.1.1.0, (its.1.1.1.0, (its.0, tt)))); edition = its.0; entries = its.1.0; room = own.room.part; counted = own.room.counted }
old_has Shown schema own = let its = own.tables.1.1.1.1 in record { gone = (its.1.0, (its.1.1.0, (its.1.1.1.0, (its.0, tt)))); edition = its.0; entries = its.1.0; room = own.room.part; counted = own.room.counted }

pub part_free : (older : Older) (schema : Schema) → HasLayout (layout_as older) schema → IsFree schema (part 0).name
part_free older schema own = let its = old_has older schema own in record { unused = its.room.unused; counted = its.counted }

all_keep : (old new : Database) → IsMade (part 0) old new → (tables : List (ℕ → Table)) → MayGo tables → AllByRecursion (HasOwn old.schema) tables → AllByRecursion (HasOwn new.schema) tables
all_keep old new made [] may own = tt
all_keep old new made (t ∷ ts) may own = (one_keeps part part_defined old new made t may.0 own.0, all_keep old new made ts may.3 own.1)

module _ (older : Older) (old new : Database) (its : IsOld (layout_as older) old) (made : IsMade (part 0) old new) where
  pub made_gone : AllByRecursion (HasOwn new.schema) (gone_tables older)
  made_gone = all_keep old new made (gone_tables older) (may_go (form_of older)) (old_has older old.schema its.own).gone

  pub made_owns : Owns older new
  made_owns = let has = old_has older old.schema its.own in record {
    editions = one_keeps part part_defined old new made edition (store_defined store.Edition) has.edition;
    entries = one_keeps part part_defined old new made (entry_table_of (form_of older)) (form_defined (form_of older)) has.entries;
    parts = one_own part part_defined old new made its.sound has.room.unused has.room.unreferred;
  }

  pub made_three : HasThree older new
  made_three = let own = made_owns in record { editions = own_has edition new own.editions; entries = own_has (entry_table_of (form_of older)) new own.entries; parts = own_has part new own.parts }

pub gone_later : (older : Older) (old new : Database) → new.schema ≡ old.schema → AllByRecursion (HasOwn old.schema) (gone_tables older) → AllByRecursion (HasOwn new.schema) (gone_tables older)
gone_later older old new same own = subst (λ (s : Schema). AllByRecursion (HasOwn s) (gone_tables older)) (sym same) own

-- ---- what is left of them

module _ (older : Older) (numbers : List ℤ) (headers : List HeaderRecord) (old new : Database) (its : IsOld (layout_as older) old) (h : AreTakenApart older numbers headers old new) where
  files_same : h.with_files.schema ≡ h.with_table.schema
  files_same = parted_schema older numbers headers h.with_table h.with_files h.parted

  files_sound : IsDatabase h.with_files
  files_sound = parted_sound older numbers headers h.with_table h.with_files h.parted h.made.sound

  pub files_own : AllByRecursion (HasOwn h.with_files.schema) (gone_tables older)
  files_own = gone_later older h.with_table h.with_files files_same (made_gone older old h.with_table its h.made)

  files_part : HasOwn h.with_files.schema part
  files_part = own_still part h.with_table h.with_files files_same (made_owns older old h.with_table its h.made).parts

  pub gone_files : DroppedInTurn (names_in (gone_tables older)) h.with_files new
  gone_files = subst (λ names. DroppedInTurn names h.with_files new) (sym (names_are older)) h.gone

  pub apart_headed : MayBeHeaded new
  apart_headed = record {
    room = turn_again (header 0) (gone_tables older) (ends_headed (form_of older)) (may_go (form_of older)) h.with_files new files_sound files_own gone_files;
    counted = turn_counted (gone_tables older) (may_go (form_of older)) h.with_files new files_own gone_files (subst (λ (s : Schema). lacks_sequence s ≡ false) (sym files_same) h.made.counted);
    sound = turn_sound (gone_names older) h.with_files new h.gone files_sound;
  }

  pub apart_part : HasOwn new.schema part
  apart_part = (turn_keeps part part_defined (gone_tables older) (may_go (form_of older)) (part_away (form_of older)) h.with_files new files_own gone_files files_part).0

  pub apart_parts_are : rows_of (part 0).name new ≡ rows_of (part 0).name h.with_files
  apart_parts_are = (turn_keeps part part_defined (gone_tables older) (may_go (form_of older)) (part_away (form_of older)) h.with_files new files_own gone_files files_part).1

  pub apart_spares : Spares old new
  apart_spares =
      spares_then old h.with_files new
      (spares_then old h.with_table h.with_files (spares_made part part_defined old h.with_table h.made) (parted_spares older numbers headers h.with_table h.with_files h.parted (made_owns older old h.with_table its h.made).parts))
      (spares_gone (form_of older) h.with_files new files_own gone_files)
