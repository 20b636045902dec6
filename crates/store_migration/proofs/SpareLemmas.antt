-- The tables that are dropped one after another, and those that a migration leaves alone.
use Rattle.std.proofs.Common.{◌≡◌, ◌∙◌, ℕ, false, List, [], ◌∷◌, map, codes, refl, sym, ap, subst, ◌≢◌}
use Rattle.std.specs.List.{AllByRecursion}
use Rattle.sqlite.specs.Does.{lacks_sequence}
use Rattle.sqlite_schema.specs.Names.{same_name}
use Rattle.store_tables.specs.Definitions.{names_of}
use Rattle.store_tables.specs.Room.{LeavesRoom}
use Rattle.store_tables.specs.declared.tables.StoreTable.TheVariants as store
use Rattle.store_older_sql.specs.Drops.{IsDropped}
use Rattle.store_older_sql.proofs.DroppedLemmas.{drop_counted, drop_keeps, drop_rows}
use Rattle.store_older_sql.specs.declared.entries.EntryForm.{EntryForm}
use Rattle.store_older_sql.specs.declared.entries.EntryForm.TheVariants as form
use Rattle.store_older_sql.proofs.FreedLemmas.{room_again}
use Rattle.store_sql.proofs.HeaderDefinitionLemmas.{same_names}
use Rattle.store_migration.specs.Older.{DroppedInTurn, gone_names, gone_tables, gone_with, keyed_tables, plain_tables, form_of}
use Rattle.store_migration.specs.declared.older.Older.{Older}
use Rattle.store_migration.specs.declared.older.Older.TheVariants.{Plain, Keyed, Shown}
use Rattle.std.proofs.lemmas.Bool.{false≢true}
use Rattle.store_tables.proofs.KitLemmas.{same_itself}
use Rattle.store_holdings.proofs.KeepLemmas.{unmoved}
use Rattle.store_migration.specs.Spared.{IsBeside, Spares}
use Rattle.store_migration.proofs.KitLemmas.{Database, IsDatabase, Table, IsDefinition, HasOwn, edition, store_defined, name_in, tree_in, rows_of, SameOthers, own_in, entry_table_of, form_defined, word_defined, gram_defined, header}
use Rattle.store_migration.proofs.KitLemmas.{Schema, AreAdded, IsMade, one_keeps, one_rows, part, Row}

abbrev pub names_in : List (ℕ → Table) → List (List ℕ)
names_in tables = map (λ (table : ℕ → Table). (table 0).name) tables

-- they are none of these
abbrev pub IsAway : List ℕ → List (ℕ → Table) → Type 0
IsAway name tables = AllByRecursion (λ (table : ℕ → Table). same_name name (table 0).name ≡ false) tables

-- Each is defined for whichever tree it is made in, and is not the one that counts; and those that go later have other names.
abbrev pub MayGo : List (ℕ → Table) → Type 0
MayGo [] = Unit {0}
MayGo (table ∷ tables) = IsDefinition table × (same_name (table 0).name (codes "sqlite_sequence") ≡ false) × AllByRecursion (λ (later : ℕ → Table). same_name (later 0).name (table 0).name ≡ false) tables × MayGo tables

-- the last of them takes the names of this one
abbrev pub EndsNamed : Table → List (ℕ → Table) → Type 0
EndsNamed other [] = ⊥
EndsNamed other (table ∷ []) = names_of other ≡ names_of (table 0)
EndsNamed other (table ∷ next ∷ tables) = EndsNamed other (next ∷ tables)

-- ---- what stays

pub later_own : (table : ℕ → Table) → IsDefinition table → (old new : Database) → IsDropped (table 0).name old new → HasOwn old.schema table → (tables : List (ℕ → Table)) → MayGo tables
    → AllByRecursion (λ (later : ℕ → Table). same_name (later 0).name (table 0).name ≡ false) tables → AllByRecursion (HasOwn old.schema) tables → AllByRecursion (HasOwn new.schema) tables
later_own table defined old new dropped own [] may away all = tt
later_own table defined old new dropped own (next ∷ tables) may away all =
    (drop_keeps table defined old new dropped own next may.0 away.0 all.0, later_own table defined old new dropped own tables may.3 away.1 all.1)

pub turn_keeps : (other : ℕ → Table) → IsDefinition other → (tables : List (ℕ → Table)) → MayGo tables → IsAway (other 0).name tables → (old new : Database) → AllByRecursion (HasOwn old.schema) tables
    → DroppedInTurn (names_in tables) old new → HasOwn old.schema other
    → HasOwn new.schema other × (rows_of (other 0).name new ≡ rows_of (other 0).name old)
turn_keeps other also [] may away old new own h its = (subst (λ (d : Database). HasOwn d.schema other) (sym h) its, ap (rows_of (other 0).name) h)
turn_keeps other also (table ∷ tables) may away old new own h its =
    let mid = h.0 in
    let rest = later_own table may.0 old mid h.1 own.0 tables may.3 may.2 own.1 in
    let stays = drop_keeps table may.0 old mid h.1 own.0 other also away.0 its in
    let later = turn_keeps other also tables may.3 away.1 mid new rest h.2 stays in
    (later.0, later.1 ∙ drop_rows table may.0 old mid h.1 own.0 other also away.0 its)

pub turn_sound : (names : List (List ℕ)) (old new : Database) → DroppedInTurn names old new → IsDatabase old → IsDatabase new
turn_sound [] old new h sound = subst IsDatabase (sym h) sound
turn_sound (name ∷ names) old new h sound = turn_sound names h.0 new h.2 h.1.sound

pub turn_counted : (tables : List (ℕ → Table)) → MayGo tables → (old new : Database) → AllByRecursion (HasOwn old.schema) tables → DroppedInTurn (names_in tables) old new → lacks_sequence old.schema ≡ false
    → lacks_sequence new.schema ≡ false
turn_counted [] may old new own h counted = subst (λ (d : Database). lacks_sequence d.schema ≡ false) (sym h) counted
turn_counted (table ∷ tables) may old new own h counted =
    turn_counted tables may.3 h.0 new (later_own table may.0 old h.0 h.1 own.0 tables may.3 may.2 own.1) h.2 (drop_counted table may.0 old h.0 h.1 own.0 may.1 counted)

pub turn_again : (other : Table) (tables : List (ℕ → Table)) → EndsNamed other tables → MayGo tables → (old new : Database) → IsDatabase old → AllByRecursion (HasOwn old.schema) tables
    → DroppedInTurn (names_in tables) old new → LeavesRoom new.schema other
turn_again other [] ends may old new sound own h = absurd ends
turn_again other (table ∷ []) ends may old new sound own h = subst (λ (d : Database). LeavesRoom d.schema other) (sym h.2) (room_again table may.0 old h.0 sound h.1 own.0 other ends)
turn_again other (table ∷ next ∷ tables) ends may old new sound own h =
    turn_again other (next ∷ tables) ends may.3 h.0 new h.1.sound (later_own table may.0 old h.0 h.1 own.0 (next ∷ tables) may.3 may.2 own.1) h.2

-- ---- those of each form

pub may_plain : MayGo plain_tables
unfolding same_name
may_plain = (form_defined form.Plain, refl, (refl, tt), (store_defined store.Edition, refl, tt, tt))

pub may_keyed : (f : EntryForm) → MayGo (keyed_tables f)
unfolding same_name
may_keyed form.Plain = (form_defined form.Plain, refl, (refl, (refl, (refl, tt))), (word_defined, refl, (refl, (refl, tt)), (gram_defined, refl, (refl, tt), (store_defined store.Edition, refl, tt, tt))))
may_keyed form.Keyed = (form_defined form.Keyed, refl, (refl, (refl, (refl, tt))), (word_defined, refl, (refl, (refl, tt)), (gram_defined, refl, (refl, tt), (store_defined store.Edition, refl, tt, tt))))
may_keyed form.Shown = (form_defined form.Shown, refl, (refl, (refl, (refl, tt))), (word_defined, refl, (refl, (refl, tt)), (gram_defined, refl, (refl, tt), (store_defined store.Edition, refl, tt, tt))))

pub may_go : (f : EntryForm) → MayGo (gone_with f)
may_go form.Plain = may_plain
may_go form.Keyed = may_keyed form.Keyed
may_go form.Shown = may_keyed form.Shown

-- what is left to drop behind the first of them
pub behind : (table : ℕ → Table) (tables : List (ℕ → Table)) → MayGo (table ∷ tables) → (old new : Database) → AllByRecursion (HasOwn old.schema) (table ∷ tables) → IsDropped (table 0).name old new
    → AllByRecursion (HasOwn new.schema) tables
behind table tables may old new own dropped = later_own table may.0 old new dropped own.0 tables may.3 may.2 own.1

pub ends_headed : (f : EntryForm) → EndsNamed (header 0) (gone_with f)
ends_headed form.Plain = same_names
ends_headed form.Keyed = same_names
ends_headed form.Shown = same_names

pub names_are : (older : Older) → names_in (gone_tables older) ≡ gone_names older
names_are Plain = refl
names_are Keyed = refl
names_are Shown = refl

-- ---- what one step leaves of another table

pub apart_names : (a b : List ℕ) → same_name b a ≡ false → a ≢ b
apart_names a b other same = false≢true (sym other ∙ (ap (λ n. same_name n a) (sym same) ∙ same_itself a))

module _ (table : ℕ → Table) (defined : IsDefinition table) (other : ℕ → Table) (also : IsDefinition other) (apart : same_name (other 0).name (table 0).name ≡ false) where
  -- rows were added to the table, or taken out
  pub others_rows : (old new : Database) → new.schema ≡ old.schema → SameOthers (table 0).name old new → HasOwn old.schema table → HasOwn old.schema other → rows_of (other 0).name new ≡ rows_of (other 0).name old
  others_rows old new same rest one two =
      unmoved (table 0).name (other 0).name table other old new (λ t. name_in table defined t) (λ t. name_in other also t) (λ t. tree_in table defined t) (apart_names (table 0).name (other 0).name apart) one two same rest

  pub added_rows : (rows : List Row) (old new : Database) → AreAdded (table 0).name rows old new → HasOwn old.schema table → HasOwn old.schema other → rows_of (other 0).name new ≡ rows_of (other 0).name old
  added_rows rows old new added one two = others_rows old new added.schema added.others one two

pub own_still : (table : ℕ → Table) (old new : Database) → new.schema ≡ old.schema → HasOwn old.schema table → HasOwn new.schema table
own_still table old new same own = subst (λ (s : Schema). HasOwn s table) (sym same) own

-- the tables that are read and written are had
pub record Owns (older : Older) (db : Database) : Type 0 where
  pub editions : HasOwn db.schema edition
  pub entries : HasOwn db.schema (entry_table_of (form_of older))
  pub parts : HasOwn db.schema part

-- ---- the names of the tables that are made, dropped and read

pub entry_part : (f : EntryForm) → same_name (entry_table_of f 0).name (part 0).name ≡ false
unfolding same_name
entry_part form.Plain = refl
entry_part form.Keyed = refl
entry_part form.Shown = refl

pub edition_part : same_name (edition 0).name (part 0).name ≡ false
unfolding same_name
edition_part = refl

pub part_header : same_name (part 0).name (header 0).name ≡ false
unfolding same_name
part_header = refl

pub part_away : (f : EntryForm) → IsAway (part 0).name (gone_with f)
unfolding same_name
part_away form.Plain = (refl, (refl, tt))
part_away form.Keyed = (refl, (refl, (refl, (refl, tt))))
part_away form.Shown = (refl, (refl, (refl, (refl, tt))))

-- none of these is the mark
pub apart_mark : ((same_name (codes "item") (codes "mark") ≡ false) × (same_name (codes "member") (codes "mark") ≡ false) × (same_name (codes "kept") (codes "mark") ≡ false))
    × ((same_name (codes "edition") (codes "mark") ≡ false) × (same_name (codes "dictcat_part") (codes "mark") ≡ false))
unfolding same_name
apart_mark = ((refl, refl, refl), (refl, refl))

pub same_entries : (f : EntryForm) → (entry_table_of f 0).name ≡ codes "entry"
same_entries form.Plain = refl
same_entries form.Keyed = refl
same_entries form.Shown = refl

pub as_form : (f : EntryForm) (old new : Database) → IsDropped (codes "entry") old new → IsDropped (entry_table_of f 0).name old new
as_form f old new h = subst (λ name. IsDropped name old new) (sym (same_entries f)) h

-- ---- the tables that stay

pub spares_same : (old new : Database) → new ≡ old → Spares old new
spares_same old new same other also beside own = (subst (λ (d : Database). HasOwn d.schema other) (sym same) own, ap (rows_of (other 0).name) same)

pub spares_then : (a b c : Database) → Spares a b → Spares b c → Spares a c
spares_then a b c one two other also beside own =
    let first = one other also beside own in
    let second = two other also beside first.0 in
    (second.0, second.1 ∙ first.1)

pub spares_made : (table : ℕ → Table) → IsDefinition table → (old new : Database) → IsMade (table 0) old new → Spares old new
spares_made table defined old new made other also beside own =
    (one_keeps table defined old new made other also own, one_rows (table 0) old new made (other 0).name (other own.tree) (own_in other also old own))

away_gone : (f : EntryForm) (name : List ℕ) → IsBeside name → IsAway name (gone_with f)
away_gone form.Plain name b = (b.entries, (b.editions, tt))
away_gone form.Keyed name b = (b.entries, (b.words, (b.grams, (b.editions, tt))))
away_gone form.Shown name b = (b.entries, (b.words, (b.grams, (b.editions, tt))))

pub spares_gone : (f : EntryForm) (old new : Database) → AllByRecursion (HasOwn old.schema) (gone_with f) → DroppedInTurn (map (λ (table : ℕ → Table). (table 0).name) (gone_with f)) old new → Spares old new
spares_gone f old new own gone other also beside its = turn_keeps other also (gone_with f) (may_go f) (away_gone f (other 0).name beside) old new own gone its

-- rows were added to one
pub spares_added : (table : ℕ → Table) → IsDefinition table → ((name : List ℕ) → IsBeside name → same_name name (table 0).name ≡ false) → (rows : List Row) (old new : Database) → AreAdded (table 0).name rows old new
    → HasOwn old.schema table → Spares old new
spares_added table defined away rows old new added it other also beside own =
    (own_still other old new added.schema own, added_rows table defined other also (away (other 0).name beside) rows old new added it own)
