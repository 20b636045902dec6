-- The tables of others stay as they are, with their indexes, and views do.
use Rattle.std.proofs.Common.{◌≡◌, ◌∙◌, ◌++◌, ℕ, ℤ, false, length, List, [], ◌∷◌, Option, Some, None, sym, ap, subst, arith}
use Rattle.std.specs.List.{AllByRecursion}
use Rattle.sqlite_schema.specs.Names.{same_name}
use Rattle.store_tables.specs.declared.tables.StoreTable.{StoreTable}
use Rattle.store_tables.specs.declared.tables.StoreTable.TheVariants as store
use Rattle.store_tables.specs.Effects.{table_in}
use Rattle.store_older_sql.specs.Drops.{IsDropped}
use Rattle.store_older_sql.specs.Others.{SparesTable}
pub use Rattle.store_older_sql.proofs.SparedLemmas.{apart_from, stands_at}
use Rattle.store_older_sql.proofs.SparedLemmas.{spared_dropped, spared_made, spared_rows, spared_same, spared_steady, spared_then}
use Rattle.store_holdings.specs.Holds.{HasLayout}
use Rattle.store_migration.specs.Making.{lasting_tables}
use Rattle.store_migration.specs.Moved.{IsMarkedAnew, IsMoved, IsRenewed}
use Rattle.store_migration.specs.Older.{DroppedInTurn, IsOld, form_of, gone_names, gone_tables, layout_as, layout_before}
use Rattle.store_migration.specs.Spared.{IsNoneOf, SparesOthers, present_names}
use Rattle.store_migration.specs.Steps.{AreParted}
use Rattle.store_migration.specs.declared.older.Older.{Older}
use Rattle.store_migration.specs.declared.older.Older.TheVariants.{Plain, Keyed, Shown}
use Rattle.store_migration.proofs.KitLemmas.{Database, Schema, Table, IsDefinition, HasOwn, mark, edition, table_of, store_defined, IsMade, MadeInTurn, SameOthers, own_in, header, header_defined, part, part_defined, HeaderRecord}
use Rattle.store_migration.proofs.SpareLemmas.{MayGo, later_own, may_go, names_in, own_still}
use Rattle.store_migration.proofs.FlowLemmas.{files_own, gone_files, made_owns}
use Rattle.store_migration.proofs.MovedLemmas.{made_header, marks_own}

-- ---- steps, one after the other

-- of names that are none of these, and of the views
record SparesBut (names : List (List ℕ)) (old new : Database) : Type 0 where
  tables : (name : List ℕ) → IsNoneOf names name → SparesTable name old new
  views : new.schema.views ≡ old.schema.views

module _ (names : List (List ℕ)) where
  but_same : (old new : Database) → new ≡ old → SparesBut names old new
  but_same old new same = record { tables = λ name none. spared_same name old new same; views = ap (λ (d : Database). d.schema.views) same }

  but_then : (a b c : Database) → SparesBut names a b → SparesBut names b c → SparesBut names a c
  but_then a b c one two = record { tables = λ name none. spared_then name a b c (one.tables name none) (two.tables name none); views = two.views ∙ one.views }

  -- the name of a table is one of them
  abbrev IsAmong : List ℕ → Type 0
  IsAmong own = (name : List ℕ) → IsNoneOf names name → same_name own name ≡ false

  but_made : (table : Table) → IsAmong table.name → (old new : Database) → IsMade table old new → SparesBut names old new
  but_made table among old new made = record { tables = λ name none. spared_made table old new made name (among name none); views = ap (λ (s : Schema). s.views) made.schema }

  -- rows were added to one, or taken out
  but_rows : (table : ℕ → Table) → IsDefinition table → IsAmong (table 0).name → (old new : Database) → HasOwn old.schema table → new.schema ≡ old.schema → SameOthers (table 0).name old new → SparesBut names old new
  but_rows table defined among old new own same others = record {
    tables = λ name none. spared_rows table defined name (among name none) old new own same others;
    views = ap (λ (s : Schema). s.views) same;
  }

  but_dropped : (table : ℕ → Table) → IsDefinition table → IsAmong (table 0).name → (old new : Database) → HasOwn old.schema table → IsDropped (table 0).name old new → SparesBut names old new
  but_dropped table defined among old new own dropped = record {
    tables = λ name none. spared_dropped table defined name (among name none) old new own dropped;
    views = ap (λ (s : Schema). s.views) (dropped.schema (table own.tree) (own_in table defined old own));
  }

  but_turn : (ts : List StoreTable) → AllByRecursion (λ t. IsAmong (table_of t 0).name) ts → (old new : Database) → MadeInTurn ts old new → SparesBut names old new
  but_turn [] among old new h = but_same old new h
  but_turn (t ∷ ts) among old new h = but_then old h.0 new (but_made (table_of t 0) among.0 old h.0 h.1) (but_turn ts among.1 h.0 new h.2)

  but_parted : IsAmong (part 0).name → (older : Older) (numbers : List ℤ) (headers : List HeaderRecord) (old new : Database) → AreParted older numbers headers old new → HasOwn old.schema part → SparesBut names old new
  but_parted among older [] headers old new h own = but_same old new h.1
  but_parted among older (n ∷ ns) headers old new h own =
      but_then old h.0 new (but_rows part part_defined among old h.0 own h.4.added.schema h.4.added.others) (but_parted among older ns h.2 h.0 new h.5 (own_still part old h.0 h.4.added.schema own))

  but_gone : (tables : List (ℕ → Table)) → MayGo tables → AllByRecursion (λ (table : ℕ → Table). IsAmong (table 0).name) tables → (old new : Database) → AllByRecursion (HasOwn old.schema) tables
      → DroppedInTurn (names_in tables) old new → SparesBut names old new
  but_gone [] may among old new own h = but_same old new h
  but_gone (table ∷ tables) may among old new own h =
      but_then old h.0 new (but_dropped table may.0 among.0 old h.0 own.0 h.1)
      (but_gone tables may.3 among.1 h.0 new (later_own table may.0 old h.0 h.1 own.0 tables may.3 may.2 own.1) h.2)

  but_anew : IsAmong (mark 0).name → (installs : ℕ) (old new : Database) → HasOwn old.schema mark → IsMarkedAnew installs old new → SparesBut names old new
  but_anew among installs old new own m =
      but_then old m.cleared new (but_rows mark (store_defined store.Mark) among old m.cleared own m.taken.schema m.taken.others)
      (but_rows mark (store_defined store.Mark) among m.cleared new (own_still mark old m.cleared m.taken.schema own) m.put.schema m.put.others)

-- ---- all of a migration

-- none of the present tables' names, nor of those that are dropped
abbrev all_names : Older → List (List ℕ)
all_names older = present_names ++ gone_names older

join_none : (names more : List (List ℕ)) (name : List ℕ) → IsNoneOf names name → IsNoneOf more name → IsNoneOf (names ++ more) name
join_none [] more name one two = two
join_none (own ∷ names) more name one two = (one.0, join_none names more name one.1 two)

ours : (older : Older) → AllByRecursion (λ (table : ℕ → Table). IsAmong (all_names older) (table 0).name) (gone_tables older)
ours Plain = (λ name none. none.1.1.1.1.1.1.0, (λ name none. none.1.1.1.1.0, tt))
ours Keyed = (λ name none. none.1.1.1.1.1.1.0, (λ name none. none.1.1.1.1.1.1.1.0, (λ name none. none.1.1.1.1.1.1.1.1.0, (λ name none. none.1.1.1.1.0, tt))))
ours Shown = (λ name none. none.1.1.1.1.1.1.0, (λ name none. none.1.1.1.1.1.1.1.0, (λ name none. none.1.1.1.1.1.1.1.1.0, (λ name none. none.1.1.1.1.0, tt))))

-- where editions have headers no tables are laid out as an older version's
old_edition : (older : Older) (schema : Schema) → HasLayout (layout_as older) schema → HasOwn schema edition
old_edition Plain schema layout = layout.tables.1.1.1.1.0
old_edition Keyed schema layout = layout.tables.1.1.1.1.0
old_edition Shown schema layout = layout.tables.1.1.1.1.0

headed_only : (db : Database) → HasOwn db.schema header → (older : Older) → HasLayout (layout_as older) db.schema → ⊥
headed_only db own older layout =
    let its = old_edition older db.schema layout in
    let e : Some (header own.tree) ≡ Some (edition its.tree) = sym (own_in header header_defined db own) ∙ own_in edition (store_defined store.Edition) db its in
    let same : header own.tree ≡ edition its.tree = cc in
    let counts : length (header own.tree).columns ≡ length (edition its.tree).columns = ap (λ (t : Table). length t.columns) same in
    omega (arith, counts)

module _ (older : Older) (numbers : List ℤ) (installs : ℕ) (old new : Database) (its : IsOld (layout_as older) old) (m : IsMoved older numbers installs old new) where
  headers_made : HasOwn m.heads.with_table.schema header
  headers_made = made_header older numbers m.headers old m.apart m.headed its m.takes m.heads

  headers_still : HasOwn new.schema header
  headers_still = own_still header m.marked.cleared new m.marked.put.schema (own_still header m.headed m.marked.cleared m.marked.taken.schema (own_still header m.heads.with_table m.headed m.heads.added.schema headers_made))

  moved_but : SparesBut (all_names older) old new
  moved_but =
      let names = all_names older in
      let takes = m.takes in
      let heads = m.heads in
      let behind = marks_own older numbers m.headers old m.apart m.headed its takes heads in
      let one = but_made names (part 0) (λ name none. none.1.1.1.1.1.0) old takes.with_table takes.made in
      let two = but_parted names (λ name none. none.1.1.1.1.1.0) older numbers m.headers takes.with_table takes.with_files takes.parted (made_owns older old takes.with_table its takes.made).parts in
      let three = but_gone names (gone_tables older) (may_go (form_of older)) (ours older) takes.with_files m.apart (files_own older numbers m.headers old m.apart its takes)
      (gone_files older numbers m.headers old m.apart its takes) in
      let four = but_made names (header 0) (λ name none. none.1.1.1.1.0) m.apart heads.with_table heads.made in
      let five = but_rows names header header_defined (λ name none. none.1.1.1.1.0) heads.with_table m.headed headers_made heads.added.schema heads.added.others in
      but_then names old m.headed new
      (but_then names old m.apart m.headed (but_then names old takes.with_files m.apart (but_then names old takes.with_table takes.with_files one two) three) (but_then names m.apart heads.with_table m.headed four five))
      (but_anew names (λ name none. none.0) installs m.headed new behind m.marked)

  others_moved : SparesOthers old new
  others_moved = record {
    tables = λ name none. moved_but.tables name (join_none present_names (gone_names older) name none.present (none.older older its.own));
    views = moved_but.views;
    older = λ before layout. absurd (headed_only new headers_still before layout);
  }

-- nothing is made or dropped
others_kept : (old new : Database) → new.schema ≡ old.schema → SparesBut present_names old new → SparesOthers old new
others_kept old new same but = record {
  tables = λ name none. but.tables name none.present;
  views = but.views;
  older = λ before layout. subst (HasLayout (layout_as before)) same layout;
}

pub others_steady : (old new : Database) → new.schema ≡ old.schema
    → ((name : List ℕ) → IsNoneOf present_names name → (other : Table) → table_in name old ≡ Some other → new.trees other.tree ≡ old.trees other.tree) → SparesOthers old new
others_steady old new same trees = others_kept old new same (record { tables = λ name none. spared_steady name old new same (trees name none); views = ap (λ (s : Schema). s.views) same })

others_anew : (installs : ℕ) (old new : Database) → HasOwn old.schema mark → IsMarkedAnew installs old new → SparesOthers old new
others_anew installs old new own m = others_kept old new (m.put.schema ∙ m.taken.schema) (but_anew present_names (λ name none. none.0) installs old new own m)

pub others_renewed : (older : Option Older) (numbers : List ℤ) (installs : ℕ) (old new : Database) → IsOld (layout_before older) old → IsRenewed older numbers installs old new → SparesOthers old new
others_renewed (Some older) numbers installs old new its m = others_moved older numbers installs old new its m
others_renewed None numbers installs old new its m = others_anew installs old new its.own.tables.0 m

-- ---- one change after another

pub others_same : (old new : Database) → new ≡ old → SparesOthers old new
others_same old new same = others_kept old new (ap (λ (d : Database). d.schema) same) (but_same present_names old new same)

pub others_then : (a b c : Database) → SparesOthers a b → SparesOthers b c → SparesOthers a c
others_then a b c one two = record {
  tables = λ name none. spared_then name a b c (one.tables name none) (two.tables name (record { present = none.present; older = λ older layout. none.older older (one.older older layout) }));
  views = two.views ∙ one.views;
  older = λ older layout. one.older older (two.older older layout);
}

-- ---- and a creation

lasting_among : AllByRecursion (λ t. IsAmong present_names (table_of t 0).name) lasting_tables
lasting_among = (λ name none. none.0, (λ name none. none.1.0, (λ name none. none.1.1.0, (λ name none. none.1.1.1.0, tt))))

pub others_created : (old mid next late new : Database) → MadeInTurn lasting_tables old mid → IsMade (header 0) mid next → IsMade (part 0) next late → HasOwn late.schema mark → HasOwn new.schema header → new.schema ≡ late.schema
    → SameOthers (mark 0).name late new → SparesOthers old new
others_created old mid next late new made headed parted own headers same others =
    let names = present_names in
    let but = but_then names old late new
    (but_then names old mid late (but_turn names lasting_tables lasting_among old mid made)
    (but_then names mid next late (but_made names (header 0) (λ name none. none.1.1.1.1.0) mid next headed) (but_made names (part 0) (λ name none. none.1.1.1.1.1.0) next late parted)))
    (but_rows names mark (store_defined store.Mark) (λ name none. none.0) late new own same others) in
    record { tables = λ name none. but.tables name none.present; views = but.views; older = λ before layout. absurd (headed_only new headers before layout) }
