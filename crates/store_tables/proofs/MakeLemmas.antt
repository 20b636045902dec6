-- What a database has once tables were made in it, one after the other.
use Rattle.std.proofs.Common.{◌≡◌, ◌==◌, ◌<◌, ◌≤◌, ◌+◌, ◌^◌, ◌++◌, take, length, get_or, IsTrue, zero, suc, ℕ, List, [], ◌∷◌, find, true, false, Some, inl, slice_get, refl, sym, ap, subst, ◌∙◌, arith}
use Rattle.std.proofs.lemmas.Option.{slice_get-get_or}
use Rattle.std.specs.List.{AllByRecursion, AllZip, list_any}
use Rattle.sqlite.specs.Table.{Table}
use Rattle.sqlite.specs.Schema.{Schema}
use Rattle.sqlite.specs.Effect.{Database, IsDatabase}
use Rattle.sqlite.specs.Order.{Row, column}
use Rattle.sqlite.specs.Change.{next_tree, is_used}
use Rattle.sqlite.specs.State.{State, KeepsCommit}
use Rattle.sqlite.specs.Disk.{MoreFaults}
use Rattle.sqlite.specs.declared.error.Error.{Error}
use Rattle.store_tables.proofs.KitLemmas.{all_from, all_has, has_left, has_right, index_owner, table_below}
use Rattle.store_tables.proofs.RemoveLemmas.{both_all}
use Rattle.sqlite.specs.Does.{lacks_sequence}
use Rattle.sqlite_schema.specs.Names.{same_name, table_named}
use Rattle.sqlite_schema.specs.declared.schema.Index.{Index}
use Rattle.sqlite_catalog.specs.Listing.{IsTableRow, IsIndexRow}
use Rattle.store_tables.specs.Tables.{table_of}
use Rattle.store_tables.specs.Found.{HasOwn}
use Rattle.store_tables.specs.Room.{HasRoom, LeavesRoom, is_referred}
use Rattle.store_tables.specs.Definitions.{IsDefinition, are_named_apart, names_of}
use Rattle.store_tables.specs.declared.tables.StoreTable.{StoreTable}
use Rattle.store_tables.proofs.PlaceLemmas.{found}
use Rattle.store_tables.proofs.FindLemmas.{find_before}
use Rattle.store_tables.proofs.FoundLemmas.{weaker}
use Rattle.store_tables.proofs.TableLemmas.{name_is}
use Rattle.store_tables.proofs.MadeLemmas.{differ, found_is, made_own, kept_own, room_kept, room_for, unused_still, store_defined, store_apart}
use Rattle.store_tables.specs.Effects.{rows_of, table_in, GoesOn, CountsFaults}
use Rattle.store_tables.specs.Creates.{IsFree, IsMade, AreApart, MadeInTurn, AreMade, IsReady}

zip_each : {A B : Type 0} (R : A → B → Type 0) (xs : List A) (ys : List B) → AllZip R xs ys → AllByRecursion (λ y. (x : A) × R x y) ys
zip_each R [] [] h = tt
zip_each R [] (y ∷ ys) h = absurd h
zip_each R (x ∷ xs) [] h = absurd h
zip_each R (x ∷ xs) (y ∷ ys) h = ((x, h.0), zip_each R xs ys h.1)

all_front : {X : Type 0} (P : X → Type 0) (xs ys : List X) → AllByRecursion P (xs ++ ys) → AllByRecursion P xs
all_front P xs ys h = all_from P xs (λ x it. all_has P (xs ++ ys) x h (has_left xs ys x it))

-- ---- one table

module _ (table : Table) (old new : Database) (made : IsMade table old new) where
  abbrev its : Table
  its = record table { tree = next_tree old.schema }

  -- its tree is within the bound of every tree's
  low : next_tree old.schema < 2 ^ 31
  low =
      let listed = subst (λ (s : Schema). AllByRecursion (λ u. (row : Row) × IsTableRow row u) s.tables) made.schema (zip_each IsTableRow _ new.schema.tables made.sound.lists.listed.tables) in
      let mine = all_has (λ (u : Table). (row : Row) × IsTableRow row u) (old.schema.tables ++ its ∷ []) its listed (has_right old.schema.tables (its ∷ []) its (inl refl)) in
      let tree : its.tree ≡ next_tree old.schema = refl in
      omega (arith, mine.1.described.low, tree)

  -- no index was over it before
  unowned : IsDatabase old → AllByRecursion (λ index. (index.table == next_tree old.schema) ≡ false) old.schema.indexes
  unowned sound = weaker (λ index. (row : Row) × IsIndexRow old.schema.tables row index) (λ (index : Index). (index.table == next_tree old.schema) ≡ false) each old.schema.indexes
      (zip_each (IsIndexRow old.schema.tables) _ old.schema.indexes sound.lists.listed.indexes)
    where
      each : (index : Index) → (row : Row) × IsIndexRow old.schema.tables row index → (index.table == next_tree old.schema) ≡ false
      each index h =
          let owner = index_owner h.1.table index (column h.0 4) h.1.defined in
          differ index.table (next_tree old.schema) (omega (arith, owner, table_below old.schema h.1.table h.1.listed))

  pub found_later : (name : List ℕ) (u : Table) → table_in name old ≡ Some u → table_in name new ≡ Some u
  found_later name u there =
      let at : find (λ v. same_name v.name name) old.schema.tables ≡ Some u = sym (found (λ v. same_name v.name name) old.schema.tables) ∙ there in
      found (λ v. same_name v.name name) new.schema.tables ∙ ap (λ (s : Schema). find (λ v. same_name v.name name) s.tables) made.schema ∙ find_before (λ v. same_name v.name name) old.schema.tables (its ∷ []) u at

  -- a table that was there has the rows that it had
  pub one_rows : (name : List ℕ) (u : Table) → table_in name old ≡ Some u → rows_of name new ≡ rows_of name old
  one_rows name u there =
      let at : find (λ v. same_name v.name name) old.schema.tables ≡ Some u = sym (found (λ v. same_name v.name name) old.schema.tables) ∙ there in
      let later = found_later name u there in
      let same : new.trees u.tree ≡ old.trees u.tree = found_is (λ v. new.trees v.tree ≡ old.trees v.tree) (λ v. same_name v.name name) old.schema.tables u made.others at in
      rw (later, there, same) refl

  one_others : (last : Database) → AllByRecursion (λ u. last.trees u.tree ≡ new.trees u.tree) new.schema.tables → AllByRecursion (λ u. last.trees u.tree ≡ old.trees u.tree) old.schema.tables
  one_others last h =
      let front = all_front (λ (u : Table). last.trees u.tree ≡ new.trees u.tree) old.schema.tables (its ∷ []) (subst (λ (s : Schema). AllByRecursion (λ u. last.trees u.tree ≡ new.trees u.tree) s.tables) made.schema h) in
      both_all (λ (u : Table). last.trees u.tree ≡ new.trees u.tree) (λ u. new.trees u.tree ≡ old.trees u.tree) (λ u. last.trees u.tree ≡ old.trees u.tree) (λ u a b. a ∙ b) old.schema.tables front made.others

module _ (table : ℕ → Table) (defined : IsDefinition table) (old new : Database) (made : IsMade (table 0) old new) where
  pub one_own : IsDatabase old → is_used old.schema (table 0).name ≡ false → is_referred old.schema (table 0).name ≡ false → HasOwn new.schema table
  one_own sound unused unreferred = subst (λ s. HasOwn s table) (sym made.schema) (made_own old.schema table defined unused unreferred (low (table 0) old new made) (unowned (table 0) old new made sound))

  pub one_keeps : (other : ℕ → Table) → IsDefinition other → HasOwn old.schema other → HasOwn new.schema other
  one_keeps other also own = subst (λ s. HasOwn s other) (sym made.schema) (kept_own old.schema table defined other also own)

  pub one_leaves : (other : Table) → are_named_apart (table 0) other ≡ true → LeavesRoom old.schema other → LeavesRoom new.schema other
  one_leaves other apart room = subst (λ s. LeavesRoom s other) (sym made.schema) (room_kept old.schema table defined other apart room)

  pub one_unused : (name : List ℕ) → list_any (λ own. same_name own name) (names_of (table 0)) ≡ false → is_used old.schema name ≡ false → is_used new.schema name ≡ false
  one_unused name apart free = subst (λ s. is_used s name ≡ false) (sym made.schema) (unused_still old.schema table defined name apart free)

-- ---- several, one after the other

pub turn_sound : (ts : List StoreTable) (old new : Database) → MadeInTurn ts old new → IsDatabase old → IsDatabase new
turn_sound [] old new h sound = subst IsDatabase (sym h) sound
turn_sound (t ∷ ts) old new h sound = turn_sound ts h.0 new h.2 h.1.sound

pub turn_counted : (ts : List StoreTable) (old new : Database) → MadeInTurn ts old new → lacks_sequence old.schema ≡ false → lacks_sequence new.schema ≡ false
turn_counted [] old new h counted = subst (λ (d : Database). lacks_sequence d.schema ≡ false) (sym h) counted
turn_counted (t ∷ ts) old new h counted = turn_counted ts h.0 new h.2 h.1.counted

turn_keeps : (other : StoreTable) (ts : List StoreTable) (old new : Database) → MadeInTurn ts old new → HasOwn old.schema (table_of other) → HasOwn new.schema (table_of other)
turn_keeps other [] old new h own = subst (λ (d : Database). HasOwn d.schema (table_of other)) (sym h) own
turn_keeps other (t ∷ ts) old new h own = turn_keeps other ts h.0 new h.2 (one_keeps (table_of t) (store_defined t) old h.0 h.1 (table_of other) (store_defined other) own)

pub turn_leaves : (other : StoreTable) (ts : List StoreTable) (old new : Database) → AllByRecursion (λ t. t ≡ other → ⊥) ts → MadeInTurn ts old new → LeavesRoom old.schema (table_of other 0) → LeavesRoom new.schema (table_of other 0)
turn_leaves other [] old new apart h room = subst (λ (d : Database). LeavesRoom d.schema (table_of other 0)) (sym h) room
turn_leaves other (t ∷ ts) old new apart h room = turn_leaves other ts h.0 new apart.1 h.2 (one_leaves (table_of t) (store_defined t) old h.0 h.1 (table_of other 0) (store_apart t other apart.0) room)

turn_rows : (name : List ℕ) (u : Table) (ts : List StoreTable) (old new : Database) → MadeInTurn ts old new → table_in name old ≡ Some u → rows_of name new ≡ rows_of name old
turn_rows name u [] old new h there = ap (rows_of name) h
turn_rows name u (t ∷ ts) old new h there = turn_rows name u ts h.0 new h.2 (found_later (table_of t 0) old h.0 h.1 name u there) ∙ one_rows (table_of t 0) old h.0 h.1 name u there

turn_others : (ts : List StoreTable) (old new : Database) → MadeInTurn ts old new → AllByRecursion (λ u. new.trees u.tree ≡ old.trees u.tree) old.schema.tables
turn_others [] old new h = subst (λ (d : Database). AllByRecursion (λ u. d.trees u.tree ≡ old.trees u.tree) old.schema.tables) (sym h) (all_from _ old.schema.tables (λ u listed. refl))
turn_others (t ∷ ts) old new h = one_others (table_of t 0) old h.0 h.1 new (turn_others ts h.0 new h.2)

leaves_all : (t : StoreTable) (old new : Database) → IsMade (table_of t 0) old new → (ts : List StoreTable) → AllByRecursion (λ o. t ≡ o → ⊥) ts → AllByRecursion (λ o. LeavesRoom old.schema (table_of o 0)) ts
    → AllByRecursion (λ o. LeavesRoom new.schema (table_of o 0)) ts
leaves_all t old new made ts apart room =
    both_all (λ o. t ≡ o → ⊥) (λ o. LeavesRoom old.schema (table_of o 0)) (λ o. LeavesRoom new.schema (table_of o 0)) (λ o a b. one_leaves (table_of t) (store_defined t) old new made (table_of o 0) (store_apart t o a) b) ts apart
    room

turn_own : (ts : List StoreTable) (old new : Database) → AreApart ts → MadeInTurn ts old new → IsDatabase old → AllByRecursion (λ t. LeavesRoom old.schema (table_of t 0)) ts → AllByRecursion (λ t. HasOwn new.schema (table_of t)) ts
turn_own [] old new apart h sound room = tt
turn_own (t ∷ ts) old new apart h sound room = (
  turn_keeps t ts h.0 new h.2 (one_own (table_of t) (store_defined t) old h.0 h.1 sound room.0.unused room.0.unreferred),
  turn_own ts h.0 new apart.1 h.2 h.1.sound (leaves_all t old h.0 h.1 ts apart.0 room.1),
)

own_found : (t : StoreTable) (db : Database) (own : HasOwn db.schema (table_of t)) → table_in (table_of t 0).name db ≡ Some (table_of t own.tree)
own_found t db own = let named : table_named db.schema (table_of t 0).name ≡ Some own.at = subst (λ n. table_named db.schema n ≡ Some own.at) (name_is t own.tree) own.has.named in let is = own.has.is in rw (named, is) refl

turn_empty : (ts : List StoreTable) (old new : Database) → AreApart ts → MadeInTurn ts old new → IsDatabase old → AllByRecursion (λ t. LeavesRoom old.schema (table_of t 0)) ts → AllByRecursion (λ t. rows_of (table_of t 0).name new ≡ []) ts
turn_empty [] old new apart h sound room = tt
turn_empty (t ∷ ts) old new apart h sound room =
    let own = one_own (table_of t) (store_defined t) old h.0 h.1 sound room.0.unused room.0.unreferred in (
      turn_rows (table_of t 0).name (table_of t own.tree) ts h.0 new h.2 (own_found t h.0 own) ∙ h.1.empty,
      turn_empty ts h.0 new apart.1 h.2 h.1.sound (leaves_all t old h.0 h.1 ts apart.0 room.1),
    )

room_each : (db : Database) → HasRoom db.schema → (ts : List StoreTable) → AllByRecursion (λ t. LeavesRoom db.schema (table_of t 0)) ts
room_each db room ts = all_from _ ts (λ t listed. room_for db.schema room t)

pub all_made : (ts : List StoreTable) (old new : Database) → AreApart ts → IsReady old → MadeInTurn ts old new → AreMade ts old new
all_made ts old new apart ready h = record {
  in_turn = h;
  own = turn_own ts old new apart h ready.sound (room_each old ready.room ts);
  empty = turn_empty ts old new apart h ready.sound (room_each old ready.room ts);
  others = turn_others ts old new h;
  sound = turn_sound ts old new h ready.sound;
}

-- ---- one more at the end

pub turn_more : (ts : List StoreTable) (t : StoreTable) (old mid new : Database) → MadeInTurn ts old mid → IsMade (table_of t 0) mid new → MadeInTurn (ts ++ t ∷ []) old new
turn_more [] t old mid new h made = (new, subst (λ d. IsMade (table_of t 0) d new) h made, refl)
turn_more (u ∷ ts) t old mid new h made = (h.0, h.1, turn_more ts t h.0 mid new h.2 made)

-- the next one is free
pub turn_free : (ts : List StoreTable) (t : StoreTable) (old mid : Database) → AllByRecursion (λ u. u ≡ t → ⊥) ts → IsReady old → MadeInTurn ts old mid → IsFree mid.schema (table_of t 0).name
turn_free ts t old mid apart ready h = record {
  unused = (turn_leaves t ts old mid apart h (room_for old.schema ready.room t)).unused;
  counted = turn_counted ts old mid h ready.room.counted;
}

-- ---- a loop over the tables

pub more_since : (a b c : ℕ) → a ≤ b → MoreFaults b c → MoreFaults a c
more_since a b c h more = omega (arith, h, more)

pub counts_since : (old mid new : State) (e : Error) → old.faults ≤ mid.faults → CountsFaults mid new e → CountsFaults old new e
counts_since old mid new e h counts named = more_since old.faults mid.faults new.faults h (counts named)

apart_before : (i : ℕ) (ts : List StoreTable) (t : StoreTable) → AreApart ts → slice_get ts i ≡ Some t → AllByRecursion (λ u. u ≡ t → ⊥) (take i ts)
apart_before zero ts t apart at = tt
apart_before (suc i) [] t apart at = tt
apart_before (suc i) (u ∷ ts) t apart at = (has_it ts i apart.0 at, apart_before i ts t apart.1 at)
  where
    has_it : (xs : List StoreTable) (k : ℕ) → AllByRecursion (λ o. u ≡ o → ⊥) xs → slice_get xs k ≡ Some t → u ≡ t → ⊥
    has_it [] k all at = absurd (let e = at in cc)
    has_it (x ∷ xs) zero all at = λ same. all.0 (let e : x ≡ t = cc in same ∙ sym e)
    has_it (x ∷ xs) (suc k) all at = has_it xs k all.1 at

pub take_one : {X : Type 0} (i : ℕ) (xs : List X) (x : X) → slice_get xs i ≡ Some x → take (i + 1) xs ≡ take i xs ++ x ∷ []
take_one zero [] x at = absurd (let e = at in cc)
take_one zero (y ∷ xs) x at = let same : y ≡ x = cc in rw same refl
take_one (suc i) [] x at = absurd (let e = at in cc)
take_one (suc i) (y ∷ xs) x at = let next : suc i + 1 ≡ suc (i + 1) = omega arith in rw next (ap (λ l. y ∷ l) (take_one i xs x at))

module _ (ts : List StoreTable) (i : ℕ) (t : StoreTable) (at : slice_get ts i ≡ Some t) (apart : AreApart ts) (old mid : State) (ready : IsTrue old.is_open → IsReady old.now) (keeps : KeepsCommit old mid)
    (done : MadeInTurn (take i ts) old.now mid.now) where
  pub next_free : IsTrue mid.is_open → IsFree mid.now.schema (table_of t 0).name
  next_free open' = turn_free (take i ts) t old.now mid.now (apart_before i ts t apart at) (ready (keeps.was_open open')) done

  pub next_made : (new : State) → IsMade (table_of t 0) mid.now new.now → MadeInTurn (take (i + 1) ts) old.now new.now
  next_made new made = subst (λ l. MadeInTurn l old.now new.now) (sym (take_one i ts t at)) (turn_more (take i ts) t old.now mid.now new.now done made)

pub got : {X : Type 0} (xs : List X) (i : ℕ) (d : X) → i < length xs → slice_get xs i ≡ Some (get_or xs i d)
got = slice_get-get_or

pub keeps_then : (a b c : State) → KeepsCommit a b → KeepsCommit b c → KeepsCommit a c
keeps_then a b c one two = record { was_open = λ h. one.was_open (two.was_open h); committed = λ h. two.committed h ∙ one.committed (two.was_open h) }

pub goes_keeps : (a b : State) → GoesOn a b → KeepsCommit a b
goes_keeps a b h = record { was_open = λ _. h.was_open; committed = λ _. h.committed_is }

-- a statement that went well goes on from where those before it went
pub goes_then : (a b c : State) → KeepsCommit a b → GoesOn b c → GoesOn a c
goes_then a b c keeps h = record { was_open = keeps.was_open h.was_open; is_open = h.is_open; now_is = h.now_is; committed_is = h.committed_is ∙ keeps.committed h.was_open; mode = h.mode }
