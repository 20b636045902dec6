-- Where a part of a migration fails: the places of a call, out of those of the calls that it makes.
use Rattle.std.proofs.Common.{◌≡◌, ◌∙◌, ◌++◌, ◌+◌, ◌<◌, ℕ, ℤ, List, [], ◌∷◌, map, take, drop, length, get_or, refl, sym, ap, subst, inl, inr, IsPermutation, ◌⊎◌, true}
use Rattle.std.proofs.lemmas.List.{take_more, map-append}
use Rattle.store_tables.proofs.AddedLemmas.{one_added}
use Rattle.store_older_sql.proofs.CopyLemmas.{split_at, rows_at}
use Rattle.store_migration.specs.MigrationParts.{MigrationPart, FailsBy, FailsToWriteIndex, dropping, writing}
use Rattle.store_migration.specs.FailurePlaces.{FailurePlace, Behind, InEdition, InEditions, Putting, Dropping, InIndex}
use Rattle.store_migration.specs.Steps.{AreParted, AreEntriesOf}
use Rattle.store_migration.specs.declared.older.Older.{Older}
use Rattle.sqlite.specs.State.{IsUnchanged}
use Rattle.sqlite.specs.declared.error.Error.{Error}
use Rattle.sqlite.proofs.StateLemmas.{survives_then}
use Rattle.sqlite_trees.specs.declared.store.Store.{Ghosts}
use Rattle.store_older_sql.specs.Drops.{FailsToDrop}
use Rattle.store_sql.specs.declared.records.ReadError.{ReadError}
use Rattle.store_sql.specs.declared.records.ReadError.TheVariants.{NoRecord, Store}
use Rattle.dict_catalogue.specs.Items.{edition_numbers}
use Rattle.dict_catalogue.specs.Tests.{Holdings}
use Rattle.dict_desk.specs.declared.fault.Fault.{Fault}
use Rattle.dict_desk.specs.declared.fault.Fault.TheVariants.{Memory, Disk}
use Rattle.store_holdings.specs.Faults.{fault_of_read}
use Rattle.store_migration.specs.Older.{DroppedInTurn}
use Rattle.store_migration.specs.Failing.{MigrationFailsInside, FailsToSign, IsBeyond}
use Rattle.store_migration.proofs.KitLemmas.{Database, AreAdded, IsAdded, none_more, Survives, Held, state, Row, HeaderRecord, EntryRecord}
pub use Rattle.store_migration.specs.MigrationParts.{choosing, clearing_marks, keeping, making_editions, making_parts, putting, reading}

-- each place is one of these too, where the first call began with one database, and the second with another
abbrev pub Leads : FailurePlace → Database → FailurePlace → Database → Type 0
Leads P from Q to = (part : MigrationPart) (at : Database) → P part from at → Q part to at

module _ (name : List ℕ) {X : Type 0} (f : X → Row) (all : List X) (i : ℕ) (d : X) (row : Row) (within : i < length all) (same : row ≡ f (get_or all i d)) (first mid : Database) (added : AreAdded name (map f (take i all)) first mid) where
  -- a row is put in, when those before it had been
  pub row_placed : Putting name (map f all) (putting name row) first mid
  row_placed = record {
    put = map f (take i all);
    row = row;
    rest = map f (drop (i + 1) all);
    these = subst (λ r. IsPermutation (map f (take i all) ++ r ∷ map f (drop (i + 1) all)) (map f all)) (sym same) (rows_at f all i d within);
    is = refl;
    added = added;
  }

  pub row_more : (new : Database) → IsAdded name row mid new → AreAdded name (map f (take (i + 1) all)) first new
  row_more new one =
      let rows : map f (take (i + 1) all) ≡ map f (take i all) ++ row ∷ [] =
      ap (map f) (take_more all i d within) ∙ (map-append f (take i all) (get_or all i d ∷ []) ∙ ap (λ r. map f (take i all) ++ r ∷ []) (sym same)) in
      subst (λ (l : List Row). AreAdded name l first new) (sym rows) (one_added name (map f (take i all)) row first mid new added one)

-- ---- numbers

-- the call of one number, when those of the numbers before it had been made, or its header is kept
pub number_placed : {older : Older} (all : List ℤ) (i : ℕ) (d n : ℤ) → i < length all → n ≡ get_or all i d → (headers : List HeaderRecord) {part : MigrationPart} {first at : Database}
    → Behind (AreParted older (take i all) headers) (InEdition older n) part first at ⊎ (part ≡ keeping) → InEditions older all part first at
number_placed all i d n within same headers place = record {
  done = take i all;
  headers = headers;
  number = n;
  rest = drop (i + 1) all;
  these = subst (λ x. take i all ++ x ∷ drop (i + 1) all ≡ all) (sym same) (split_at all i d within);
  within = place;
}

-- ---- what fails there

module _ {S : Type 0} {g : Ghosts S} where
  -- a part fails, behind those that went well
  pub fails_by : {Q : FailurePlace} {old new : Held S} {e : ReadError} (mid : Held S) (part : MigrationPart) → Survives (state g old) (state g mid) (λ _. ⊥)
      → ((state g old).in_transaction ≡ true → (state g mid).in_transaction ≡ true) → Q part (state g old).now (state g mid).now → FailsBy part (state g mid) (state g new) e → MigrationFailsInside g Q old new e
  fails_by mid part survives inside place fails = record { at = mid; before = survives; inside = inside; part = part; place = place; fails = fails }

  -- the part is the first of those that were handed in
  pub fails_here : {Q : FailurePlace} {old new : Held S} {e : ReadError} (part : MigrationPart) → Q part (state g old).now (state g old).now → FailsBy part (state g old) (state g new) e → MigrationFailsInside g Q old new e
  fails_here {old = old} part place fails = fails_by old part (none_more (state g old)) (λ h. h) place fails

  -- the lines of the entries that were read aren't written
  pub lines_fail : {older : Older} {number : ℤ} {old : Held S} (new : Held S) {entries : List EntryRecord} {e : ReadError} → Survives (state g old) (state g new) (λ _. ⊥) → IsUnchanged (state g old) (state g new)
      → AreEntriesOf older number (state g old).now entries → FailsToWriteIndex entries e → MigrationFailsInside g (InIndex older number) old new e
  lines_fail {older} {number} new {entries} survives same lines fails =
      fails_by new (writing older number) survives (λ h. same.0.mode ∙ h) (inr (refl, same.0.now_is)) (entries, subst (λ (d : Database). AreEntriesOf older number d entries) (sym same.0.now_is) lines, fails)

  -- others went well before
  pub fails_later : {P Q : FailurePlace} {old mid new : Held S} {e : ReadError} → Survives (state g old) (state g mid) (λ _. ⊥) → ((state g old).in_transaction ≡ true → (state g mid).in_transaction ≡ true)
      → Leads P (state g mid).now Q (state g old).now → MigrationFailsInside g P mid new e → MigrationFailsInside g Q old new e
  fails_later {old = old} {mid = mid} survives inside leads h =
      fails_by h.at h.part (survives_then (state g old) (state g mid) (state g h.at) (λ _. ⊥) (λ _. ⊥) (λ _. ⊥) (λ _ db none. none) (λ _ db none. none) survives h.before)
      (λ begun. h.inside (inside begun)) (leads h.part (state g h.at).now h.place) h.fails

  -- the places of a call are some of another's
  pub fails_within : {P Q : FailurePlace} {old new : Held S} {e : ReadError} → Leads P (state g old).now Q (state g old).now → MigrationFailsInside g P old new e → MigrationFailsInside g Q old new e
  fails_within {old = old} leads h = fails_later (none_more (state g old)) (λ begun. begun) leads h

  -- a table isn't dropped, behind those before it
  pub fails_at : {names : List (List ℕ)} {old new : Held S} {e : Error} (mid : Held S) (gone : List (List ℕ)) (name : List ℕ) (rest : List (List ℕ)) → gone ++ name ∷ rest ≡ names → Survives (state g old) (state g mid) (λ _. ⊥)
      → ((state g old).in_transaction ≡ true → (state g mid).in_transaction ≡ true) → DroppedInTurn gone (state g old).now (state g mid).now → FailsToDrop name (state g mid) (state g new) e
      → MigrationFailsInside g (Dropping names) old new (Store e)
  fails_at mid gone name rest these survives inside dropped fails = fails_by mid (dropping name) survives inside (record { gone = gone; name = name; rest = rest; these = these; is = refl; dropped = dropped }) fails

-- before anything was begun
pub why_not_begun : (summary : Holdings (List ℕ)) (e : ReadError) (fault : Fault) → fault ≡ fault_of_read e → FailsToSign (edition_numbers summary.items) e
    → (fault ≡ Memory) ⊎ ((fault ≡ Disk) × IsBeyond summary)
why_not_begun summary NoRecord fault told h = inr (told, λ both. h both.1)
why_not_begun summary (Store e) fault told h = inl (told ∙ ap (λ e. fault_of_read (Store e)) h)
