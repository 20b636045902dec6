-- A command keeps the text of each edition that stays, and that of the edition that it installs stands under a new number.
use Rattle.std.proofs.Common.{◌≡◌, ◌≢◌, ℕ, ◌≤◌, false, List, [], ◌∷◌, refl, sym, ap, subst, arith}
use Rattle.std.specs.Prelude.{IfSome, IsTrue, IsPermutation}
use Rattle.std.specs.List.{AllByRecursion}
use Rattle.std.proofs.lemmas.Bool.{false≢true}
use Rattle.std.proofs.lemmas.List.Sorted.{IsPermutation-refl}
use Rattle.sqlite.specs.Effect.{Database}
use Rattle.sqlite.specs.State.{State, HasCleanDisk}
use Rattle.dict_catalogue.specs.Items.{edition_numbers}
use Rattle.dict_catalogue.specs.Effects.{installs_after}
use Rattle.dict_catalogue.specs.Tests.{Holdings}
use Rattle.dict_catalogue.specs.Views.{command_shown, summary_shown, IsChange}
use Rattle.dict_catalogue.specs.declared.commands.Command.{Command}
use Rattle.dict_catalogue.specs.declared.commands.Command.TheVariants.{Install, Rollback, Retire, PutVirtual, Place}
use Rattle.dict_catalogue.specs.declared.planning.PlannedChange.{PlannedChange as Planned}
use Rattle.dict_desk.specs.Faults.{is_failure}
use Rattle.dict_desk.specs.declared.fault.Fault.{Fault}
use Rattle.dict_desk.specs.declared.fault.Fault.TheVariants.{Refused, Memory, Disk, Closed, NotACatalogue, Damaged, NewerSchema}
use Rattle.store_rows.specs.After.{Installed}
use Rattle.store_rows.specs.Versions.{known}
use Rattle.store_holdings.specs.AllTables.{AllTables, with_derived, all_after}
use Rattle.store_holdings.specs.HeldTexts.{text_rows}
use Rattle.store_commands.specs.KeptRecords.{HasRecords, KeepsTextRows, TurnsRecords}
use Rattle.store_commands.specs.Changes.{change_by, installed_by, IsWritable}
use Rattle.store_holdings.specs.Committed.{IsCommitted}
use Rattle.store_commands.specs.Committed.{IsOfStore}
use Rattle.store_commands.specs.Installed.{HasTextOf}
use Rattle.store_commands.specs.Answers.{HoldsBy}
use Rattle.store_commands.proofs.ApplyLemmas.{holds_now}
use Rattle.store_commands.proofs.TableLemmas.{parts_kept}
use Rattle.store_commands.proofs.TextLemmas.{text_stays, text_there}

pub each_one : (P : ℕ → Type 0) → ((n : ℕ) → P n) → (numbers : List ℕ) → AllByRecursion P numbers
each_one P h [] = tt
each_one P h (n ∷ numbers) = (h n, each_one P h numbers)

-- ---- what a command does

-- the edition that is installed has a number above those of the installs before
installed_above : (command : Command) (installs after number : ℕ) → after ≡ installs_after (command_shown command) installs → number ≤ installs → IfSome (installed_by after command) (λ (new : Installed). number ≢ new.number)
installed_above (Install name edition) installs after number is low = λ same. omega (arith, is, low, same)
installed_above (Rollback name) installs after number is low = tt
installed_above (Retire name) installs after number is low = tt
installed_above (PutVirtual name title members) installs after number is low = tt
installed_above (Place name at) installs after number is low = tt

never_less : (command : Command) (installs after : ℕ) → after ≡ installs_after (command_shown command) installs → installs ≤ after
never_less (Install name edition) installs after is = omega (arith, is)
never_less (Rollback name) installs after is = omega (arith, is)
never_less (Retire name) installs after is = omega (arith, is)
never_less (PutVirtual name title members) installs after is = omega (arith, is)
never_less (Place name at) installs after is = omega (arith, is)

-- the count of installs after a command that was planned
counted : (summary : Holdings (List ℕ)) (command : Command) (planned : Planned) → IsChange summary (command_shown command) planned → planned.summary.installs ≡ installs_after (command_shown command) summary.installs
counted summary command planned change = ap (λ (b : Holdings (List ℕ)). b.installs) change.1.after

pub grows_by : (summary : Holdings (List ℕ)) (command : Command) (planned : Planned) → IsChange summary (command_shown command) planned → summary.installs ≤ planned.summary.installs
grows_by summary command planned change = never_less command summary.installs planned.summary.installs (counted summary command planned change)

-- what was committed of it
pub above_committed : (summary : Holdings (List ℕ)) (id : List ℕ) (command : Command) (planned : Planned) → IsChange summary (command_shown command) planned → (old new : State) → HoldsBy summary old → HasCleanDisk old → IsTrue old.is_open
    → IsCommitted (TurnsRecords (all_after known (change_by id command planned)) old.now) new → KeepsTextRows summary.installs (edition_numbers (summary_shown planned.summary).items) old.now new.now
above_committed summary id command planned change old new holds clean live done =
    let it = holds clean live in
    let held = holds_now old it.0 it.1 in
    let all : AllTables = with_derived held.orphans held.tables in
    let before : HasRecords old.now all = record { own = held.own; keeps = held.keeps } in
    let after : HasRecords new.now (all_after known (change_by id command planned) all) = subst (λ (db : Database). HasRecords db (all_after known (change_by id command planned) all)) (sym done.settled) (done.holds all before).0 in
    each_one (λ number. number ≤ summary.installs → IsPermutation (text_rows number old.now) (text_rows number new.now))
    (λ number low.
    text_stays number old.now new.now all.parts (installed_by planned.summary.installs command) (parts_kept old.now all before) (parts_kept new.now (all_after known (change_by id command planned) all) after)
    (installed_above command summary.installs planned.summary.installs number (counted summary command planned change) low))
    (edition_numbers (summary_shown planned.summary).items)

-- the text of the edition that a command installs stands under its number
pub installed_there : (summary : Holdings (List ℕ)) (id : List ℕ) (command : Command) (planned : Planned) → IsWritable planned → (old new : State) → HoldsBy summary old → HasCleanDisk old → IsTrue old.is_open
    → IsCommitted (TurnsRecords (all_after known (change_by id command planned)) old.now) new → HasTextOf command planned.summary.installs new.now
installed_there summary id (Install name edition) planned writable old new holds clean live done =
    let command : Command = Install name edition in
    let it = holds clean live in
    let held = holds_now old it.0 it.1 in
    let all : AllTables = with_derived held.orphans held.tables in
    let after : HasRecords new.now (all_after known (change_by id command planned) all) = subst (λ (db : Database). HasRecords db (all_after known (change_by id command planned) all)) (sym done.settled)
    (done.holds all (record { own = held.own; keeps = held.keeps })).0 in
    text_there planned.summary.installs new.now all.parts (record { owner = name.now; number = planned.summary.installs; reading = edition.now }) refl writable.installs
    (parts_kept new.now (all_after known (change_by id command planned) all) after)
installed_there summary id (Rollback name) planned writable old new holds clean live done = tt
installed_there summary id (Retire name) planned writable old new holds clean live done = tt
installed_there summary id (PutVirtual name title members) planned writable old new holds clean live done = tt
installed_there summary id (Place name at) planned writable old new holds clean live done = tt

-- nothing has changed
pub above_same : (installs : ℕ) (numbers : List ℕ) (old new : Database) → new ≡ old → KeepsTextRows installs numbers old new
above_same installs numbers old new same = subst (λ (db : Database). KeepsTextRows installs numbers old db) (sym same) (each numbers)
  where
    each : (ns : List ℕ) → KeepsTextRows installs ns old old
    each [] = tt
    each (n ∷ ns) = (λ low. IsPermutation-refl (text_rows n old), each ns)

-- a failure of the store is no refusal
pub none_refused : (fault : Fault) → IsOfStore fault → is_failure fault ≡ false → ⊥
none_refused (Refused refusal) kind e = absurd kind
none_refused Memory kind e = false≢true (sym e)
none_refused Disk kind e = false≢true (sym e)
none_refused Closed kind e = absurd kind
none_refused NotACatalogue kind e = absurd kind
none_refused Damaged kind e = absurd kind
none_refused NewerSchema kind e = absurd kind
