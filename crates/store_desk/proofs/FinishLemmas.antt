-- What comes of an install that was prepared, and what a desk is where none is finished.
use Rattle.std.proofs.Common.{◌≡◌, ◌≢◌, inr, ℕ, ◌+◌, ◌-◌, ◌^◌, ◌≤◌, true, false, List, map, refl, sym, ap, subst, ◌∙◌, arith}
use Rattle.std.specs.Prelude.{IsTrue, min, string_bytes, Option, Some, None, Result, Ok, Err, IfNone, IfSome, IfErr}
use Rattle.std.proofs.lemmas.Result.{IfErr-weaker}
use Rattle.sqlite.specs.Effect.{Database}
use Rattle.sqlite.specs.State.{HasCleanDisk}
use Rattle.sqlite.specs.Held.{Held, state}
use Rattle.sqlite_trees.specs.declared.store.Store.{Ghosts}
use Rattle.dict_index.specs.Edition.{Edition, ReadEdition, edition_of}
use Rattle.dict_index.specs.Meaning.{IsReadEdition}
use Rattle.dict_catalogue.specs.Commands.{install}
use Rattle.dict_catalogue.specs.Items.{Stored}
use Rattle.dict_catalogue.specs.Tests.{Holdings}
use Rattle.dict_catalogue.specs.Steps.{Catalogue}
use Rattle.dict_catalogue.specs.WellFormed.{IsWellFormed}
use Rattle.dict_catalogue.specs.declared.reply.Kept.{Kept}
use Rattle.dict_desk.specs.Faults.{IsOfCommand, is_failure}
use Rattle.dict_desk.specs.declared.fault.Fault.{Fault}
use Rattle.dict_desk.specs.declared.fault.Fault.TheVariants.{Refused, Memory, Disk, Closed as Shut, NotACatalogue, Damaged, NewerSchema}
use Rattle.store_rows.specs.Versions.{known}
use Rattle.store_holdings.specs.Holds.{Holds}
use Rattle.store_holdings.specs.HeldTexts.{HoldsText}
use Rattle.store_holdings.specs.Indexes.{entries_under}
use Rattle.store_holdings.specs.CutTexts.{ArePartsOf}
use Rattle.store_holdings.specs.KeptTexts.{PartNumbers}
use Rattle.store_search.specs.Entries.{Indexed, entry_of}
use Rattle.store_commands.specs.Answers.{IsOfApply}
use Rattle.store_commands.specs.Committed.{StaysCommitted}
use Rattle.store_commands.specs.Finishing.{FailsBehindFiled, IsFinished}
use Rattle.store_commands.specs.Installs.{IsInstallOf}
use Rattle.store_commands.specs.declared.applied.Applied.{Applied}
use Rattle.store_commands.specs.declared.applied.Applied.TheVariants.{Repeated, Done}
use Rattle.store_commands.specs.declared.reads.ReadInstall.{ReadInstall}
use Rattle.store_desk.specs.Applied.{AppliesOver}
use Rattle.store_desk.specs.Causes.{FailsToApplyOver, IsAppliedTo}
use Rattle.store_desk.specs.Desk.{DeskState, ServesEdition, ServesEditions, Shows, is_closed, reply_of}
use Rattle.store_desk.specs.Indexed.{HasPutIfSome}
use Rattle.store_desk.specs.declared.last.LastCall.{LastCall}
use Rattle.store_desk.specs.Left.{Counts}
use Rattle.store_desk.proofs.IndexedLemmas.{each_both, each_low, next_number}

-- what holds where none was told
pub none_by : {T P : Type 0} (told : Option T) → ((value : T) → told ≡ Some value → ⊥) → IfNone told P → P
none_by None never h = h
none_by (Some value) never h = absurd (never value refl)

pub some_with : {T P : Type 0} (found : Option T) → P → IfSome found (λ _. P)
some_with None p = tt
some_with (Some value) p = p

-- ---- what was prepared is finished

-- of just this name and these files
pub finished_of : {S : Type 0} (g : Ghosts S) (summary : Holdings (List ℕ)) (id name index text : List ℕ) (whole : ReadInstall) (old new : Held S) (number : ℕ) (before after : List (ℕ × List Indexed)) → IsInstallOf name index text whole
    → ((reading : ReadEdition) → IsReadEdition whole.came.items whole.filing.text.items reading → HasPutIfSome number (Some (map entry_of reading.lines)) before after) → (result : Option (Result Applied Fault))
    → IfSome result (λ outcome. (reading : ReadEdition) × IsReadEdition whole.came.items whole.filing.text.items reading × IsFinished g summary id (string_bytes whole.name) reading old new outcome)
    → IfSome result (λ outcome. (reading : ReadEdition) × IsReadEdition index text reading × IsFinished g summary id name reading old new outcome × HasPutIfSome number (Some (map entry_of reading.lines)) before after)
finished_of g summary id name index text whole old new number before after is put None h = tt
finished_of g summary id name index text whole old new number before after is put (Some outcome) h = (
  h.0,
  subst (λ (octets : List ℕ). IsReadEdition index octets h.0) is.text_is (subst (λ (octets : List ℕ). IsReadEdition octets whole.filing.text.items h.0) is.index_is h.1),
  subst (λ (octets : List ℕ). IsFinished g summary id octets h.0 old new outcome) is.name_is h.2,
  put h.0 h.1,
)

-- as `store_commands` tells it of a command
pub finished_over : {S : Type 0} (g : Ghosts S) (summary : Holdings (List ℕ)) (id name : List ℕ) (reading : ReadEdition) (old new : Held S) (result : Result Applied Fault) → IsFinished g summary id name reading old new result
    → AppliesOver g true summary id (install name (edition_of reading)) old new result
finished_over g summary id name reading old new result it = record {
  value = it.applied.value;
  spares = it.applied.spares;
  crash = it.applied.crash;
  shut = it.applied.shut;
  lives = it.applied.lives;
  failed = λ clean. IfErr-weaker result (λ fault. is_failure fault ≡ true → FailsBehindFiled g summary id (install name (edition_of reading)) old new fault)
      (λ fault. is_failure fault ≡ true → FailsToApplyOver g true summary id (install name (edition_of reading)) old new fault) (λ fault h failure. inr (refl, h failure)) (it.failed clean);
  above = λ clean live. it.applied.above clean;
  refused = λ clean live. it.applied.refused clean;
  others = λ clean live. it.applied.others clean;
  beside = it.applied.beside;
  grows = it.applied.grows;
  kinds = it.applied.kinds;
  range = it.applied.range;
  holds = it.applied.holds;
  ended = it.applied.ended;
}

-- ---- it isn't

-- the editions of a catalogue have other numbers than the next one
pub served_below : {S : Type 0} (g : Ghosts S) (old new : DeskState S) (M : Catalogue) → IsWellFormed M → (number : ℕ) → number ≡ M.installs + 1 → ((q : ℕ) → q ≢ number → entries_under q new.indexes ≡ entries_under q old.indexes)
    → (is_closed new.last ≡ false → is_closed old.last ≡ false) → (IsTrue (state g new.conn).is_open → IsTrue (state g old.conn).is_open)
    → (IsTrue (state g new.conn).is_open → (state g new.conn).committed ≡ (state g old.conn).committed)
    → ((stored : Stored Edition) (one : ServesEdition g old stored) → ArePartsOf stored.number one.text new.texts) → ServesEditions g old M → ServesEditions g new M
served_below g old new M well number next same fine was_open committed parts served =
    each_both (ServesEdition g old) (λ (stored : Stored Edition). stored.number ≤ M.installs) (ServesEdition g new) stay M.items served (each_low M well)
  where
    stay : (stored : Stored Edition) → ServesEdition g old stored → stored.number ≤ M.installs → ServesEdition g new stored
    stay stored one low = record {
      index = one.index;
      stands = same stored.number (λ e. (let no : ⊥ = omega (arith, low, e, next) in no)) ∙ one.stands;
      text = one.text;
      cuts = one.cuts;
      kept = parts stored one;
      held = λ open' live. subst (λ (db : Database). HoldsText db stored.number one.text) (sym (committed live)) (one.held (fine open') (was_open live));
    }

-- Nothing was committed, and an index was put under the next number, or let go of.
pub unfinished_shows : {S : Type 0} (g : Ghosts S) (old new : Held S) (summary : Holdings (List ℕ)) (last : LastCall) {taken later : Counts} → is_closed last ≡ false → (HasCleanDisk (state g new) → HasCleanDisk (state g old))
    → (HasCleanDisk (state g new) → StaysCommitted (state g old) (state g new)) → (number : ℕ) → number ≡ min (summary.installs + 1) (2 ^ 64 - 1)
    → (indexes after : List (ℕ × List Indexed)) → ((q : ℕ) → q ≢ number → entries_under q after ≡ entries_under q indexes) → (texts : List (PartNumbers × List ℕ)) (M : Catalogue)
    → Shows g (record { conn = old; summary = summary; last = last; indexes = indexes; texts = texts; counts = taken }) M
    → Shows g (record { conn = new; summary = summary; last = last; indexes = after; texts = texts; counts = later }) M
unfinished_shows g old new summary last {taken = taken} {later = later} fine first stays number next indexes after same texts M shown = record {
  summary = shown.summary;
  well_formed = shown.well_formed;
  holds = λ open' clean live. subst (λ (db : Database). Holds known db M) (sym ((stays clean).committed live)) (shown.holds fine (first clean) ((stays clean).was_open live));
  served = λ clean. served_below g (record { conn = old; summary = summary; last = last; indexes = indexes; texts = texts; counts = taken })
      (record { conn = new; summary = summary; last = last; indexes = after; texts = texts; counts = later }) M shown.well_formed
      number (next_number M shown.well_formed number (next ∙ ap (λ (s : Holdings (List ℕ)). min (s.installs + 1) (2 ^ 64 - 1)) shown.summary)) same (λ _. fine) (stays clean).was_open (stays clean).committed
      (λ stored one. one.kept) (shown.served (first clean));
}

-- ---- how it is answered

-- as each edition that the files say is installed
pub done_as : {S : Type 0} (g : Ghosts S) (old new : DeskState S) (id name index text : List ℕ) (outcome : Result Kept Fault)
    → ((index text : List ℕ) (a b : ReadEdition) → IsReadEdition index text a → IsReadEdition index text b → a ≡ b)
    → ((reading : ReadEdition) × IsReadEdition index text reading × IsAppliedTo g old (record { id = id; command = install name (edition_of reading) }) outcome new)
    → (other : ReadEdition) → IsReadEdition index text other → IsAppliedTo g old (record { id = id; command = install name (edition_of other) }) outcome new
done_as g old new id name index text outcome one done other is =
    subst (λ (r : ReadEdition). IsAppliedTo g old (record { id = id; command = install name (edition_of r) }) outcome new) (one index text done.0 other done.1 is) done.2

-- a command that is answered over a store is never told that the desk is closed
pub reply_kind : (result : Result Applied Fault) → IfErr result IsOfApply → IfErr (reply_of result) IsOfCommand
reply_kind (Ok (Repeated kept)) kind = tt
reply_kind (Ok (Done kept summary)) kind = tt
reply_kind (Err (Refused refusal)) kind = tt
reply_kind (Err Memory) kind = tt
reply_kind (Err Disk) kind = tt
reply_kind (Err Shut) kind = tt
reply_kind (Err NotACatalogue) kind = absurd kind
reply_kind (Err Damaged) kind = absurd kind
reply_kind (Err NewerSchema) kind = absurd kind

pub never_shut : (result : Result Applied Fault) → IfErr result IsOfApply → reply_of result ≡ Err Shut → ⊥
never_shut (Ok (Repeated kept)) kind is = let e = is in cc
never_shut (Ok (Done kept summary)) kind is = let e = is in cc
never_shut (Err fault) kind is = subst IsOfApply (let e : fault ≡ Shut = (let h = is in cc) in e) kind
