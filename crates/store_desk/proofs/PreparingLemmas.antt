-- What a desk is behind what is prepared, and behind what was prepared is undone.
use Rattle.std.proofs.Common.{◌≡◌, ◌⊎◌, inl, inr, ℕ, ◌||◌, Bool, true, false, List, refl, sym, ap, subst, ◌∙◌}
use Rattle.std.specs.Prelude.{◌↔◌, IfSome, is_some, Option, Some, None, Result, Ok, Err, OnOk, IfErr}
use Rattle.std.proofs.lemmas.Bool.{false≢true}
use Rattle.sqlite.specs.State.{State, HasCleanDisk}
use Rattle.sqlite.specs.Held.{Held, state}
use Rattle.sqlite_trees.specs.declared.store.Store.{Ghosts}
use Rattle.dict_catalogue.specs.Steps.{Catalogue}
use Rattle.dict_catalogue.specs.Tests.{Holdings}
use Rattle.dict_desk.specs.Faults.{IsOfLookup, is_disk, is_failure, has_failed_by, has_closed_by}
use Rattle.dict_desk.specs.declared.fault.Fault.{Fault}
use Rattle.dict_desk.specs.declared.fault.Fault.TheVariants.{Refused, Memory, Disk, Closed as Shut, NotACatalogue, Damaged, NewerSchema}
use Rattle.store_holdings.specs.CutTexts.{ArePartsOf}
use Rattle.store_holdings.specs.KeptTexts.{PartNumbers}
use Rattle.store_search.specs.Entries.{Indexed}
use Rattle.store_commands.specs.Committed.{IsOfStore}
use Rattle.store_commands.specs.Filing.{HasNoneFiled, IsDrawnUp}
use Rattle.store_holdings.specs.Indexes.{entries_under}
use Rattle.store_desk.specs.Causes.{FailsToPrepare}
use Rattle.store_desk.specs.Desk.{DeskState, HasFiled, IsAtRest, KeepsBeside, LeavesOneOf, Shows, has_failed, is_closed}
use Rattle.store_desk.specs.KeptParts.{texts_after, texts_behind}
use Rattle.store_desk.specs.Prepared.{KeepsDesk, last_behind}
use Rattle.store_desk.specs.declared.last.LastCall.{LastCall}
use Rattle.store_desk.specs.declared.last.LastCall.TheVariants.{Fine, Failed, Closed}
use Rattle.store_desk.specs.Left.{ComingState, Counts, recounted}
use Rattle.store_desk.proofs.DeskLemmas.{parts_after, shows_counted}
use Rattle.store_desk.proofs.ServedLemmas.{served_still}

pub or_true : (b : Bool) → (b || true) ≡ true
or_true false = refl
or_true true = refl

pub or_false : (b : Bool) → (b || false) ≡ b
or_false false = refl
or_false true = refl

-- the texts that are kept behind what was prepared
pub parts_behind : {T : Type 0} (result : Result T Fault) (number : ℕ) (text : List ℕ) (texts : List (PartNumbers × List ℕ)) → ArePartsOf number text texts → ArePartsOf number text (texts_behind result texts)
parts_behind (Ok value) number text texts are = are
parts_behind (Err fault) number text texts are = tt

module _ {S : Type 0} (g : Ghosts S) where
  -- ---- a call that failed, or prepared something, and changed nothing else

  pub rests_as : (summary : Holdings (List ℕ)) (filing : Option ComingState) (before after : LastCall) (h : Held S) → is_closed before ≡ false → IsAtRest g before summary filing h
      → (left : Option ComingState) → HasFiled left (state g h) → IsAtRest g after summary left h
  rests_as summary filing before after h fine rest left filed = record { limit = rest.limit; ended = rest.ended; range = rest.range; holds = λ _. rest.holds fine; filed = λ _. filed }

  pub shows_as : {taken later : Counts} (summary : Holdings (List ℕ)) (before after : LastCall) (h : Held S) → is_closed before ≡ false → (old new : List (ℕ × List Indexed)) → ((q : ℕ) → entries_under q new ≡ entries_under q old)
      → (kept texts : List (PartNumbers × List ℕ)) → texts ≡ texts_after after kept
      → (M : Catalogue) → Shows g (record { conn = h; summary = summary; last = before; indexes = old; texts = kept; counts = taken }) M
      → Shows g (record { conn = h; summary = summary; last = after; indexes = new; texts = texts; counts = later }) M
  shows_as {taken = taken} {later = later} summary before after h fine old new same kept texts is M shown = record {
    summary = shown.summary;
    well_formed = shown.well_formed;
    holds = λ _ clean live. shown.holds fine clean live;
    served = λ clean. served_still g (record { conn = h; summary = summary; last = before; indexes = old; texts = kept; counts = taken })
        (record { conn = h; summary = summary; last = after; indexes = new; texts = texts; counts = later }) same (λ _. fine) (λ live. live) (λ live. refl)
        (λ stored one. subst (ArePartsOf stored.number one.text) (sym is) (parts_after after stored.number one.text kept one.kept)) M (shown.served clean);
  }

  -- what is counted tells nothing of what is shown
  pub shows_but_counts : (old new : DeskState S) → new ≡ record old { counts = recounted old.counts new.counts } → (M : Catalogue) → Shows g old M → Shows g new M
  shows_but_counts old new same M shown = subst (λ (d : DeskState S). Shows g d M) (sym same) (shows_counted g old (recounted old.counts new.counts) M shown)

-- nothing is filed yet of what was planned
planned_filed : (found : Option ComingState) (s : State) → IfSome found (λ coming. IsDrawnUp coming.filing × HasNoneFiled coming.filing) → HasFiled found s
planned_filed None s planned = tt
planned_filed (Some f) s planned = (planned.0, λ clean live begun. absurd (false≢true (sym planned.1.begun ∙ begun)))

-- nothing is filed
pub none_filed : (filing : Option ComingState) (s : State) → is_some filing ≡ false → HasFiled filing s
none_filed None s none = tt
none_filed (Some coming) s none = absurd (false≢true (sym none))

-- a draft was read, or what it says is planned
pub read_filed : (before after : Option ComingState) (s : State) → (after ≡ before) ⊎ IfSome after (λ coming. IsDrawnUp coming.filing × HasNoneFiled coming.filing) → HasFiled before s → HasFiled after s
read_filed before after s (inl same) filed = subst (λ (f : Option ComingState). HasFiled f s) (sym same) filed
read_filed before after s (inr planned) filed = planned_filed after s planned

-- nothing was done to the connection, and there is more: all that is seen of the desk is as it was, but for what is counted
pub same_prepared : {S : Type 0} (old : DeskState S) (conn : Held S) (last : LastCall) (texts : List (PartNumbers × List ℕ)) (later : Counts) (result : Result Bool Fault) → last ≡ last_behind old.last result
    → texts ≡ texts_behind result old.texts → result ≡ Ok true → conn ≡ old.conn → record { conn = conn; summary = old.summary; last = last; indexes = old.indexes; texts = texts; counts = later } ≡ record old { counts = later }
same_prepared old conn last texts later (Ok more) by is ok same = λ i. record { conn = same i; summary = old.summary; last = by i; indexes = old.indexes; texts = is i; counts = later }
same_prepared old conn last texts later (Err fault) by is ok same = absurd (let e = ok in cc)

-- memory alone was refused
pub no_disk : {T : Type 0} (P : Type 0) (result : Result T Fault) → IfErr result (λ fault. fault ≡ Memory) → IfErr result (λ fault. fault ≡ Disk → P)
no_disk P (Ok value) h = tt
no_disk P (Err fault) h = λ is. absurd (let e : Memory ≡ Disk = sym h ∙ is in cc)

pub memory_kind : {T : Type 0} (result : Result T Fault) → IfErr result (λ fault. fault ≡ Memory) → IfErr result IsOfStore
memory_kind (Ok value) h = tt
memory_kind (Err fault) h = subst IsOfStore (sym h) tt

-- ---- how a preparation ended

pub behind_failed : {T : Type 0} (last : LastCall) (result : Result T Fault) → IfErr result IsOfStore → has_failed (last_behind last result) ≡ (has_failed last || has_failed_by result)
behind_failed last (Ok value) kind = sym (or_false (has_failed last))
behind_failed last (Err (Refused refusal)) kind = absurd kind
behind_failed last (Err Memory) kind = sym (or_true (has_failed last))
behind_failed last (Err Disk) kind = sym (or_true (has_failed last))
behind_failed last (Err Shut) kind = absurd kind
behind_failed last (Err NotACatalogue) kind = absurd kind
behind_failed last (Err Damaged) kind = absurd kind
behind_failed last (Err NewerSchema) kind = absurd kind

pub behind_closed : {T : Type 0} (last : LastCall) (result : Result T Fault) → is_closed last ≡ false → IfErr result IsOfStore → is_closed (last_behind last result) ≡ (is_closed last || has_closed_by result)
behind_closed last (Ok value) fine kind = sym (or_false (is_closed last))
behind_closed last (Err (Refused refusal)) fine kind = absurd kind
behind_closed last (Err Memory) fine kind = sym (ap (λ b. b || false) fine)
behind_closed last (Err Disk) fine kind = sym (or_true (is_closed last))
behind_closed last (Err Shut) fine kind = absurd kind
behind_closed last (Err NotACatalogue) fine kind = absurd kind
behind_closed last (Err Damaged) fine kind = absurd kind
behind_closed last (Err NewerSchema) fine kind = absurd kind

-- a fault from 40 on, behind whatever was before
pub failing_or : (last new : LastCall) (fault : Fault) → is_failure fault ≡ true → has_failed new ≡ true → has_failed new ≡ (has_failed last || is_failure fault)
failing_or last new fault failing failed = failed ∙ sym (ap (λ b. has_failed last || b) failing ∙ or_true (has_failed last))

-- a desk that isn't closed doesn't answer that it is
pub open_closed : {T : Type 0} (last : LastCall) (result : Result T Fault) → is_closed last ≡ false → IfErr result IsOfStore → (result ≡ Err Shut) ↔ (is_closed last ≡ true)
open_closed last result fine kind = (λ is. absurd (subst (λ (r : Result _ Fault). IfErr r IsOfStore) is kind), λ shut. absurd (false≢true (sym fine ∙ shut)))

pub closed_failed : (last : LastCall) → is_closed last ≡ true → has_failed last ≡ true
closed_failed Fine e = e
closed_failed Failed e = refl
closed_failed Closed e = refl

pub lookup_kind : {T : Type 0} (result : Result T Fault) → IfErr result IsOfStore → IfErr result IsOfLookup
lookup_kind (Ok value) kind = tt
lookup_kind (Err (Refused refusal)) kind = absurd kind
lookup_kind (Err Memory) kind = tt
lookup_kind (Err Disk) kind = tt
lookup_kind (Err Shut) kind = absurd kind
lookup_kind (Err NotACatalogue) kind = absurd kind
lookup_kind (Err Damaged) kind = absurd kind
lookup_kind (Err NewerSchema) kind = absurd kind

-- ---- nothing was done

module _ {S T : Type 0} (g : Ghosts S) (desk : DeskState S) where
  -- by a desk that isn't closed, and there was nothing to do
  pub nothing_keeps : (value : T) → is_closed desk.last ≡ false → KeepsDesk g desk desk (Ok value)
  nothing_keeps value fine = record {
    trust = λ clean. clean;
    beside = λ db kept. kept;
    shows = λ clean M shown. shown;
    leaves = λ ms left. left;
    kinds = tt;
    caused = λ clean. tt;
    failed = sym (or_false (has_failed desk.last));
    closes = sym (or_false (is_closed desk.last));
    closed = open_closed desk.last (Ok value) fine tt;
  }

  -- by one that is
  pub shut_keeps : is_closed desk.last ≡ true → KeepsDesk g {T = T} desk desk (Err Shut)
  shut_keeps shut = record {
    trust = λ clean. clean;
    beside = λ db kept. kept;
    shows = λ clean M shown. shown;
    leaves = λ ms left. left;
    kinds = tt;
    caused = λ clean. (shut, refl);
    failed = failing_or desk.last desk.last Shut refl (closed_failed desk.last shut);
    closes = sym (or_false (is_closed desk.last));
    closed = (λ is. shut, λ same. refl);
  }

-- ---- what is prepared is let go of

module _ {S T : Type 0} (old new : DeskState S) (same : new ≡ record old { counts = recounted old.counts new.counts }) where
  forgotten_failed : (result : Result T Fault) → IfErr result (λ fault. (fault ≡ Shut) × (is_closed old.last ≡ true) × (new ≡ old)) → has_failed new.last ≡ (has_failed old.last || has_failed_by result)
  forgotten_failed (Ok value) told = ap (λ (d : DeskState S). has_failed d.last) same ∙ sym (or_false (has_failed old.last))
  forgotten_failed (Err fault) told = failing_or old.last new.last fault (ap is_failure told.0) (ap (λ (d : DeskState S). has_failed d.last) same ∙ closed_failed old.last told.1)

  forgotten_closes : (result : Result T Fault) → IfErr result (λ fault. (fault ≡ Shut) × (is_closed old.last ≡ true) × (new ≡ old)) → is_closed new.last ≡ (is_closed old.last || has_closed_by result)
  forgotten_closes (Ok value) told = ap (λ (d : DeskState S). is_closed d.last) same ∙ sym (or_false (is_closed old.last))
  forgotten_closes (Err fault) told = ap (λ (d : DeskState S). is_closed d.last) same ∙ (sym (or_false (is_closed old.last)) ∙ ap (λ (f : Fault). is_closed old.last || is_disk f) (sym told.0))

  forgotten_closed : (result : Result T Fault) → OnOk result (is_closed old.last ≡ false) → IfErr result (λ fault. (fault ≡ Shut) × (is_closed old.last ≡ true) × (new ≡ old)) → (result ≡ Err Shut) ↔ (is_closed old.last ≡ true)
  forgotten_closed (Ok value) fine told = (λ is. absurd (let e = is in cc), λ shut. absurd (false≢true (sym fine ∙ shut)))
  forgotten_closed (Err fault) fine told = (λ is. told.1, λ shut. ap Err told.0)

  forgotten_caused : (g : Ghosts S) (result : Result T Fault) → IfErr result (λ fault. (fault ≡ Shut) × (is_closed old.last ≡ true) × (new ≡ old)) → IfErr result (FailsToPrepare g old new)
  forgotten_caused g (Ok value) told = tt
  forgotten_caused g (Err fault) told = subst (FailsToPrepare g old new) (sym told.0) (told.1, told.2)

  forgotten_kind : (result : Result T Fault) → IfErr result (λ fault. (fault ≡ Shut) × (is_closed old.last ≡ true) × (new ≡ old)) → IfErr result IsOfLookup
  forgotten_kind (Ok value) told = tt
  forgotten_kind (Err fault) told = subst IsOfLookup (sym told.0) tt

  pub forgotten_keeps : (g : Ghosts S) (result : Result T Fault) → OnOk result (is_closed old.last ≡ false) → IfErr result (λ fault. (fault ≡ Shut) × (is_closed old.last ≡ true) × (new ≡ old))
      → KeepsDesk g old new result
  forgotten_keeps g result fine told = record {
    trust = λ clean. subst (λ (d : DeskState S). HasCleanDisk (state g d.conn)) same clean;
    beside = λ db kept. subst (λ (d : DeskState S). KeepsBeside g d db) (sym same) kept;
    shows = λ clean M shown. shows_but_counts g old new same M shown;
    leaves = λ ms left. subst (λ (d : DeskState S). LeavesOneOf g d ms) (sym same) left;
    kinds = forgotten_kind result told;
    caused = λ clean. forgotten_caused g result told;
    failed = forgotten_failed result told;
    closes = forgotten_closes result told;
    closed = forgotten_closed result fine told;
  }
