-- What a lookup leaves of a desk.
use Rattle.std.proofs.Common.{◌≡◌, inl, inr, ℕ, Bool, true, false, List, [], ◌∷◌, refl, sym, subst, ◌∙◌, arith}
use Rattle.std.specs.Prelude.{IsTrue, Option, Some, None, Contains, Result, Ok, Err, OnOk, IfErr, IsErr}
use Rattle.std.proofs.lemmas.Bool.{false≢true}
use Rattle.sqlite.specs.Effect.{Database, IsDatabase}
use Rattle.sqlite.specs.Tree.{Trees}
use Rattle.sqlite.specs.State.{State, HasCleanDisk, IsUnchanged, IsRolledBack, Survives}
use Rattle.sqlite.specs.Held.{Held, state}
use Rattle.sqlite_trees.specs.declared.store.Store.{Ghosts}
use Rattle.dict_index.specs.Edition.{Edition}
use Rattle.dict_catalogue.specs.Items.{Stored}
use Rattle.dict_catalogue.specs.Tests.{Holdings}
use Rattle.dict_catalogue.specs.Steps.{Catalogue}
use Rattle.dict_index.specs.Found.{Row}
use Rattle.dict_desk.specs.Handing.{Hands}
use Rattle.dict_desk.specs.declared.fault.Fault.{Fault}
use Rattle.dict_desk.specs.declared.lookup.End.{End}
use Rattle.dict_desk.proofs.HandingLemmas.{hands_front}
use Rattle.store_holdings.specs.Faults as reading
use Rattle.store_holdings.specs.Holds.{Holds, IsLeft}
use Rattle.store_holdings.specs.Searches.{ReadsStore}
use Rattle.store_holdings.specs.CutTexts.{ArePartsOf, AreOfInstalls, IsAtMostRead, FailsToFind}
use Rattle.store_holdings.specs.KeptTexts.{PartNumbers}
use Rattle.store_commands.specs.Committed.{StaysCommitted}
use Rattle.store_commands.specs.Filing.{HasFiledParts}
use Rattle.store_commands.proofs.ApplyLemmas.{rests_still}
use Rattle.store_desk.specs.Desk.{DeskState, HasFiled, IsAtRest, ServesEdition, Shows, LeavesOneOf, is_closed}
use Rattle.store_desk.specs.KeptParts.{KeepsTexts, texts_after}
use Rattle.store_desk.specs.declared.last.LastCall.{LastCall}
use Rattle.store_desk.specs.declared.last.LastCall.TheVariants.{Fine, Failed, Closed}
use Rattle.store_desk.specs.Left.{ComingState, Counts}
use Rattle.store_desk.proofs.ServedLemmas.{served_still}
use Rattle.store_search.specs.Entries.{Indexed}
use Rattle.store_rows.specs.Versions.{known}
use Rattle.store_holdings.proofs.OneLemmas.{held_known}

-- ---- what a call leaves of a store

pub same_stays : (s : State) → StaysCommitted s s
same_stays s = record { was_open = λ live. live; committed = λ live. refl; settled = λ live same. same }

pub unchanged_stays : (old new : State) → IsUnchanged old new → StaysCommitted old new
unchanged_stays old new same = record { was_open = λ live. same.0.was_open; committed = λ live. same.0.committed_is; settled = λ live was. same.0.now_is ∙ was ∙ sym same.0.committed_is }

pub rolled_stays : (old new : State) → IsRolledBack old new → StaysCommitted old new
rolled_stays old new back = record { was_open = back.was_open; committed = λ live. (back.undone live).1; settled = λ live was. (back.undone live).0 ∙ sym (back.undone live).1 }

-- of a lookup that reads from the store at most
module _ {S : Type 0} (g : Ghosts S) (number : ℕ) (old new : Held S) where
  asked_stays : IsAtMostRead g old new → StaysCommitted (state g old) (state g new)
  asked_stays (inl same) = subst (λ (h : Held S). StaysCommitted (state g old) (state g h)) (sym same) (same_stays (state g old))
  asked_stays (inr same) = unchanged_stays (state g old) (state g new) same

  unfound_stays : (fault : Fault) → FailsToFind g number old new fault → StaysCommitted (state g old) (state g new)
  unfound_stays fault (inl h) = asked_stays (inl h.1)
  unfound_stays fault (inr (inl same)) = asked_stays (inr same.0)
  unfound_stays fault (inr (inr h)) = rolled_stays (state g old) (state g new) h.2.3

  pub found_stays : {T : Type 0} (result : Result T Fault) → ReadsStore g (IsAtMostRead g) (FailsToFind g number) old new result → HasCleanDisk (state g new) → StaysCommitted (state g old) (state g new)
  found_stays (Ok value) reads clean = asked_stays (reads.same clean)
  found_stays (Err fault) reads clean = unfound_stays fault (reads.failed clean)

pub reply_stays : (old new : State) (fault : Fault) → reading.FailsToReadCatalogue old new fault → StaysCommitted old new
reply_stays old new fault (inl same) = unchanged_stays old new same.0
reply_stays old new fault (inr h) = rolled_stays old new h.2.3

pub replies_stay : {T : Type 0} (old new : State) (result : Result T Fault) → OnOk result (IsUnchanged old new) → IfErr result (reading.FailsToReadCatalogue old new) → StaysCommitted old new
replies_stay old new (Ok value) same failed = unchanged_stays old new same
replies_stay old new (Err fault) same failed = reply_stays old new fault failed

pub clean_behind : (old new : State) → Survives old new (λ _. ⊥) → HasCleanDisk new → HasCleanDisk old
clean_behind old new survives clean = omega (arith, survives.clean)

pub survives_itself : (s : State) (P : Trees → Type 0) → Survives s s P
survives_itself s P = record { clean = omega arith; shield = λ h. h; counts = omega arith; limit = refl; closes = λ clean live. inl live; crash = λ clean trees may. inl may }

-- ---- what is prepared

-- as much of it is filed as was, where what was committed is so still
filed_still : (filing : Option ComingState) (old new : State) → (HasCleanDisk new → HasCleanDisk old) → (HasCleanDisk new → StaysCommitted old new) → HasFiled filing old → HasFiled filing new
filed_still None old new first stays filed = tt
filed_still (Some f) old new first stays filed = (
  filed.0,
  λ clean live begun. subst (HasFiledParts f.filing) (sym ((stays clean).committed live)) (filed.1 (first clean) ((stays clean).was_open live) begun),
)

-- nothing more may be left by a stop
pub leaves_on : {S : Type 0} (g : Ghosts S) (old new : DeskState S) → Survives (state g old.conn) (state g new.conn) (λ _. ⊥) → (ms : List (Option Catalogue)) → LeavesOneOf g old ms → LeavesOneOf g new ms
leaves_on g old new survives ms left clean trees may =
    left (clean_behind (state g old.conn) (state g new.conn) survives clean) trees (elim (survives.crash clean trees may) as (λ _. (state g old.conn).may_leave trees) [ inl h ↦ h | inr h ↦ absurd h ])

-- ---- the texts that are kept

pub texts_keep : (last : LastCall) (summary : Holdings (List ℕ)) (texts : List (PartNumbers × List ℕ)) → AreOfInstalls summary.installs texts → KeepsTexts last summary (texts_after last texts)
texts_keep Fine summary texts made = record { made = made; none = λ failed. absurd (false≢true failed) }
texts_keep Failed summary texts made = record { made = tt; none = λ failed. refl }
texts_keep Closed summary texts made = record { made = tt; none = λ failed. refl }

pub parts_after : (last : LastCall) (number : ℕ) (text : List ℕ) (texts : List (PartNumbers × List ℕ)) → ArePartsOf number text texts → ArePartsOf number text (texts_after last texts)
parts_after Fine number text texts are = are
parts_after Failed number text texts are = tt
parts_after Closed number text texts are = tt

-- ---- what is counted

-- what is shown doesn't look at it
pub shows_counted : {S : Type 0} (g : Ghosts S) (desk : DeskState S) (counts : Counts) (M : Catalogue) → Shows g desk M → Shows g (record desk { counts = counts }) M
shows_counted g desk counts M shown = record {
  summary = shown.summary;
  well_formed = shown.well_formed;
  holds = shown.holds;
  served = λ clean. served_still g desk (record desk { counts = counts }) (λ q. refl) (λ fine. fine) (λ live. live) (λ live. refl) (λ stored one. one.kept) M (shown.served clean);
}

-- ---- a desk behind a call that commits nothing

module _ {S : Type 0} (g : Ghosts S) (old new : Held S) (summary : Holdings (List ℕ)) (filing : Option ComingState) (before after : LastCall) (open_before : is_closed before ≡ false) (rest : IsAtRest g before summary filing old)
    (survives : Survives (state g old) (state g new) (λ _. ⊥)) (stays : HasCleanDisk (state g new) → StaysCommitted (state g old) (state g new)) where
  clean_first : HasCleanDisk (state g new) → HasCleanDisk (state g old)
  clean_first clean = omega (arith, survives.clean)

  pub rests_on : (old.in_transaction ≡ false → new.in_transaction ≡ false) → IsAtRest g after summary filing new
  rests_on mode = record {
    limit = survives.limit ∙ rest.limit;
    ended = mode rest.ended;
    range = rest.range;
    holds = λ _ clean live. let it = rest.holds open_before (clean_first clean) ((stays clean).was_open live) in (it.0, rests_still (state g old) (state g new) it.0 (stays clean) live it.1, it.2);
    filed = λ _. filed_still filing (state g old) (state g new) clean_first stays (rest.filed open_before);
  }

  -- the desk, which keeps these texts now
  pub desk_on : (old.in_transaction ≡ false → new.in_transaction ≡ false) → (kept texts : List (PartNumbers × List ℕ)) → texts ≡ texts_after after kept → AreOfInstalls summary.installs kept
      → IsAtRest g after summary filing new × KeepsTexts after summary texts
  desk_on mode kept texts is made = (rests_on mode, subst (KeepsTexts after summary) (sym is) (texts_keep after summary kept made))

  module _ (indexes : List (ℕ × List Indexed)) (kept : List (PartNumbers × List ℕ)) {taken : Counts} (M : Catalogue)
      (shown : Shows g (record { conn = old; summary = summary; last = before; indexes = indexes; texts = kept; counts = taken }) M) where
    -- what is shown, with these texts
    pub shows_with : {later : Counts} (texts : List (PartNumbers × List ℕ))
        → (HasCleanDisk (state g new) → (stored : Stored Edition) (one : ServesEdition g (record { conn = old; summary = summary; last = before; indexes = indexes; texts = kept; counts = taken }) stored)
        → ArePartsOf stored.number one.text texts)
        → Shows g (record { conn = new; summary = summary; last = after; indexes = indexes; texts = texts; counts = later }) M
    shows_with {later = later} texts cut = record {
      summary = shown.summary;
      well_formed = shown.well_formed;
      holds = λ fine clean live. subst (λ (db : Database). Holds known db M) (sym ((stays clean).committed live)) (shown.holds open_before (clean_first clean) ((stays clean).was_open live));
      served = λ clean. served_still g (record { conn = old; summary = summary; last = before; indexes = indexes; texts = kept; counts = taken })
          (record { conn = new; summary = summary; last = after; indexes = indexes; texts = texts; counts = later })
          (λ q. refl) (λ _. open_before) (stays clean).was_open (stays clean).committed (cut clean) M (shown.served (clean_first clean));
    }

    pub shows_on : {later : Counts} (texts : List (PartNumbers × List ℕ)) → texts ≡ texts_after after kept
        → Shows g (record { conn = new; summary = summary; last = after; indexes = indexes; texts = texts; counts = later }) M
    shows_on texts is = shows_with texts (λ clean stored one. subst (ArePartsOf stored.number one.text) (sym is) (parts_after after stored.number one.text kept one.kept))

-- what was handed out over a store that may be shut
pub handed_by : {K : Type 0} (takes stops : K → List Row → K → Type 0) (first last : K) (rows : List Row) (result : Result End Fault) (live : Bool) → (live ≡ true → Hands takes stops first last rows result)
    → (live ≡ false → IsErr result × (last ≡ first)) → takes first [] first
    → Hands takes stops first last rows result
handed_by takes stops first last rows result true value shut none = value refl
handed_by takes stops first last rows (Ok end) false value shut none = absurd (false≢true (shut refl).0)
handed_by takes stops first last rows (Err fault) false value shut none = hands_front takes stops first last fault rows [] rows refl (subst (λ k. takes first [] k) (sym (shut refl).1) none)

pub not_both : (b : Bool) → b ≡ false → IsTrue b → ⊥
not_both b is holds = false≢true (sym is ∙ holds)

pub alone : (M : Catalogue) → Contains (Some M ∷ []) (Some M)
alone M = (0, omega arith, refl)

-- of a store that is open a stop leaves what is committed, and the catalogue that this holds
pub left_alone : {S : Type 0} (g : Ghosts S) (conn : Held S) (M : Catalogue) → ((db : Trees) → IsTrue (state g conn).is_open → (state g conn).may_leave db → db ≡ (state g conn).committed.trees)
    → IsTrue (state g conn).is_open → IsDatabase (state g conn).committed → Holds known (state g conn).committed M → (trees : Trees) → (state g conn).may_leave trees → IsLeft M trees
left_alone g conn M settled live sound holds trees may = ((state g conn).committed, settled trees live may, sound, held_known (state g conn).committed M holds)
