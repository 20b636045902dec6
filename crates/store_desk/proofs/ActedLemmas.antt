-- By which editions lookups are answered behind a command.
use Rattle.std.proofs.Common.{◌≡◌, ◌≢◌, ℕ, ◌+◌, ◌-◌, ◌^◌, ◌≤◌, Bool, true, false, List, refl, sym, ap, subst, ◌∙◌, arith}
use Rattle.std.specs.Prelude.{IsTrue, min, Option, Some, None, Result, Ok, Err, OnErr}
use Rattle.std.specs.List.{AllByRecursion}
use Rattle.sqlite.specs.Effect.{Database}
use Rattle.sqlite.specs.State.{HasCleanDisk}
use Rattle.sqlite.specs.Held.{Held, state}
use Rattle.sqlite_trees.specs.declared.store.Store.{Ghosts}
use Rattle.dict_index.specs.Edition.{Edition}
use Rattle.dict_text.specs.Names.{is_request_id}
use Rattle.dict_catalogue.specs.Items.{Stored, editions_of, edition_numbers}
use Rattle.dict_catalogue.specs.Commands.{Command}
use Rattle.dict_catalogue.specs.Effects.{KeptReply, installs_after}
use Rattle.dict_catalogue.specs.Tests.{Holdings, refusal_of}
use Rattle.dict_catalogue.specs.Steps.{Catalogue, Outcome, accepted, decided, holdings, kept_under, step, summary_of, with_effect}
use Rattle.dict_catalogue.specs.Views.{command_meant, kept_shown, summary_shown}
use Rattle.dict_catalogue.specs.declared.commands.Command.{Command as Typed}
use Rattle.dict_catalogue.specs.declared.reply.Kept.{Kept}
use Rattle.dict_catalogue.specs.declared.summary.Summary.{Summary}
use Rattle.dict_catalogue.specs.declared.commands.Command.TheVariants.{Install, Rollback, Retire, PutVirtual, Place}
use Rattle.dict_catalogue.specs.declared.fault.CommandRefusal.{CommandRefusal}
use Rattle.store_commands.specs.Answers.{summary_after}
use Rattle.store_commands.specs.Installed.{HasInstalled, HasTextOf}
use Rattle.store_commands.specs.KeptRecords.{KeepsTextRows}
use Rattle.store_commands.specs.declared.applied.Applied.{Applied}
use Rattle.store_commands.specs.declared.applied.Applied.TheVariants.{Repeated, Done}
use Rattle.dict_desk.specs.declared.fault.Fault.{Fault}
use Rattle.store_holdings.specs.Holds.{Holds, Rests}
use Rattle.store_holdings.specs.Indexes.{entries_under}
use Rattle.store_holdings.specs.CutTexts.{ArePartsOf, AreOfInstalls}
use Rattle.store_holdings.specs.KeptTexts.{PartNumbers}
use Rattle.store_rows.specs.Versions.{known}
use Rattle.store_search.specs.Entries.{Indexed}
use Rattle.store_desk.specs.Applied.{AppliesOver}
use Rattle.store_desk.specs.Desk.{DeskState, ServesEdition, ServesEditions, Shows, is_closed, last_by}
use Rattle.store_desk.specs.Indexed.{HasPutIfSome, HasSettled, index_coming}
use Rattle.store_desk.specs.KeptParts.{texts_after}
use Rattle.store_desk.specs.declared.last.LastCall.{LastCall}
use Rattle.store_desk.specs.declared.last.LastCall.TheVariants.{Fine}
use Rattle.store_desk.specs.Left.{Counts}
use Rattle.store_desk.proofs.DeskLemmas.{parts_after}
use Rattle.store_desk.proofs.IndexedLemmas.{all_is, all_stay, all_then, each_both, each_low, each_numbered, next_number, stays_is, Is}
use Rattle.store_desk.proofs.KeeperLemmas.{catalogue_by}
use Rattle.store_desk.proofs.TextLemmas.{texts_stay}

-- a command whose new id is answered was accepted, and did its effect
acted_by : (M : Catalogue) (id : List ℕ) (command : Command Edition) (refusal : Option CommandRefusal) → refusal_of (holdings M) command ≡ refusal → (reply : KeptReply)
    → (decided M id command refusal).reply ≡ accepted reply → (decided M id command refusal).catalogue ≡ with_effect M id command
acted_by M id command (Some refusal) is reply e = absurd (cc)
acted_by M id command None is reply e = refl

pub acted : (M : Catalogue) (id : List ℕ) (command : Command Edition) (reply : KeptReply) → kept_under M.kept id ≡ None → (step M id command).reply ≡ accepted reply → (step M id command).catalogue ≡ with_effect M id command
acted M id command reply free e = by_id (is_request_id id) refl
  where
    by_id : (b : Bool) → is_request_id id ≡ b → (step M id command).catalogue ≡ with_effect M id command
    by_id true lawful =
        let is : step M id command ≡ decided M id command (refusal_of (holdings M) command) = rw lawful (rw free refl) in
        ap (λ (o : Outcome). o.catalogue) is ∙ acted_by M id command (refusal_of (holdings M) command) refl reply (sym (ap (λ (o : Outcome). o.reply) is) ∙ e)
    by_id false unlawful = absurd (let is : (step M id command).reply ≡ accepted reply = e in let other = rw unlawful at is in cc)

-- the text of an install stands under the next number
record_at : (command : Typed) (installs n : ℕ) (db : Database) → n ≡ installs_after (command_meant command) installs → HasTextOf command n db → HasTextOf command (installs + 1) db
record_at (Install name edition) installs n db is there = subst (λ (n : ℕ). HasTextOf (Install name edition) n db) is there
record_at (Rollback name) installs n db is there = tt
record_at (Retire name) installs n db is there = tt
record_at (PutVirtual name title members) installs n db is there = tt
record_at (Place name at) installs n db is there = tt

module _ {S : Type 0} (g : Ghosts S) (old new : Held S) (summary : Holdings (List ℕ)) (before : LastCall) (id : List ℕ) (typed : Typed) (open_before : is_closed before ≡ false)
    (indexes mid settled : List (ℕ × List Indexed)) (kept texts : List (PartNumbers × List ℕ)) {taken : Counts} (later : Counts) (made : AreOfInstalls summary.installs kept)
    (number : ℕ) (next : number ≡ min (summary.installs + 1) (2 ^ 64 - 1)) (put : HasPutIfSome number (index_coming typed) indexes mid) (M : Catalogue)
    (shown : Shows g (record { conn = old; summary = summary; last = before; indexes = indexes; texts = kept; counts = taken }) M) (clean : HasCleanDisk (state g new)) (first : HasCleanDisk (state g old))
    (seen : IsTrue (state g old).is_open → (state g old).now ≡ (state g old).committed) where
  abbrev was : DeskState S
  was = record { conn = old; summary = summary; last = before; indexes = indexes; texts = kept; counts = taken }

  installs_is : summary.installs ≡ M.installs
  installs_is = ap (λ (s : Holdings (List ℕ)). s.installs) shown.summary

  number_is : number ≡ M.installs + 1
  number_is = next_number M shown.well_formed number (next ∙ ap (λ (n : ℕ). min (n + 1) (2 ^ 64 - 1)) installs_is)

  put_next : HasPutIfSome (M.installs + 1) (index_coming typed) indexes mid
  put_next = subst (λ (n : ℕ). HasPutIfSome n (index_coming typed) indexes mid) number_is put

  made_next : AreOfInstalls M.installs kept
  made_next = subst (λ (n : ℕ). AreOfInstalls n kept) installs_is made

  abbrev then_by : Holdings (List ℕ) → LastCall → DeskState S
  then_by after last = record { conn = new; summary = after; last = last; indexes = settled; texts = texts; counts = later }

  -- it failed, or was refused
  failed_served : (fault : Fault) → (IsTrue (state g new).is_open → IsTrue (state g old).is_open) → (IsTrue (state g new).is_open → (state g new).committed ≡ (state g old).committed)
      → HasSettled number (Err fault) mid settled → texts ≡ texts_after (last_by {T = Applied} (Err fault)) kept
      → ServesEditions g (then_by summary (last_by {T = Applied} (Err fault))) M
  failed_served fault lives stays goes is =
      all_stay g was new typed mid settled M shown.well_formed put_next (then_by summary (last_by {T = Applied} (Err fault))) (λ _. open_before) lives stays (λ q apart. goes q (λ e. apart (e ∙ number_is)))
      (λ stored one. subst (ArePartsOf stored.number one.text) (sym is) (parts_after (last_by {T = Applied} (Err fault)) stored.number one.text kept one.kept)) (shown.served first)

  module _ (over_lives : IsTrue (state g new).is_open → IsTrue (state g old).is_open) where
    -- its reply was kept
    repeated_served : Holds known (state g new).committed M → KeepsTextRows summary.installs (edition_numbers summary.items) (state g old).committed (state g new).committed
        → ((q : ℕ) → q ≢ number → entries_under q settled ≡ entries_under q mid) → texts ≡ kept
        → ServesEditions g (then_by summary Fine) M
    repeated_served holds stay goes is =
        subst (λ (t : List (PartNumbers × List ℕ)). ServesEditions g (record { conn = new; summary = summary; last = Fine; indexes = settled; texts = t; counts = later }) M) (sym is)
        (all_then g was new typed mid settled M shown.well_formed put_next made_next summary later open_before over_lives M holds
        (each_both (ServesEdition g was) (λ (stored : Stored Edition). stored.number ≤ M.installs) (Is g was new typed mid settled M shown.well_formed put_next)
        (λ stored a b. stays_is g was new typed mid settled M shown.well_formed put_next stored a b) M.items (shown.served first) (each_low M shown.well_formed))
        (texts_stay M summary (sym shown.summary) M.installs (state g old).committed (state g new).committed
        (subst (λ (n : ℕ). KeepsTextRows n (edition_numbers summary.items) (state g old).committed (state g new).committed) installs_is stay))
        (each_both (λ (stored : Stored Edition). stored.number ≤ M.installs) (λ (stored : Stored Edition). stored.number ≤ M.installs) (λ (stored : Stored Edition). entries_under stored.number settled ≡ entries_under stored.number mid)
        (λ stored low _. goes stored.number (λ e. let no : ⊥ = omega (arith, low, e, number_is) in no)) M.items (each_low M shown.well_formed) (each_low M shown.well_formed)))

    abbrev outcome : Outcome
    outcome = step M id (command_meant typed)

    -- it acted
    done_served : (after : Summary) (reply : Kept) → kept_under M.kept id ≡ None → outcome.reply ≡ accepted (kept_shown reply) → summary_of outcome.catalogue ≡ summary_shown after
        → Holds known (state g new).committed outcome.catalogue → HasTextOf typed after.installs (state g new).committed
        → KeepsTextRows summary.installs (edition_numbers (summary_shown after).items) (state g old).committed (state g new).committed → HasSettled number (Ok (Done reply after)) mid settled
        → texts ≡ kept → ServesEditions g (then_by (summary_shown after) Fine) outcome.catalogue
    done_served after reply free told sums holds there stay goes is =
        let did : outcome.catalogue ≡ with_effect M id (command_meant typed) = acted M id (command_meant typed) (kept_shown reply) free told in
        let installs : after.installs ≡ installs_after (command_meant typed) M.installs = ap (λ (h : Holdings (List ℕ)). h.installs) (sym sums) ∙ ap (λ (c : Catalogue). c.installs) did in
        subst (λ (t : List (PartNumbers × List ℕ)). ServesEditions g (record { conn = new; summary = summary_shown after; last = Fine; indexes = settled; texts = t; counts = later }) outcome.catalogue) (sym is)
        (all_then g was new typed mid settled M shown.well_formed put_next made_next (summary_shown after) later open_before over_lives outcome.catalogue holds
        (subst (λ (c : Catalogue). AllByRecursion (λ item. AllByRecursion (Is g was new typed mid settled M shown.well_formed put_next) (editions_of item)) c.items) (sym did)
        (all_is g was new typed mid settled M shown.well_formed put_next id (record_at typed M.installs after.installs (state g new).committed installs there) (shown.served first)))
        (texts_stay outcome.catalogue (summary_shown after) sums M.installs (state g old).committed (state g new).committed
        (subst (λ (n : ℕ). KeepsTextRows n (edition_numbers (summary_shown after).items) (state g old).committed (state g new).committed) installs_is stay))
        (each_numbered (λ n. entries_under n settled ≡ entries_under n mid) outcome.catalogue after sums goes))

  live_before : {A : Type 0} (b : Bool) → (state g old).is_open ≡ b → (IsTrue (state g old).is_open → A) → ((state g old).is_open ≡ false → ⊥) → A
  live_before true e f never = f e
  live_before false e f never = absurd (never e)

  rests_before : IsTrue (state g old).is_open → Rests known (state g old) M
  rests_before live = record { is_open = live; settled = seen live; holds = shown.holds open_before first live }

  pub served_by : (result : Result Applied Fault) {filed : Bool} → AppliesOver g filed summary id (command_meant typed) old new result → HasSettled number result mid settled → texts ≡ texts_after (last_by result) kept
      → (IsTrue (state g new).is_open → HasInstalled typed result (state g new).committed)
      → (IsTrue (state g new).is_open → OnErr result ((state g new).committed ≡ (state g old).committed)) → ServesEditions g (then_by (summary_after summary result) (last_by result)) (catalogue_by M (step M id (command_meant typed)) result)
  served_by (Ok (Repeated reply)) over goes is installed stays =
      live_before (state g old).is_open refl
      (λ live. let rests = (over.value clean M (rests_before live) (sym shown.summary)).2 in repeated_served (over.lives clean) rests.holds (over.above clean rests.is_open) goes is) (λ dead. over.shut clean dead)
  served_by (Ok (Done reply after)) over goes is installed stays =
      live_before (state g old).is_open refl
      (λ live. let h = over.value clean M (rests_before live) (sym shown.summary) in done_served (over.lives clean) after reply h.0 h.1 h.2 h.3.holds (installed h.3.is_open) (over.above clean h.3.is_open) goes is)
      (λ dead. over.shut clean dead)
  served_by (Err fault) over goes is installed stays = failed_served fault (over.lives clean) stays goes is
