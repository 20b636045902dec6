-- What a command leaves of a desk.
use Rattle.store_search.specs.Entries.{Indexed}
use Rattle.std.proofs.Common.{◌≡◌, inl, inr, ℕ, Bool, true, false, List, [], ◌∷◌, refl, sym, ap, subst, ◌∙◌, arith, ◌≤◌}
use Rattle.std.specs.Prelude.{IsTrue, Option, Some, is_some, Contains, Result, Ok, Err, OnOk, OnErr, None, IfOk, IfErr, MatchBool}
use Rattle.std.proofs.lemmas.Bool.{false≢true}
use Rattle.sqlite.specs.Tree.{Trees}
use Rattle.sqlite.specs.State.{State, HasCleanDisk, IsUnchanged, Survives}
use Rattle.sqlite.specs.Held.{Held, state}
use Rattle.sqlite_trees.specs.declared.store.Store.{Ghosts}
use Rattle.dict_index.specs.Edition.{Edition}
use Rattle.dict_text.specs.Names.{is_request_id}
use Rattle.dict_catalogue.specs.Commands.{Command}
use Rattle.dict_catalogue.specs.Tests.{Holdings}
use Rattle.dict_catalogue.specs.Effects.{KeptReply}
use Rattle.dict_catalogue.specs.Steps.{Catalogue, Outcome, refused, summary_of, kept_under, step}
use Rattle.dict_catalogue.specs.WellFormed.{IsWellFormed}
use Rattle.dict_catalogue.specs.declared.fault.CommandRefusal.TheVariants.{BadRequestId}
use Rattle.dict_catalogue.specs.declared.reply.Kept.{Kept}
use Rattle.dict_desk.specs.Applying.{Applies, Leaves, LeavesNoMore}
use Rattle.dict_desk.specs.Faults.{is_disk, has_failed_by, has_closed_by}
use Rattle.dict_desk.specs.declared.fault.Fault.{Fault}
use Rattle.dict_desk.specs.declared.fault.Fault.TheVariants.{Refused, Memory, Disk, Closed, NotACatalogue, Damaged, NewerSchema}
use Rattle.dict_desk.proofs.LeavesLemmas.{contains_later}
use Rattle.store_holdings.specs.Holds.{Rests, IsLeftAs}
use Rattle.store_commands.specs.Answers.{Answers, has_written, summary_after, IsOfShut}
use Rattle.store_commands.specs.KeptRecords.{SparesTablesOfOthers}
use Rattle.store_commands.proofs.WriteLemmas.{others_none}
use Rattle.sqlite.specs.Effect.{Database}
use Rattle.store_commands.specs.declared.applied.Applied.{Applied}
use Rattle.store_commands.specs.declared.applied.Applied.TheVariants.{Repeated, Done}
use Rattle.store_desk.specs.Applied.{AppliesOver}
use Rattle.store_desk.specs.Desk.{DeskState, IsAtRest, Shows, ServesEditions, LeavesOneOf, StandsFor, is_closed, has_failed, last_by, reply_of}
use Rattle.store_desk.specs.KeptParts.{KeepsTexts, texts_after}
use Rattle.store_desk.proofs.TextLemmas.{more_installs}
use Rattle.store_desk.specs.declared.last.LastCall.{LastCall}
use Rattle.store_desk.specs.Left.{ComingState, Counts}
use Rattle.store_desk.proofs.DeskLemmas.{texts_keep}
use Rattle.store_rows.specs.Versions.{known}
use Rattle.store_holdings.proofs.OneLemmas.{left_known}
use Rattle.store_holdings.specs.KeptTexts.{PartNumbers}

-- ---- kept replies

-- what is told of a store that was open
pub kept_value : {T : Type 0} (P Q : T → Type 0) (result : Result T Fault) (old new : State) → ((value : T) → IsTrue old.is_open → P value → Q value) → OnOk result (IsUnchanged old new) → IfOk result P → IfOk result Q
kept_value P Q (Ok value) old new then same h = then value same.0.was_open h
kept_value P Q (Err fault) old new then same h = tt

-- what holds where it wasn't done
pub err_by : {T E P : Type 0} (told : Result T E) → ((value : T) → told ≡ Ok value → ⊥) → OnErr told P → P
err_by (Ok value) never h = absurd (never value refl)
err_by (Err fault) never h = h

-- ---- commands

-- the catalogue by which lookups are answered behind a command: the outcome's where it acted
abbrev pub catalogue_by : Catalogue → Outcome → Result Applied Fault → Catalogue
catalogue_by M outcome (Ok (Repeated kept)) = M
catalogue_by M outcome (Ok (Done kept summary)) = outcome.catalogue
catalogue_by M outcome (Err fault) = M

-- tables of others, where nothing is committed of a command that isn't answered
pub others_by : (result : Result Applied Fault) (a b : Database) → OnOk result (SparesTablesOfOthers a b) → OnErr result (b ≡ a) → SparesTablesOfOthers a b
others_by (Ok applied) a b spares same = spares
others_by (Err fault) a b spares same = subst (SparesTablesOfOthers a) (sym same) (others_none a)

-- what a command answers over a store that is open
module _ {S : Type 0} (g : Ghosts S) (new : Held S) (M : Catalogue) (id : List ℕ) (outcome : Outcome) (indexes : List (ℕ × List Indexed)) (texts : List (PartNumbers × List ℕ)) (taken : Counts) where
  abbrev desk_by : Holdings (List ℕ) → LastCall → DeskState S
  desk_by summary last = record { conn = new; summary = summary; last = last; indexes = indexes; texts = texts; counts = taken }

  shown_by : (summary : Holdings (List ℕ)) (last : LastCall) (N : Catalogue) → summary ≡ summary_of N → IsWellFormed N → (IsTrue (state g new).is_open → Rests known (state g new) N)
      → (HasCleanDisk (state g new) → ServesEditions g (desk_by summary last) N) → Shows g (desk_by summary last) N
  shown_by summary last N is well rests served = record { summary = is; well_formed = well; holds = λ fine clean live. (rests live).holds; served = served }

  pub applies_open : (summary : Holdings (List ℕ)) (result : Result Applied Fault) → summary ≡ summary_of M → IsWellFormed M → Answers (state g new) M id outcome result
      → (HasCleanDisk (state g new) → ServesEditions g (desk_by (summary_after summary result) (last_by result)) (catalogue_by M outcome result))
      → Applies (Shows g (desk_by (summary_after summary result) (last_by result))) M outcome (reply_of result)
  applies_open summary (Ok (Repeated kept)) is well h served = (
    ap (λ (o : Outcome). o.reply) h.1,
    subst (λ (o : Outcome). Shows g (desk_by summary (last_by (Ok (Repeated kept)))) o.catalogue) (sym h.1) (shown_by summary (last_by (Ok (Repeated kept))) M is well (λ live. h.2) served),
  )
  applies_open summary (Ok (Done kept after)) is well h served = (h.1, shown_by (summary_after summary (Ok (Done kept after))) (last_by (Ok (Done kept after))) outcome.catalogue (sym h.2) h.3.holds.stands.well_formed (λ live. h.3) served)
  applies_open summary (Err (Refused refusal)) is well h served = (
    ap (λ (o : Outcome). o.reply) h.0,
    subst (λ (o : Outcome). Shows g (desk_by summary (last_by {T = Applied} (Err (Refused refusal)))) o.catalogue) (sym h.0) (shown_by summary (last_by {T = Applied} (Err (Refused refusal))) M is well (λ live. h.1) served),
  )
  applies_open summary (Err Memory) is well h served = shown_by summary (last_by {T = Applied} (Err Memory)) M is well h served
  applies_open summary (Err Disk) is well h served = inl (shown_by summary (last_by {T = Applied} (Err Disk)) M is well h served)
  applies_open summary (Err Closed) is well h served = absurd h
  applies_open summary (Err NotACatalogue) is well h served = absurd h
  applies_open summary (Err Damaged) is well h served = absurd h
  applies_open summary (Err NewerSchema) is well h served = absurd h

unlawful_step : (M : Catalogue) (id : List ℕ) (command : Command Edition) → is_request_id id ≡ false → step M id command ≡ record { reply = refused BadRequestId; catalogue = M }
unlawful_step M id command unlawful = rw unlawful refl

-- and over one that is shut
pub applies_shut : {S : Type 0} (g : Ghosts S) (new : Held S) (M : Catalogue) (id : List ℕ) (command : Command Edition) (indexes : List (ℕ × List Indexed)) (texts : List (PartNumbers × List ℕ)) (taken : Counts) (summary : Holdings (List ℕ))
    (result : Result Applied Fault) → IsOfShut id result
    → (HasCleanDisk (state g new) → ServesEditions g (desk_by g new M id (step M id command) indexes texts taken (summary_after summary result) (last_by result)) (catalogue_by M (step M id command) result))
    → ((last : LastCall) → (HasCleanDisk (state g new) → ServesEditions g (desk_by g new M id (step M id command) indexes texts taken summary last) M) → Shows g (desk_by g new M id (step M id command) indexes texts taken summary last) M)
    → Applies (Shows g (desk_by g new M id (step M id command) indexes texts taken (summary_after summary result) (last_by result))) M (step M id command) (reply_of result)
applies_shut g new M id command indexes texts taken summary (Ok applied) h served shown = absurd h
applies_shut g new M id command indexes texts taken summary (Err (Refused refusal)) h served shown =
    let is = unlawful_step M id command h.0 in (
      ap (λ (o : Outcome). o.reply) is ∙ ap refused (sym h.1),
      subst (λ (o : Outcome). Shows g (desk_by g new M id (step M id command) indexes texts taken summary (last_by {T = Applied} (Err (Refused refusal)))) o.catalogue)
          (sym is) (shown (last_by {T = Applied} (Err (Refused refusal))) served),
    )
applies_shut g new M id command indexes texts taken summary (Err Memory) h served shown = shown (last_by {T = Applied} (Err Memory)) served
applies_shut g new M id command indexes texts taken summary (Err Disk) h served shown = inl (shown (last_by {T = Applied} (Err Disk)) served)
applies_shut g new M id command indexes texts taken summary (Err Closed) h served shown = absurd h
applies_shut g new M id command indexes texts taken summary (Err NotACatalogue) h served shown = absurd h
applies_shut g new M id command indexes texts taken summary (Err Damaged) h served shown = absurd h
applies_shut g new M id command indexes texts taken summary (Err NewerSchema) h served shown = absurd h

-- ---- what a stop may leave

abbrev Left : Type 1
Left = List (Option Catalogue) → Type 0

pub leaves_open : (Old New : Left) (M : Catalogue) (id : List ℕ) (s : State) (outcome : Outcome) (result : Result Applied Fault) → Answers s M id outcome result → (has_written result ≡ false → LeavesNoMore Old New)
    → (((trees : Trees) → s.may_leave trees → IsLeftAs known outcome.catalogue trees) → New (Some outcome.catalogue ∷ [])) → ((ms : List (Option Catalogue)) → Old ms → New (Some outcome.catalogue ∷ ms))
    → Leaves Old New (is_some (kept_under M.kept id)) outcome.catalogue (reply_of result)
leaves_open Old New M id s outcome (Ok (Repeated kept)) h none alone more = subst (λ (k : Option KeptReply). MatchBool (is_some k) (LeavesNoMore Old New) (New (Some outcome.catalogue ∷ []))) (sym h.0) (none refl)
leaves_open Old New M id s outcome (Ok (Done kept summary)) h none alone more = subst (λ (k : Option KeptReply). MatchBool (is_some k) (LeavesNoMore Old New) (New (Some outcome.catalogue ∷ []))) (sym h.0) (alone h.4)
leaves_open Old New M id s outcome (Err (Refused refusal)) h none alone more = none refl
leaves_open Old New M id s outcome (Err Memory) h none alone more = none refl
leaves_open Old New M id s outcome (Err Disk) h none alone more = more
leaves_open Old New M id s outcome (Err Closed) h none alone more = absurd h
leaves_open Old New M id s outcome (Err NotACatalogue) h none alone more = absurd h
leaves_open Old New M id s outcome (Err Damaged) h none alone more = absurd h
leaves_open Old New M id s outcome (Err NewerSchema) h none alone more = absurd h

pub leaves_shut : (Old New : Left) (is_kept : Bool) (after : Catalogue) (id : List ℕ) (result : Result Applied Fault) → IsOfShut id result → (has_written result ≡ false → LeavesNoMore Old New)
    → ((ms : List (Option Catalogue)) → Old ms → New (Some after ∷ ms)) → Leaves Old New is_kept after (reply_of result)
leaves_shut Old New is_kept after id (Ok applied) h none more = absurd h
leaves_shut Old New is_kept after id (Err (Refused refusal)) h none more = none refl
leaves_shut Old New is_kept after id (Err Memory) h none more = none refl
leaves_shut Old New is_kept after id (Err Disk) h none more = more
leaves_shut Old New is_kept after id (Err Closed) h none more = absurd h
leaves_shut Old New is_kept after id (Err NotACatalogue) h none more = absurd h
leaves_shut Old New is_kept after id (Err Damaged) h none more = absurd h
leaves_shut Old New is_kept after id (Err NewerSchema) h none more = absurd h

pub spares_by : (Old New : Left) (result : Result Applied Fault) → (has_written result ≡ false → LeavesNoMore Old New) → (ms : List (Option Catalogue)) → Old ms → IfErr (reply_of result) (λ fault. is_disk fault ≡ false → New ms)
spares_by Old New (Ok (Repeated kept)) none ms left = tt
spares_by Old New (Ok (Done kept summary)) none ms left = tt
spares_by Old New (Err fault) none ms left = λ other. none other ms left

-- ---- how the call ended

pub failed_by : (result : Result Applied Fault) → has_failed (last_by result) ≡ has_failed_by (reply_of result)
failed_by (Ok (Repeated kept)) = refl
failed_by (Ok (Done kept summary)) = refl
failed_by (Err (Refused refusal)) = refl
failed_by (Err Memory) = refl
failed_by (Err Disk) = refl
failed_by (Err Closed) = refl
failed_by (Err NotACatalogue) = refl
failed_by (Err Damaged) = refl
failed_by (Err NewerSchema) = refl

pub closed_by : (result : Result Applied Fault) → is_closed (last_by result) ≡ has_closed_by (reply_of result)
closed_by (Ok (Repeated kept)) = refl
closed_by (Ok (Done kept summary)) = refl
closed_by (Err (Refused refusal)) = refl
closed_by (Err Memory) = refl
closed_by (Err Disk) = refl
closed_by (Err Closed) = refl
closed_by (Err NotACatalogue) = refl
closed_by (Err Damaged) = refl
closed_by (Err NewerSchema) = refl

-- ---- a desk

module _ {S : Type 0} (g : Ghosts S) (old new : Held S) (summary : Holdings (List ℕ)) (filing : Option ComingState) (before : LastCall) (id : List ℕ) (command : Command Edition) (result : Result Applied Fault)
    (open_before : is_closed before ≡ false) (rest : IsAtRest g before summary filing old) {filed : Bool} (over : AppliesOver g filed summary id command old new result) (indexes mid settled : List (ℕ × List Indexed))
    (kept texts : List (PartNumbers × List ℕ)) (taken later : Counts) where
  clean_first : HasCleanDisk (state g new) → HasCleanDisk (state g old)
  clean_first clean = omega (arith, over.crash.clean)

  abbrev desk_before : DeskState S
  desk_before = record { conn = old; summary = summary; last = before; indexes = indexes; texts = kept; counts = taken }

  abbrev desk_after : DeskState S
  desk_after = record { conn = new; summary = summary_after summary result; last = last_by result; indexes = settled; texts = texts; counts = later }

  no_more : Survives (state g old) (state g new) (λ _. ⊥) → (ms : List (Option Catalogue)) → LeavesOneOf g desk_before ms → LeavesOneOf g desk_after ms
  no_more survives ms left clean trees may = left (clean_first clean) trees (elim (survives.crash clean trees may) as (λ _. (state g old).may_leave trees) [ inl h ↦ h | inr h ↦ absurd h ])

  one_more : (M : Catalogue) → (IsTrue (state g old).is_open → Rests known (state g old) M) → summary_of M ≡ summary → (ms : List (Option Catalogue)) → LeavesOneOf g desk_before ms
      → LeavesOneOf g desk_after (Some (step M id command).catalogue ∷ ms)
  one_more M rests is ms left clean trees may =
      elim (over.crash.crash clean trees may) as (λ _. (m : Option Catalogue) × Contains (Some (step M id command).catalogue ∷ ms) m × StandsFor m trees) [
        | inl h ↦ let it = left (clean_first clean) trees h in (it.0, contains_later (Some (step M id command).catalogue) it.0 ms it.1, it.2)
        | inr h ↦ (Some (step M id command).catalogue, (0, omega arith, refl), left_known (step M id command).catalogue trees (h.1 M (rests h.0) is))
      ]

  rests_before : (M : Catalogue) → Shows g desk_before M → HasCleanDisk (state g new) → IsTrue (state g old).is_open → Rests known (state g old) M
  rests_before M shown clean live = record { is_open = live; settled = (rest.holds open_before (clean_first clean) live).1.settled; holds = shown.holds open_before (clean_first clean) live }

  -- shut before: it is so after
  shut_after : HasCleanDisk (state g new) → (state g old).is_open ≡ false → (M : Catalogue) → IsTrue (state g new).is_open → Rests known (state g new) M
  shut_after clean closed M live = absurd (false≢true (sym closed ∙ over.lives clean live))

  by_open : (A : Type 0) (b : Bool) → (b ≡ true → A) → (b ≡ false → A) → A
  by_open A true if_open if_shut = if_open refl
  by_open A false if_open if_shut = if_shut refl

  pub applies : HasCleanDisk (state g new) → (M : Catalogue) → Shows g desk_before M → (HasCleanDisk (state g new) → ServesEditions g desk_after (catalogue_by M (step M id command) result))
      → Applies (Shows g desk_after) M (step M id command) (reply_of result)
  applies clean M shown served = by_open (Applies (Shows g desk_after) M (step M id command) (reply_of result)) (state g old).is_open
      (λ live. applies_open g new M id (step M id command) settled texts later summary result shown.summary shown.well_formed (over.value clean M (rests_before M shown clean live) (sym shown.summary)) served)
      (λ closed. applies_shut g new M id command settled texts later summary result (over.shut clean closed) served
      (λ last served. record { summary = shown.summary; well_formed = shown.well_formed; holds = λ fine clean live. (shut_after clean closed M live).holds; served = served }))

  pub spared : has_written result ≡ false → LeavesNoMore (LeavesOneOf g desk_before) (LeavesOneOf g desk_after)
  spared none = no_more (over.spares none)

  pub leaves : HasCleanDisk (state g new) → (M : Catalogue) → Shows g desk_before M → Leaves (LeavesOneOf g desk_before) (LeavesOneOf g desk_after) (is_some (kept_under M.kept id)) (step M id command).catalogue (reply_of result)
  leaves clean M shown = by_open (Leaves (LeavesOneOf g desk_before) (LeavesOneOf g desk_after) (is_some (kept_under M.kept id)) (step M id command).catalogue (reply_of result)) (state g old).is_open
      (λ live. leaves_open (LeavesOneOf g desk_before) (LeavesOneOf g desk_after) M id (state g new) (step M id command) result (over.value clean M (rests_before M shown clean live) (sym shown.summary)) spared
      (λ all clean_now trees may. (Some (step M id command).catalogue, (0, omega arith, refl), left_known (step M id command).catalogue trees (all trees may))) (one_more M (rests_before M shown clean) (sym shown.summary)))
      (λ closed. leaves_shut (LeavesOneOf g desk_before) (LeavesOneOf g desk_after) (is_some (kept_under M.kept id)) (step M id command).catalogue id result (over.shut clean closed) spared
      (one_more M (rests_before M shown clean) (sym shown.summary)))

  pub spares_all : (ms : List (Option Catalogue)) → LeavesOneOf g desk_before ms → IfErr (reply_of result) (λ fault. is_disk fault ≡ false → LeavesOneOf g desk_after ms)
  spares_all = spares_by (LeavesOneOf g desk_before) (LeavesOneOf g desk_after) result spared

  -- what was prepared is let go of
  rests_after : IsAtRest g (last_by result) (summary_after summary result) None new
  rests_after = record { limit = over.crash.limit ∙ rest.limit; ended = over.ended; range = over.range; holds = λ _. over.holds; filed = λ _. tt }

  -- the desk after the call, by what its fields became
  module _ (after : Holdings (List ℕ)) (last : LastCall) (told : Result Kept Fault) (after_is : after ≡ summary_after summary result) (last_is : last ≡ last_by result) (told_is : told ≡ reply_of result) where
    desk_is : desk_after ≡ record { conn = new; summary = after; last = last; indexes = settled; texts = texts; counts = later }
    desk_is = ap {B = DeskState S} (λ (s : Holdings (List ℕ)). record { conn = new; summary = s; last = last_by result; indexes = settled; texts = texts; counts = later }) (sym after_is) ∙ ap {B = DeskState S}
        (λ (l : LastCall). record { conn = new; summary = after; last = l; indexes = settled; texts = texts; counts = later }) (sym last_is)

    abbrev desk_told : DeskState S
    desk_told = record { conn = new; summary = after; last = last; indexes = settled; texts = texts; counts = later }

    -- what is true of it
    pub told_rests : texts ≡ texts_after last kept → KeepsTexts before summary kept → (left : Option ComingState) → left ≡ None → IsAtRest g last after left new × KeepsTexts last after texts
    told_rests is keeps left none =
        let rests : IsAtRest g (last_by result) (summary_after summary result) left new = subst (λ (f : Option ComingState). IsAtRest g (last_by result) (summary_after summary result) f new) (sym none) rests_after in
        let more : summary.installs ≤ after.installs = subst (λ (s : Holdings (List ℕ)). summary.installs ≤ s.installs) (sym after_is) over.grows in (
          subst (λ (s : Holdings (List ℕ)). IsAtRest g last s left new) (sym after_is) (subst (λ (l : LastCall). IsAtRest g l (summary_after summary result) left new) (sym last_is) rests),
          subst (KeepsTexts last after) (sym is) (texts_keep last after kept (more_installs summary.installs after.installs more kept keeps.made)),
        )

    pub told_applies : HasCleanDisk (state g new) → (M : Catalogue) → Shows g desk_before M → (HasCleanDisk (state g new) → ServesEditions g desk_after (catalogue_by M (step M id command) result))
        → Applies (Shows g desk_told) M (step M id command) told
    told_applies clean M shown served = subst (λ (r : Result Kept Fault). Applies (Shows g desk_told) M (step M id command) r) (sym told_is)
        (subst (λ (d : DeskState S). Applies (Shows g d) M (step M id command) (reply_of result)) desk_is (applies clean M shown served))

    pub told_leaves : HasCleanDisk (state g new) → (M : Catalogue) → Shows g desk_before M → Leaves (LeavesOneOf g desk_before) (LeavesOneOf g desk_told) (is_some (kept_under M.kept id)) (step M id command).catalogue told
    told_leaves clean M shown = subst (λ (r : Result Kept Fault). Leaves (LeavesOneOf g desk_before) (LeavesOneOf g desk_told) (is_some (kept_under M.kept id)) (step M id command).catalogue r) (sym told_is)
        (subst (λ (d : DeskState S). Leaves (LeavesOneOf g desk_before) (LeavesOneOf g d) (is_some (kept_under M.kept id)) (step M id command).catalogue (reply_of result)) desk_is (leaves clean M shown))

    pub told_spares : (ms : List (Option Catalogue)) → LeavesOneOf g desk_before ms → IfErr told (λ fault. is_disk fault ≡ false → LeavesOneOf g desk_told ms)
    told_spares ms left = subst (λ (r : Result Kept Fault). IfErr r (λ fault. is_disk fault ≡ false → LeavesOneOf g desk_told ms)) (sym told_is)
        (subst (λ (d : DeskState S). IfErr (reply_of result) (λ fault. is_disk fault ≡ false → LeavesOneOf g d ms)) desk_is (spares_all ms left))
