-- Commands one after another: what one more of them makes of the answers, of the catalogue and of what a stop may leave.
use Rattle.std.proofs.Common.{◌≡◌, ◌⊎◌, inl, inr, ℕ, suc, ◌+◌, ◌<◌, Bool, true, false, List, [], ◌∷◌, ◌++◌, length, take, get_or, refl, sym, ap, ◌∙◌, subst, arith}
use Rattle.std.specs.Prelude.{◌||◌, cond, Option, Some, None, is_some, is_ok, MatchBool, Result, Ok, Err}
use Rattle.std.specs.Borrow.{Bor}
use Rattle.std.proofs.lemmas.Bool.{true≢false, false≢true}
use Rattle.std.proofs.lemmas.List.{map-append, length-map}
use Rattle.std.proofs.Math.ListN.{get_or-map}
use Rattle.std.proofs.Math.Seq.{take-suc}
use Rattle.dict_index.specs.Edition.{Edition}
use Rattle.dict_text.specs.Names.{is_request_id}
use Rattle.dict_catalogue.specs.Commands.{Command}
use Rattle.dict_catalogue.specs.Tests.{tests_of}
use Rattle.dict_catalogue.specs.Effects.{KeptReply}
use Rattle.dict_catalogue.specs.Steps.{Catalogue, holdings, CommandReply, accepted, refused, Outcome, CommandRequest, step, after, acts, acts_unless_kept, kept_under, IsStep, id_unlawful, id_kept, test_failed, none_failed}
use Rattle.dict_catalogue.specs.declared.commands.Command as written
use Rattle.dict_catalogue.specs.declared.fault.CommandRefusal.{CommandRefusal}
use Rattle.dict_catalogue.specs.declared.reply.Kept.{Kept}
use Rattle.dict_catalogue.proofs.StepLemmas.{failing_first, none_failing, step_is, idle_leaves}
use Rattle.dict_desk.specs.Faults.{has_failed_by, has_closed_by}
use Rattle.dict_desk.specs.Applying.{Applies, Leaves, LeavesNoMore}
use Rattle.dict_desk.specs.Requests.{request_meant, requests_meant}
use Rattle.dict_desk.specs.AllApplied.{settled_answer, standing_answer, reply_shown, replies, has_acted, AllAnswered, HaltsAt, AreApplied}
use Rattle.dict_desk.specs.declared.fault.Fault.{Fault}
use Rattle.dict_desk.specs.declared.fault.Fault.TheVariants.{Refused, Memory, Disk, Closed, NotACatalogue, Damaged, NewerSchema}

-- which commands act

abbrev told_ok : CommandReply → Bool
told_ok (accepted reply) = true
told_ok (refused refusal) = false

pub acts_new : (M : Catalogue) (id : List ℕ) (command : Command Edition) (outcome : Outcome) → IsStep M id command outcome → kept_under M.kept id ≡ None → told_ok outcome.reply ≡ true → acts M id command ≡ true
acts_new M id command outcome (id_unlawful e o) none told = absurd (false≢true (ap (λ (x : Outcome). told_ok x.reply) (sym o) ∙ told))
acts_new M id command outcome (id_kept reply e k o) none told = absurd (false≢true (ap is_some (sym none ∙ k)))
acts_new M id command outcome (test_failed refusal e k f o) none told = absurd (false≢true (ap (λ (x : Outcome). told_ok x.reply) (sym o) ∙ told))
acts_new M id command outcome (none_failed e k h o) none told = rw (e, k, none_failing (tests_of (holdings M) command) h) refl

pub idle_refused : (M : Catalogue) (id : List ℕ) (command : Command Edition) (outcome : Outcome) → IsStep M id command outcome → told_ok outcome.reply ≡ false → acts M id command ≡ false
idle_refused M id command outcome (id_unlawful e o) told = rw e refl
idle_refused M id command outcome (id_kept reply e k o) told = rw (e, k) refl
idle_refused M id command outcome (test_failed refusal e k f o) told = rw (e, k, failing_first (tests_of (holdings M) command) refusal f) refl
idle_refused M id command outcome (none_failed e k h o) told = absurd (true≢false (ap (λ (x : Outcome). told_ok x.reply) (sym o) ∙ told))

idle_by : (M : Catalogue) (command : Command Edition) (lawful : Bool) (kept : Option KeptReply) → is_some kept ≡ true → cond lawful (acts_unless_kept M command kept) false ≡ false
idle_by M command true (Some reply) e = refl
idle_by M command false (Some reply) e = refl
idle_by M command lawful None e = absurd (false≢true e)

idle_kept : (M : Catalogue) (id : List ℕ) (command : Command Edition) → is_some (kept_under M.kept id) ≡ true → acts M id command ≡ false
idle_kept M id command e = idle_by M command (is_request_id id) (kept_under M.kept id) e

none_kept : (kept : Option KeptReply) → is_some kept ≡ false → kept ≡ None
none_kept None e = refl
none_kept (Some reply) e = absurd (true≢false e)

-- one more command, at the end of the list

pub after_one_more : (M : Catalogue) (requests : List CommandRequest) (one : CommandRequest) → after M (requests ++ one ∷ []) ≡ (step (after M requests) one.id one.command).catalogue
after_one_more M [] one = refl
after_one_more M (request ∷ requests) one = after_one_more (step M request.id request.command).catalogue requests one

replies_one_more : (M : Catalogue) (requests : List CommandRequest) (one : CommandRequest) → replies M (requests ++ one ∷ []) ≡ replies M requests ++ (step (after M requests) one.id one.command).reply ∷ []
replies_one_more M [] one = refl
replies_one_more M (request ∷ requests) one = ap (λ more. (step M request.id request.command).reply ∷ more) (replies_one_more (step M request.id request.command).catalogue requests one)

or_none : (b : Bool) → (b || false) ≡ b
or_none true = refl
or_none false = refl

or_later : (a b c : Bool) → (a || (b || c)) ≡ ((a || b) || c)
or_later true b c = refl
or_later false b c = refl

acted_one_more : (M : Catalogue) (requests : List CommandRequest) (one : CommandRequest) → has_acted M (requests ++ one ∷ []) ≡ (has_acted M requests || acts (after M requests) one.id one.command)
acted_one_more M [] one = or_none (acts M one.id one.command)
acted_one_more M (request ∷ requests) one =
    ap (λ b. acts M request.id request.command || b) (acted_one_more (step M request.id request.command).catalogue requests one)
    ∙ or_later (acts M request.id request.command) (has_acted (step M request.id request.command).catalogue requests) (acts (after (step M request.id request.command).catalogue requests) one.id one.command)

-- what a stop may leave

abbrev Left : Type 1
Left = List (Option Catalogue) → Type 0

abbrev LeftBy : Left → Bool → Catalogue → List (Option Catalogue) → Type 0
LeftBy Before acted at ms = MatchBool acted (ms ≡ Some at ∷ []) (Before ms)

idle_left : (Before : Left) (acted a : Bool) (at to : Catalogue) (ms : List (Option Catalogue)) → a ≡ false → to ≡ at → LeftBy Before (acted || a) to ms → LeftBy Before acted at ms
idle_left Before true false at to ms none same h = h ∙ ap (λ m. Some m ∷ []) same
idle_left Before false false at to ms none same h = h
idle_left Before acted true at to ms none same h = absurd (true≢false none)

acting_left : (Before After : Left) (acted a : Bool) (to : Catalogue) (ms : List (Option Catalogue)) → a ≡ true → After (Some to ∷ []) → LeftBy Before (acted || a) to ms → After ms
acting_left Before After true true to ms one alone h = subst After (sym h) alone
acting_left Before After false true to ms one alone h = subst After (sym h) alone
acting_left Before After acted false to ms one alone h = absurd (false≢true one)

ok_left : (Before Mid After : Left) (acted : Bool) (at : Catalogue) (id : List ℕ) (command : Command Edition) (is_kept : Bool) → is_some (kept_under at.kept id) ≡ is_kept
    → told_ok (step at id command).reply ≡ true → MatchBool is_kept (LeavesNoMore Mid After) (After (Some (step at id command).catalogue ∷ []))
    → ((ms : List (Option Catalogue)) → LeftBy Before acted at ms → Mid ms)
    → (ms : List (Option Catalogue)) → LeftBy Before (acted || acts at id command) (step at id command).catalogue ms → After ms
ok_left Before Mid After acted at id command true is told leaves first ms h =
    let idle : acts at id command ≡ false = idle_kept at id command is in
    leaves ms (first ms (idle_left Before acted (acts at id command) at (step at id command).catalogue ms idle (idle_leaves at id command idle) h))
ok_left Before Mid After acted at id command false is told leaves first ms h =
    acting_left Before After acted (acts at id command) (step at id command).catalogue ms
    (acts_new at id command (step at id command) (step_is at id command (step at id command) refl) (none_kept (kept_under at.kept id) is) told) leaves h

refused_left : (Before Mid After : Left) (acted : Bool) (at : Catalogue) (id : List ℕ) (command : Command Edition) → told_ok (step at id command).reply ≡ false → LeavesNoMore Mid After
    → ((ms : List (Option Catalogue)) → LeftBy Before acted at ms → Mid ms)
    → (ms : List (Option Catalogue)) → LeftBy Before (acted || acts at id command) (step at id command).catalogue ms → After ms
refused_left Before Mid After acted at id command told leaves first ms h =
    let idle : acts at id command ≡ false = idle_refused at id command (step at id command) (step_is at id command (step at id command) refl) told in
    leaves ms (first ms (idle_left Before acted (acts at id command) at (step at id command).catalogue ms idle (idle_leaves at id command idle) h))

-- a command was answered

abbrev Answered : (Catalogue → Type 0) → Left → Left → Left → Catalogue → Bool → List ℕ → Command Edition → Result Kept CommandRefusal → Type 0
Answered Shows Before Mid After at acted id command outcome =
    ((step at id command).reply ≡ reply_shown outcome) × Shows (step at id command).catalogue
    × (((ms : List (Option Catalogue)) → LeftBy Before acted at ms → Mid ms)
    → (ms : List (Option Catalogue)) → LeftBy Before (acted || acts at id command) (step at id command).catalogue ms → After ms)

abbrev outcome_or : Result Kept CommandRefusal → Result (Result Kept CommandRefusal) Fault → Result Kept CommandRefusal
outcome_or other (Ok outcome) = outcome
outcome_or other (Err fault) = other

answered_by : (Shows : Catalogue → Type 0) (Before Mid After : Left) (at : Catalogue) (acted : Bool) (id : List ℕ) (command : Command Edition) (answer : Result Kept Fault) (outcome : Result Kept CommandRefusal)
    → settled_answer answer ≡ Ok outcome → Applies Shows at (step at id command) answer → Leaves Mid After (is_some (kept_under at.kept id)) (step at id command).catalogue answer
    → Answered Shows Before Mid After at acted id command outcome
answered_by Shows Before Mid After at acted id command (Ok kept) outcome is applies leaves =
    (applies.0 ∙ ap (λ r. reply_shown (outcome_or outcome r)) is, applies.1, ok_left Before Mid After acted at id command (is_some (kept_under at.kept id)) refl (ap told_ok applies.0) leaves)
answered_by Shows Before Mid After at acted id command (Err (Refused refusal)) outcome is applies leaves =
    (applies.0 ∙ ap (λ r. reply_shown (outcome_or outcome r)) is, applies.1, refused_left Before Mid After acted at id command (ap told_ok applies.0) leaves)
answered_by Shows Before Mid After at acted id command (Err Memory) outcome is applies leaves = absurd (false≢true (ap is_ok is))
answered_by Shows Before Mid After at acted id command (Err Disk) outcome is applies leaves = absurd (false≢true (ap is_ok is))
answered_by Shows Before Mid After at acted id command (Err Closed) outcome is applies leaves = absurd (false≢true (ap is_ok is))
answered_by Shows Before Mid After at acted id command (Err NotACatalogue) outcome is applies leaves = absurd applies
answered_by Shows Before Mid After at acted id command (Err Damaged) outcome is applies leaves = absurd applies
answered_by Shows Before Mid After at acted id command (Err NewerSchema) outcome is applies leaves = absurd applies

-- so all of one more are answered
pub all_one_more : (First Shows : Catalogue → Type 0) (Before Mid After : Left) (M : Catalogue) (requests more : List CommandRequest) (one : CommandRequest) (outcomes : List (Result Kept CommandRefusal))
    (answer : Result Kept Fault) (outcome : Result Kept CommandRefusal)
    → more ≡ requests ++ one ∷ [] → settled_answer answer ≡ Ok outcome
    → Applies Shows (after M requests) (step (after M requests) one.id one.command) answer
    → Leaves Mid After (is_some (kept_under (after M requests).kept one.id)) (step (after M requests) one.id one.command).catalogue answer
    → AllAnswered First Before Mid M requests outcomes → AllAnswered Shows Before After M more (outcomes ++ outcome ∷ [])
all_one_more First Shows Before Mid After M requests more one outcomes answer outcome is so applies leaves all =
    let at : Catalogue = after M requests in
    let one_more : Answered Shows Before Mid After (after M requests) (has_acted M requests) one.id one.command outcome
    = answered_by Shows Before Mid After (after M requests) (has_acted M requests) one.id one.command answer outcome so applies leaves in
    subst (λ rs. AllAnswered Shows Before After M rs (outcomes ++ outcome ∷ [])) (sym is) (record {
      told = map-append reply_shown outcomes (outcome ∷ []) ∙ ap (λ xs. xs ++ reply_shown outcome ∷ []) all.told
          ∙ ap (λ r. replies M requests ++ r ∷ []) (sym one_more.0) ∙ sym (replies_one_more M requests one);
      shown = subst Shows (sym (after_one_more M requests one)) one_more.1;
      left = λ ms h. one_more.2 all.left ms (subst (λ b. LeftBy Before b (step (after M requests) one.id one.command).catalogue ms) (acted_one_more M requests one)
          (subst (λ m. LeftBy Before (has_acted M (requests ++ one ∷ [])) m ms) (after_one_more M requests one) h));
    })

-- a command failed, and so many stand
pub halts : (First Shows : Catalogue → Type 0) (Before Mid After : Left) (M : Catalogue) (all : List CommandRequest) (stand : ℕ) (one : CommandRequest) (outcomes : List (Result Kept CommandRefusal)) (answer : Result Kept Fault)
    (fault : Fault)
    → take (stand + 1) all ≡ take stand all ++ one ∷ [] → settled_answer answer ≡ Err fault
    → Applies Shows (after M (take stand all)) (step (after M (take stand all)) one.id one.command) answer
    → Leaves Mid After (is_some (kept_under (after M (take stand all)).kept one.id)) (step (after M (take stand all)) one.id one.command).catalogue answer
    → AllAnswered First Before Mid M (take stand all) outcomes → HaltsAt Shows Before After M all stand fault
halts First Shows Before Mid After M all stand one outcomes (Ok kept) fault is so applies leaves front = absurd (true≢false (ap is_ok so))
halts First Shows Before Mid After M all stand one outcomes (Err (Refused refusal)) fault is so applies leaves front = absurd (true≢false (ap is_ok so))
halts First Shows Before Mid After M all stand one outcomes (Err Memory) fault is so applies leaves front =
    subst (λ r. HaltsBy r) so (record { shown = applies; left = λ ms h. leaves ms (front.left ms h) })
  where
    HaltsBy : Result (Result Kept CommandRefusal) Fault → Type 0
    HaltsBy (Ok outcome) = Unit {0}
    HaltsBy (Err f) = HaltsAt Shows Before After M all stand f
halts First Shows Before Mid After M all stand one outcomes (Err Disk) fault is so applies leaves front =
    subst (λ r. HaltsBy r) so (record {
      shown = elim applies as (λ _. Shows (after M (take stand all)) ⊎ Shows (after M (take (stand + 1) all))) [ inl h ↦ inl h | inr h ↦ inr (subst Shows (sym next) h) ];
      left = λ ms h. subst (λ m. After (Some m ∷ ms)) (sym next) (leaves ms (front.left ms h));
    })
  where
    HaltsBy : Result (Result Kept CommandRefusal) Fault → Type 0
    HaltsBy (Ok outcome) = Unit {0}
    HaltsBy (Err f) = HaltsAt Shows Before After M all stand f

    next : after M (take (stand + 1) all) ≡ (step (after M (take stand all)) one.id one.command).catalogue
    next = ap (after M) is ∙ after_one_more M (take stand all) one
halts First Shows Before Mid After M all stand one outcomes (Err Closed) fault is so applies leaves front =
    subst (λ r. HaltsBy r) so (record { shown = applies; left = λ ms h. leaves ms (front.left ms h) })
  where
    HaltsBy : Result (Result Kept CommandRefusal) Fault → Type 0
    HaltsBy (Ok outcome) = Unit {0}
    HaltsBy (Err f) = HaltsAt Shows Before After M all stand f
halts First Shows Before Mid After M all stand one outcomes (Err NotACatalogue) fault is so applies leaves front = absurd applies
halts First Shows Before Mid After M all stand one outcomes (Err Damaged) fault is so applies leaves front = absurd applies
halts First Shows Before Mid After M all stand one outcomes (Err NewerSchema) fault is so applies leaves front = absurd applies

-- the front of a list of commands, with the one behind it
pub front_and_next : (requests : List (Bor (List ℕ) × written.Command)) (i : ℕ) (one : Bor (List ℕ) × written.Command) → i < length requests → one ≡ get_or requests i one
    → take (i + 1) (requests_meant requests) ≡ take i (requests_meant requests) ++ request_meant one ∷ []
front_and_next requests i one below is =
    let short : i < length (requests_meant requests) = rw (length-map requests request_meant) below in
    let next : i + 1 ≡ suc i = omega arith in
    ap (λ n. take n (requests_meant requests)) next
    ∙ take-suc (requests_meant requests) i (request_meant one) short
    ∙ ap (λ r. take i (requests_meant requests) ++ r ∷ []) (get_or-map request_meant requests i one ∙ ap request_meant (sym is))

-- an answer that isn't a failure

pub none_failed_by : (answer : Result Kept Fault) (outcome : Result Kept CommandRefusal) → settled_answer answer ≡ Ok outcome → has_failed_by answer ≡ false
none_failed_by (Ok kept) outcome so = refl
none_failed_by (Err (Refused refusal)) outcome so = refl
none_failed_by (Err Memory) outcome so = absurd (false≢true (ap is_ok so))
none_failed_by (Err Disk) outcome so = absurd (false≢true (ap is_ok so))
none_failed_by (Err Closed) outcome so = absurd (false≢true (ap is_ok so))
none_failed_by (Err NotACatalogue) outcome so = absurd (false≢true (ap is_ok so))
none_failed_by (Err Damaged) outcome so = absurd (false≢true (ap is_ok so))
none_failed_by (Err NewerSchema) outcome so = absurd (false≢true (ap is_ok so))

pub none_closed_by : (answer : Result Kept Fault) (outcome : Result Kept CommandRefusal) → settled_answer answer ≡ Ok outcome → has_closed_by answer ≡ false
none_closed_by (Ok kept) outcome so = refl
none_closed_by (Err (Refused refusal)) outcome so = refl
none_closed_by (Err Memory) outcome so = absurd (false≢true (ap is_ok so))
none_closed_by (Err Disk) outcome so = absurd (false≢true (ap is_ok so))
none_closed_by (Err Closed) outcome so = absurd (false≢true (ap is_ok so))
none_closed_by (Err NotACatalogue) outcome so = absurd (false≢true (ap is_ok so))
none_closed_by (Err Damaged) outcome so = absurd (false≢true (ap is_ok so))
none_closed_by (Err NewerSchema) outcome so = absurd (false≢true (ap is_ok so))

pub still_so : (new old first by : Bool) → new ≡ (old || by) → by ≡ false → old ≡ first → new ≡ first
still_so new old first by e none same = e ∙ ap (λ b. old || b) none ∙ or_none old ∙ same

-- a closed desk answers no command
pub not_closed : (was : Bool) (answer : Result Kept Fault) (outcome : Result Kept CommandRefusal) → settled_answer answer ≡ Ok outcome → (was ≡ true → answer ≡ Err Closed) → was ≡ false
not_closed false answer outcome so closed = refl
not_closed true answer outcome so closed = absurd (false≢true (ap is_ok (sym (ap settled_answer (closed refl)) ∙ so)))

-- ---- the calls themselves

-- an answer that stands, and one that doesn't
pub stands_by : (answer : Result Kept Fault) (outcome : Result Kept CommandRefusal) → settled_answer answer ≡ Ok outcome → answer ≡ standing_answer outcome
stands_by (Ok kept) outcome so = ap (λ r. standing_answer (outcome_or outcome r)) so
stands_by (Err (Refused refusal)) outcome so = ap (λ r. standing_answer (outcome_or outcome r)) so
stands_by (Err Memory) outcome so = absurd (false≢true (ap is_ok so))
stands_by (Err Disk) outcome so = absurd (false≢true (ap is_ok so))
stands_by (Err Closed) outcome so = absurd (false≢true (ap is_ok so))
stands_by (Err NotACatalogue) outcome so = absurd (false≢true (ap is_ok so))
stands_by (Err Damaged) outcome so = absurd (false≢true (ap is_ok so))
stands_by (Err NewerSchema) outcome so = absurd (false≢true (ap is_ok so))

abbrev fault_or : Fault → Result (Result Kept CommandRefusal) Fault → Fault
fault_or other (Ok outcome) = other
fault_or other (Err fault) = fault

pub fails_by : (answer : Result Kept Fault) (fault : Fault) → settled_answer answer ≡ Err fault → answer ≡ Err fault
fails_by (Ok kept) fault so = absurd (true≢false (ap is_ok so))
fails_by (Err (Refused refusal)) fault so = absurd (true≢false (ap is_ok so))
fails_by (Err Memory) fault so = ap (λ r. Err (fault_or fault r)) so
fails_by (Err Disk) fault so = ap (λ r. Err (fault_or fault r)) so
fails_by (Err Closed) fault so = ap (λ r. Err (fault_or fault r)) so
fails_by (Err NotACatalogue) fault so = ap (λ r. Err (fault_or fault r)) so
fails_by (Err Damaged) fault so = ap (λ r. Err (fault_or fault r)) so
fails_by (Err NewerSchema) fault so = ap (λ r. Err (fault_or fault r)) so

-- one more command was applied behind the others
pub applied_one_more : {K : Type 0} (applies : K → CommandRequest → Result Kept Fault → K → Type 0) (old between new : K) (front : List CommandRequest) (outcomes : List (Result Kept CommandRefusal)) (one : CommandRequest)
    (outcome : Result Kept CommandRefusal)
    → AreApplied applies old front outcomes between → applies between one (standing_answer outcome) new → AreApplied applies old (front ++ one ∷ []) (outcomes ++ outcome ∷ []) new
applied_one_more applies old between new [] [] one outcome all last = (new, subst (λ k. applies k one (standing_answer outcome) new) all last, refl)
applied_one_more applies old between new [] (other ∷ outcomes) one outcome all last = absurd all
applied_one_more applies old between new (request ∷ front) [] one outcome all last = absurd all
applied_one_more applies old between new (request ∷ front) (other ∷ outcomes) one outcome all last = (all.0, all.1, applied_one_more applies all.0 between new front outcomes one outcome all.2 last)
