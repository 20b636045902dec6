-- One command, and lists of commands.
use Rattle.std.proofs.Common.{◌≡◌, ℕ, Bool, true, false, List, [], ◌∷◌, ◌++◌, refl, ap, sym, ◌∙◌, subst, append_assoc, append-nil}
use Rattle.std.specs.Prelude.{map, cond, Option, Some, None}
use Rattle.std.proofs.lemmas.List.{map-append}
use Rattle.dict_index.specs.Edition.{Edition}
use Rattle.dict_text.specs.Names.{is_request_id}
use Rattle.dict_catalogue.specs.Commands.{Command}
use Rattle.dict_catalogue.specs.Tests.{Test, wants, tests_of, first_failing, refusal_of}
use Rattle.dict_catalogue.specs.Effects.{KeptReply}
use Rattle.dict_catalogue.specs.Steps.{KeptFor, Catalogue, holdings, kept_under, refused, Outcome, with_effect, decided, answered, step, AllHold, FailsFirst, IsStep, id_unlawful, id_kept, test_failed, none_failed}
use Rattle.dict_catalogue.specs.Steps.{CommandRequest, after, acts, acts_unless_kept, is_none_refused, acting}
use Rattle.dict_catalogue.specs.declared.fault.CommandRefusal.{CommandRefusal}
use Rattle.dict_catalogue.specs.declared.fault.CommandRefusal.TheVariants.{BadRequestId}

-- the first test that fails

pub none_failing : (tests : List Test) → AllHold tests → first_failing tests ≡ None
none_failing [] h = refl
none_failing (test ∷ tests) h = rw h.0 (none_failing tests h.1)

failing_behind : (front : List Test) (refusal : CommandRefusal) (back : List Test) → AllHold front → first_failing (front ++ wants false refusal ∷ back) ≡ Some refusal
failing_behind [] refusal back h = refl
failing_behind (test ∷ front) refusal back h = rw h.0 (failing_behind front refusal back h.1)

pub failing_first : (tests : List Test) (refusal : CommandRefusal) → FailsFirst tests refusal → first_failing tests ≡ Some refusal
failing_first tests refusal h = ap first_failing h.split ∙ failing_behind h.front refusal h.back h.holds

-- what the first failing test says of the tests
Says : List Test → Option CommandRefusal → Type 0
Says tests None = AllHold tests
Says tests (Some refusal) = FailsFirst tests refusal

one_more : (test : Test) (tests : List Test) (found : Option CommandRefusal) → test.holds ≡ true → Says tests found → Says (test ∷ tests) found
unfolding Says
one_more test tests None e h = (e, h)
one_more test tests (Some refusal) e h = record { front = test ∷ h.front; back = h.back; split = ap (λ ts. test ∷ ts) h.split; holds = (e, h.holds) }

fails_here : (test : Test) (tests : List Test) → test.holds ≡ false → FailsFirst (test ∷ tests) test.refusal
fails_here test tests e = record { front = []; back = tests; split = λ i. record { holds = e i; refusal = test.refusal } ∷ tests; holds = tt }

says_cons : (test : Test) (tests : List Test) (b : Bool) → test.holds ≡ b → Says tests (first_failing tests) → Says (test ∷ tests) (cond b (first_failing tests) (Some test.refusal))
unfolding Says
says_cons test tests true e h = one_more test tests (first_failing tests) e h
says_cons test tests false e h = fails_here test tests e

says : (tests : List Test) → Says tests (first_failing tests)
unfolding Says
says [] = tt
says (test ∷ tests) = says_cons test tests test.holds refl (says tests)

pub all_hold : (tests : List Test) → first_failing tests ≡ None → AllHold tests
unfolding Says
all_hold tests e = subst (λ (found : Option CommandRefusal). Says tests found) e (says tests)

pub fails_first : (tests : List Test) (refusal : CommandRefusal) → first_failing tests ≡ Some refusal → FailsFirst tests refusal
unfolding Says
fails_first tests refusal e = subst (λ (found : Option CommandRefusal). Says tests found) e (says tests)

-- the four cases of a step

pub is_step_gives : (M : Catalogue) (id : List ℕ) (command : Command Edition) (outcome : Outcome) → IsStep M id command outcome → outcome ≡ step M id command
is_step_gives M id command outcome (id_unlawful e o) = rw e o
is_step_gives M id command outcome (id_kept reply e k o) = rw (e, k) o
is_step_gives M id command outcome (test_failed refusal e k f o) = rw (e, k, failing_first (tests_of (holdings M) command) refusal f) o
is_step_gives M id command outcome (none_failed e k h o) = rw (e, k, none_failing (tests_of (holdings M) command) h) o

step_decided : (M : Catalogue) (id : List ℕ) (command : Command Edition) (outcome : Outcome) (found : Option CommandRefusal) → is_request_id id ≡ true → kept_under M.kept id ≡ None →
    first_failing (tests_of (holdings M) command) ≡ found → outcome ≡ decided M id command found → IsStep M id command outcome
step_decided M id command outcome None e k f o = none_failed e k (all_hold (tests_of (holdings M) command) f) o
step_decided M id command outcome (Some refusal) e k f o = test_failed refusal e k (fails_first (tests_of (holdings M) command) refusal f) o

step_answered : (M : Catalogue) (id : List ℕ) (command : Command Edition) (outcome : Outcome) (kept : Option KeptReply) → is_request_id id ≡ true → kept_under M.kept id ≡ kept →
    outcome ≡ answered M id command kept → IsStep M id command outcome
step_answered M id command outcome None e k o = step_decided M id command outcome (refusal_of (holdings M) command) e k refl o
step_answered M id command outcome (Some reply) e k o = id_kept reply e k o

step_tested : (M : Catalogue) (id : List ℕ) (command : Command Edition) (outcome : Outcome) (lawful : Bool) → is_request_id id ≡ lawful →
    outcome ≡ cond lawful (answered M id command (kept_under M.kept id)) (record { reply = refused BadRequestId; catalogue = M }) → IsStep M id command outcome
step_tested M id command outcome true e o = step_answered M id command outcome (kept_under M.kept id) e refl o
step_tested M id command outcome false e o = id_unlawful e o

pub step_is : (M : Catalogue) (id : List ℕ) (command : Command Edition) (outcome : Outcome) → outcome ≡ step M id command → IsStep M id command outcome
step_is M id command outcome o = step_tested M id command outcome (is_request_id id) refl o

-- what a step leaves

-- a command that acts leaves its effect, and any other leaves the catalogue
Leaves : Catalogue → List ℕ → Command Edition → Bool → Catalogue → Type 0
Leaves M id command true left = left ≡ with_effect M id command
Leaves M id command false left = left ≡ M

decided_leaves : (M : Catalogue) (id : List ℕ) (command : Command Edition) (found : Option CommandRefusal) → Leaves M id command (is_none_refused found) (decided M id command found).catalogue
unfolding Leaves
decided_leaves M id command None = refl
decided_leaves M id command (Some refusal) = refl

answered_leaves : (M : Catalogue) (id : List ℕ) (command : Command Edition) (kept : Option KeptReply) → Leaves M id command (acts_unless_kept M command kept) (answered M id command kept).catalogue
unfolding Leaves
answered_leaves M id command None = decided_leaves M id command (refusal_of (holdings M) command)
answered_leaves M id command (Some reply) = refl

tested_leaves : (M : Catalogue) (id : List ℕ) (command : Command Edition) (lawful : Bool) →
    Leaves M id command (cond lawful (acts_unless_kept M command (kept_under M.kept id)) false)
    (cond lawful (answered M id command (kept_under M.kept id)) (record { reply = refused BadRequestId; catalogue = M })).catalogue
unfolding Leaves
tested_leaves M id command true = answered_leaves M id command (kept_under M.kept id)
tested_leaves M id command false = refl

leaves : (M : Catalogue) (id : List ℕ) (command : Command Edition) → Leaves M id command (acts M id command) (step M id command).catalogue
unfolding Leaves
leaves M id command = tested_leaves M id command (is_request_id id)

pub acting_leaves : (M : Catalogue) (id : List ℕ) (command : Command Edition) → acts M id command ≡ true → (step M id command).catalogue ≡ with_effect M id command
unfolding Leaves
acting_leaves M id command e = subst (λ (b : Bool). Leaves M id command b (step M id command).catalogue) e (leaves M id command)

pub idle_leaves : (M : Catalogue) (id : List ℕ) (command : Command Edition) → acts M id command ≡ false → (step M id command).catalogue ≡ M
unfolding Leaves
idle_leaves M id command e = subst (λ (b : Bool). Leaves M id command b (step M id command).catalogue) e (leaves M id command)

-- lists of commands

after_cons : (M : Catalogue) (request : CommandRequest) (requests : List CommandRequest) (b : Bool) → acts M request.id request.command ≡ b →
    after (step M request.id request.command).catalogue (acting (step M request.id request.command).catalogue requests) ≡ after (step M request.id request.command).catalogue requests →
    after M (acting M requests) ≡ after M requests →
    after M (cond b (request ∷ acting (step M request.id request.command).catalogue requests) (acting M requests)) ≡ after (step M request.id request.command).catalogue requests
after_cons M request requests true e h g = h
after_cons M request requests false e h g = g ∙ ap (λ (left : Catalogue). after left requests) (sym (idle_leaves M request.id request.command e))

pub after_acting : (M : Catalogue) (requests : List CommandRequest) → after M (acting M requests) ≡ after M requests
after_acting M [] = refl
after_acting M (request ∷ requests) =
    after_cons M request requests (acts M request.id request.command) refl
    (after_acting (step M request.id request.command).catalogue requests) (after_acting M requests)

again_cons : (M : Catalogue) (request : CommandRequest) (requests : List CommandRequest) (b : Bool) → acts M request.id request.command ≡ b →
    acting (step M request.id request.command).catalogue (acting (step M request.id request.command).catalogue requests) ≡ acting (step M request.id request.command).catalogue requests →
    acting M (acting M requests) ≡ acting M requests →
    acting M (cond b (request ∷ acting (step M request.id request.command).catalogue requests) (acting M requests)) ≡ cond b (request ∷ acting (step M request.id request.command).catalogue requests) (acting M requests)
again_cons M request requests true e h g = rw e (ap (λ (rest : List CommandRequest). request ∷ rest) h)
again_cons M request requests false e h g = g

pub acting_again : (M : Catalogue) (requests : List CommandRequest) → acting M (acting M requests) ≡ acting M requests
acting_again M [] = refl
acting_again M (request ∷ requests) =
    again_cons M request requests (acts M request.id request.command) refl
    (acting_again (step M request.id request.command).catalogue requests) (acting_again M requests)

abbrev ids_of : List KeptFor → List (List ℕ)
ids_of kept = map (λ one. one.id) kept

abbrev request_ids : List CommandRequest → List (List ℕ)
request_ids requests = map (λ request. request.id) requests

once_cons : (M : Catalogue) (request : CommandRequest) (requests : List CommandRequest) (b : Bool) → acts M request.id request.command ≡ b →
    ids_of (after (step M request.id request.command).catalogue requests).kept ≡ ids_of (step M request.id request.command).catalogue.kept ++ request_ids (acting (step M request.id request.command).catalogue requests) →
    ids_of (after M requests).kept ≡ ids_of M.kept ++ request_ids (acting M requests) →
    ids_of (after (step M request.id request.command).catalogue requests).kept ≡ ids_of M.kept ++ request_ids (cond b (request ∷ acting (step M request.id request.command).catalogue requests) (acting M requests))
once_cons M request requests true e h g =
    h
    ∙ ap (λ (left : Catalogue). ids_of left.kept ++ request_ids (acting (step M request.id request.command).catalogue requests)) (acting_leaves M request.id request.command e)
    ∙ simp (map-append, append_assoc)
once_cons M request requests false e h g = ap (λ (left : Catalogue). ids_of (after left requests).kept) (idle_leaves M request.id request.command e) ∙ g

pub after_keeps : (M : Catalogue) (requests : List CommandRequest) → ids_of (after M requests).kept ≡ ids_of M.kept ++ request_ids (acting M requests)
after_keeps M [] = sym (append-nil (ids_of M.kept))
after_keeps M (request ∷ requests) =
    once_cons M request requests (acts M request.id request.command) refl
    (after_keeps (step M request.id request.command).catalogue requests) (after_keeps M requests)
