-- How an answer ends, by what the keeper answered.
use Rattle.std.proofs.Common.{◌≡◌, inl, inr, ℕ, Bool, true, false, List, [], ◌∷◌, Option, Some, None, refl, sym, ap, ◌∙◌, subst}
use Rattle.std.specs.Prelude.{◌↔◌, ◌||◌, MatchBool, MatchOption, is_some, Result, Ok, Err}
use Rattle.dict_index.specs.Edition.{Edition, ReadEdition, edition_of}
use Rattle.dict_index.specs.Meaning.{IsReadEdition, IsFault}
use Rattle.dict_catalogue.specs.Commands.{Command, install}
use Rattle.dict_catalogue.specs.Effects.{KeptReply}
use Rattle.dict_catalogue.specs.Steps.{Catalogue, step, kept_under}
use Rattle.dict_catalogue.specs.Views.{kept_shown}
use Rattle.dict_catalogue.specs.declared.fault.CommandRefusal.{CommandRefusal}
use Rattle.dict_catalogue.specs.declared.reply.Kept.{Kept}
use Rattle.dict_desk.specs.Applying.{Applies, Leaves, LeavesNoMore}
use Rattle.dict_desk.specs.Faults.{has_closed_by}
use Rattle.dict_desk.specs.declared.fault.Fault.{Fault}
use Rattle.dict_desk.specs.declared.fault.Fault.TheVariants.{Refused, Memory, Disk, Closed, NotACatalogue, Damaged, NewerSchema}
use Rattle.http_request.specs.declared.statuses.Status.TheVariants as statuses
use Rattle.http_service.specs.Texts.{kept_text, refused_command_text, refused_edition_text}
use Rattle.dict_desk.specs.Answering.{IfDone, IfRefused}
use Rattle.dict_desk.specs.declared.answered.Answered.{Answered}
use Rattle.dict_desk.specs.declared.answered.Answered.TheVariants as prepared
use Rattle.serde_json.specs.Data.{Data}
use Rattle.http_service.specs.Bodies.{IsJson, IsVirtualValue}
use Rattle.http_service.specs.Answers.{Response, response_text, with_body}
use Rattle.http_service.specs.Actions.{IsInstallBody, command, no_edition}
use Rattle.http_service.specs.Settling.{Settled, SettlesNew, SettlesChange, stays, applied, replied, is_accepted}
use Rattle.http_service.specs.declared.actions.Action.{Action}
use Rattle.http_service.specs.declared.actions.Action.TheVariants.{Install}
use Rattle.http_service.specs.Outcomes.{IsAnswerOf, IsAnswerTo, SettlesFiles}
use Rattle.http_service.specs.Responding.{IsAnswer, RespondsOrFails, answered, unchanged, done, unknown, Responds, ended, failed}

abbrev Left : Type 1
Left = List (Option Catalogue) → Type 0

pub after_ok : (closed : Bool) (Shows : Catalogue → Type 0) (Before After : List (Option Catalogue) → Type 0) (M : Catalogue) (id : List ℕ) (asked : Command Edition) (kept : Kept) (octets : List ℕ)
    → kept_under M.kept id ≡ None → Applies Shows M (step M id asked) (Ok kept) → Leaves Before After (is_some (kept_under M.kept id)) (step M id asked).catalogue (Ok kept)
    → IsAnswer octets (with_body statuses.Ok (kept_text (kept_shown kept))) → RespondsOrFails closed Shows Before After M (applied M id asked) octets
after_ok closed Shows Before After M id asked kept octets none applies leaves (inl text) =
    answered (text ∙ ap (λ r. response_text (replied r)) (sym applies.0)) applies.1
    (subst (λ r. MatchBool (is_accepted r) (After (Some (step M id asked).catalogue ∷ [])) (LeavesNoMore Before After)) (sym applies.0)
    (subst (λ k. MatchBool (is_some k) (LeavesNoMore Before After) (After (Some (step M id asked).catalogue ∷ []))) none leaves))
after_ok closed Shows Before After M id asked kept octets none applies leaves (inr text) =
    done text applies.1
    (subst (λ r. MatchBool (is_accepted r) (After (Some (step M id asked).catalogue ∷ [])) (LeavesNoMore Before After)) (sym applies.0)
    (subst (λ k. MatchBool (is_some k) (LeavesNoMore Before After) (After (Some (step M id asked).catalogue ∷ []))) none leaves))

pub after_refusal : (closed : Bool) (Shows : Catalogue → Type 0) (Before After : List (Option Catalogue) → Type 0) (M : Catalogue) (id : List ℕ) (asked : Command Edition) (refusal : CommandRefusal) (octets : List ℕ)
    → Applies Shows M (step M id asked) (Err (Refused refusal)) → LeavesNoMore Before After
    → IsAnswer octets (with_body statuses.Conflict (refused_command_text refusal)) → RespondsOrFails closed Shows Before After M (applied M id asked) octets
after_refusal closed Shows Before After M id asked refusal octets applies no_more (inl text) =
    answered (text ∙ ap (λ r. response_text (replied r)) (sym applies.0)) applies.1
    (subst (λ r. MatchBool (is_accepted r) (After (Some (step M id asked).catalogue ∷ [])) (LeavesNoMore Before After)) (sym applies.0) no_more)
after_refusal closed Shows Before After M id asked refusal octets applies no_more (inr text) =
    done text applies.1
    (subst (λ r. MatchBool (is_accepted r) (After (Some (step M id asked).catalogue ∷ [])) (LeavesNoMore Before After)) (sym applies.0) no_more)

-- what is so or another thing is, where the other is
or_true : (a b : Bool) → b ≡ true → (a || b) ≡ true
or_true true b is = refl
or_true false b is = is

-- by whatever the keeper answered, which was closed before or not
pub after_outcome : (was closed : Bool) (Shows : Catalogue → Type 0) (Before After : List (Option Catalogue) → Type 0) (M : Catalogue) (id : List ℕ) (asked : Command Edition) (outcome : Result Kept Fault)
    (octets : List ℕ) → closed ≡ (was || has_closed_by outcome)
    → kept_under M.kept id ≡ None → Applies Shows M (step M id asked) outcome → Leaves Before After (is_some (kept_under M.kept id)) (step M id asked).catalogue outcome
    → IsAnswerTo outcome octets → RespondsOrFails closed Shows Before After M (applied M id asked) octets
after_outcome was closed Shows Before After M id asked (Ok kept) octets is none applies leaves text = after_ok closed Shows Before After M id asked kept octets none applies leaves text
after_outcome was closed Shows Before After M id asked (Err (Refused refusal)) octets is none applies leaves text = after_refusal closed Shows Before After M id asked refusal octets applies leaves text
after_outcome was closed Shows Before After M id asked (Err Memory) octets is none applies leaves text = unchanged text applies leaves
after_outcome was closed Shows Before After M id asked (Err Disk) octets is none applies leaves text = unknown text (is ∙ or_true was true refl) applies leaves
after_outcome was closed Shows Before After M id asked (Err Closed) octets is none applies leaves text = unchanged text applies leaves
after_outcome was closed Shows Before After M id asked (Err NotACatalogue) octets is none applies leaves text = absurd applies
after_outcome was closed Shows Before After M id asked (Err Damaged) octets is none applies leaves text = absurd applies
after_outcome was closed Shows Before After M id asked (Err NewerSchema) octets is none applies leaves text = absurd applies

-- what a stop could leave before is wider
left_before : (Before Mid After : List (Option Catalogue) → Type 0) (acts : Bool) (M : Catalogue) → LeavesNoMore Before Mid
    → MatchBool acts (After (Some M ∷ [])) (LeavesNoMore Mid After) → MatchBool acts (After (Some M ∷ [])) (LeavesNoMore Before After)
left_before Before Mid After true M first h = h
left_before Before Mid After false M first h = λ ms b. h ms (first ms b)

pub ends_before : (closed : Bool) (Shows : Catalogue → Type 0) (Before Mid After : List (Option Catalogue) → Type 0) (M : Catalogue) (s : Settled) (octets : List ℕ) → LeavesNoMore Before Mid
    → RespondsOrFails closed Shows Mid After M s octets → RespondsOrFails closed Shows Before After M s octets
ends_before closed Shows Before Mid After M s octets first (answered text shown left) = answered text shown (left_before Before Mid After s.acts s.catalogue first left)
ends_before closed Shows Before Mid After M s octets first (unchanged text shown left) = unchanged text shown (λ ms b. left ms (first ms b))
ends_before closed Shows Before Mid After M s octets first (done text shown left) = done text shown (left_before Before Mid After s.acts s.catalogue first left)
ends_before closed Shows Before Mid After M s octets first (unknown text shut shown left) = unknown text shut shown (λ ms b. left ms (first ms b))

pub responds_before : (closed : Bool) (Shows : Catalogue → Type 0) (Before Mid After : List (Option Catalogue) → Type 0) (M : Catalogue) (Is : Settled → Type 0) (octets : List ℕ) → LeavesNoMore Before Mid
    → Responds closed Shows Mid After M Is octets → Responds closed Shows Before After M Is octets
responds_before closed Shows Before Mid After M Is octets first (ended s is e) = ended s is (ends_before closed Shows Before Mid After M s octets first e)
responds_before closed Shows Before Mid After M Is octets first (failed text shown left) = failed text shown (λ ms b. left ms (first ms b))

-- by another word for what is settled
pub responds_so : (closed : Bool) (Shows : Catalogue → Type 0) (Before After : List (Option Catalogue) → Type 0) (M : Catalogue) (Is So : Settled → Type 0) (octets : List ℕ) → ((s : Settled) → Is s → So s)
    → Responds closed Shows Before After M Is octets → Responds closed Shows Before After M So octets
responds_so closed Shows Before After M Is So octets goes (ended s is e) = ended s (goes s is) e
responds_so closed Shows Before After M Is So octets goes (failed text shown left) = failed text shown left

-- an answer that changes nothing
pub stays_so : (closed : Bool) (Shows : Catalogue → Type 0) (Before : List (Option Catalogue) → Type 0) (M : Catalogue) (response : Response) (octets : List ℕ) → Shows M
    → IsAnswer octets response → RespondsOrFails closed Shows Before Before M (stays M response) octets
stays_so closed Shows Before M response octets shown (inl text) = answered text shown (λ ms left. left)
stays_so closed Shows Before M response octets shown (inr text) = unchanged text shown (λ ms left. left)

-- by what a keeper answered of two files that it had prepared: `Did` is what it tells of the command beside
pub after_prepared : {K : Type 0} (Did : ReadEdition → Result Kept Fault → Type 0) (is_closed : K → Bool) (Shows : K → Catalogue → Type 0) (LeavesOneOf : K → List (Option Catalogue) → Type 0) (old new : K)
    (M : Catalogue) (id name index text octets : List ℕ) (it : Answered)
    → Shows old M → kept_under M.kept id ≡ None
    → IfDone (Ok (Some it)) (λ outcome. (reading : ReadEdition) × IsReadEdition index text reading × Did reading outcome)
    → IfDone (Ok (Some it)) (λ outcome. (reading : ReadEdition) → IsReadEdition index text reading → Applies (Shows new) M (step M id (install name (edition_of reading))) outcome)
    → IfDone (Ok (Some it)) (λ outcome. (reading : ReadEdition) → IsReadEdition index text reading
    → Leaves (LeavesOneOf old) (LeavesOneOf new) (is_some (kept_under M.kept id)) (step M id (install name (edition_of reading))).catalogue outcome)
    → IfDone (Ok (Some it)) (λ outcome. is_closed new ≡ (is_closed old || has_closed_by outcome))
    → IfRefused (Ok (Some it)) (λ refusal line. IsFault index text refusal line × (new ≡ old))
    → IsAnswerOf it octets → Responds (is_closed new) (Shows new) (LeavesOneOf old) (LeavesOneOf new) M (SettlesFiles M id name index text) octets
after_prepared Did is_closed Shows LeavesOneOf old new M id name index text octets (prepared.Done outcome) shown none (reading, is, did) value left closes refused told =
    let asked : Command Edition = install name (edition_of reading) in
    ended (applied M id asked) (command asked, inl (edition_of reading, (reading, is, refl), refl), refl)
    (after_outcome (is_closed old) (is_closed new) (Shows new) (LeavesOneOf old) (LeavesOneOf new) M id asked outcome octets closes none (value reading is) (left reading is) told)
after_prepared Did is_closed Shows LeavesOneOf old new M id name index text octets (prepared.Refused refusal line) shown none did value left closes (fault, same) told =
    subst (λ k. Responds (is_closed k) (Shows k) (LeavesOneOf old) (LeavesOneOf k) M (SettlesFiles M id name index text) octets) (sym same)
    (ended (stays M (with_body statuses.UnprocessableContent (refused_edition_text refusal line))) (no_edition refusal line, inr (refusal, line, fault, refl), refl)
    (stays_so (is_closed old) (Shows old) (LeavesOneOf old) M (with_body statuses.UnprocessableContent (refused_edition_text refusal line)) octets shown told))

-- the files are those of the body
pub settles_files : (M : Catalogue) (id name body index text : List ℕ) (s : Settled) → IsInstallBody body index text → SettlesFiles M id name index text s → SettlesNew M id Install name body s
settles_files M id name body index text s parts (said, says, is) = (said, inl (index, text, parts, says), is)

-- a call of a closed keeper is answered `Closed`, so one that was answered else was of an open one
pub other_if_open : {T : Type 0} (value : T) (result : Result T Fault) (shut : Bool) → result ≡ Ok value → ((result ≡ Err Closed) ↔ (shut ≡ true)) → shut ≡ true → ⊥
other_if_open value result shut is closed so =
    let e : Ok value ≡ Err Closed = sym is ∙ closed.1 so in
    cc

-- of a text's one value
pub no_virtual : (body : List ℕ) (value other : Data) → IsJson body value → IsJson body other → ((title : List ℕ) (members : List (List ℕ)) → ¬ IsVirtualValue value title members)
    → (title : List ℕ) (members : List (List ℕ)) → IsVirtualValue other title members → ⊥
no_virtual body value other json another not_so title members form =
    let both : Some other ≡ Some value = sym another.reads ∙ json.reads in
    let same : other ≡ value = cc in
    not_so title members (subst (λ v. IsVirtualValue v title members) same form)

-- a kept id, and one that isn't
pub settles_kept : (M : Catalogue) (id : List ℕ) (action : Action) (name body : List ℕ) (kept : KeptReply) → Some kept ≡ kept_under M.kept id
    → SettlesChange M id action name body (stays M (with_body statuses.Ok (kept_text kept)))
settles_kept M id action name body kept e =
    let s = stays M (with_body statuses.Ok (kept_text kept)) in
    subst (λ k. MatchOption k (SettlesNew M id action name body s) (λ r. s ≡ stays M (with_body statuses.Ok (kept_text r)))) e refl

pub settles_new : (M : Catalogue) (id : List ℕ) (action : Action) (name body : List ℕ) (s : Settled) → None ≡ kept_under M.kept id
    → SettlesNew M id action name body s → SettlesChange M id action name body s
settles_new M id action name body s e new =
    subst (λ k. MatchOption k (SettlesNew M id action name body s) (λ r. s ≡ stays M (with_body statuses.Ok (kept_text r)))) e new
