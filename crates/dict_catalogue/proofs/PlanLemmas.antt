-- A plan over a summary is a step of every catalogue with that summary.
use Rattle.std.proofs.Common.{◌≡◌, ℕ, List, ap, sym, subst, ◌∙◌, refl}
use Rattle.std.specs.Prelude.{IsTrue, Some, None, Result, Ok, Err, MatchResult}
use Rattle.dict_index.specs.Edition.{Edition}
use Rattle.dict_text.specs.Names.{is_request_id}
use Rattle.dict_catalogue.specs.Commands.{Command}
use Rattle.dict_catalogue.specs.Tests.{Holdings, refusal_of}
use Rattle.dict_catalogue.specs.Effects.{effect, reply_to}
use Rattle.dict_catalogue.specs.Steps.{Catalogue, Outcome, accepted, refused, holdings, summary_of, command_summary, kept_under, with_effect, step}
use Rattle.dict_catalogue.specs.Views.{IsChange, IsFaultOf, IsChangeOf, IsPlanOf}
use Rattle.dict_catalogue.specs.declared.planning.PlannedChange.{PlannedChange}
use Rattle.dict_catalogue.specs.declared.fault.CommandRefusal.{CommandRefusal}
use Rattle.dict_catalogue.specs.declared.fault.PlanFault.{PlanFault}
use Rattle.dict_catalogue.specs.declared.fault.PlanFault.TheVariants.{Refused, Memory}
use Rattle.dict_catalogue.proofs.SummaryLemmas.{refusal_of_as, effect_with, editions_gone_as, reply_to_as}

accepted_step : (M : Catalogue) (id : List ℕ) (command : Command Edition) → IsTrue (is_request_id id) → kept_under M.kept id ≡ None → refusal_of (holdings M) command ≡ None →
    step M id command ≡ record { reply = accepted (reply_to command (effect command (holdings M))); catalogue = with_effect M id command }
accepted_step M id command lawful new none = rw (lawful, new, none) refl

refused_step : (M : Catalogue) (id : List ℕ) (command : Command Edition) (refusal : CommandRefusal) → IsTrue (is_request_id id) → kept_under M.kept id ≡ None → refusal_of (holdings M) command ≡ Some refusal →
    step M id command ≡ record { reply = refused refusal; catalogue = M }
refused_step M id command refusal lawful new some = rw (lawful, new, some) refl

same_refusal : (M : Catalogue) (command : Command Edition) → refusal_of (holdings M) command ≡ refusal_of (summary_of M) (command_summary command)
same_refusal M command = sym (refusal_of_as (λ edition. edition.title) (holdings M) command)

change_of : (M : Catalogue) (id : List ℕ) (command : Command Edition) (change : PlannedChange) → IsTrue (is_request_id id) → kept_under M.kept id ≡ None →
    IsChange (summary_of M) (command_summary command) change → IsChangeOf M (step M id command) change
change_of M id command change lawful new h =
    let stepped : step M id command ≡ record { reply = accepted (reply_to command (effect command (holdings M))); catalogue = with_effect M id command } =
    accepted_step M id command lawful new (same_refusal M command ∙ h.0) in
    subst (λ (outcome : Outcome). IsChangeOf M outcome change) (sym stepped)
    (record {
      reply = ap accepted (sym (reply_to_as (λ edition. edition.title) command (holdings M)) ∙ sym h.1.kept);
      summary = h.1.after ∙ effect_with M id command;
      gone = h.1.gone ∙ editions_gone_as (λ edition. edition.title) command (holdings M);
    })

fault_of : (M : Catalogue) (id : List ℕ) (command : Command Edition) (fault : PlanFault) → IsTrue (is_request_id id) → kept_under M.kept id ≡ None →
    IsFaultOf (summary_of M) (command_summary command) fault → IsPlanOf M (step M id command) (Err fault)
fault_of M id command (Refused refusal) lawful new h = refused_step M id command refusal lawful new (same_refusal M command ∙ h)
fault_of M id command Memory lawful new h = λ refusal told.
    let reply = reply_to command (effect command (holdings M)) in
    let clash : accepted reply ≡ refused refusal = sym (ap (λ (outcome : Outcome). outcome.reply) (accepted_step M id command lawful new (same_refusal M command ∙ h))) ∙ told in
    let none : ⊥ = cc in
    absurd none

plan_at : (M : Catalogue) (id : List ℕ) (command : Command Edition) (result : Result PlannedChange PlanFault) → IsTrue (is_request_id id) → kept_under M.kept id ≡ None →
    MatchResult result (IsChange (summary_of M) (command_summary command)) (IsFaultOf (summary_of M) (command_summary command)) → IsPlanOf M (step M id command) result
plan_at M id command (Ok change) lawful new h = change_of M id command change lawful new h
plan_at M id command (Err fault) lawful new h = fault_of M id command fault lawful new h

pub plan_of : (M : Catalogue) (id : List ℕ) (command : Command Edition) (result : Result PlannedChange PlanFault) (summary : Holdings (List ℕ)) → summary_of M ≡ summary → IsTrue (is_request_id id) → kept_under M.kept id ≡ None →
    MatchResult result (IsChange summary (command_summary command)) (IsFaultOf summary (command_summary command)) → IsPlanOf M (step M id command) result
plan_of M id command result summary e lawful new h =
    plan_at M id command result lawful new
    (subst (λ (s : Holdings (List ℕ)). MatchResult result (IsChange s (command_summary command)) (IsFaultOf s (command_summary command))) (sym e) h)
