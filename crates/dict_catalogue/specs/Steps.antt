-- A catalogue, and what one command or a list of commands makes of it.
use Rattle.std.specs.Prelude.{◌≡◌, IsTrue, ℕ, Bool, true, false, List, [], ◌∷◌, ◌++◌, length, Option, Some, None, bytes_eq, if◌then◌else◌}
use Rattle.dict_index.specs.Edition.{Edition}
use Rattle.dict_text.specs.Names.{is_request_id}
use Rattle.dict_catalogue.specs.Items.{Item}
use Rattle.dict_catalogue.specs.Commands.{Command, command_as}
use Rattle.dict_catalogue.specs.Tests.{Test, wants, Holdings, holdings_as, tests_of, refusal_of}
use Rattle.dict_catalogue.specs.Effects.{KeptReply, effect, reply_to}
use Rattle.dict_catalogue.specs.declared.fault.CommandRefusal.{CommandRefusal}
use Rattle.dict_catalogue.specs.declared.fault.CommandRefusal.TheVariants.{BadRequestId}

-- a kept reply, and the id of the request that it answered
pub record KeptFor : Type 0 where
  pub id : List ℕ
  pub reply : KeptReply

-- the items in order, the kept replies in the order in which their commands were accepted, and the count of
-- installs. A reply that is kept stays for good
pub record Catalogue : Type 0 where
  pub items : List (Item Edition)
  pub kept : List KeptFor
  pub installs : ℕ

abbrev pub empty_catalogue : Catalogue
empty_catalogue = record { items = []; kept = []; installs = 0 }

-- what the commands read and change of a catalogue
abbrev pub holdings : Catalogue → Holdings Edition
holdings before = record { items = before.items; installs = before.installs; accepted = length before.kept }

-- a summary has an edition's title in place of the edition
abbrev pub summary_of : Catalogue → Holdings (List ℕ)
summary_of before = holdings_as (λ edition. edition.title) (holdings before)

abbrev pub command_summary : Command Edition → Command (List ℕ)
command_summary command = command_as (λ edition. edition.title) command

-- the reply that is kept for an id
abbrev pub kept_under : List KeptFor → List ℕ → Option KeptReply
kept_under [] id = None
kept_under (one ∷ kept) id = if bytes_eq one.id id then Some one.reply else kept_under kept id

pub data CommandReply : Type 0 where
  accepted : KeptReply → CommandReply
  refused : CommandRefusal → CommandReply

-- a reply, and the catalogue after it
pub record Outcome : Type 0 where
  pub reply : CommandReply
  pub catalogue : Catalogue

-- the catalogue after the command's effect, with its reply kept
abbrev pub with_effect : Catalogue → List ℕ → Command Edition → Catalogue
with_effect before id command =
    let after = effect command (holdings before) in
    record { items = after.items; kept = before.kept ++ record { id = id; reply = reply_to command after } ∷ []; installs = after.installs }

-- none of its tests fails, or the first one does
abbrev pub decided : Catalogue → List ℕ → Command Edition → Option CommandRefusal → Outcome
decided before id command (Some refusal) = record { reply = refused refusal; catalogue = before }
decided before id command None = record { reply = accepted (reply_to command (effect command (holdings before))); catalogue = with_effect before id command }

-- the id is kept, or the command's own tests decide
abbrev pub answered : Catalogue → List ℕ → Command Edition → Option KeptReply → Outcome
answered before id command (Some reply) = record { reply = accepted reply; catalogue = before }
answered before id command None = decided before id command (refusal_of (holdings before) command)

-- one command: first the test of the id, then whether it is kept, then the command's own tests in order
abbrev pub step : Catalogue → List ℕ → Command Edition → Outcome
step before id command =
    if is_request_id id
    then answered before id command (kept_under before.kept id)
    else record { reply = refused BadRequestId; catalogue = before }

-- all of the tests are passed
abbrev pub AllHold : List Test → Type 0
AllHold [] = Unit {0}
AllHold (test ∷ tests) = IsTrue test.holds × AllHold tests

-- the first test that isn't passed has this refusal
pub record FailsFirst (tests : List Test) (refusal : CommandRefusal) : Type 0 where
  pub front : List Test
  pub back : List Test
  pub split : tests ≡ front ++ wants false refusal ∷ back
  pub holds : AllHold front

-- the same by cases: the id is unlawful; it is kept; the first test of the command that fails has this refusal; none
-- fails, and the effect is done and its reply kept under the id
pub data IsStep (before : Catalogue) (id : List ℕ) (command : Command Edition) (outcome : Outcome) : Type 0 where
  id_unlawful : is_request_id id ≡ false →
      outcome ≡ record { reply = refused BadRequestId; catalogue = before } → IsStep before id command outcome
  id_kept : (reply : KeptReply) → is_request_id id ≡ true → kept_under before.kept id ≡ Some reply →
      outcome ≡ record { reply = accepted reply; catalogue = before } → IsStep before id command outcome
  test_failed : (refusal : CommandRefusal) → is_request_id id ≡ true → kept_under before.kept id ≡ None →
      FailsFirst (tests_of (holdings before) command) refusal →
      outcome ≡ record { reply = refused refusal; catalogue = before } → IsStep before id command outcome
  none_failed : is_request_id id ≡ true → kept_under before.kept id ≡ None →
      AllHold (tests_of (holdings before) command) →
      outcome ≡ record { reply = accepted (reply_to command (effect command (holdings before))); catalogue = with_effect before id command } →
      IsStep before id command outcome

-- a command with the id of its request
pub record CommandRequest : Type 0 where
  pub id : List ℕ
  pub command : Command Edition

-- a list of commands, one after another
abbrev pub after : Catalogue → List CommandRequest → Catalogue
after before [] = before
after before (request ∷ requests) = after (step before request.id request.command).catalogue requests

-- the command is accepted, and acts
abbrev pub is_none_refused : Option CommandRefusal → Bool
is_none_refused None = true
is_none_refused (Some refusal) = false

abbrev pub acts_unless_kept : Catalogue → Command Edition → Option KeptReply → Bool
acts_unless_kept before command (Some reply) = false
acts_unless_kept before command None = is_none_refused (refusal_of (holdings before) command)

abbrev pub acts : Catalogue → List ℕ → Command Edition → Bool
acts before id command = if is_request_id id then acts_unless_kept before command (kept_under before.kept id) else false

-- the commands of the list that act, in their order
abbrev pub acting : Catalogue → List CommandRequest → List CommandRequest
acting before [] = []
acting before (request ∷ requests) =
    if acts before request.id request.command
    then request ∷ acting (step before request.id request.command).catalogue requests
    else acting before requests
