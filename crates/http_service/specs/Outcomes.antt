-- What an install of two files settles, and the octets of an answer by what a keeper answered.
use Rattle.std.specs.Prelude.{◌≡◌, ℕ, List, Result, Ok, Err}
use Rattle.dict_catalogue.specs.Steps.{Catalogue}
use Rattle.dict_catalogue.specs.Views.{kept_shown}
use Rattle.dict_catalogue.specs.declared.reply.Kept.{Kept}
use Rattle.dict_desk.specs.declared.fault.Fault.{Fault}
use Rattle.dict_desk.specs.declared.fault.Fault.TheVariants.{Refused, Memory, Disk, Closed, NotACatalogue, Damaged, NewerSchema}
use Rattle.http_request.specs.declared.statuses.Status.TheVariants as statuses
use Rattle.http_service.specs.Texts.{kept_text, refused_command_text, refused_edition_text}
use Rattle.dict_desk.specs.declared.answered.Answered.{Answered}
use Rattle.dict_desk.specs.declared.answered.Answered.TheVariants as prepared
use Rattle.http_service.specs.Actions.{BodyMeaning, SaysEdition}
use Rattle.http_service.specs.Answers.{unavailable_text, with_body}
use Rattle.http_service.specs.Settling.{Settled, settled_by}
use Rattle.http_service.specs.Responding.{IsAnswer}

-- an install of two files, under a new id: what they say
abbrev pub SettlesFiles : Catalogue → List ℕ → List ℕ → List ℕ → List ℕ → Settled → Type 0
SettlesFiles before id name index text settled = (said : BodyMeaning) × SaysEdition name index text said × (settled ≡ settled_by before id said)

-- the octets are the answer to a command that a keeper answered so: its reply or its refusal, or at a failure the one answer
abbrev pub IsAnswerTo : Result Kept Fault → List ℕ → Type 0
IsAnswerTo (Ok kept) octets = IsAnswer octets (with_body statuses.Ok (kept_text (kept_shown kept)))
IsAnswerTo (Err (Refused refusal)) octets = IsAnswer octets (with_body statuses.Conflict (refused_command_text refusal))
IsAnswerTo (Err Memory) octets = octets ≡ unavailable_text
IsAnswerTo (Err Disk) octets = octets ≡ unavailable_text
IsAnswerTo (Err Closed) octets = octets ≡ unavailable_text
IsAnswerTo (Err NotACatalogue) octets = octets ≡ unavailable_text
IsAnswerTo (Err Damaged) octets = octets ≡ unavailable_text
IsAnswerTo (Err NewerSchema) octets = octets ≡ unavailable_text

-- the octets are the answer to an install that a keeper answered so by what it had prepared
abbrev pub IsAnswerOf : Answered → List ℕ → Type 0
IsAnswerOf (prepared.Done outcome) octets = IsAnswerTo outcome octets
IsAnswerOf (prepared.Refused refusal line) octets = IsAnswer octets (with_body statuses.UnprocessableContent (refused_edition_text refusal line))
