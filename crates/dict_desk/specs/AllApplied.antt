-- Commands that are applied one after another, each in its turn: what they are answered, what they make of a catalogue,
-- and what a stop may leave of them.
use Rattle.std.specs.Prelude.{◌≡◌, ◌⊎◌, ◌+◌, ℕ, Bool, false, ◌||◌, List, [], ◌∷◌, ◌++◌, map, take, Option, Some, MatchBool, Result, Ok, Err}
use Rattle.dict_catalogue.specs.Steps.{Catalogue, CommandReply, accepted, refused, CommandRequest, step, after, acts}
use Rattle.dict_catalogue.specs.Views.{kept_shown}
use Rattle.dict_catalogue.specs.declared.reply.Kept.{Kept}
use Rattle.dict_catalogue.specs.declared.fault.CommandRefusal.{CommandRefusal}
use Rattle.dict_desk.specs.declared.fault.Fault.{Fault}
use Rattle.dict_desk.specs.declared.fault.Fault.TheVariants.{Refused, Memory, Disk, Closed, NotACatalogue, Damaged, NewerSchema}
use Rattle.dict_desk.specs.Applying.{LeavesNoMore}

-- an answer that lets the next command have its turn, or the failure that doesn't
abbrev pub settled_answer : Result Kept Fault → Result (Result Kept CommandRefusal) Fault
settled_answer (Ok kept) = Ok (Ok kept)
settled_answer (Err (Refused refusal)) = Ok (Err refusal)
settled_answer (Err Memory) = Err Memory
settled_answer (Err Disk) = Err Disk
settled_answer (Err Closed) = Err Closed
settled_answer (Err NotACatalogue) = Err NotACatalogue
settled_answer (Err Damaged) = Err Damaged
settled_answer (Err NewerSchema) = Err NewerSchema

abbrev pub reply_shown : Result Kept CommandRefusal → CommandReply
reply_shown (Ok kept) = accepted (kept_shown kept)
reply_shown (Err refusal) = refused refusal

-- what each of the commands is answered, over the catalogue that those before it leave
abbrev pub replies : Catalogue → List CommandRequest → List CommandReply
replies before [] = []
replies before (request ∷ requests) =
    let outcome = step before request.id request.command in
    outcome.reply ∷ replies outcome.catalogue requests

-- one of the commands acts
abbrev pub has_acted : Catalogue → List CommandRequest → Bool
has_acted before [] = false
has_acted before (request ∷ requests) =
    acts before request.id request.command || has_acted (step before request.id request.command).catalogue requests

-- Of lists of which a stop could leave one before some commands, those of which it may leave one after them, where
-- each was answered: once one of them has acted, the catalogue after them alone.
abbrev pub LeftAfter : (List (Option Catalogue) → Type 0) → Catalogue → List CommandRequest → List (Option Catalogue) → Type 0
LeftAfter Before before requests ms = MatchBool (has_acted before requests) (ms ≡ Some (after before requests) ∷ []) (Before ms)

-- All commands were answered: these are the replies, and the catalogue after all of them is shown.
pub record AllAnswered (Shows : Catalogue → Type 0) (Before After : List (Option Catalogue) → Type 0) (before : Catalogue) (requests : List CommandRequest) (outcomes : List (Result Kept CommandRefusal)) : Type 0 where
  pub told : map reply_shown outcomes ≡ replies before requests
  pub shown : Shows (after before requests)
  pub left : LeavesNoMore (LeftAfter Before before requests) After

-- So many commands stand, and then one failed: the catalogue after those is shown; or, where the store failed, the one
-- after one command more may be, and a stop may leave that one too.
pub record StandsSoFar (Shows : Catalogue → Type 0) (Before After : List (Option Catalogue) → Type 0) (before : Catalogue) (requests : List CommandRequest) (stand : ℕ) : Type 0 where
  pub shown : Shows (after before (take stand requests))
  pub left : LeavesNoMore (LeftAfter Before before (take stand requests)) After

pub record StandsOrOneMore (Shows : Catalogue → Type 0) (Before After : List (Option Catalogue) → Type 0) (before : Catalogue) (requests : List CommandRequest) (stand : ℕ) : Type 0 where
  pub shown : Shows (after before (take stand requests)) ⊎ Shows (after before (take (stand + 1) requests))
  pub left : (ms : List (Option Catalogue)) → LeftAfter Before before (take stand requests) ms → After (Some (after before (take (stand + 1) requests)) ∷ ms)

abbrev pub HaltsAt : (Catalogue → Type 0) → (List (Option Catalogue) → Type 0) → (List (Option Catalogue) → Type 0) → Catalogue → List CommandRequest → ℕ → Fault → Type 0
HaltsAt Shows Before After before requests stand (Refused refusal) = ⊥
HaltsAt Shows Before After before requests stand Memory = StandsSoFar Shows Before After before requests stand
HaltsAt Shows Before After before requests stand Disk = StandsOrOneMore Shows Before After before requests stand
HaltsAt Shows Before After before requests stand Closed = StandsSoFar Shows Before After before requests stand
HaltsAt Shows Before After before requests stand NotACatalogue = ⊥
HaltsAt Shows Before After before requests stand Damaged = ⊥
HaltsAt Shows Before After before requests stand NewerSchema = ⊥

-- ---- the calls themselves, where `applies` tells of two states that between them a command was applied and answered so

-- what a command was answered that stands
abbrev pub standing_answer : Result Kept CommandRefusal → Result Kept Fault
standing_answer (Ok kept) = Ok kept
standing_answer (Err refusal) = Err (Refused refusal)

-- From one state to another these commands were applied, each in its turn, and each was answered so.
abbrev pub AreApplied : {K : Type 0} → (K → CommandRequest → Result Kept Fault → K → Type 0) → K → List CommandRequest → List (Result Kept CommandRefusal) → K → Type 0
AreApplied applies old [] [] new = new ≡ old
AreApplied applies old [] (outcome ∷ outcomes) new = ⊥
AreApplied applies old (request ∷ requests) [] new = ⊥
AreApplied {K} applies old (request ∷ requests) (outcome ∷ outcomes) new =
    (between : K) × applies old request (standing_answer outcome) between × AreApplied applies between requests outcomes new

-- So many of these were answered, and the one behind them by this failure; or there was no room for the answers, and none was applied.
abbrev pub HasHalted : {K : Type 0} → (K → CommandRequest → Result Kept Fault → K → Type 0) → K → List CommandRequest → ℕ → Fault → K → Type 0
HasHalted {K} applies old requests stand fault new =
    ((stand ≡ 0) × (fault ≡ Memory) × (new ≡ old))
    ⊎ ((outcomes : List (Result Kept CommandRefusal)) × (between : K) × (request : CommandRequest) × (take (stand + 1) requests ≡ take stand requests ++ request ∷ [])
    × AreApplied applies old (take stand requests) outcomes between × applies between request (Err fault) new)
