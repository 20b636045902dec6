-- What a stop may leave, of one list of catalogues and of a longer one.
use Rattle.std.proofs.Common.{zero, suc, Bool, true, false, List, [], ◌∷◌, arith}
use Rattle.std.specs.Prelude.{Contains, Option, Some, Result, Ok, Err}
use Rattle.dict_catalogue.specs.Steps.{Catalogue}
use Rattle.dict_catalogue.specs.declared.reply.Kept.{Kept}
use Rattle.dict_desk.specs.Applying.{Leaves}
use Rattle.dict_desk.specs.Faults.{IsOfLookup}
use Rattle.dict_desk.specs.declared.fault.Fault.{Fault}
use Rattle.dict_desk.specs.declared.fault.Fault.TheVariants.{Refused, Memory, Disk, Closed, NotACatalogue, Damaged, NewerSchema}

pub contains_later : {X : Type 0} (first x : X) (xs : List X) → Contains xs x → Contains (first ∷ xs) x
contains_later first x xs h = (suc h.0, omega arith, h.2)

pub contains_alone : {X : Type 0} (one x : X) (xs : List X) → Contains (one ∷ []) x → Contains (one ∷ xs) x
contains_alone one x xs (zero, below, is) = (zero, omega arith, is)
contains_alone one x xs (suc k, below, is) = absurd (omega arith)

-- the law of a desk by which a list may be made longer
abbrev pub IsWide : (List (Option Catalogue) → Type 0) → Type 0
IsWide Left = (ms ns : List (Option Catalogue)) → ((m : Option Catalogue) → Contains ms m → Contains ns m) → Left ms → Left ns

-- whatever a command answered, a stop leaves the catalogue after it or what it could leave before
pub leaves_any : (Before After : List (Option Catalogue) → Type 0) → IsWide After → (is_kept : Bool) (after : Catalogue) (result : Result Kept Fault) → Leaves Before After is_kept after result
    → (ms : List (Option Catalogue)) → Before ms → After (Some after ∷ ms)
leaves_any Before After wide true after (Ok kept) h ms left = wide ms (Some after ∷ ms) (λ m. contains_later (Some after) m ms) (h ms left)
leaves_any Before After wide false after (Ok kept) h ms left = wide (Some after ∷ []) (Some after ∷ ms) (λ m. contains_alone (Some after) m ms) h
leaves_any Before After wide is_kept after (Err (Refused refusal)) h ms left = wide ms (Some after ∷ ms) (λ m. contains_later (Some after) m ms) (h ms left)
leaves_any Before After wide is_kept after (Err Memory) h ms left = wide ms (Some after ∷ ms) (λ m. contains_later (Some after) m ms) (h ms left)
leaves_any Before After wide is_kept after (Err Disk) h ms left = h ms left
leaves_any Before After wide is_kept after (Err Closed) h ms left = wide ms (Some after ∷ ms) (λ m. contains_later (Some after) m ms) (h ms left)
leaves_any Before After wide is_kept after (Err NotACatalogue) h ms left = absurd h
leaves_any Before After wide is_kept after (Err Damaged) h ms left = absurd h
leaves_any Before After wide is_kept after (Err NewerSchema) h ms left = absurd h

-- a lookup that failed leaves what a command leaves that failed so
pub leaves_failed : (Before After : List (Option Catalogue) → Type 0) → IsWide After → ((ms : List (Option Catalogue)) → Before ms → After ms) → (is_kept : Bool) (after : Catalogue) (fault : Fault) → IsOfLookup fault
    → Leaves Before After is_kept after (Err fault)
leaves_failed Before After wide no_more is_kept after (Refused refusal) of = absurd of
leaves_failed Before After wide no_more is_kept after Memory of = no_more
leaves_failed Before After wide no_more is_kept after Disk of = λ ms left. wide ms (Some after ∷ ms) (λ m. contains_later (Some after) m ms) (no_more ms left)
leaves_failed Before After wide no_more is_kept after Closed of = no_more
leaves_failed Before After wide no_more is_kept after NotACatalogue of = absurd of
leaves_failed Before After wide no_more is_kept after Damaged of = absurd of
leaves_failed Before After wide no_more is_kept after NewerSchema of = absurd of
