-- The catalogue that is kept in memory.
use Rattle.std.specs.Prelude.{◌≡◌, ◌≤◌, ◌<◌, ℕ, Bool, not, ◌==◌, List, [], ◌∷◌, map, length, find, slice_get, Option, Some, None, option_map, unwrap_or, IfSome, string_bytes}
use Rattle.std.specs.List.{AllByRecursion, list_any}
use Rattle.dict_index.specs.Edition.{Edition}
use Rattle.dict_catalogue.specs.Items.{Stored, Item, regular, virtual, editions_of}
use Rattle.dict_catalogue.specs.Commands.{Command, install, rollback, retire, put_virtual, place}
use Rattle.dict_catalogue.specs.Tests.{Holdings}
use Rattle.dict_catalogue.specs.Effects.{KeptReply}
use Rattle.dict_catalogue.specs.Steps.{KeptFor, Catalogue, summary_of, kept_under}
use Rattle.dict_catalogue.specs.Views.{kept_shown}
use Rattle.dict_catalogue.specs.WellFormed.{IsWellFormed}
use Rattle.dict_index.specs.Found.{is_found}
use Rattle.dict_desk.specs.PlainEntries.{LieWithin}
use Rattle.dict_desk.specs.declared.counted.CountedQuestion.{CountedQuestion}
use Rattle.dict_desk.specs.declared.fault.Fault.{Fault}
use Rattle.dict_desk.specs.declared.fault.Fault.TheVariants.{Refused, Memory, Disk, Closed, NotACatalogue, Damaged, NewerSchema}
use Rattle.dict_desk.specs.declared.replies.Filed.{Filed}

-- what contracts see of a catalogue that is kept in memory, and whether the last call failed
pub record PlainState : Type 0 where
  pub catalogue : Catalogue
  pub has_failed : Bool

-- a growth was refused, and the catalogue is kept as it was. A catalogue in memory fails for no other cause
abbrev pub WantsMemory : PlainState → PlainState → Fault → Type 0
WantsMemory old new (Refused refusal) = ⊥
WantsMemory old new Memory = new.catalogue ≡ old.catalogue
WantsMemory old new Disk = ⊥
WantsMemory old new Closed = ⊥
WantsMemory old new NotACatalogue = ⊥
WantsMemory old new Damaged = ⊥
WantsMemory old new NewerSchema = ⊥

-- the edition of this number
abbrev pub edition_by_number : ℕ → List (Stored Edition) → Option (Stored Edition)
edition_by_number number editions = find (λ stored. stored.number == number) editions

abbrev pub no_edition : Edition
no_edition = record { title = []; info = []; entries = [] }

-- an edition by its number, in place of its title
abbrev pub stored_from : List (Stored Edition) → Stored (List ℕ) → Stored Edition
stored_from editions titled = record { number = titled.number; content = unwrap_or (option_map (λ stored. stored.content) (edition_by_number titled.number editions)) no_edition }

abbrev pub item_from : List (Stored Edition) → Item (List ℕ) → Item Edition
item_from editions (regular name current former) = regular name (stored_from editions current) (option_map (stored_from editions) former)
item_from editions (virtual name title members) = virtual name title members

-- a reply, filed under the id of its request
abbrev pub filed_shown : Filed → KeptFor
filed_shown filed = record { id = string_bytes filed.id; reply = kept_shown filed.reply }

-- the catalogue that a summary, editions by their numbers and the kept replies in order make
abbrev pub catalogue_from : Holdings (List ℕ) → List (Stored Edition) → List Filed → Catalogue
catalogue_from summary editions replies = record { items = map (item_from editions) summary.items; kept = map filed_shown replies; installs = summary.installs }

-- the reply at a place
abbrev pub reply_at : List KeptFor → Option ℕ → Option KeptReply
reply_at kept None = None
reply_at kept (Some n) = option_map (λ (one : KeptFor). one.reply) (slice_get kept n)

-- the places of the replies by their ids
pub record ArePlaces (places : List ℕ → Option ℕ) (kept : List KeptFor) : Type 0 where
  pub told : (id : List ℕ) → reply_at kept (places id) ≡ kept_under kept id
  pub within : (id : List ℕ) → IfSome (places id) (λ n. n < length kept)

-- the edition is found by its number
abbrev pub IsFoundByNumber : List (Stored Edition) → Stored Edition → Type 0
IsFoundByNumber editions stored = edition_by_number stored.number editions ≡ Some stored

-- the parts agree with one another, and the catalogue that they make is well formed
pub record AreInStep (summary : Holdings (List ℕ)) (editions : List (Stored Edition)) (replies : List Filed) (places : List ℕ → Option ℕ) : Type 0 where
  pub whole : summary ≡ summary_of (catalogue_from summary editions replies)
  pub held : AllByRecursion (λ item. AllByRecursion (IsFoundByNumber editions) (editions_of item)) (catalogue_from summary editions replies).items
  pub early : AllByRecursion (λ stored. stored.number ≤ summary.installs) editions
  pub filed : ArePlaces places (map filed_shown replies)
  pub well_formed : IsWellFormed (catalogue_from summary editions replies)

-- in the edition that was counted, all entries that the query finds lie in the span
abbrev pub HoldsSpan : List (Stored Edition) → CountedQuestion → Type 0
HoldsSpan editions counted =
    (stored : Stored Edition) → edition_by_number counted.number editions ≡ Some stored → LieWithin (is_found counted.strategy counted.query) stored.content.entries counted.span.first counted.span.end

-- the edition that a command installs, under this number
abbrev pub newly_installed : ℕ → Command Edition → List (Stored Edition)
newly_installed number (install name content) = record { number = number; content = content } ∷ []
newly_installed number (rollback name) = []
newly_installed number (retire name) = []
newly_installed number (put_virtual name title members) = []
newly_installed number (place name at) = []

-- the number of the edition is none of these
abbrev pub is_not_gone : List ℕ → Stored Edition → Bool
is_not_gone gone stored = not (list_any (λ one. one == stored.number) gone)
