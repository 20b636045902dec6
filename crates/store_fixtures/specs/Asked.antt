-- What is meant by an edition and by a command that is asked for.
use Rattle.std.specs.Prelude.{◌≡◌, ℕ, List, [], ◌∷◌, ◌++◌, map, slice_get, Option, Some, None, Result, Ok, Err}
use Rattle.std.specs.Borrow.{Bor}
use Rattle.std.specs.List.{AllZip}
use Rattle.dict_index.specs.Edition.{Edition, ReadEdition, edition_of}
use Rattle.dict_index.specs.Meaning.{IsReadEdition}
use Rattle.dict_catalogue.specs.Commands.{Command, install, rollback, retire, put_virtual, place}
use Rattle.dict_catalogue.specs.Steps.{CommandRequest}
use Rattle.dict_catalogue.specs.Views.{names_shown}
use Rattle.dict_catalogue.specs.declared.reply.Kept.{Kept}
use Rattle.dict_desk.specs.AllApplied.{AreApplied}
use Rattle.dict_desk.specs.declared.fault.Fault.{Fault}
use Rattle.store_fixtures.specs.declared.asked.Asked.{Asked}
use Rattle.store_fixtures.specs.declared.asked.Asked.TheVariants.{Install, Rollback, Retire, Put, Place}
use Rattle.store_fixtures.specs.declared.asked.Source.{Source}
use Rattle.store_fixtures.specs.declared.asked.Source.TheVariants.{Gems, Ores, Words, More, Alike}

-- the place of an edition among all, from 0
abbrev pub source_place : Source → ℕ
source_place Gems = 0
source_place Ores = 1
source_place Words = 2
source_place More = 3
source_place Alike = 4

-- each of these editions was read of its own index and its text, in this order
pub record AreReadOf (sources : List (List ℕ × List ℕ)) (editions : List ReadEdition) : Type 0 where
  pub each : AllZip (λ source edition. IsReadEdition source.0 source.1 edition) sources editions

-- the edition is installed under this name; where there is none, the item of no name is taken out, which no catalogue has
abbrev pub install_asked : List ℕ → Option ReadEdition → Command Edition
install_asked name (Some reading) = install name (edition_of reading)
install_asked name None = retire []

-- the command, where these are the editions
abbrev pub command_asked : List ReadEdition → Asked → Command Edition
command_asked editions (Install name source) = install_asked name.now (slice_get editions (source_place source))
command_asked editions (Rollback name) = rollback name.now
command_asked editions (Retire name) = retire name.now
command_asked editions (Put name title members) = put_virtual name.now title.now (names_shown members.now)
command_asked editions (Place name at) = place name.now at

abbrev pub request_asked : List ReadEdition → Bor (List ℕ) × Asked → CommandRequest
request_asked editions one = record { id = one.0.now; command = command_asked editions one.1 }

-- the commands in order, each under the id of its request
abbrev pub requests_asked : List ReadEdition → List (Bor (List ℕ) × Asked) → List CommandRequest
requests_asked editions asked = map (request_asked editions) asked

module _ {K : Type 0} (applies : K → CommandRequest → Result Kept Fault → K → Type 0) where
  -- each of the commands was answered by a reply
  abbrev pub AreAccepted : K → List CommandRequest → K → Type 0
  AreAccepted old requests new = (replies : List Kept) × AreApplied applies old requests (map Ok replies) new

  -- those before one of them were, and that one was answered by this fault
  pub record FailsBehind (old : K) (requests : List CommandRequest) (fault : Fault) (new : K) : Type 0 where
    pub front : List CommandRequest
    pub request : CommandRequest
    pub rest : List CommandRequest
    pub split : requests ≡ front ++ request ∷ rest
    pub between : K
    pub accepted : AreAccepted old front between
    pub failed : applies between request (Err fault) new
