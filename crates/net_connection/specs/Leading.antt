-- Where the events lead that a driver hands to its hub.
use Rattle.std.specs.Prelude.{◌⊎◌, List, Option}
use Rattle.dict_catalogue.specs.Steps.{Catalogue}
use Rattle.net_hub.specs.Runs.{State, Standing, Accepted, IsAt, Leads}
use Rattle.net_hub.specs.Durable.{LeavesWhatItShows, OneIsClosed}
use Rattle.net_hub.specs.declared.hub.Hub.{Hub}

-- There is a list of accepted events that leads from this state, and what the desk stood at, to what the hub is at now and what
-- its desk stands at, and of which this holds. Where a stop left what the desk showed, and no other catalogue, it does so again, with all
-- that was acknowledged; or the desk is closed behind one of them.
pub record HasLed (Shows : Catalogue → Type 0) (Leaves : List (Option Catalogue) → Type 0) (hub : Hub) (origin : State) (start : Standing) (Holds : List Accepted → Type 0) : Type 0 where
  pub events : List Accepted
  pub state : State
  pub stands : Standing
  pub leads : Leads origin start events state stands
  pub lasts : LeavesWhatItShows start → LeavesWhatItShows stands ⊎ OneIsClosed events
  pub is_at : IsAt hub state
  pub shows : Shows stands.catalogue
  pub leaves : Leaves stands.leaves
  pub holds : Holds events

-- Whatever state the hub was at before, and whatever its desk stood at: accepted events, of which this holds, have led to what they
-- are now. This is told where what the desk stands on has returned what was written to it
pub record HasLedOn (Trusted : Type 0) (Showed : Catalogue → Type 0) (Left : List (Option Catalogue) → Type 0) (Shows : Catalogue → Type 0) (Leaves : List (Option Catalogue) → Type 0)
    (old new : Hub) (Holds : List Accepted → Type 0) : Type 0 where
  pub led : Trusted → (origin : State) (start : Standing) → IsAt old origin → Showed start.catalogue → Left start.leaves → HasLed Shows Leaves new origin start Holds
