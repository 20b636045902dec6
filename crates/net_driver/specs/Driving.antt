-- The rounds of a driver, over the system's sockets. Of what these are asked, and of what they carry, nothing is known.
use Rattle.std.specs.Prelude.{ℕ, Bool, List, map, Option, None, Result, ⊤}
use Rattle.dict_desk.specs.declared.fault.Fault.{Fault}
use Rattle.std.specs.declared.io.Error.{Error}
use Rattle.mio.specs.Event.{event_token}
use Rattle.mio.specs.Events.{items}
use Rattle.dict_catalogue.specs.Steps.{Catalogue}
use Rattle.dict_desk.specs.Expected.{Expected}
use Rattle.net_driver.specs.Served.{AreRounds, Round}
use Rattle.net_driver.specs.declared.driver.Driver.{Driver}
use Rattle.net_driver.specs.declared.serving.RoundsEnd.{RoundsEnd}

-- By what a desk shows, what a stop may leave of it, what is beside the catalogue, that what it stands on has returned what was written, whether its last call failed and
-- it is closed, and what it was told of and prepared.
module _ {K Beside : Type 0} (Shows : K → Catalogue → Type 0) (LeavesOneOf : K → List (Option Catalogue) → Type 0) (KeepsBeside : K → Beside → Type 0) (IsTrusted : K → Type 0) (has_failed is_closed : K → Bool)
    (expects : K → Expected → K → Type 0) (prepares : K → Result Bool Fault → K → Type 0) where
  -- there are rounds, of so many that were to be made, that led from this driver and this desk to those
  abbrev pub AreDriven : ℕ → Driver → K → Driver → K → Result RoundsEnd Error → Type 0
  AreDriven rounds old desk new left result = (wait : ℕ) × (each : List (Round K _ _ _))
      × AreRounds Shows LeavesOneOf KeepsBeside IsTrusted has_failed is_closed expects prepares (λ transport. None) (λ transport. None) (λ transport. None) (λ hub id kind why. ⊤) (λ sockets. None)
      (λ sockets. map (λ event. (event_token event).0) (items sockets.events)) wait rounds old.event_loop desk new.event_loop left each result
