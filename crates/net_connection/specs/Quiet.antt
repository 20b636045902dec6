-- What a turn leaves of its desk where nothing is looked up for its events.
use Rattle.std.specs.Prelude.{◌≡◌, false, List, [], ◌∷◌, Option, ⊤}
use Rattle.net_hub.specs.Events.{id_of, is_of_editor, IsQuiet}
use Rattle.net_hub.specs.Holding.{Holding}
use Rattle.net_hub.specs.Hubs.{HasHolding}
use Rattle.net_hub.specs.Runs.{Accepted}
use Rattle.net_hub.specs.declared.hub.Hub.{Hub}
use Rattle.net_hub.specs.declared.kind.Kind.{Kind}

-- nothing is looked up for these events, by what this hub has of the connection of each, and at the catalogue before it
abbrev pub AreQuiet : Hub → List Accepted → Type 0
AreQuiet hub [] = ⊤
AreQuiet hub (one ∷ events) = ((held : Option Holding) × HasHolding hub (id_of one.what) held × IsQuiet one.before.catalogue held one.what) × AreQuiet hub events

-- where nothing is looked up for them, the desk is the same
abbrev pub StaysIfQuiet : {K : Type 0} → Hub → K → K → List Accepted → Type 0
StaysIfQuiet hub old new events = AreQuiet hub events → new ≡ old

-- The same of the events of a connection of this kind where it is a reader's. For an editor's the desk may be told what comes, and prepare
-- that
abbrev pub StaysForReader : {K : Type 0} → Kind → Hub → K → K → List Accepted → Type 0
StaysForReader kind hub old new events = is_of_editor kind ≡ false → AreQuiet hub events → new ≡ old
