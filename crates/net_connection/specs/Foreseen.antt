-- Why octets are held back, and what is handed to the hub behind such ones.
use Rattle.std.specs.Prelude.{◌≡◌, ◌<◌, ◌+◌, ◌-◌, ◌^◌, ℕ, Bool, true, false, min, List, [], ◌∷◌, Option, Ok, Result, ⊤}
use Rattle.dict_desk.specs.declared.fault.Fault.{Fault}
use Rattle.dict_desk.specs.Expected.{Expected}
use Rattle.http_service.specs.Foreseeing.{AsksForChange}
use Rattle.net_hub.specs.Events.{Happening, opened, came, ended, is_of_editor}
use Rattle.net_hub.specs.Foreseen.{AreForeseen, MakeCommand}
use Rattle.net_hub.specs.Holding.{Holding}
use Rattle.net_hub.specs.Hubs.{HasHolding}
use Rattle.net_hub.specs.Runs.{Accepted}
use Rattle.net_hub.specs.declared.hub.Hub.{Hub}
use Rattle.net_hub.specs.declared.kind.Kind.{Kind}
use Rattle.net_connection.specs.Handing.{are_told, held_in, is_held_back, turns_for, turns_held}
use Rattle.net_connection.specs.Stages.{is_open}
use Rattle.net_connection.specs.declared.connection.Connection.{Connection}
use Rattle.net_connection.specs.declared.held.Held.{Held}

-- behind what the hub has of the connection of this id, these octets make a change whole, and this desk was told of it, which left that one
abbrev pub AreToldOf : {K : Type 0} → (K → Expected → K → Type 0) → Hub → ℕ → List ℕ → K → K → Type 0
AreToldOf foresees hub id octets old new = (held : Option Holding) → HasHolding hub id held → AreForeseen foresees AsksForChange held octets old new

-- behind that they make a command whole: a request that changes the catalogue
abbrev pub AreCommand : Hub → ℕ → List ℕ → Type 0
AreCommand hub id octets = (held : Option Holding) → HasHolding hub id held → MakeCommand held octets

-- for how many turns more they may be held back, once they were for this one: as many where they wait for another connection's command,
-- and else fewer
abbrev pub AreLeft : Bool → ℕ → ℕ → Type 0
AreLeft true before after = after ≡ before
AreLeft false before after = after < before

module _ {K : Type 0} (foresees : K → Expected → K → Type 0) (prepares : K → Result Bool Fault → K → Type 0) where
  -- Octets are held back in a turn over this desk, which left that one. Where another connection's command comes first (`behind`), they
  -- make one whole, and the desk was asked nothing. Else, where it was told of them before (`told`), all that it was asked is to prepare a
  -- part, and there is more to prepare; and where it wasn't, it was told of what they make whole, and this was asked right behind that
  abbrev pub HoldsBackBy : Bool → Bool → Hub → K → K → ℕ → List ℕ → Type 0
  HoldsBackBy true told hub old new id octets = (new ≡ old) × AreCommand hub id octets
  HoldsBackBy false true hub old new id octets = prepares old (Ok true) new
  HoldsBackBy false false hub old new id octets = (told : K) × AreToldOf foresees hub id octets old told × prepares told (Ok true) new

  -- the same of what is held, with how many turns are left for it and for how many it is held back, by what these were before
  pub record HoldsStill (behind told : Bool) (left turns : ℕ) (hub : Hub) (old new : K) (id : ℕ) (held : Held) : Type 0 where
    pub by : HoldsBackBy behind told hub old new id (held_in held)
    pub left_over : AreLeft behind (turns_for told left) (turns_for (are_told held) held.turns_left)
    pub counted : held.waited ≡ min (turns + 1) (2 ^ 64 - 1)

  -- where octets are held back of a connection that stays open, it is so
  abbrev pub HoldsBack : {T : Type 0} → Bool → Hub → K → K → Connection T → Connection T → Type 0
  HoldsBack behind hub from to old new = is_open new.stage ≡ true → is_held_back new.held ≡ true
      → HoldsStill behind (are_told old.held) old.held.turns_left (turns_held old.held) hub from to old.id new.held

-- the event makes no command whole, behind what this hub has of its connection
abbrev pub IsNoCommand : Hub → Happening → Type 0
IsNoCommand hub (opened id kind) = ⊤
IsNoCommand hub (came id octets) = (held : Option Holding) → HasHolding hub id held → ¬ MakeCommand held octets
IsNoCommand hub (ended id) = ⊤

-- so it is of each
abbrev pub AreNoCommands : Hub → List Accepted → Type 0
AreNoCommands hub [] = ⊤
AreNoCommands hub (one ∷ events) = IsNoCommand hub one.what × AreNoCommands hub events

-- where another connection's command comes first, a turn of an editor's hands the hub none
abbrev pub KeepsOrder : Bool → Kind → Hub → List Accepted → Type 0
KeepsOrder behind kind hub events = behind ≡ true → is_of_editor kind ≡ true → AreNoCommands hub events
