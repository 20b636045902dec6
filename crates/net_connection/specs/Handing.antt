-- What was read of a connection and isn't handed to the hub yet.
use Rattle.std.specs.Prelude.{ℕ, ◌==◌, ◌&&◌, Bool, not, List, drop, length, if◌then◌else◌}
use Rattle.net_hub.specs.Events.{is_of_editor}
use Rattle.net_connection.specs.Stages.{is_open}
use Rattle.net_connection.specs.declared.connection.Connection.{Connection}
use Rattle.net_connection.specs.declared.held.Held.{Held}

-- these octets, in order
abbrev pub held_in : Held → List ℕ
held_in held = drop held.handed held.octets.items

-- there are none
abbrev pub is_handed : Held → Bool
is_handed held = length (held_in held) == 0

-- there are some, of an editor's connection: another connection's command comes first, or what they complete is prepared
abbrev pub is_held_back : Held → Bool
is_held_back held = is_of_editor held.kind && not (is_handed held)

-- for how many turns they are held back by now
abbrev pub turns_held : Held → ℕ
turns_held held = if is_held_back held then held.waited else 0

-- so it is of an open connection
abbrev pub held_for : {T : Type 0} → Connection T → ℕ
held_for one = if is_open one.stage then turns_held one.held else 0

-- they are held back, and the desk was told of what they complete
abbrev pub are_told : Held → Bool
are_told held = is_held_back held && held.is_foreseen

-- for how many turns they may be held back while that is prepared: so many are left, and 1,000,000 before the desk was told
abbrev pub turns_for : Bool → ℕ → ℕ
turns_for told left = if told then left else 1_000_000
