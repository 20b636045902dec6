-- How far a connection has come, and what leads it on.
use Rattle.std.specs.Prelude.{ℕ, nat_le, Bool, true, false, if◌then◌else◌}
use Rattle.net_hub.specs.declared.incoming.Out.{Out}
use Rattle.net_hub.specs.declared.incoming.Out.TheVariants as outs
use Rattle.net_connection.specs.declared.stage.Stage.{Stage}
use Rattle.net_connection.specs.declared.stage.Stage.TheVariants.{Open, Closing, Parting, Draining, Over}
use Rattle.net_outlet.specs.declared.calls.Received.{Received}
use Rattle.net_outlet.specs.declared.calls.Received.TheVariants.{Nothing, Interrupted, Octets, End, Failed}

-- what comes on it goes to the hub
abbrev pub is_open : Stage → Bool
is_open Open = true
is_open Closing = false
is_open Parting = false
is_open Draining = false
is_open Over = false

-- its socket is still held
abbrev pub is_held : Stage → Bool
is_held Open = true
is_held Closing = true
is_held Parting = true
is_held Draining = true
is_held Over = false

-- what comes on it goes to nobody, and its socket is still held
abbrev pub is_departing : Stage → Bool
is_departing Open = false
is_departing Closing = true
is_departing Parting = true
is_departing Draining = true
is_departing Over = false

-- the stage of a new connection, by the hub's answer to its opening: one that is closed got no whole greeting
abbrev pub stage_of_new : Out → Stage
stage_of_new outs.More = Open
stage_of_new outs.Close = Over

-- the stage by the hub's answer to octets: it goes on, or it is closed once all is sent that was put
abbrev pub stage_answered : Out → Stage → Stage
stage_answered outs.More before = before
stage_answered outs.Close before = Closing

-- the stage where the peer ended its side: what waits is still sent
abbrev pub parted : Bool → Stage
parted is_clear = if is_clear then Over else Parting

-- the stage of a connection that is no longer open, for which nothing waits any more: one that the hub closed is told so, which
-- succeeds or doesn't; and where the peer ended its side it is over
abbrev pub stage_finished : Stage → Bool → Stage
stage_finished Open is_told = Open
stage_finished Closing is_told = if is_told then Draining else Over
stage_finished Parting is_told = Over
stage_finished Draining is_told = Draining
stage_finished Over is_told = Over

-- once nothing waits for it, its stage is another
abbrev pub is_finishing : Stage → Bool
is_finishing Open = false
is_finishing Closing = true
is_finishing Parting = true
is_finishing Draining = false
is_finishing Over = false

-- the stage after a reading of what is dropped, of which this many octets may still come
abbrev pub drained : ℕ → Received → Stage
drained most Nothing = Draining
drained most Interrupted = Draining
drained most (Octets n) = if nat_le n most then Draining else Over
drained most End = Over
drained most Failed = Over
