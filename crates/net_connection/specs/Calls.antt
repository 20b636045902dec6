-- Which calls of its transport a turn makes.
use Rattle.std.specs.Prelude.{ℕ, Bool, true, false, List, [], ◌∷◌, ◌++◌, ◌==◌, ◌||◌, Option, None, Some, if◌then◌else◌}
use Rattle.net_outlet.specs.OutletCalls.{Call, sends, receives, ends, has_moved}
use Rattle.net_outlet.specs.declared.calls.Sent.{Sent}
use Rattle.net_outlet.specs.declared.calls.Sent.TheVariants as sents
use Rattle.net_outlet.specs.declared.calls.Received.{Received}
use Rattle.net_connection.specs.declared.stage.Stage.{Stage}
use Rattle.net_connection.specs.declared.stage.Stage.TheVariants as stages

-- the calls before, where they are known, and these behind them
abbrev pub calls_behind : Option (List Call) → List Call → Option (List Call)
calls_behind None calls = None
calls_behind (Some before) calls = Some (before ++ calls)

-- where so many octets wait and they aren't none, a sending is made, which offers all of them
abbrev pub sendings : ℕ → Sent → List Call
sendings count sent = if count == 0 then [] else sends count sent ∷ []

-- a reading is made where one may give something, into a room of 65,536 octets
abbrev pub reading_calls : Bool → Received → List Call
reading_calls false received = []
reading_calls true received = receives 65536 received ∷ []

-- the calls of a turn: a sending of all that waits, where something does, and where it didn't fail a reading where one is to be made
abbrev pub calls_of_turn : ℕ → Bool → Sent → Received → List Call
calls_of_turn count may_read sents.Failed received = sendings count sents.Failed
calls_of_turn count may_read sents.Nothing received = sendings count sents.Nothing ++ reading_calls may_read received
calls_of_turn count may_read sents.Interrupted received = sendings count sents.Interrupted ++ reading_calls may_read received
calls_of_turn count may_read sents.Some received = sendings count sents.Some ++ reading_calls may_read received

-- a turn did something, or is to be had again at once: where something was held before; or else the sending or the reading tells so
abbrev pub has_turned : Bool → Sent → Received → Bool
has_turned false sent received = true
has_turned true sent received = has_moved sent received

-- a turn of one that is no longer open did something, or is to be had again at once: octets were taken or a sending failed or was
-- interrupted, or one of these is so
abbrev pub has_departed : Sent → Bool → Bool → Bool
has_departed sents.Nothing has_finished has_dropped = has_finished || has_dropped
has_departed sents.Interrupted has_finished has_dropped = true
has_departed sents.Some has_finished has_dropped = true
has_departed sents.Failed has_finished has_dropped = true

-- the peer is told that nothing more is sent, where the hub closed the connection and nothing waits
abbrev pub endings : Bool → Stage → Bool → List Call
endings false stage is_told = []
endings true stages.Open is_told = []
endings true stages.Closing is_told = ends is_told ∷ []
endings true stages.Parting is_told = []
endings true stages.Draining is_told = []
endings true stages.Over is_told = []

-- what comes is read and dropped
abbrev pub is_dropped : Stage → Bool → Bool
is_dropped stages.Open may_receive = false
is_dropped stages.Closing may_receive = false
is_dropped stages.Parting may_receive = false
is_dropped stages.Draining may_receive = may_receive
is_dropped stages.Over may_receive = false
