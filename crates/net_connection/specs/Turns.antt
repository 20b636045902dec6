-- What a turn of one connection does. Of a transport in memory the octets that it took and that it gives, and the calls that were
-- made of it, are known. Of a socket they aren't (`None`), so nothing is claimed of them: that a socket carries what it took, and
-- gives what its peer sent, is shown by tests alone.
use Rattle.std.specs.Prelude.{◌≡◌, ◌⊎◌, ◌&&◌, ◌||◌, ◌<◌, ◌+◌, ◌-◌, ◌^◌, ℕ, min, Bool, true, false, All, length, List, [], ◌∷◌, ◌++◌, Option, if◌then◌else◌}
use Rattle.std.specs.Io.KnownBytes.{Appends, Consumes, Keeps}
use Rattle.net_hub.specs.Events.{opened, came, ended, is_of_editor}
use Rattle.net_hub.specs.Holding.{left_by}
use Rattle.net_hub.specs.Hubs.{HasHolding}
use Rattle.net_hub.specs.Runs.{Accepted}
use Rattle.net_hub.specs.declared.kind.Kind.{Kind}
use Rattle.net_outlet.specs.Outlets.{FailsOnlyStuck, PassesOctets, is_sending}
use Rattle.net_outlet.specs.Queues.{waiting, is_clear, counts_of}
use Rattle.net_connection.specs.Stages.{is_open, is_finishing, stage_of_new, stage_answered, parted, stage_finished, drained}
use Rattle.net_outlet.specs.OutletCalls.{Call, sends, MakesCalls, count_received, has_come}
use Rattle.net_connection.specs.Calls.{calls_behind, sendings, endings, reading_calls, is_dropped, calls_of_turn, has_departed, has_turned}
use Rattle.net_connection.specs.Events.{ArePut, AreEventsOf, pieces_of}
use Rattle.net_connection.specs.Handing.{held_in, is_handed}
use Rattle.net_connection.specs.Pieces.{next_piece, behind_piece}
use Rattle.net_connection.specs.Ordering.{AreOfTurns, IsOnly}
use Rattle.net_connection.specs.Causes.{CountOn}
use Rattle.net_hub.specs.declared.hub.Hub.{Hub}
use Rattle.net_connection.specs.declared.connection.Connection.{Connection}
use Rattle.net_outlet.specs.declared.calls.Sent.{Sent}
use Rattle.net_outlet.specs.declared.calls.Sent.TheVariants as sents
use Rattle.net_outlet.specs.declared.calls.Received.{Received}
use Rattle.net_outlet.specs.declared.calls.Received.TheVariants as receiveds
use Rattle.net_connection.specs.declared.stage.Stage.{Stage}
use Rattle.net_connection.specs.declared.stage.Stage.TheVariants as stages

-- the events brought these octets, or none
abbrev pub BringAllOrNone : List ℕ → List Accepted → Type 0
BringAllOrNone octets events = (pieces_of events ≡ octets) ⊎ (pieces_of events ≡ [])

-- a reading is made: all that was read is handed, and a reading may give something
abbrev pub may_read : {T : Type 0} → Connection T → Bool
may_read one = is_handed one.held && one.may_receive

-- nothing is to be done: all that was read is handed, and a reading gave nothing
abbrev pub HasNothingToDo : {T : Type 0} → Connection T → Type 0
HasNothingToDo one = (one.may_receive ≡ false) × (held_in one.held ≡ [])

-- These octets were handed to the hub, or none, in events of this connection alone. What the events put waits behind what waited
-- before, what is held is as before, no more calls have failed, and the transport was asked nothing
pub record HandsToHub {T : Type 0} (octets : List ℕ) (old new : Connection T) (events : List Accepted) : Type 0 where
  pub id : new.id ≡ old.id
  pub transport : new.transport ≡ old.transport
  pub may_receive : new.may_receive ≡ old.may_receive
  pub held : new.held ≡ old.held
  pub was_open : is_open new.stage ≡ true → is_open old.stage ≡ true
  pub own : AreEventsOf old.id events
  pub are_turns : AreOfTurns events
  pub put : List ℕ
  pub are_put : ArePut events put
  pub order : waiting new.queue ≡ waiting old.queue ++ put
  pub failures : new.queue.failures ≡ old.queue.failures
  pub pieces : BringAllOrNone octets events
  pub handed : is_open new.stage ≡ true → pieces_of events ≡ octets

-- Of these octets the first piece was handed to the hub, or none, in events of this connection alone, and the rest is held while the
-- connection is open. What the events put waits behind what waited before, of which the transport may have taken a front at once.
-- Where more calls of the sink have failed than before, as many octets wait as may and the transport was asked last and took none, or
-- octets found no room since memory was short
pub record HandsOver {T : Type 0} (taken coming : T → Option (List ℕ)) (made : T → Option (List Call)) (octets : List ℕ) (old new : Connection T) (events : List Accepted) : Type 0 where
  pub id : new.id ≡ old.id
  pub may_receive : new.may_receive ≡ old.may_receive
  pub kind : new.held.kind ≡ old.held.kind
  pub was_open : is_open new.stage ≡ true → is_open old.stage ≡ true
  pub own : AreEventsOf old.id events
  pub are_turns : AreOfTurns events
  pub put : List ℕ
  pub are_put : ArePut events put
  pub passes : PassesOctets taken coming made old.transport new.transport (waiting old.queue) (waiting new.queue) put
  pub stuck : FailsOnlyStuck (made old.transport) (made new.transport) old.queue new.queue
  pub pieces : BringAllOrNone (next_piece old.held.kind octets) events
  pub handed : is_open new.stage ≡ true → pieces_of events ++ held_in new.held ≡ octets

-- the hub was told the first piece of these octets, the rest is held, and the stage is that of its answer; or it refused the piece, for
-- a cause by which octets of this id and kind were refused, was told the end, and the connection is over
abbrev pub LeadsByAnswer : {T : Type 0} → (ℕ → Kind → Type 0) → List ℕ → Connection T → Connection T → List Accepted → Type 0
LeadsByAnswer refused octets old new events =
    ((one : Accepted) × (events ≡ one ∷ []) × (one.what ≡ came old.id (next_piece old.held.kind octets)) × (held_in new.held ≡ behind_piece old.held.kind octets)
    × (new.stage ≡ stage_answered one.out old.stage))
    ⊎ (refused old.id old.held.kind × IsOnly (ended old.id) events × (new.stage ≡ stages.Over))

-- the hub was told nothing, and these octets of an editor are held back
abbrev pub AreHeldBack : {T : Type 0} → List ℕ → Connection T → Connection T → List Accepted → Type 0
AreHeldBack octets old new events = (is_of_editor old.held.kind ≡ true) × (events ≡ []) × (held_in new.held ≡ octets) × (new.stage ≡ old.stage)

-- one or the other
abbrev pub LeadsByPiece : {T : Type 0} → (ℕ → Kind → Type 0) → List ℕ → Connection T → Connection T → List Accepted → Type 0
LeadsByPiece refused octets old new events = LeadsByAnswer refused octets old new events ⊎ AreHeldBack octets old new events

-- the hub was told the end and nothing else, and this is the stage
abbrev pub LeadsByEnd : {T : Type 0} → Stage → Connection T → Connection T → List Accepted → Type 0
LeadsByEnd stage old new events = IsOnly (ended old.id) events × (new.stage ≡ stage)

-- the hub was told nothing, and the stage and what is held are as before
abbrev pub LeadsNowhere : {T : Type 0} → Connection T → Connection T → List Accepted → Type 0
LeadsNowhere old new events = (events ≡ []) × (new.stage ≡ old.stage) × (held_in new.held ≡ held_in old.held)

-- Where a reading leads, by which these octets came: the answer to their first piece leads on, or to a close, or they are held back; the
-- end of the peer's side leads to one that is over, once all is sent; a failure to one that is over
abbrev pub LeadsByReading : {T : Type 0} → (ℕ → Kind → Type 0) → Received → List ℕ → Connection T → Connection T → List Accepted → Type 0
LeadsByReading refused receiveds.Nothing octets old new events = LeadsNowhere old new events × (new.may_receive ≡ false)
LeadsByReading refused receiveds.Interrupted octets old new events = LeadsNowhere old new events × (new.may_receive ≡ old.may_receive)
LeadsByReading refused (receiveds.Octets count) octets old new events = LeadsByPiece refused octets old new events × (new.may_receive ≡ old.may_receive)
LeadsByReading refused receiveds.End octets old new events = LeadsByEnd (parted (is_clear new.queue)) old new events
LeadsByReading refused receiveds.Failed octets old new events = LeadsByEnd stages.Over old new events

-- where what was read leads: where something of it was held before, the answer to the next piece of that, unless it is held back, and
-- nothing is read; and where all was handed, a reading
abbrev pub LeadsFurther : {T : Type 0} → Bool → (ℕ → Kind → Type 0) → Received → List ℕ → Connection T → Connection T → List Accepted → Type 0
LeadsFurther false refused received octets old new events =
    LeadsByPiece refused (held_in old.held) old new events × (octets ≡ []) × (new.may_receive ≡ old.may_receive)
LeadsFurther true refused received octets old new events = LeadsByReading refused received octets old new events

-- where a turn leads: a sending that failed to a connection that is over, and each other where what was read does
abbrev pub LeadsByTurn : {T : Type 0} → (ℕ → Kind → Type 0) → Sent → Received → List ℕ → Connection T → Connection T → List Accepted → Type 0
LeadsByTurn refused sents.Failed received octets old new events = LeadsByEnd stages.Over old new events
LeadsByTurn refused sents.Nothing received octets old new events = LeadsFurther (is_handed old.held) refused received octets old new events
LeadsByTurn refused sents.Interrupted received octets old new events = LeadsFurther (is_handed old.held) refused received octets old new events
LeadsByTurn refused sents.Some received octets old new events = LeadsFurther (is_handed old.held) refused received octets old new events

-- A front of what waits was sent, which the transport took, by one call where something waits, which offers all of it; nothing was read
pub record SendsOnce {T : Type 0} (taken coming : T → Option (List ℕ)) (made : T → Option (List Call)) (old new : Connection T) (sending : Sent) : Type 0 where
  pub id : new.id ≡ old.id
  pub stage : new.stage ≡ old.stage
  pub may_receive : new.may_receive ≡ old.may_receive
  pub held : new.held ≡ old.held
  pub dropped : new.dropped ≡ old.dropped
  pub failures : new.queue.failures ≡ old.queue.failures
  pub refused : (counts_of new.queue).refused ≡ (counts_of old.queue).refused
  pub sent : List ℕ
  pub takes : Appends (taken old.transport) (taken new.transport) sent
  pub order : sent ++ waiting new.queue ≡ waiting old.queue
  pub comes : Keeps (coming old.transport) (coming new.transport)
  pub calls : MakesCalls (made old.transport) (made new.transport) (sendings (length (waiting old.queue)) sending)
  pub idle : is_clear old.queue ≡ true → sending ≡ sents.Nothing

-- Of what came, by one call where a reading may give something, the first piece was handed to the hub, or none, and the rest is held
-- while the connection is open; and then the transport was asked no more than to take octets, 1,048,576 each time, and not even that
-- while fewer of them were there. Where more calls of the sink have failed than before, as many octets wait as may and the transport was
-- asked last, behind the reading, and took none, or octets found no room since memory was short
pub record ReadsOnce {T : Type 0} (taken coming : T → Option (List ℕ)) (made : T → Option (List Call)) (refused : ℕ → Kind → Type 0) (old new : Connection T) (reading : Received) (events : List Accepted) : Type 0 where
  pub id : new.id ≡ old.id
  pub kind : new.held.kind ≡ old.held.kind
  pub was_open : is_open new.stage ≡ true → is_open old.stage ≡ true
  pub own : AreEventsOf old.id events
  pub are_turns : AreOfTurns events
  pub sent : List ℕ
  pub takes : Appends (taken old.transport) (taken new.transport) sent
  pub put : List ℕ
  pub are_put : ArePut events put
  pub order : sent ++ waiting new.queue ≡ waiting old.queue ++ put
  pub received : List ℕ
  pub gives : Consumes (coming old.transport) (coming new.transport) received
  pub pieces : BringAllOrNone (next_piece old.held.kind received) events
  pub handed : is_open new.stage ≡ true → pieces_of events ++ held_in new.held ≡ received
  pub within : List Call
  pub sendings : All (λ call. is_sending call ≡ true) within
  pub calls : MakesCalls (made old.transport) (made new.transport) (reading_calls old.may_receive reading ++ within)
  pub stuck : FailsOnlyStuck (calls_behind (made old.transport) (reading_calls old.may_receive reading)) (made new.transport) old.queue new.queue
  pub lazy : length (waiting old.queue) + length put < 1048576 → (sent ≡ []) × (within ≡ [])
  pub unmarked : old.may_receive ≡ false → reading ≡ receiveds.Nothing
  pub leads : LeadsByReading refused reading received old new events

-- A turn of an open connection, by which nothing is dropped. The events are of this connection alone. What waited and what they put: a front of it is sent, which
-- the transport took, and the rest waits. What was held and what came: its first piece was handed to the hub while the connection is
-- open, unless it is held back, and else that or none; and the rest is held while it is open. The calls are a sending of all that waits,
-- where something does, then a reading, where one may give something and nothing was held, and within the event sendings again, once 1,048,576 octets
-- are there; and what the first two came to, and the hub's answer, tells the stage. Where more calls of the sink have failed than before,
-- as many octets wait as may and the last of those within the event took none, or octets found no room since memory was short. Something
-- happened, or a turn is to be had again at once, where something was held, and else as it is told by what the two came to
pub record Turns {T : Type 0} (taken coming : T → Option (List ℕ)) (made : T → Option (List Call)) (refused : ℕ → Kind → Type 0) (old new : Connection T) (moved : Bool) (events : List Accepted) : Type 0 where
  pub id : new.id ≡ old.id
  pub kind : new.held.kind ≡ old.held.kind
  pub was_open : is_open new.stage ≡ true → is_open old.stage ≡ true
  pub own : AreEventsOf old.id events
  pub are_turns : AreOfTurns events
  pub sent : List ℕ
  pub takes : Appends (taken old.transport) (taken new.transport) sent
  pub put : List ℕ
  pub are_put : ArePut events put
  pub order : sent ++ waiting new.queue ≡ waiting old.queue ++ put
  pub received : List ℕ
  pub gives : Consumes (coming old.transport) (coming new.transport) received
  pub pieces : BringAllOrNone (next_piece old.held.kind (held_in old.held ++ received)) events
  pub handed : is_open new.stage ≡ true → pieces_of events ++ held_in new.held ≡ held_in old.held ++ received
  pub sending : Sent
  pub reading : Received
  pub within : List Call
  pub sendings : All (λ call. is_sending call ≡ true) within
  pub calls : MakesCalls (made old.transport) (made new.transport) (calls_of_turn (length (waiting old.queue)) (may_read old) sending reading ++ within)
  pub stuck : FailsOnlyStuck (calls_behind (made old.transport) (calls_of_turn (length (waiting old.queue)) (may_read old) sending reading)) (made new.transport) old.queue new.queue
  pub lazy : length (waiting old.queue) + length put < 1048576 → within ≡ []
  pub idle : is_clear old.queue ≡ true → sending ≡ sents.Nothing
  pub unmarked : may_read old ≡ false → reading ≡ receiveds.Nothing
  pub leads : LeadsByTurn refused sending reading received old new events
  pub dropped : new.dropped ≡ old.dropped
  pub has_moved : moved ≡ has_turned (is_handed old.held) sending reading

-- A connection was opened under this id: its stage is that of the hub's answer, the hub has it then as one of which nothing came,
-- unless it is closed; what the event put waits, and the failures that it tells are those that its queue counts
abbrev pub IsOpened : {T : Type 0} → ℕ → Kind → Hub → Connection T → List Accepted → Type 0
IsOpened id kind hub one events = (accepted : Accepted) × (events ≡ accepted ∷ []) × (accepted.what ≡ opened id kind) × (one.stage ≡ stage_of_new accepted.out)
    × HasHolding hub id (left_by kind [] accepted.out) × ArePut events (waiting one.queue) × CountOn 0 one.queue.failures events

-- the stage once nothing waits, and before that the same
abbrev pub stage_between : Bool → Stage → Bool → Stage
stage_between is_clear before is_told = if is_clear then stage_finished before is_told else before

-- the stage after a reading of what is dropped, where one is made
abbrev pub stage_drained : Bool → ℕ → Received → Stage → Stage
stage_drained is_read most reading before = if is_read then drained most reading else before

-- how many octets are dropped then
abbrev pub dropped_after : Bool → Received → ℕ → ℕ
dropped_after is_read reading before = if is_read then min (before + count_received reading) (2 ^ 64 - 1) else before

-- whether a reading may still give something: not after one by which nothing came
abbrev pub marked_after : Bool → Received → Bool → Bool
marked_after false reading before = before
marked_after true receiveds.Nothing before = false
marked_after true receiveds.Interrupted before = true
marked_after true (receiveds.Octets count) before = true
marked_after true receiveds.End before = true
marked_after true receiveds.Failed before = true

-- once nothing waits, the peer of one that the hub closed is told so
pub record TellsClosedPeer {T : Type 0} (taken coming : T → Option (List ℕ)) (made : T → Option (List Call)) (old new : Connection T) (moved : Bool) : Type 0 where
  pub id : new.id ≡ old.id
  pub queue : new.queue ≡ old.queue
  pub may_receive : new.may_receive ≡ old.may_receive
  pub dropped : new.dropped ≡ old.dropped
  pub takes : Keeps (taken old.transport) (taken new.transport)
  pub comes : Keeps (coming old.transport) (coming new.transport)
  pub is_told : Bool
  pub calls : MakesCalls (made old.transport) (made new.transport) (endings (is_clear old.queue) old.stage is_told)
  pub stage : new.stage ≡ stage_between (is_clear old.queue) old.stage is_told
  pub has_moved : moved ≡ (is_clear old.queue && is_finishing old.stage)

-- once the peer is told so, what comes is read and dropped
pub record Drains {T : Type 0} (taken coming : T → Option (List ℕ)) (made : T → Option (List Call)) (old new : Connection T) (moved : Bool) : Type 0 where
  pub id : new.id ≡ old.id
  pub queue : new.queue ≡ old.queue
  pub takes : Keeps (taken old.transport) (taken new.transport)
  pub received : List ℕ
  pub gives : Consumes (coming old.transport) (coming new.transport) received
  pub reading : Received
  pub calls : MakesCalls (made old.transport) (made new.transport) (reading_calls (is_dropped old.stage old.may_receive) reading)
  pub stage : new.stage ≡ stage_drained (is_dropped old.stage old.may_receive) (84_934_656 - old.dropped) reading old.stage
  pub dropped : new.dropped ≡ dropped_after (is_dropped old.stage old.may_receive) reading old.dropped
  pub may_receive : new.may_receive ≡ marked_after (is_dropped old.stage old.may_receive) reading old.may_receive
  pub has_moved : moved ≡ (is_dropped old.stage old.may_receive && has_come reading)

-- where a turn leads that is no longer open
abbrev pub LeadsOut : {T : Type 0} → (T → Option (List Call)) → Sent → Bool → Received → Connection T → Connection T → Type 0
LeadsOut made sending is_told reading old new =
    let between = stage_between (is_clear new.queue) old.stage is_told in
    let is_read = is_dropped between old.may_receive in
    MakesCalls (made old.transport) (made new.transport) (sendings (length (waiting old.queue)) sending ++ (endings (is_clear new.queue) old.stage is_told ++ reading_calls is_read reading))
    × (new.stage ≡ stage_drained is_read (84_934_656 - old.dropped) reading between) × (new.dropped ≡ dropped_after is_read reading old.dropped)
    × (new.may_receive ≡ marked_after is_read reading old.may_receive)

-- the same, where the sending may have failed
abbrev pub LeadsAway : {T : Type 0} → (T → Option (List Call)) → Sent → Bool → Received → Connection T → Connection T → Type 0
LeadsAway made sents.Failed is_told reading old new = MakesCalls (made old.transport) (made new.transport) (sends (length (waiting old.queue)) sents.Failed ∷ []) × (new.stage ≡ stages.Over)
LeadsAway made sents.Nothing is_told reading old new = LeadsOut made sents.Nothing is_told reading old new
LeadsAway made sents.Interrupted is_told reading old new = LeadsOut made sents.Interrupted is_told reading old new
LeadsAway made sents.Some is_told reading old new = LeadsOut made sents.Some is_told reading old new

-- A turn of a connection that is no longer open, of which the hub is told nothing: a front of what waited is sent; once nothing waits,
-- the peer of one that the hub closed is told so, and then what comes is read and dropped, up to 84,934,656 octets and its end. A
-- sending that failed, or an end that can't be told, leads to one that is over
pub record Departs {T : Type 0} (taken coming : T → Option (List ℕ)) (made : T → Option (List Call)) (old new : Connection T) (moved : Bool) : Type 0 where
  pub id : new.id ≡ old.id
  pub closed : is_open old.stage ≡ false → is_open new.stage ≡ false
  pub sent : List ℕ
  pub takes : Appends (taken old.transport) (taken new.transport) sent
  pub order : sent ++ waiting new.queue ≡ waiting old.queue
  pub received : List ℕ
  pub gives : Consumes (coming old.transport) (coming new.transport) received
  pub sending : Sent
  pub is_told : Bool
  pub reading : Received
  pub idle : is_clear old.queue ≡ true → sending ≡ sents.Nothing
  pub leads : LeadsAway made sending is_told reading old new
  pub has_moved : moved ≡ has_departed sending (is_clear new.queue && is_finishing old.stage)
      (is_dropped (stage_between (is_clear new.queue) old.stage is_told) old.may_receive && has_come reading)

-- the same connection, of which a reading may give something now, where this is so
abbrev pub marked : {T : Type 0} → Bool → Connection T → Connection T
marked is_told one = record one { may_receive = is_told || one.may_receive }
