-- The calls of a transport, and what each came to.
use Rattle.std.specs.Prelude.{◌≡◌, ◌==◌, ℕ, Bool, true, false, List, ◌++◌, Option, None, Some, Result, Ok, Err, ⊤, if◌then◌else◌}
use Rattle.std.specs.IoError.{error_kind}
use Rattle.std.specs.declared.io.Error.{Error}
use Rattle.std.specs.declared.io.ErrorKind.{ErrorKind}
use Rattle.std.specs.declared.io.ErrorKind.TheVariants as kinds
use Rattle.net_outlet.specs.declared.calls.Sent.{Sent}
use Rattle.net_outlet.specs.declared.calls.Sent.TheVariants as sents
use Rattle.net_outlet.specs.declared.calls.Received.{Received}
use Rattle.net_outlet.specs.declared.calls.Received.TheVariants as receiveds

-- what a sending with an error of this kind came to: one that would wait took nothing, one that was interrupted took nothing and may be
-- made again at once, and with each other the transport failed
abbrev pub sent_by_kind : ErrorKind → Sent
sent_by_kind kinds.WouldBlock = sents.Nothing
sent_by_kind kinds.Interrupted = sents.Interrupted
sent_by_kind _ = sents.Failed

-- what a sending came to
abbrev pub sent_by : Result ℕ Error → Sent
sent_by (Ok count) = if count == 0 then sents.Nothing else sents.Some
sent_by (Err error) = sent_by_kind (error_kind error)

-- what a reading with an error of this kind came to
abbrev pub received_by_kind : ErrorKind → Received
received_by_kind kinds.WouldBlock = receiveds.Nothing
received_by_kind kinds.Interrupted = receiveds.Interrupted
received_by_kind _ = receiveds.Failed

-- what a reading came to: no octet is the end
abbrev pub received_by : Result ℕ Error → Received
received_by (Ok count) = if count == 0 then receiveds.End else receiveds.Octets count
received_by (Err error) = received_by_kind (error_kind error)

-- how many octets came
abbrev pub count_received : Received → ℕ
count_received receiveds.Nothing = 0
count_received receiveds.Interrupted = 0
count_received (receiveds.Octets n) = n
count_received receiveds.End = 0
count_received receiveds.Failed = 0

-- so many octets were offered to be sent, octets were to be received into a room of so many, or the peer was to be told that nothing more
-- is sent, which succeeded or didn't
pub data Call : Type 0 where
  sends : ℕ → Sent → Call
  receives : ℕ → Received → Call
  ends : Bool → Call

-- these calls were made after those before, where the calls are known
abbrev pub MakesCalls : Option (List Call) → Option (List Call) → List Call → Type 0
MakesCalls None new calls = ⊤
MakesCalls (Some before) new calls = new ≡ Some (before ++ calls)

-- the transport failed
abbrev pub sending_failed : Sent → Bool
sending_failed sents.Nothing = false
sending_failed sents.Interrupted = false
sending_failed sents.Some = false
sending_failed sents.Failed = true

-- no octet was taken
abbrev pub is_vain : Sent → Bool
is_vain sents.Nothing = true
is_vain sents.Interrupted = true
is_vain sents.Some = false
is_vain sents.Failed = true

-- a reading did something, or may be made again at once
abbrev pub has_come : Received → Bool
has_come receiveds.Nothing = false
has_come receiveds.Interrupted = true
has_come (receiveds.Octets count) = true
has_come receiveds.End = true
has_come receiveds.Failed = true

-- the same of a sending or a reading
abbrev pub has_moved : Sent → Received → Bool
has_moved sents.Nothing received = has_come received
has_moved sents.Interrupted received = true
has_moved sents.Some received = true
has_moved sents.Failed received = true
