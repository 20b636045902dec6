-- What waits for a peer.
use Rattle.std.specs.Prelude.{◌≡◌, ◌⊎◌, ℕ, ◌≤◌, ◌<◌, ◌+◌, ◌^◌, ◌-◌, ◌==◌, Bool, List, ◌++◌, take, drop, length, Result, MatchResult, Option, Some, vec_capacity, vec_len}
use Rattle.std.specs.Io.KnownBytes.{Appends, Keeps}
use Rattle.dict_proto.specs.Streams.{Stream}
use Rattle.net_outlet.specs.declared.queue.Queue.{Queue}

-- the octets that were put and that the transport has not taken, in order
abbrev pub waiting : Queue → List ℕ
waiting queue = drop queue.sent queue.octets.items

-- nothing waits
abbrev pub is_clear : Queue → Bool
is_clear queue = length (waiting queue) == 0

-- how many calls of a queue have failed, and how many octets found no room there since memory was short
pub record QueueCounts : Type 0 where
  pub failures : ℕ
  pub refused : ℕ

abbrev pub counts_of : Queue → QueueCounts
counts_of queue = record { failures = queue.failures; refused = length queue.refused.octets }

-- Octets find no room behind those that wait: more than 1,048,576 would wait; or the room is smaller than they want, and they are
-- noted, since memory was short
abbrev pub FindNoRoom : Queue → Queue → List ℕ → Type 0
FindNoRoom old new octets =
    ((1048576 < length (waiting old) + length octets) × (new.refused.octets ≡ old.refused.octets))
    ⊎ ((vec_capacity old.octets < vec_len old.octets + length octets) × (new.refused.octets ≡ old.refused.octets ++ octets))

-- a queue as a sink of octets: these are known, though those of a socket aren't
abbrev pub queue_stream : Queue → Stream
queue_stream queue = record { octets = Some (waiting queue); failures = queue.failures }

-- all of the octets wait behind what waited; or none, and what waits is the same, and one more call has failed
abbrev pub TakesOctets : {E : Type 0} → Result (Unit {0}) E → Queue → Queue → List ℕ → Type 0
TakesOctets result old new octets = MatchResult result
    (λ _. (waiting new ≡ waiting old ++ octets) × (new.failures ≡ old.failures))
    (λ _. (waiting new ≡ waiting old) × (old.failures < 2 ^ 64 - 1 → new.failures ≡ old.failures + 1))

-- the transport took a front of what waited, and the rest waits; where it failed, all of it
abbrev pub Sends : {E : Type 0} → Result ℕ E → Queue → Queue → Option (List ℕ) → Option (List ℕ) → Type 0
Sends result old new from to = MatchResult result
    (λ n. (n ≤ length (waiting old)) × Appends from to (take n (waiting old)) × (waiting new ≡ drop n (waiting old)))
    (λ error. Keeps from to × (waiting new ≡ waiting old))
