-- What an event puts, and what is taken of it at once.
use Rattle.std.specs.Prelude.{◌≡◌, ◌≢◌, ◌≤◌, ◌<◌, ◌+◌, ℕ, Bool, true, false, not, nat_le, ◌-◌, ◌==◌, ◌&&◌, ◌||◌, if◌then◌else◌, All, List, [], ◌∷◌, ◌++◌, take, drop, length, Option, None, Some, vec_capacity}
use Rattle.std.specs.Io.KnownBytes.{Appends, Keeps}
use Rattle.dict_proto.specs.Streams.{Stream}
use Rattle.net_outlet.specs.OutletCalls.{Call, MakesCalls, sends, receives, ends, sending_failed, is_vain}
use Rattle.net_outlet.specs.Queues.{waiting, counts_of}
use Rattle.net_outlet.specs.declared.queue.Queue.{Queue}
use Rattle.net_outlet.specs.declared.trail.Trail.{Trail}
use Rattle.net_outlet.specs.declared.calls.Sent.{Sent}
use Rattle.net_outlet.specs.declared.calls.Sent.TheVariants as sents

-- what waited as the event began and what it put since: what the transport took of it, and what waits
abbrev pub carried : Trail → Queue → List ℕ
carried taken queue = taken.octets ++ waiting queue

-- these as a sink's octets: they are known, though those of a socket aren't
abbrev pub stream_through : Trail → Queue → Stream
stream_through taken queue = record { octets = Some (carried taken queue); failures = queue.failures }

-- all of the octets that may wait were offered
abbrev pub is_sending : Call → Bool
is_sending (sends count sent) = count == 1048576
is_sending (receives room received) = false
is_sending (ends is_told) = false

-- these octets came behind those before, where they are known
abbrev pub HasTakenOctets : Option (List ℕ) → Option (List ℕ) → List ℕ → Type 0
HasTakenOctets old new octets = (before : List ℕ) → old ≡ Some before → new ≡ Some (before ++ octets)

-- such sendings were made after the calls before, and no other calls, where the calls are known
abbrev pub MakesSendings : Option (List Call) → Option (List Call) → Type 0
MakesSendings old new = (before : List Call) → old ≡ Some before
    → (new ≢ None) × ((after : List Call) → new ≡ Some after → (take (length before) after ≡ before) × All (λ call. is_sending call ≡ true) (drop (length before) after))

-- such a sending, which didn't fail
abbrev pub is_well : Call → Bool
is_well (sends count sent) = (count == 1048576) && not (sending_failed sent)
is_well (receives room received) = false
is_well (ends is_told) = false

-- such a sending, which took nothing
abbrev pub is_in_vain : Call → Bool
is_in_vain (sends count sent) = (count == 1048576) && is_vain sent
is_in_vain (receives room received) = false
is_in_vain (ends is_told) = false

-- such sendings, of which none failed
abbrev pub are_well : List Call → Bool
are_well [] = true
are_well (call ∷ calls) = is_well call && are_well calls

-- such sendings, of which the last took nothing and no other failed
abbrev pub end_in_vain : List Call → Bool
end_in_vain [] = false
end_in_vain (call ∷ []) = is_in_vain call
end_in_vain (call ∷ next ∷ calls) = is_well call && end_in_vain (next ∷ calls)

-- how many of them took nothing
abbrev pub vain_count : List Call → ℕ
vain_count [] = 0
vain_count (call ∷ calls) = vain_count calls + (if is_in_vain call then 1 else 0)

-- the transport failed at this one
abbrev pub has_call_failed : Call → Bool
has_call_failed (sends count sent) = sending_failed sent
has_call_failed (receives room received) = false
has_call_failed (ends is_told) = false

-- the last of them failed
abbrev pub end_in_failure : List Call → Bool
end_in_failure [] = false
end_in_failure (call ∷ []) = has_call_failed call
end_in_failure (call ∷ next ∷ calls) = end_in_failure (next ∷ calls)

-- such sendings, of which none failed, and after which so many more may be made in vain: 4,096 in all
abbrev pub leave_tries : ℕ → List Call → Bool
leave_tries tries calls = are_well calls && (vain_count calls + tries == 4096)

-- such sendings, of which none failed, and at most 4,096 took nothing
abbrev pub go_on : List Call → Bool
go_on calls = are_well calls && nat_le (vain_count calls) 4096

-- Such sendings, of which the last took nothing and no other failed: 4,097 of them took nothing, or fewer where the last failed
abbrev pub give_up : List Call → Bool
give_up calls = end_in_vain calls && (nat_le (vain_count calls) 4097 && ((vain_count calls == 4097) || end_in_failure calls))

-- whether an event gives up after a sending that came to this, where so many more might have been made in vain: where it took nothing and
-- none was left, or the transport failed
abbrev pub gives_up : ℕ → Sent → Bool
gives_up tries sents.Nothing = tries == 0
gives_up tries sents.Interrupted = tries == 0
gives_up tries sents.Some = false
gives_up tries sents.Failed = true

-- how many more may be made in vain after it
abbrev pub tries_after : ℕ → Sent → ℕ
tries_after tries sents.Nothing = tries - 1
tries_after tries sents.Interrupted = tries - 1
tries_after tries sents.Some = tries
tries_after tries sents.Failed = tries - 1

-- behind the calls before, where they are known, such calls were made
abbrev pub Follow : (List Call → Bool) → Option (List Call) → Option (List Call) → Type 0
Follow are_such old new = (before : List Call) → old ≡ Some before
    → (new ≢ None) × ((after : List Call) → new ≡ Some after → (take (length before) after ≡ before) × (are_such (drop (length before) after) ≡ true))

-- Where no more octets found no room than so many before, 1,048,576 wait, and of the calls that were made behind those of `old` the last
-- took nothing: 4,097 took nothing by then, or fewer where the last failed. Where more did, memory was short, there is less room, no
-- sending failed, and at most 4,096 took nothing
abbrev pub IsStuck : Option (List Call) → Option (List Call) → ℕ → Queue → Type 0
IsStuck old new refused queue = (length queue.refused.octets ≤ refused → (length (waiting queue) ≡ 1048576) × Follow give_up old new)
    × (refused < length queue.refused.octets → (vec_capacity queue.octets < 1048576) × Follow go_on old new)

-- no more calls of a queue have failed than before, or it is stuck
abbrev pub FailsOnlyStuck : Option (List Call) → Option (List Call) → Queue → Queue → Type 0
FailsOnlyStuck before after old new = new.failures ≢ old.failures → IsStuck before after (counts_of old).refused new

-- a front of the octets was put
abbrev pub PutsSome : List ℕ → Trail → Queue → Trail → Queue → Type 0
PutsSome octets taken queue now_taken now = (k : ℕ) × (k ≤ length octets) × (carried now_taken now ≡ carried taken queue ++ take k octets)

-- What waited before and what was put: a front of it is sent, which the transport took, and the rest waits. Of the transport no more
-- was asked than to take octets, 1,048,576 each time, and not even that while fewer of them were there
pub record PassesOctets {T : Type 0} (taken coming : T → Option (List ℕ)) (made : T → Option (List Call)) (old new : T) (before after put : List ℕ) : Type 0 where
  pub sent : List ℕ
  pub takes : Appends (taken old) (taken new) sent
  pub order : sent ++ after ≡ before ++ put
  pub comes : Keeps (coming old) (coming new)
  pub within : List Call
  pub sendings : All (λ call. is_sending call ≡ true) within
  pub calls : MakesCalls (made old) (made new) within
  pub lazy : length before + length put < 1048576 → (sent ≡ []) × (within ≡ [])
