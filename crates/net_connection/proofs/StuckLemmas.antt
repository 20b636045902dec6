-- Why calls of a queue failed, with calls of the transport before it.
use Rattle.std.proofs.Common.{◌≡◌, ◌≢◌, ◌∙◌, ℕ, Bool, true, false, List, ◌++◌, refl, subst, append_assoc}
use Rattle.std.specs.Prelude.{Option, Some, None}
use Rattle.net_outlet.specs.OutletCalls.{Call, MakesCalls}
use Rattle.net_outlet.specs.Outlets.{FailsOnlyStuck, IsStuck}
use Rattle.net_outlet.specs.Queues.{counts_of}
use Rattle.net_outlet.specs.declared.calls.Received.{Received}
use Rattle.net_outlet.specs.declared.calls.Sent.{Sent}
use Rattle.net_outlet.specs.declared.calls.Sent.TheVariants as sents
use Rattle.net_outlet.specs.declared.queue.Queue.{Queue}
use Rattle.net_connection.specs.Calls.{calls_behind, calls_of_turn, reading_calls, sendings}

none_known : {P : Type 0} (before : List Call) → None ≡ Some before → P
none_known before is = absurd (let never : None ≡ Some before = is in cc)

-- where no call is known
unknown : (b c : Option (List Call)) (n : ℕ) (q : Queue) → IsStuck b c n q → IsStuck None c n q
unknown b c n q (full, short) = (λ few. ((full few).0, λ before is. none_known before is), λ more. ((short more).0, λ before is. none_known before is))

-- no more calls failed
pub stuck_none : (a b : Option (List Call)) (q r : Queue) → r.failures ≡ q.failures → FailsOnlyStuck a b q r
stuck_none a b q r same = λ other. absurd (other same)

-- behind these calls
pub stuck_behind : (a b c : Option (List Call)) (calls : List Call) (q r : Queue) → MakesCalls a b calls → FailsOnlyStuck b c q r → FailsOnlyStuck (calls_behind a calls) c q r
stuck_behind None b c calls q r makes stuck = λ other. unknown b c (counts_of q).refused r (stuck other)
stuck_behind (Some before) b c calls q r makes stuck = subst (λ (o : Option (List Call)). FailsOnlyStuck o c q r) makes stuck

-- and behind two lists of them
pub stuck_after : (a b c : Option (List Call)) (first then : List Call) (q r : Queue) → MakesCalls a b first → FailsOnlyStuck (calls_behind b then) c q r → FailsOnlyStuck (calls_behind a (first ++ then)) c q r
stuck_after None b c first then q r makes stuck = λ other. unknown (calls_behind b then) c (counts_of q).refused r (stuck other)
stuck_after (Some before) b c first then q r makes stuck =
    subst (λ (l : List Call). FailsOnlyStuck (Some l) c q r) (append_assoc before first then) (subst (λ (o : Option (List Call)). FailsOnlyStuck (calls_behind o then) c q r) makes stuck)

-- a queue that counts the same was there before
pub stuck_from : (a b : Option (List Call)) (p q r : Queue) → q.failures ≡ p.failures → (counts_of q).refused ≡ (counts_of p).refused → FailsOnlyStuck a b q r → FailsOnlyStuck a b p r
stuck_from a b p q r failures refused stuck = λ other. subst (λ (n : ℕ). IsStuck a b n r) refused (stuck (λ same. other (same ∙ failures)))

-- behind the calls of a turn
pub stuck_turned : (a b c : Option (List Call)) (count : ℕ) (may : Bool) (sending : Sent) (reading : Received) (q r : Queue) → sending ≢ sents.Failed → MakesCalls a b (sendings count sending)
    → FailsOnlyStuck (calls_behind b (reading_calls may reading)) c q r → FailsOnlyStuck (calls_behind a (calls_of_turn count may sending reading)) c q r
stuck_turned a b c count may sents.Nothing reading q r well makes stuck = stuck_after a b c (sendings count sents.Nothing) (reading_calls may reading) q r makes stuck
stuck_turned a b c count may sents.Interrupted reading q r well makes stuck = stuck_after a b c (sendings count sents.Interrupted) (reading_calls may reading) q r makes stuck
stuck_turned a b c count may sents.Some reading q r well makes stuck = stuck_after a b c (sendings count sents.Some) (reading_calls may reading) q r makes stuck
stuck_turned a b c count may sents.Failed reading q r well makes stuck = absurd (well refl)

-- a failure that is counted is of an event that failed
pub stuck_counted : (a b : Option (List Call)) (n : ℕ) (q r : Queue) (has_failed : Bool) → n ≡ (counts_of q).refused → (has_failed ≡ true → IsStuck a b n r) → (has_failed ≡ false → r.failures ≡ q.failures) → FailsOnlyStuck a b q r
stuck_counted a b n q r true same stuck counts = λ other. subst (λ (m : ℕ). IsStuck a b m r) same (stuck refl)
stuck_counted a b n q r false same stuck counts = λ other. absurd (other (counts refl))
