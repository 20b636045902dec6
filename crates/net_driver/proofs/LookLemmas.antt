-- What a look at the sockets leaves of what waits for the connections.
use Rattle.std.proofs.Common.{◌≡◌, ◌==◌, ◌<◌, ℕ, zero, suc, Bool, true, false, List, [], ◌∷◌, length, get_or, take, refl, sym, ap, ◌∙◌, arith}
use Rattle.std.specs.Prelude.{Option, Result, ◌||◌}
use Rattle.net_outlet.specs.declared.transport.Transport as transport
use Rattle.net_driver.specs.Asking.{Asking}
use Rattle.net_connection.specs.Turns.{marked}
use Rattle.net_driver.specs.Turning.{MarkAll}
use Rattle.net_connection.specs.declared.connection.Connection.{Connection}
use Rattle.std.specs.declared.io.Error.{Error}
use Rattle.net_driver.specs.Looking.{Looks, tells}
use Rattle.net_driver.specs.Rounds.{Moves, Waits}
use Rattle.net_driver.specs.declared.event_loop.EventLoop.{EventLoop}
use Rattle.net_driver.proofs.BoolLemmas.{or_assoc, or_false, or_swap, or_true}
use Rattle.net_driver.proofs.RoundLemmas.{moves_marked, moves_same}

module _ {T S : Type 0} {G : transport.Ghosts T} {asked : S → Option (List (Asking T))} {most : ℕ} (told : List ℕ) (result : Result (Unit {0}) Error) (a b : EventLoop T S G) where
  pub waits_looked : Looks asked most told result a b → (id : ℕ) (octets : List ℕ) → Waits b.connections id octets → Waits a.connections id octets
  waits_looked looks = moves_marked (tells told) a.connections b.connections looks.opened looks.departing

  pub moves_looked : Looks asked most told result a b → Moves a.connections b.connections []
  moves_looked looks = moves_same a.connections b.connections looks.last (waits_looked looks)

-- one more
pub tells_more : (told : List ℕ) (i token : ℕ) (d : ℕ) → i < length told → tells (take (suc i) told) token ≡ tells (take i told) token || (token == get_or told i d)
tells_more [] i token d within = absurd (omega (arith, within))
tells_more (one ∷ told) zero token d within = or_false (token == one)
tells_more (one ∷ told) (suc i) token d within =
    ap (λ (b : Bool). (token == one) || b) (tells_more told i token d (omega (arith, within)))
    ∙ or_assoc (token == one) (tells (take i told) token) (token == get_or told i d)

marked_twice : {T : Type 0} (a b : Bool) (one : Connection T) → marked b (marked a one) ≡ marked (a || b) one
marked_twice a b one = ap (λ (m : Bool). record one { may_receive = m }) (or_swap a b one.may_receive)

-- marked by these and then by those
pub mark_joined : {T : Type 0} (first then both : ℕ → Bool) (a b c : List (Connection T)) → ((id : ℕ) → both id ≡ first id || then id) → MarkAll first a b → MarkAll then b c → MarkAll both a c
mark_joined first then both a b c is one two = record {
  len = two.len ∙ one.len;
  marks = λ k d within.
      let len = one.len in
      let in_b : k < length b = omega (arith, within, len) in
      let was = one.marks k d within in
      let now = two.marks k d in_b in
      let id : (get_or b k d).id ≡ (get_or a k d).id = ap (λ it. it.id) was in
      now ∙ ap (λ it. marked (then (get_or b k d).id) it) was ∙ ap (λ (i : ℕ). marked (then i) (marked (first (get_or a k d).id) (get_or a k d))) id
      ∙ marked_twice (first (get_or a k d).id) (then (get_or a k d).id) (get_or a k d) ∙ ap (λ (m : Bool). marked m (get_or a k d)) (sym (is (get_or a k d).id));
}

pub mark_none : {T : Type 0} (a : List (Connection T)) → MarkAll (λ id. false) a a
mark_none a = record { len = refl; marks = λ k d within. refl }

-- it tells of this one
pub tells_at : (told : List ℕ) (i token : ℕ) (d : ℕ) → i < length told → (token == get_or told i d) ≡ true → tells told token ≡ true
tells_at [] i token d within is = absurd (omega (arith, within))
tells_at (one ∷ told) zero token d within is = rw is refl
tells_at (one ∷ told) (suc i) token d within is = ap (λ (b : Bool). (token == one) || b) (tells_at told i token d (omega (arith, within)) is) ∙ or_true (token == one)

-- one more doesn't
pub tells_not : (told : List ℕ) (i token : ℕ) (d : ℕ) → i < length told → tells (take i told) token ≡ false → (token == get_or told i d) ≡ false → tells (take (suc i) told) token ≡ false
tells_not told i token d within before here =
    tells_more told i token d within ∙ ap (λ (b : Bool). b || (token == get_or told i d)) before ∙ here
