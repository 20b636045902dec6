-- What failed in events, and how the desk stood after them.
use Rattle.std.proofs.Common.{◌≡◌, ℕ, false, List, [], ◌∷◌, ◌++◌, sym, ap, ◌∙◌, subst}
use Rattle.dict_proto.specs.Streams.{Stream, StreamChange}
use Rattle.dict_session.specs.Desks.{Condition}
use Rattle.net_hub.specs.Events.{is_of_editor}
use Rattle.net_hub.specs.Runs.{Accepted}
use Rattle.net_outlet.specs.declared.queue.Queue.{Queue}
use Rattle.net_connection.specs.Causes.{CountOn, StandAt, AreCaused, AreCausedBy}
use Rattle.net_connection.specs.declared.connection.Connection.{Connection}

pub counts_joined : (a b c : ℕ) (es fs : List Accepted) → CountOn a b es → CountOn b c fs → CountOn a c (es ++ fs)
counts_joined a b c [] fs none more = subst (λ (n : ℕ). CountOn n c fs) none more
counts_joined a b c (one ∷ es) fs (first, rest) more = (first, counts_joined one.put.new.failures b c es fs rest more)

-- of one event
pub caused_one : (desk : Condition) (from to : Stream) (old new : Queue) (one : Accepted) → from.failures ≡ old.failures → to.failures ≡ new.failures → one.put ≡ record { old = from; new = to } → one.desk ≡ desk
    → AreCaused desk old new (one ∷ [])
caused_one desk from to old new one begins ends put stood = record {
  failures = (ap (λ (c : StreamChange). c.old.failures) put ∙ begins, sym (ap (λ (c : StreamChange). c.new.failures) put ∙ ends));
  stands = (stood, tt);
}

-- of none
pub caused_none : (desk : Condition) (old new : Queue) → new ≡ old → AreCaused desk old new []
caused_none desk old new same = record { failures = ap (λ (q : Queue). q.failures) same; stands = tt }

module _ {T : Type 0} where
  -- of a connection by its queue
  pub caused_by : (desk : Condition) (a b : Connection T) (events : List Accepted) → AreCaused desk a.queue b.queue events → AreCausedBy desk a b events
  caused_by desk a b events caused = record { failures = caused.failures; stands = λ reader. caused.stands }

  pub caused_still : (desk : Condition) (a b : Connection T) → b.queue.failures ≡ a.queue.failures → AreCausedBy desk a b []
  caused_still desk a b same = record { failures = same; stands = λ reader. tt }

  -- of one that was as this one
  pub caused_from : (desk : Condition) (a b c : Connection T) (events : List Accepted) → b.queue.failures ≡ a.queue.failures → b.held.kind ≡ a.held.kind → AreCausedBy desk b c events → AreCausedBy desk a c events
  caused_from desk a b c events same kind caused = record {
    failures = subst (λ (n : ℕ). CountOn n c.queue.failures events) same caused.failures;
    stands = λ reader. caused.stands (ap is_of_editor kind ∙ reader);
  }

  -- the desk was asked something behind them, unless they are a reader's
  pub caused_behind : (desk later : Condition) (a b : Connection T) (events : List Accepted) → (is_of_editor a.held.kind ≡ false → later ≡ desk) → AreCausedBy desk a b events → AreCausedBy later a b events
  caused_behind desk later a b events same caused = record {
    failures = caused.failures;
    stands = λ reader. subst (λ (d : Condition). StandAt d events) (sym (same reader)) (caused.stands reader);
  }

  -- octets that were refused, and then an end
  pub caused_refused : (desk since : Condition) (a b c : Connection T) (es fs : List Accepted) → es ≡ [] → AreCaused since a.queue b.queue es → b.held ≡ a.held → AreCausedBy desk b c fs → AreCausedBy desk a c (es ++ fs)
  caused_refused desk since a b c es fs none first held then =
      let whole : es ++ fs ≡ fs = ap (λ (l : List Accepted). l ++ fs) none in
      record {
        failures = counts_joined a.queue.failures b.queue.failures c.queue.failures es fs first.failures then.failures;
        stands = λ reader. subst (λ (l : List Accepted). StandAt desk l) (sym whole) (then.stands (ap (λ h. is_of_editor h.kind) held ∙ reader));
      }
