-- The rounds that are made one after another, and the waits between them.
use Rattle.std.specs.Prelude.{◌≡◌, ◌⊎◌, ◌≤◌, ◌<◌, ◌-◌, ℕ, nat_lt, Bool, true, false, List, [], ◌∷◌, Option, None, Some, Result, Ok, Err, IfOk, MatchResult}
use Rattle.dict_desk.specs.declared.fault.Fault.{Fault}
use Rattle.std.specs.IoError.{error_kind}
use Rattle.std.specs.declared.io.Error.{Error}
use Rattle.dict_catalogue.specs.Steps.{Catalogue}
use Rattle.dict_desk.specs.Expected.{Expected}
use Rattle.dict_session.specs.Desks.{condition}
use Rattle.http_service.specs.Foreseeing.{IsToldAnew}
use Rattle.net_hub.specs.declared.fault.HubFault.{HubFault}
use Rattle.net_hub.specs.declared.hub.Hub.{Hub}
use Rattle.net_hub.specs.declared.kind.Kind.{Kind}
use Rattle.net_outlet.specs.OutletCalls.{Call}
use Rattle.net_outlet.specs.declared.transport.Transport as transport
use Rattle.net_driver.specs.Asking.{Asking}
use Rattle.net_driver.specs.EventLoops.{GoesRound}
use Rattle.net_connection.specs.Leading.{HasLedOn}
use Rattle.net_driver.specs.Looking.{IsIdle, WaitsIf}
use Rattle.net_driver.specs.Ordering.{AreOfRound}
use Rattle.net_driver.specs.Rounds.{Moves}
use Rattle.net_driver.specs.Serving.{IsRoundCounted}
use Rattle.net_driver.specs.Turning.{KeepsOnlyOpenOf}
use Rattle.net_driver.specs.declared.event_loop.EventLoop.{EventLoop}
use Rattle.net_driver.specs.declared.serving.RoundsEnd.{RoundsEnd}
use Rattle.net_driver.specs.declared.serving.RoundsEnd.TheVariants.{Whole, Closed}

-- One round: the loop and the desk as they were before it, what came of it, and both as it left them; then what came of the wait behind
-- it, where there was one, and the loop as that left it
pub record Round (K T S : Type 0) (G : transport.Ghosts T) : Type 0 where
  pub before : EventLoop T S G
  pub desk : K
  pub result : Result Bool Error
  pub made : EventLoop T S G
  pub left : K
  pub waited : Result (Unit {0}) Error
  pub after : EventLoop T S G

-- the sockets are waited for behind a round in which nothing happened, where the desk isn't closed, and more than it, of so many rounds
-- with it, are to be made
abbrev pub is_waited : Result Bool Error → Bool → ℕ → Bool
is_waited (Err error) closed rounds = false
is_waited (Ok true) closed rounds = false
is_waited (Ok false) true rounds = false
is_waited (Ok false) false rounds = nat_lt 1 rounds

-- how serving ends with a round, of so many that were to be made with it: by the error of the round or of the wait behind it, or since
-- the desk is closed; or it doesn't
abbrev pub ended : Result Bool Error → Bool → Result (Unit {0}) Error → ℕ → Option (Result RoundsEnd Error)
ended (Err error) closed waited rounds = Some (Err error)
ended (Ok moved) true waited rounds = Some (Ok (Closed (rounds - 1)))
ended (Ok moved) false (Err error) rounds = Some (Err error)
ended (Ok moved) false (Ok nothing) rounds = None

-- By what a desk shows, what a stop may leave of it, what is beside the catalogue, that what it stands on has returned what was written, whether its last call failed and
-- it is closed, and what it was told of and prepared; and by what is known of transports and of sockets, and for how many nanoseconds these are waited for at most.
module _ {K T S Beside : Type 0} {G : transport.Ghosts T} (Shows : K → Catalogue → Type 0) (LeavesOneOf : K → List (Option Catalogue) → Type 0) (KeepsBeside : K → Beside → Type 0) (IsTrusted : K → Type 0) (has_failed is_closed : K → Bool)
    (expects : K → Expected → K → Type 0) (prepares : K → Result Bool Fault → K → Type 0) (taken coming : T → Option (List ℕ)) (made : T → Option (List Call)) (refuses : Hub → ℕ → Kind → Option HubFault → Type 0)
    (asked : S → Option (List (Asking T))) (told : S → List ℕ) (wait : ℕ) where
  -- the round is one as its own contract says it: by its events and its result
  pub record IsRound (one : Round K T S G) : Type 0 where
    pub led : HasLedOn (IsTrusted one.left) (Shows one.desk) (LeavesOneOf one.desk) (Shows one.left) (LeavesOneOf one.left) one.before.hub one.made.hub
        (λ events. Moves one.before.connections one.made.connections events × AreOfRound events
        × GoesRound (condition has_failed is_closed) (IsToldAnew Shows LeavesOneOf KeepsBeside IsTrusted has_failed is_closed expects) prepares taken coming made refuses asked told one.result one.desk one.left one.before one.made events
        × KeepsOnlyOpenOf one.before.hub one.made.hub one.before.connections.opened.items one.made.connections.opened.items)
    pub trust : IsTrusted one.left → IsTrusted one.desk
    pub beside : (beside : Beside) → KeepsBeside one.desk beside → KeepsBeside one.left beside
    pub rounds : IsRoundCounted one.result one.before.rounds one.made.rounds
    pub grown : one.before.rounds ≤ one.made.rounds
    pub idle : IfOk one.result (λ has_moved. has_moved ≡ false → IsIdle one.made)
    pub failure : MatchResult one.result (λ _. one.made.failure ≡ None) (λ error. one.made.failure ≡ Some (error_kind error))

  -- one of so many rounds that are to be made, and the wait behind it
  pub record IsRoundMade (rounds : ℕ) (one : Round K T S G) : Type 0 where
    pub some : 0 < rounds
    pub round : IsRound one
    pub waits : WaitsIf asked wait (told one.after.sockets) (is_waited one.result (is_closed one.left) rounds) one.waited one.made one.after

  -- Of so many rounds these were made, over this loop and this desk: the first begins with these, each of the others with what the one
  -- before it left and the wait behind that, and the last leaves these. Serving ends with the one that ends it, and with no round before
  -- that, and else where all were made
  abbrev pub AreRounds : ℕ → EventLoop T S G → K → EventLoop T S G → K → List (Round K T S G) → Result RoundsEnd Error → Type 0
  AreRounds rounds old desk new left [] result = (rounds ≡ 0) × (new ≡ old) × (left ≡ desk) × (result ≡ Ok Whole)
  AreRounds rounds old desk new left (one ∷ others) result = (one.before ≡ old) × (one.desk ≡ desk) × IsRoundMade rounds one
      × (((ended one.result (is_closed one.left) one.waited rounds ≡ Some result) × (others ≡ []) × (new ≡ one.after) × (left ≡ one.left))
      ⊎ ((ended one.result (is_closed one.left) one.waited rounds ≡ None) × AreRounds (rounds - 1) one.after one.left new left others result))
