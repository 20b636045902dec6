-- A round, step by step.
use Rattle.std.proofs.Common.{◌≡◌, ℕ, Bool, true, List, [], ◌∷◌, ◌++◌, sym, ap, ◌∙◌, subst, append_assoc}
use Rattle.dict_desk.specs.declared.fault.Fault.{Fault}
use Rattle.dict_desk.specs.Expected.{Expected}
use Rattle.std.specs.Prelude.{Option, Result, ◌||◌, is_ok, nat_lt}
use Rattle.std.specs.declared.io.Error.{Error}
use Rattle.dict_session.specs.Desks.{Condition}
use Rattle.net_hub.specs.Runs.{Accepted}
use Rattle.net_hub.specs.declared.fault.HubFault.{HubFault}
use Rattle.net_hub.specs.declared.hub.Hub.{Hub}
use Rattle.net_hub.specs.declared.kind.Kind.{Kind}
use Rattle.net_hub.specs.declared.kind.Kind.TheVariants.{Dict, Http}
use Rattle.net_outlet.specs.OutletCalls.{Call}
use Rattle.net_outlet.specs.declared.transport.Transport as transport
use Rattle.net_driver.specs.Accepting.{Accepts, HasAccepted}
use Rattle.net_driver.specs.Asking.{Asking, Asks, looks}
use Rattle.net_driver.specs.EventLoops.{HasRound}
use Rattle.net_driver.specs.Listening.{is_ready, listening_told}
use Rattle.net_driver.specs.Looking.{Looks, tells}
use Rattle.net_connection.specs.Ordering.{AreOfTurns}
use Rattle.net_driver.specs.Ordering.{AreOfRound, ComeById}
use Rattle.net_driver.specs.Rounds.{TurnEach}
use Rattle.net_driver.specs.Turning.{KeepsAllBut}
use Rattle.net_driver.specs.declared.event_loop.EventLoop.{EventLoop}
use Rattle.net_driver.specs.declared.listening.Listening.{Listening}
use Rattle.net_driver.proofs.AcceptLemmas.{asks_joined}
use Rattle.net_driver.proofs.OpeningLemmas.{by_accepting}
use Rattle.net_driver.proofs.OrderLemmas.{round_whole}

module _ {T S : Type 0} {G : transport.Ghosts T} (refuses : Hub → ℕ → Kind → Option HubFault → Type 0) (asked : S → Option (List (Asking T))) where
  -- the listening sockets were asked, that for readers first
  pub record AreTaken (looked with_readers with_editors : EventLoop T S G) (events : List Accepted) : Type 0 where
    pub readers : List Accepted
    pub editors : List Accepted
    pub whole : events ≡ readers ++ editors
    pub by_dict : HasAccepted refuses asked Dict looked with_readers readers
    pub by_http : HasAccepted refuses asked Http with_readers with_editors editors

  -- the order of what came of them, and of the turns behind
  pub taken_round : (b c d : EventLoop T S G) (es fs : List Accepted) → AreTaken b c d es → AreOfTurns fs → ComeById fs → AreOfRound (es ++ fs)
  taken_round b c d es fs two are by_id =
      let readers = by_accepting refuses Dict b.dict_listening c.dict_listening b.hub c.hub b.connections c.connections two.by_dict.0 two.readers two.by_dict.2 in
      let editors = by_accepting refuses Http c.http_listening d.http_listening c.hub d.hub c.connections d.connections two.by_http.0 two.editors two.by_http.2 in
      subst (λ (l : List Accepted). AreOfRound (l ++ fs)) (sym two.whole) (round_whole b.connections.last c.connections.last d.connections.last two.readers two.editors fs readers editors are by_id)

  -- what a look, two listening sockets and the turns come to
  pub round_made : {K : Type 0} (stands : K → Condition) (foresees : K → Expected → K → Type 0) (prepares : K → Result Bool Fault → K → Type 0) (taken coming : T → Option (List ℕ)) (made : T → Option (List Call)) (told : List ℕ)
      (result : Result (Unit {0}) Error) (from to : K) (a b c d e : EventLoop T S G) (moved turned : Bool) (es fs : List Accepted)
      → is_ok result ≡ true → Looks asked 0 told result a b → AreTaken b c d es → TurnEach stands foresees prepares taken coming made refuses d.hub from to d.connections e.connections turned fs
      → KeepsAllBut d.connections.opened.items d.hub e.hub → e.sockets ≡ d.sockets
      → e.dict_listening ≡ c.dict_listening → e.http_listening ≡ d.http_listening → c.http_listening ≡ b.http_listening
      → moved ≡ (nat_lt a.connections.last e.connections.last || (is_ready c.dict_listening || (is_ready d.http_listening || turned))) → HasRound stands foresees prepares taken coming made refuses asked from to a e moved (es ++ fs)
  round_made stands foresees prepares taken coming made told result from to a b c d e moved turned es fs well looked taken_two turn others sockets_same dict http other is =
      let calls_dict = taken_two.by_dict.0 in
      let calls_http = taken_two.by_http.0 in
      record {
        told = told;
        looked = b.connections;
        last = looked.last;
        opened = looked.opened;
        departing = looked.departing;
        with_readers = c.connections;
        by_dict = calls_dict;
        readers = taken_two.readers;
        hub_with_readers = c.hub;
        dict = subst (λ (h : Hub). Accepts refuses Dict (listening_told (tells told 0) a.dict_listening) e.dict_listening h c.hub b.connections c.connections calls_dict taken_two.readers) looked.hub
            (subst (λ (l : Listening). Accepts refuses Dict l e.dict_listening b.hub c.hub b.connections c.connections calls_dict taken_two.readers) looked.dict
            (subst (λ (l : Listening). Accepts refuses Dict b.dict_listening l b.hub c.hub b.connections c.connections calls_dict taken_two.readers) (sym dict) taken_two.by_dict.2));
        with_editors = d.connections;
        by_http = calls_http;
        editors = taken_two.editors;
        hub_with_editors = d.hub;
        http = subst (λ (l : Listening). Accepts refuses Http l e.http_listening c.hub d.hub c.connections d.connections calls_http taken_two.editors) (other ∙ looked.http)
            (subst (λ (l : Listening). Accepts refuses Http c.http_listening l c.hub d.hub c.connections d.connections calls_http taken_two.editors) (sym http) taken_two.by_http.2);
        turned = turned;
        turns = fs;
        turn = turn;
        others = others;
        whole = ap (λ (l : List Accepted). l ++ fs) taken_two.whole ∙ append_assoc taken_two.readers taken_two.editors fs;
        calls = subst (λ (s : S). Asks (asked a.sockets) (asked s) ((looks 0 told true ∷ []) ++ (calls_dict ++ calls_http))) (sym sockets_same)
            (asks_joined (asked a.sockets) (asked b.sockets) (asked d.sockets) ((looks 0 told true ∷ [])) (calls_dict ++ calls_http)
            (subst (λ (w : Bool). Asks (asked a.sockets) (asked b.sockets) (looks 0 told w ∷ [])) well looked.calls)
            (asks_joined (asked b.sockets) (asked c.sockets) (asked d.sockets) calls_dict calls_http taken_two.by_dict.1 taken_two.by_http.1));
        has_moved = is ∙ ap (λ (l : Listening). nat_lt a.connections.last e.connections.last || (is_ready l || (is_ready d.http_listening || turned))) (sym dict)
            ∙ ap (λ (l : Listening). nat_lt a.connections.last e.connections.last || (is_ready e.dict_listening || (is_ready l || turned))) (sym http);
      }

-- whether something happened, as it was told of each step
pub moved_by : (moved opened dict http turned o d h : Bool) → moved ≡ (opened || (dict || (http || turned))) → opened ≡ o → dict ≡ d → http ≡ h → moved ≡ (o || (d || (h || turned)))
moved_by moved opened dict http turned o d h is one two three =
    is ∙ ap (λ (b : Bool). b || (dict || (http || turned))) one ∙ ap (λ (b : Bool). o || (b || (http || turned))) two ∙ ap (λ (b : Bool). o || (d || (b || turned))) three
