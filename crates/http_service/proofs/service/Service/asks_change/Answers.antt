use Rattle.std.proofs.Common.{◌≡◌, ◌∙◌, ℕ, List, true, false, inl, inr, refl, sym, ap, subst}
use Rattle.http_request.specs.Heads.{Needs}
use Rattle.http_request.specs.Paths.{IsPath}
use Rattle.http_request.specs.Requests.{IsReading, IsRequest, EditorRequest}
use Rattle.http_request.specs.declared.kinds.Need.TheVariants as needs
use Rattle.http_request.specs.declared.kinds.RequestReading.{RequestReading}
use Rattle.http_request.specs.declared.kinds.RequestReading.TheVariants as readings
use Rattle.http_request.specs.declared.kinds.EditorRequest as requests
use Rattle.http_request.proofs.LawLemmas.{one, one_request}
use Rattle.http_request.proofs.RouteLawLemmas.{one_route}
use Rattle.httparse.specs.Grammar.{print_request}
use Rattle.std.specs.Prelude.{◌+◌, length}
use Rattle.http_service.specs.Actions.{action_of, changes}
use Rattle.http_service.proofs.service.Service.asks_change.Goals as goal

-- of a whole request no more is needed
whole_needs : (octets : List ℕ) (request : EditorRequest) (is : IsRequest octets request) → Needs octets (needs.Whole (length (print_request is.head) + is.size))
whole_needs octets request is = inl (is.head, is.has, rw is.framed (inr (is.fits, refl)))

-- octets in which a request stands whole are read as one
read_whole : (octets : List ℕ) (reading : RequestReading) (request : EditorRequest) → IsReading octets reading → IsRequest octets request → ((told : requests.EditorRequest) → reading ≡ readings.Whole told → ⊥) → ⊥
read_whole octets (readings.More size) request is whole other = let never : needs.Whole (length (print_request whole.head) + whole.size) ≡ needs.More = one octets _ _ (whole_needs octets request whole) is.0 in cc
read_whole octets (readings.Whole told) request is whole other = other told refl
read_whole octets (readings.Refused status) request is whole other = let never : needs.Whole (length (print_request whole.head) + whole.size) ≡ needs.Refused status = one octets _ _ (whole_needs octets request whole) is in cc

pub returns-in_default-clause-no : goal.returns-in_default-clause-no
returns-in_default-clause-no c = λ isnt asks. read_whole c.args.octets.now c.read_request.result asks.request c.read_request.ensures asks.is c.in_default.not-Whole

pub returns-in_default-find-clause-no : goal.returns-in_default-find-clause-no
returns-in_default-find-clause-no c = λ isnt asks.
    let whole = c.in-Whole.ensures in
    let same : asks.request ≡ whole.1 = one_request c.args.octets.now asks.request whole.1 asks.is whole.2 in
    c.in_default-find.ensures asks.route asks.name (subst (λ t. IsPath t asks.route asks.name) (ap (λ (r : EditorRequest). r.target) same ∙ sym whole.3.target) asks.path)

pub returns-clause-yes : goal.returns-clause-yes
returns-clause-yes c = λ is.
    let whole = c.in-Whole.ensures in
    let route = c.in-Some.found.route in
    let name = c.in-Some.found.name.now in
    record {
      request = whole.1;
      is = whole.2;
      route = route;
      name = name;
      path = subst (λ t. IsPath t route name) whole.3.target c.in-Some.ensures;
      change = ap (λ m. changes (action_of route m)) (sym whole.3.method) ∙ ap changes (sym c.action_of.ensures) ∙ sym c.changes.ensures ∙ is;
    }

pub returns-clause-no : goal.returns-clause-no
returns-clause-no c = λ isnt asks.
    let whole = c.in-Whole.ensures in
    let route = c.in-Some.found.route in
    let same : asks.request ≡ whole.1 = one_request c.args.octets.now asks.request whole.1 asks.is whole.2 in
    let path : IsPath asks.request.target route c.in-Some.found.name.now
    = subst (λ t. IsPath t route c.in-Some.found.name.now) (whole.3.target ∙ sym (ap (λ (r : EditorRequest). r.target) same)) c.in-Some.ensures in
    let routes : asks.route ≡ route = one_route asks.request.target asks.route route asks.name c.in-Some.found.name.now asks.path path in
    let method : asks.request.method ≡ c.in-Whole.request.method.now = ap (λ (r : EditorRequest). r.method) same ∙ sym whole.3.method in
    let yes : c.changes.result ≡ true
    = c.changes.ensures ∙ ap changes c.action_of.ensures ∙ ap (λ m. changes (action_of route m)) (sym method) ∙ ap (λ r. changes (action_of r asks.request.method)) (sym routes) ∙ asks.change in
    let never : true ≡ false = sym yes ∙ isnt in cc
