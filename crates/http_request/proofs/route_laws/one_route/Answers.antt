use Rattle.http_request.proofs.RouteLawLemmas.{one_route, one_name}
use Rattle.http_request.proofs.route_laws.one_route.Goals as goal

pub returns : goal.returns
returns c = record { route = one_route; name = one_name }
