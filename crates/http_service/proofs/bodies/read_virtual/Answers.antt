use Rattle.std.proofs.Common.{map}
use Rattle.serde_json.specs.View.{view}
use Rattle.http_service.proofs.BodyLemmas.{no_texts}
use Rattle.http_service.proofs.bodies.read_virtual.Goals as goal

pub returns-in-None : goal.returns-in-None
returns-in-None c title members form = no_texts (view c.args.value.now) (map view c.in-Some.items.now) _ title members c.in-Some.ensures (rw c.in-None.is at c.in_ok-members.ensures) form
