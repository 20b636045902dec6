use Rattle.http_service.proofs.BodyLemmas.{one_place, one_title, one_members}
use Rattle.http_service.proofs.json_laws.one_body.Goals as goal

pub returns : goal.returns
returns c = record { place = one_place; title = one_title; members = one_members }
