use Rattle.std.proofs.Common.{◌≡◌, take}
use Rattle.dict_desk.specs.Requests.{requests_meant}
use Rattle.store_fixtures.specs.Asked.{requests_asked}
use Rattle.store_fixtures.proofs.asked.requests.Given as goal

abbrev pub invariant-loop-id : goal.invariant-loop-id
invariant-loop-id l = requests_meant l.requests.items ≡ requests_asked l.editions.all.items (take l.id-index l.asked)
