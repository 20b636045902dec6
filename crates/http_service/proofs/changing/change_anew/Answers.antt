use Rattle.std.proofs.Common.{refl}
use Rattle.dict_catalogue.specs.Commands.{retire, rollback}
use Rattle.http_service.specs.Actions.{command}
use Rattle.http_service.specs.Settling.{applied}
use Rattle.http_service.specs.Responding.{ended}
use Rattle.http_service.proofs.changing.change_anew.Goals as goal

pub returns-in-Install-clause-responds : goal.returns-in-Install-clause-responds
returns-in-Install-clause-responds g c = rw c.in-Install.is c.install.ensures.responds

pub returns-in-Retire-clause-responds : goal.returns-in-Retire-clause-responds
returns-in-Retire-clause-responds g c = rw c.in-Retire.is (λ trusted M shown none.
    ended (applied M c.args.id.now (retire c.args.name.now)) (command (retire c.args.name.now), refl, refl) (c.apply.ensures.ends trusted M shown none))

pub returns-in-Rollback-clause-responds : goal.returns-in-Rollback-clause-responds
returns-in-Rollback-clause-responds g c = rw c.in-Rollback.is (λ trusted M shown none.
    ended (applied M c.args.id.now (rollback c.args.name.now)) (command (rollback c.args.name.now), refl, refl) (c.apply-in-Rollback.ensures.ends trusted M shown none))

pub returns-in-Place-clause-responds : goal.returns-in-Place-clause-responds
returns-in-Place-clause-responds g c = rw c.in-Place.is c.place.ensures.responds

pub returns-in-PutVirtual-clause-responds : goal.returns-in-PutVirtual-clause-responds
returns-in-PutVirtual-clause-responds g c = rw c.in-PutVirtual.is c.put_virtual.ensures.responds
