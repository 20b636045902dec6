use Rattle.http_service.proofs.foreseeing.expect_change.Goals as goal

pub returns-in-Install-clause-foreseen : goal.returns-in-Install-clause-foreseen
returns-in-Install-clause-foreseen g c = rw c.in-Install.is (λ taken. let told = c.expect_files.ensures.foreseen taken in record { asked = told.asked; asks = told.asks; told = told.told })

pub returns-in-Retire-clause-foreseen : goal.returns-in-Retire-clause-foreseen
returns-in-Retire-clause-foreseen g c = rw c.in-Retire.is (λ taken. let told = c.expect_command.ensures.foreseen taken in record { asked = told.asked; asks = told.asks; told = told.told })

pub returns-in-Rollback-clause-foreseen : goal.returns-in-Rollback-clause-foreseen
returns-in-Rollback-clause-foreseen g c = rw c.in-Rollback.is (λ taken. let told = c.expect_command-in-Rollback.ensures.foreseen taken in record { asked = told.asked; asks = told.asks; told = told.told })

pub returns-in-Place-clause-foreseen : goal.returns-in-Place-clause-foreseen
returns-in-Place-clause-foreseen g c = rw c.in-Place.is c.expect_place.ensures.foreseen

pub returns-in-PutVirtual-clause-foreseen : goal.returns-in-PutVirtual-clause-foreseen
returns-in-PutVirtual-clause-foreseen g c = rw c.in-PutVirtual.is c.expect_virtual.ensures.foreseen
