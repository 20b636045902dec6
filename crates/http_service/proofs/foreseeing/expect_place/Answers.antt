use Rattle.std.proofs.Common.{sym, subst}
use Rattle.http_service.specs.Bodies.{IsPlace}
use Rattle.http_service.proofs.foreseeing.expect_place.Goals as goal

pub returns-in-Ok-Some-clause-foreseen : goal.returns-in-Ok-Some-clause-foreseen
returns-in-Ok-Some-clause-foreseen g c = λ taken.
    let is = subst (λ n. IsPlace c.args.body.now n) (sym c.from.ensures) (rw c.in-Ok-Some.field-0-is at c.in-Ok-Some.ensures) in
    let told = c.expect_command.ensures.foreseen taken in
    record { asked = told.asked; asks = (c.from.result, is, told.asks); told = told.told }
