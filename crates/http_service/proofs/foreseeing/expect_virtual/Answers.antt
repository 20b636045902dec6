use Rattle.std.proofs.Common.{sym, subst}
use Rattle.serde_json.specs.View.{view}
use Rattle.dict_catalogue.specs.Views.{names_shown}
use Rattle.http_service.specs.Bodies.{IsVirtualValue}
use Rattle.http_service.proofs.foreseeing.expect_virtual.Goals as goal

pub returns-in-Ok-Some-read_virtual-clause-foreseen : goal.returns-in-Ok-Some-read_virtual-clause-foreseen
returns-in-Ok-Some-read_virtual-clause-foreseen g c = λ taken.
    let json = rw c.in-Ok-Some.field-0-is at c.in-Ok-Some.ensures in
    let form = rw c.in-Ok-Some-read_virtual.field-0-is at c.in-Ok-Some-read_virtual.ensures in
    let title = c.in-Ok-Some-read_virtual.form.title.now in
    let is = subst (λ ms. IsVirtualValue (view c.in-Ok-Some.value) title (names_shown ms)) (sym c.as_slice.ensures.value) form in
    let told = c.expect_command.ensures.foreseen taken in
    record { asked = told.asked; asks = (title, names_shown c.as_slice.result.now, (view c.in-Ok-Some.value, json, is), told.asks); told = told.told }
