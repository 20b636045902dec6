use Rattle.std.proofs.Common.{◌∙◌, sym, ap}
use Rattle.serde_json.specs.Find.{as_str}
use Rattle.serde_json.specs.View.{view}
use Rattle.http_service.proofs.BodyLemmas.{text_at}
use Rattle.http_service.proofs.bodies.texts_of.Goals as goal

pub returns-in_default : goal.returns-in_default
returns-in_default c texts are =
    text_at view c.args.items.now texts c.loop-item.item-index c.item-item.result are c.loop-item-test.true (ap (λ v. as_str (view v)) (sym c.item-item.is) ∙ sym c.in_default.ensures)
