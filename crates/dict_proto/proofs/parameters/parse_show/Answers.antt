use Rattle.std.proofs.Common.{◌≡◌, sym, ap, ◌∙◌, subst}
use Rattle.std.specs.Prelude.{Some}
use Rattle.dict_proto.specs.Content.{content_of}
use Rattle.dict_proto.specs.Meaning.{show_of, show_meaning}
use Rattle.dict_proto.specs.Places.{shown_with}
use Rattle.dict_proto.specs.Told.{Tells}
use Rattle.dict_proto.proofs.PlaceLemmas.{after-word}
use Rattle.dict_proto.proofs.parameters.parse_show.Goals as goal

pub returns-in-Some-by_name : goal.returns-in-Some-by_name
returns-in-Some-by_name c words e =
    let (more, rest, same) = after-word _ _ (content_of c.in-Some.name) words c.in-Some.ensures.0 e in
    let is : shown_with (Some c.in-Some-by_name.shown) more ≡ show_meaning (content_of c.in-Some.name) more =
    ap (λ shown. shown_with shown more) (sym c.in-Some-by_name.is) ∙ c.by_name.ensures more in
    subst (λ ws. Tells c.parse_shown.result (show_of ws)) same (subst (Tells c.parse_shown.result) is (c.parse_shown.ensures more rest))
