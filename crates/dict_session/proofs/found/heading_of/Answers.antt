use Rattle.std.proofs.Common.{List, ℕ, ap, ◌∙◌, subst, map}
use Rattle.std.specs.Prelude.{slice_get}
use Rattle.dict_catalogue.specs.Items.{Item}
use Rattle.dict_catalogue.specs.Views.{item_shown}
use Rattle.dict_catalogue.specs.declared.summary.Item.{Item as SummaryItem}
use Rattle.dict_session.specs.Places.{IsHeading}
use Rattle.dict_session.proofs.found.heading_of.Goals as goal

pub returns-in-Ok-clause-value : goal.returns-in-Ok-clause-value
returns-in-Ok-clause-value g c = λ M shown.
    subst (λ (items : List (Item (List ℕ))). IsHeading c.heading_at.result (slice_get items c.args.place))
    (ap (λ (items : List SummaryItem). map item_shown items) c.deref.ensures.value ∙ ap (λ h. h.items) (c.in-Ok.ensures.value M shown))
    c.heading_at.ensures
