use Rattle.std.proofs.Common.{List, ap, ◌∙◌, sym, map}
use Rattle.std.proofs.lemmas.List.{length-map}
use Rattle.dict_catalogue.specs.Views.{item_shown}
use Rattle.dict_catalogue.specs.declared.summary.Item.{Item as SummaryItem}
use Rattle.dict_session.proofs.ShowLemmas.{count_as}
use Rattle.dict_session.proofs.show.count_items.Goals as goal

pub returns-in-Ok-clause-value : goal.returns-in-Ok-clause-value
returns-in-Ok-clause-value g c =
    λ M shown. sym (length-map c.deref-items.result.now item_shown) ∙ count_as M (map item_shown c.deref-items.result.now)
    (ap (λ (items : List SummaryItem). map item_shown items) c.deref-items.ensures.value ∙ ap (λ h. h.items) (c.in-Ok.ensures.value M shown))
