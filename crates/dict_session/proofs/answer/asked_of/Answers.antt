use Rattle.std.proofs.Common.{List, ℕ, ap, ◌∙◌, subst, map}
use Rattle.dict_index.specs.Edition.{Edition}
use Rattle.dict_catalogue.specs.Items.{Item}
use Rattle.dict_catalogue.specs.Views.{item_shown}
use Rattle.dict_catalogue.specs.declared.summary.Item.{Item as SummaryItem}
use Rattle.dict_session.specs.Places.{asked_in, HoldsAsked}
use Rattle.dict_session.proofs.AskedLemmas.{asked_as}
use Rattle.dict_session.proofs.answer.asked_of.Goals as goal

pub returns-in-Ok-clause-value : goal.returns-in-Ok-clause-value
returns-in-Ok-clause-value g c = λ M shown.
    subst (HoldsAsked c.asked_places.result)
    (ap (λ (items : List SummaryItem). asked_in (map item_shown items) c.args.word.now) c.deref.ensures.value
    ∙ (ap (λ (items : List (Item (List ℕ))). asked_in items c.args.word.now) (ap (λ h. h.items) (c.in-Ok.ensures.value M shown)) ∙ asked_as (λ (edition : Edition). edition.title) M.items c.args.word.now))
    c.asked_places.ensures
