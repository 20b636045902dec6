use Rattle.std.proofs.Common.{◌≡◌, ◌≤◌, ℕ, List, length, sym, ap, ◌∙◌, subst, refl, Some, None}
use Rattle.std.specs.Prelude.{Option, option_map}
use Rattle.std.proofs.lemmas.Option.{slice_get-map, slice_get_read, slice_get_past}
use Rattle.dict_catalogue.specs.Items.{Item}
use Rattle.dict_catalogue.specs.Views.{item_shown}
use Rattle.dict_session.specs.Places.{IsHeading}
use Rattle.dict_session.proofs.asked.heading_at.Goals as goal

pub returns-in-Some-Regular : goal.returns-in-Some-Regular
returns-in-Some-Regular c =
    let found = c.in-Some-Regular.ensures.lookup in
    let e = slice_get-map item_shown c.args.items.now c.args.place ∙ ap (option_map item_shown) (slice_get_read c.args.items.now (length c.args.items.now) c.args.place c.in-Some-Regular.field-0.now refl found.3.0 found.1)
    ∙ ap (λ x. Some (item_shown x)) c.in-Some-Regular.field-0-is in
    subst (λ (o : Option (Item (List ℕ))). IsHeading (Some (record { number = c.in-Some-Regular.current.number; name = c.name_kept.result; title = c.title_kept.result })) o) (sym e) (
      refl,
      subst (λ (t : List ℕ). length t ≤ 32 → c.name_kept.result.bytes ≡ t) c.as_str.ensures.value c.name_kept.ensures,
      subst (λ (t : List ℕ). length t ≤ 200 → c.title_kept.result.bytes ≡ t) c.as_str-in-Some-Regular.ensures.value c.title_kept.ensures,
    )

pub returns-in-Some-Virtual : goal.returns-in-Some-Virtual
returns-in-Some-Virtual c =
    let found = c.in-Some-Virtual.ensures.lookup in
    let e = slice_get-map item_shown c.args.items.now c.args.place ∙ ap (option_map item_shown) (slice_get_read c.args.items.now (length c.args.items.now) c.args.place c.in-Some-Virtual.field-0.now refl found.3.0 found.1)
    ∙ ap (λ x. Some (item_shown x)) c.in-Some-Virtual.field-0-is in
    subst (λ (o : Option (Item (List ℕ))). IsHeading None o) (sym e) tt

pub returns-in-None : goal.returns-in-None
returns-in-None c =
    let e = slice_get-map item_shown c.args.items.now c.args.place ∙ ap (option_map item_shown) (slice_get_past c.args.items.now c.args.place c.in-None.ensures.lookup.3) in
    subst (λ (o : Option (Item (List ℕ))). IsHeading None o) (sym e) tt
