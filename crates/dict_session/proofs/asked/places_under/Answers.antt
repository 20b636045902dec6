use Rattle.std.proofs.Common.{ℕ, List, ap, ◌∙◌, sym, subst, arith, map, drop, ◌+◌, Some}
use Rattle.std.specs.Str.{bytes_eq}
use Rattle.dict_catalogue.specs.Views.{item_shown}
use Rattle.dict_session.specs.Places.{places_under, HoldsUnder}
use Rattle.dict_session.proofs.PlaceLemmas.{read_at, under_here, under_later}
use Rattle.dict_session.proofs.asked.places_under.Goals as goal

pub returns-then-eq : goal.returns-then-eq
returns-then-eq c =
    let i = c.loop-place.place in
    let all = map item_shown c.args.items.now in
    let item = c.index-items-place.result in
    subst (HoldsUnder (Some c.places_by.result))
    (under_here all c.args.name.now i (drop i all) (item_shown item) (drop (i + 1) all) (places_under all c.args.name.now 0 all) (read_at item_shown c.args.items.now i item (omega arith) c.index-items-place.is)
    (ap (λ (name : List ℕ). bytes_eq name c.args.name.now) (sym c.name.ensures) ∙ (sym c.eq.ensures ∙ c.if-eq.true)) c.loop-place.invariant)
    c.places_by.ensures

pub loop-place-preserved : goal.loop-place-preserved
loop-place-preserved c =
    let i = c.loop-place.place in
    let all = map item_shown c.args.items.now in
    let item = c.index-items-place.result in
    under_later all c.args.name.now i (drop i all) (item_shown item) (drop (i + 1) all) (places_under all c.args.name.now 0 all) (read_at item_shown c.args.items.now i item (omega arith) c.index-items-place.is)
    (ap (λ (name : List ℕ). bytes_eq name c.args.name.now) (sym c.name.ensures) ∙ (sym c.eq.ensures ∙ c.if-eq.false)) c.loop-place.invariant
