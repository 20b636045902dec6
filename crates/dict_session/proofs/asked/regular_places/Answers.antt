use Rattle.std.proofs.Common.{◌+◌, map, drop, sym, ap, ◌∙◌, arith}
use Rattle.dict_catalogue.specs.Items.{is_regular}
use Rattle.dict_catalogue.specs.Views.{item_shown}
use Rattle.dict_session.specs.Places.{places_from}
use Rattle.dict_session.proofs.PlaceLemmas.{place_in, place_out, read_at}
use Rattle.dict_session.proofs.asked.regular_places.Goals as goal
use Rattle.dict_session.proofs.asked.regular_places.Goals.{then-is_regular, else-is_regular}

pub loop-place-preserved : goal.loop-place-preserved
loop-place-preserved c =
    let i = c.loop-place.place in
    let shown = map item_shown c.args.items.now in
    let item = c.index-items-place.result in
    let e = read_at item_shown c.args.items.now i item (omega arith) c.index-items-place.is in
    elim c.if-is_regular.branch [
      | then-is_regular w ↦ place_in is_regular (places_from is_regular 0 shown) c.loop-place.places.items c.if-is_regular.places.items i (drop i shown) (item_shown item) (drop (i + 1) shown) e
          (sym c.is_regular.ensures ∙ w.if-is_regular.true) (λ room. ap (λ p. p.items) w.places-is ∙ w.add_place.ensures room) c.loop-place.invariant
      | else-is_regular w ↦ place_out is_regular (places_from is_regular 0 shown) c.loop-place.places.items c.if-is_regular.places.items i (drop i shown) (item_shown item) (drop (i + 1) shown) e
          (sym c.is_regular.ensures ∙ w.if-is_regular.false) (ap (λ p. p.items) w.places-is) c.loop-place.invariant
    ]
