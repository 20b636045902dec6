use Rattle.std.proofs.Common.{◌+◌, ◌++◌, map, drop, sym, ap, ◌∙◌, arith}
use Rattle.dict_catalogue.specs.Views.{item_shown}
use Rattle.dict_session.specs.Places.{places_from, is_regular_named}
use Rattle.dict_session.proofs.PlaceLemmas.{place_in, place_out, read_at}
use Rattle.dict_session.proofs.asked.add_named.Goals as goal
use Rattle.dict_session.proofs.asked.add_named.Goals.{then-is_regular_named, else-is_regular_named}

pub loop-place-preserved : goal.loop-place-preserved
loop-place-preserved c =
    let i = c.loop-place.place in
    let test = is_regular_named c.args.name.now in
    let shown = map item_shown c.args.items.now in
    let all = c.args.places.now.items ++ places_from test 0 shown in
    let item = c.index-items-place.result in
    let e = read_at item_shown c.args.items.now i item (omega arith) c.index-items-place.is in
    elim c.if-is_regular_named.branch [
      | then-is_regular_named w ↦ place_in test all c.loop-place.places.items c.if-is_regular_named.places.items i (drop i shown) (item_shown item) (drop (i + 1) shown) e
          (sym c.is_regular_named.ensures ∙ w.if-is_regular_named.true) (λ room. ap (λ p. p.items) w.places-is ∙ w.add_place.ensures room) c.loop-place.invariant
      | else-is_regular_named w ↦ place_out test all c.loop-place.places.items c.if-is_regular_named.places.items i (drop i shown) (item_shown item) (drop (i + 1) shown) e
          (sym c.is_regular_named.ensures ∙ w.if-is_regular_named.false) (ap (λ p. p.items) w.places-is) c.loop-place.invariant
    ]
