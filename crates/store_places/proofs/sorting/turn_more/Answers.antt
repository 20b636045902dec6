use Rattle.std.proofs.Common.{◌≡◌, ◌≤◌, ℕ, List, length, map, reverse, take, ap, sym, ◌∙◌, arith}
use Rattle.std.proofs.lemmas.List.{length-map, length-take}
use Rattle.store_places.proofs.sorting.turn_more.Goals as goal

-- so many are turned, and there are no more of them than texts
many : (texts turned : List (List ℕ)) (at : ℕ) → at ≤ length texts → turned ≡ map reverse (take at texts) → length turned ≡ at
many texts turned at le are = omega (arith, le, ap length are, length-map (take at texts) reverse, length-take at texts)

fits : (texts turned : List (List ℕ)) → turned ≡ map reverse (take (length turned) texts) → length turned ≤ length texts
fits texts turned are = omega (arith, ap length are, length-map (take (length turned) texts) reverse, length-take (length turned) texts)

so_far : (texts turned : List (List ℕ)) (at : ℕ) → at ≤ length texts → turned ≡ map reverse (take at texts) → turned ≡ map reverse (take (length turned) texts)
so_far texts turned at le are = are ∙ ap (λ n. map reverse (take n texts)) (sym (many texts turned at le are))

pub returns : goal.returns
returns c =
    let few = fits c.args.texts.now c.args.turned.now c.requires in
    so_far c.args.texts.now c.loop-at.turned c.loop-at.at (omega (arith, few)) c.loop-at.invariant
