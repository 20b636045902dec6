use Rattle.std.proofs.Common.{◌≡◌, ◌<◌, ◌≤◌, ℕ, List, [], ◌∷◌, length, reverse, ap, sym, ◌∙◌, refl, arith, rules, Greater}
use Rattle.std.proofs.lemmas.List.{drop_all, length-reverse}
use Rattle.store_derived.specs.Derived.{octets_cmp}
use Rattle.store_places.proofs.reversed.compare_reversed.Goals as goal

longer : (xs : List ℕ) → 0 < length xs → octets_cmp xs [] ≡ Greater
longer [] h = absurd (omega (arith, h))
longer (x ∷ xs) h = refl

pub returns-else-is_empty : goal.returns-else-is_empty
returns-else-is_empty c =
    let rest = c.loop-octet.rest.now in
    let other = c.args.other.now in
    let some : 0 < length rest = search rules in
    let past : length other ≤ c.loop-octet.octet-index = search rules in
    let size = length-reverse rest in
    sym (c.loop-octet.invariant ∙ ap (octets_cmp (reverse rest)) (drop_all c.loop-octet.octet-index other past) ∙ longer (reverse rest) (omega (arith, some, size)))
