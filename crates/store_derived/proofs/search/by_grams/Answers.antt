use Rattle.std.proofs.Common.{◌≡◌, ◌+◌, ◌-◌, ◌<◌, [], ◌∷◌, Some, length, get_or, ap, sym, ◌∙◌, subst, arith}
use Rattle.std.specs.Option.{option_or}
use Rattle.store_derived.specs.KeptGrams.{is_kept_gram}
use Rattle.store_derived.proofs.EndLemmas.{rows_with, AreSeen, none_seen, one_behind, kept_seen, left_out_seen, all_seen}
use Rattle.store_derived.proofs.search.by_grams.Goals as goal
use Rattle.store_derived.proofs.search.by_grams.Goals.{then-is_kept, else-is_kept}

pub loop-end-init : goal.loop-end-init
loop-end-init c = none_seen c.args.query.now

pub loop-end-preserved : goal.loop-end-preserved
loop-end-preserved c =
    let q = c.args.query.now in
    let end = c.loop-end.end in
    let old = rows_with c.loop-end.first c.loop-end.last in
    let gram = get_or q (end - 3) 0 ∷ get_or q (end - 2) 0 ∷ get_or q (end - 1) 0 ∷ [] in
    let told : is_kept_gram gram ≡ c.is_kept.result = ap is_kept_gram (sym c.as_slice.ensures) ∙ sym c.is_kept.ensures in
    let first = c.if-is_kept.first in
    let last = c.if-is_kept.last in
    elim c.if-is_kept.branch [
      | then-is_kept w ↦ kept_seen q end old (rows_with first last) c.loop-end.auto.end c.loop-end-test.true (told ∙ w.if-is_kept.true)
          (λ runs is. ap (λ f. rows_with f last) (w.first-is ∙ w.or-first.ensures) ∙ ap (rows_with (option_or c.loop-end.first (Some gram))) w.last-is ∙ one_behind runs c.loop-end.first c.loop-end.last gram is)
          c.loop-end.invariant
      | else-is_kept w ↦ subst (AreSeen q (end + 1)) (sym (ap (λ f. rows_with f last) w.first-is ∙ ap (rows_with c.loop-end.first) w.last-is))
          (left_out_seen q end old c.loop-end.auto.end c.loop-end-test.true (told ∙ w.if-is_kept.false) c.loop-end.invariant)
    ]

pub returns-in-Some : goal.returns-in-Some
returns-in-Some c =
    let q = c.args.query.now in
    let end = c.loop-end.end in
    let past : length q < end - 3 + 3 = omega (arith, c.loop-end-test.false, c.loop-end.auto.end) in
    sym (ap (λ f. rows_with f c.loop-end.last) c.in-Some.is) ∙ all_seen q end (rows_with c.loop-end.first c.loop-end.last) past c.loop-end.invariant

pub returns-in-None : goal.returns-in-None
returns-in-None c =
    let q = c.args.query.now in
    let end = c.loop-end.end in
    let past : length q < end - 3 + 3 = omega (arith, c.loop-end-test.false, c.loop-end.auto.end) in
    sym (ap (λ f. rows_with f c.loop-end.last) c.in-None.is) ∙ all_seen q end (rows_with c.loop-end.first c.loop-end.last) past c.loop-end.invariant
