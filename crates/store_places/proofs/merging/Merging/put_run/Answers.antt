use Rattle.std.proofs.Common.{◌≤◌, ◌-◌, ◌++◌, take, drop, ap, sym, subst, ◌∙◌, arith}
use Rattle.std.specs.List.Sorted.{IsPermutation}
use Rattle.store_places.proofs.MergingLemmas.{parts, put_run}
use Rattle.store_places.proofs.merging.Merging.put_run.Goals as goal

pub returns-clause-same : goal.returns-clause-same
returns-clause-same g c =
    let m = c.args.self.now in
    let to = c.min-to.result in
    let run = c.sort_unstable_by.new.self.items in
    let further : m.right ≤ to = omega (arith, m.items.ok.0) in
    let moved : IsPermutation (take (to - m.right) (drop m.right m.items.items)) run =
    subst (λ l. IsPermutation l run) (c.in_ok-run.ensures.items ∙ ap (λ l. take (to - m.right) (drop m.right l)) c.deref.ensures.value) c.sort_unstable_by.ensures.permutation in
    subst (λ l. IsPermutation (parts m.merged.items m.items.items m.left m.left_end m.right) (parts l m.items.items m.left m.left_end to))
    (sym (c.in_ok-extend_from_slice.ensures.items ∙ ap (λ l. m.merged.items ++ l) c.as_slice.ensures.value))
    (put_run m.merged.items m.items.items run m.left m.left_end m.right to c.requires.none further moved)
