use Rattle.std.proofs.Common.{◌≡◌, ◌++◌, ◌-◌, length, take, drop, ap, ◌∙◌, arith}
use Rattle.store_places.proofs.MergingLemmas.{all_put}
use Rattle.store_places.proofs.merging.Merging.end.Goals as goal

pub returns : goal.returns
returns g c =
    let m = c.args.self in
    let first = c.put_part.new.merged.items in
    let many : c.len.result ≡ length m.items.items = omega (arith, c.len.ensures, m.items.ok.0) in
    all_put m.merged.items first _ m.items.items m.left m.left_end m.right c.len.result many
    (c.in_ok-put_part.ensures ∙ ap (λ l. m.merged.items ++ take (m.left_end - m.left) (drop m.left l)) c.as_slice.ensures.value)
    (c.in_ok-put_part-2.ensures ∙ ap (λ l. first ++ take (c.len.result - m.right) (drop m.right l)) c.as_slice-2.ensures.value)
