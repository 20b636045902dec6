use Rattle.std.proofs.Common.{◌≡◌, ◌+◌, ◌-◌, ◌<◌, ◌||◌, [], ◌∷◌, true, false, drop, length, get_or, ap, sym, ◌∙◌, arith}
use Rattle.std.specs.Str.{bytes_eq}
use Rattle.store_pieces.specs.Selected.{has_gram}
use Rattle.store_pieces.proofs.KeptLemmas.{has_next, has_no_more}
use Rattle.store_pieces.proofs.grams.has_gram.Goals as goal

pub returns-then-ends_at : goal.returns-then-ends_at
returns-then-ends_at c =
    let gram = c.args.gram.now in
    let key = c.args.key.now in
    let end = c.loop-end.end in
    let is : bytes_eq gram (get_or key (end - 3) 0 ∷ get_or key (end - 2) 0 ∷ get_or key (end - 1) 0 ∷ []) ≡ true = sym c.ends_at.ensures ∙ c.if-ends_at.true in
    sym (sym c.loop-end.invariant ∙ has_next gram key end c.loop-end.auto.end c.loop-end-test.true ∙ ap (λ b. b || has_gram gram (drop (end + 1 - 3) key)) is)

pub loop-end-preserved : goal.loop-end-preserved
loop-end-preserved c =
    let gram = c.args.gram.now in
    let key = c.args.key.now in
    let end = c.loop-end.end in
    let other : bytes_eq gram (get_or key (end - 3) 0 ∷ get_or key (end - 2) 0 ∷ get_or key (end - 1) 0 ∷ []) ≡ false = sym c.ends_at.ensures ∙ c.if-ends_at.false in
    sym (has_next gram key end c.loop-end.auto.end c.loop-end-test.true ∙ ap (λ b. b || has_gram gram (drop (end + 1 - 3) key)) other) ∙ c.loop-end.invariant

pub returns : goal.returns
returns c =
    let gram = c.args.gram.now in
    let key = c.args.key.now in
    let end = c.loop-end.end in
    let past : length key < end - 3 + 3 = omega (arith, c.loop-end-test.false, c.loop-end.auto.end) in
    sym (sym c.loop-end.invariant ∙ has_no_more gram key (end - 3) past)
