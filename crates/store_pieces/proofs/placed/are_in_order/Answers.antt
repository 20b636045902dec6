use Rattle.std.proofs.Common.{◌<◌, ◌≤◌, [], length, ap, sym, ◌∙◌, arith}
use Rattle.std.specs.Ordering.{is_lt}
use Rattle.store_pieces.specs.PlacedPieces.{gram_cmp}
use Rattle.store_pieces.specs.declared.placed.PlacedGram.{PlacedGram}
use Rattle.store_places.proofs.ComparedLemmas.{one_compared, fewer_compared}
use Rattle.store_pieces.proofs.placed.are_in_order.Goals as goal
use Rattle.store_pieces.proofs.placed.are_in_order.Goals.{else-at-gt0-via-then-at-gt0+else-is_lt, else-at-gt0-via-else-at-gt0}

abbrev no_gram : PlacedGram
no_gram = record { gram = []; place = 0 }

pub loop-at-preserved : goal.loop-at-preserved
loop-at-preserved c up =
    let runs = c.args.runs.now in
    let at = c.loop-at.at in
    let within : at < length runs = omega (arith, c.loop-at-test.true, c.requires) in
    one_compared (λ x y. is_lt (gram_cmp x y)) runs at no_gram within
    (λ some. elim c.else-at-gt0.branch [
      | else-at-gt0-via-then-at-gt0+else-is_lt w ↦ sym (ap is_lt w.compare_grams.ensures) ∙ sym w.is_lt.ensures ∙ w.if-is_lt.false
      | else-at-gt0-via-else-at-gt0 w ↦ absurd (omega (arith, some, w.if-at-gt0.false))
    ])
    (c.loop-at.invariant up)

pub returns : goal.returns
returns c is up =
    let past : c.args.to ≤ c.loop-at.at = omega (arith, c.loop-at-test.false) in
    fewer_compared (λ x y. is_lt (gram_cmp x y)) c.args.runs.now c.args.to c.loop-at.at past (c.loop-at.invariant up)
