use Rattle.std.proofs.Common.{◌≡◌, ◌++◌, ◌<◌, map, length, take, ap, sym, ◌∙◌, arith}
use Rattle.std.proofs.lemmas.List.{take_all}
use Rattle.store_derived.specs.KeptGrams.{kept_grams}
use Rattle.store_pieces.specs.Pieces.{placed_at, occurrences_from}
use Rattle.store_pieces.specs.PlacedPieces.{grams_placed}
use Rattle.store_places.proofs.MergingLemmas.{as_it_was}
use Rattle.store_pieces.proofs.PlacedLemmas.{next_key}
use Rattle.store_pieces.proofs.listing.take_more.Goals as goal

pub loop-at-preserved : goal.loop-at-preserved
loop-at-preserved c =
    let keys = c.args.keys.now in
    let at = c.loop-at.at in
    let within : at < length keys = omega (arith, c.loop-at-test.true, c.requires.count) in
    c.in_ok-add_grams.ensures
    ∙ ap (λ l. l ++ map (placed_at at) (kept_grams c.get.result.now)) c.loop-at.invariant
    ∙ sym (next_key kept_grams keys at c.get.result.now within c.get.ensures)

pub returns-then-place-count : goal.returns-then-place-count
returns-then-place-count c =
    let keys = c.args.keys.now in
    record {
      each = as_it_was _ _ (ap grams_placed c.in_ok-of.ensures.same ∙ c.requires.taken ∙ ap (occurrences_from kept_grams 0) (take_all c.args.taken.place keys (omega (arith, c.if-place-count.true, c.requires.count))));
      within = c.in_ok-of.ensures.within;
    }

pub returns : goal.returns
returns c =
    let same : c.loop-at.at ≡ c.min-to.result = omega arith in
    c.loop-at.invariant ∙ ap (λ n. occurrences_from kept_grams 0 (take n c.args.keys.now)) same
