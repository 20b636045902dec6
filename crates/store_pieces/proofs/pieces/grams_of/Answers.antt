use Rattle.std.proofs.Common.{sym, subst}
use Rattle.std.proofs.lemmas.Result.{IfOk-weaker}
use Rattle.store_derived.specs.KeptGrams.{kept_grams}
use Rattle.store_pieces.specs.Pieces.{AreOccurrences}
use Rattle.store_pieces.specs.PlacedPieces.{grams_placed}
use Rattle.store_pieces.proofs.pieces.grams_of.Goals as goal

pub returns : goal.returns
returns c =
    let keys = c.args.keys.now in
    let all : AreOccurrences kept_grams keys (grams_placed c.as_slice.result.now) = subst (λ l. AreOccurrences kept_grams keys (grams_placed l)) (sym c.as_slice.ensures.value) c.in_ok-placed.ensures in
    let placed = c.in_ok-group_grams.ensures keys all in
    IfOk-weaker c.pieces_of.result _ _ (λ pieces made. made kept_grams keys placed) c.pieces_of.ensures
