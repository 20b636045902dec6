use Rattle.std.proofs.Common.{sym, subst}
use Rattle.std.proofs.lemmas.Result.{IfOk-weaker}
use Rattle.dict_match.specs.Words.{words_between_blanks}
use Rattle.store_pieces.specs.Pieces.{AreOccurrences}
use Rattle.store_pieces.specs.PlacedPieces.{words_placed}
use Rattle.store_pieces.proofs.pieces.words_of.Goals as goal

pub returns : goal.returns
returns c =
    let keys = c.args.keys.now in
    let all : AreOccurrences words_between_blanks keys (words_placed c.as_slice.result.now) = subst (λ l. AreOccurrences words_between_blanks keys (words_placed l)) (sym c.as_slice.ensures.value) c.in_ok-placed.ensures in
    let placed = c.in_ok-group_words.ensures keys all in
    IfOk-weaker c.pieces_of.result _ _ (λ pieces made. made words_between_blanks keys placed) c.pieces_of.ensures
