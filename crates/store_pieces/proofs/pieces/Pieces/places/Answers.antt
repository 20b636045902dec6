use Rattle.std.proofs.Common.{ap, sym, ◌∙◌}
use Rattle.store_places.specs.Places.{places_where}
use Rattle.store_pieces.specs.Selected.{has_piece}
use Rattle.store_pieces.proofs.pieces.Pieces.places.Goals as goal

pub returns-in-Some : goal.returns-in-Some
returns-in-Some c = λ pieces_in keys are.
    let there = c.in-Some.ensures in
    c.get.ensures ∙ are.each c.in-Some.at there.0 ∙ ap (λ w. places_where (has_piece pieces_in w) keys) there.1

pub returns-in-None : goal.returns-in-None
returns-in-None c = λ pieces_in keys are. sym (are.others c.args.piece.now c.in-None.ensures)
