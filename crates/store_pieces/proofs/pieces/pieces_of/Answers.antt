use Rattle.std.proofs.Common.{sym, subst}
use Rattle.store_pieces.specs.Pieces.{ArePlaced}
use Rattle.store_pieces.proofs.pieces.pieces_of.Goals as goal

pub returns : goal.returns
returns c = λ pieces_in keys placed.
    subst (λ l. ArePlaced pieces_in keys c.packed.result.texts l) (sym c.packed.ensures.lists) (subst (λ l. ArePlaced pieces_in keys l c.args.lists) (sym c.packed.ensures.texts) placed)
