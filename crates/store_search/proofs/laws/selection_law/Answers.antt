use Rattle.store_pieces.proofs.SelectionLemmas.{selects}
use Rattle.store_search.proofs.laws.selection_law.Goals as goal

pub returns : goal.returns
returns c = selects
