use Rattle.store_pieces.proofs.PieceLemmas.{goes_none}
use Rattle.store_pieces.proofs.listing.begin_grouping.Goals as goal

pub returns : goal.returns
returns c = record { all = c.each_once-placed.ensures; first = goes_none _ _ _ c.new.ensures c.in_ok-lists.ensures }
