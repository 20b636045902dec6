use Rattle.std.proofs.lemmas.List.Filters.{dedup_is}
use Rattle.store_derived.specs.KeptGrams.{kept_grams}
use Rattle.store_pieces.proofs.PlacedLemmas.{placed_again, pieces_tie}
use Rattle.store_pieces.proofs.placed.each_once.Goals as goal

pub returns : goal.returns
returns c =
    placed_again kept_grams c.args.keys.now c.args.runs.items c.dedup.new.self.items _ (λ x y. pieces_tie x.gram y.gram x.place y.place) c.requires.each c.requires.rising (dedup_is _ _ _ c.dedup.ensures.filtered)
