use Rattle.std.proofs.Common.{◌≡◌, ap, ◌∙◌, rules}
use Rattle.std.specs.Ordering.{nat_cmp}
use Rattle.store_pieces.specs.PlacedPieces.{gram_rank}
use Rattle.store_pieces.proofs.RankLemmas.{by_rank}
use Rattle.store_pieces.proofs.placed.compare_grams.Goals as goal

pub returns : goal.returns
returns c =
    let one = c.args.one.now in
    let other = c.args.other.now in
    let f = c.rank.ensures.fits in
    let g = c.rank-2.ensures.fits in
    let made : c.cmp.result ≡ nat_cmp c.rank.result c.rank-2.result = search rules in
    made ∙ ap (λ n. nat_cmp n c.rank-2.result) c.rank.ensures.value ∙ ap (nat_cmp (gram_rank one)) c.rank-2.ensures.value
    ∙ by_rank one.gram other.gram one.place other.place f.three g.three f.second f.third g.second g.third f.place g.place
