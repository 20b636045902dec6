use Rattle.std.proofs.Common.{◌-◌, get_or, arith}
use Rattle.store_pieces.proofs.KeptLemmas.{others}
use Rattle.store_pieces.proofs.grams.ends_at.Goals as goal

pub returns-then-key-end : goal.returns-then-key-end
returns-then-key-end c =
    let gram = c.args.gram.now in
    let key = c.args.key.now in
    let end = c.args.end in
    others gram (get_or key (end - 3) 0) (get_or key (end - 2) 0) (get_or key (end - 1) 0) (λ same. absurd (omega (arith, same, c.if-key-end.true)))
