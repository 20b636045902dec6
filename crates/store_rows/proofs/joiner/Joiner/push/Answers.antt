use Rattle.store_rows.proofs.JoinLemmas.{parts_push}
use Rattle.store_rows.proofs.joiner.Joiner.push.Goals as goal

pub returns-clause-parts : goal.returns-clause-parts
returns-clause-parts c =
    let pushed = parts_push c.deref.result.now c.args.number c.args.part.now c.if-not-is_next.ensures in
    let value = c.deref.ensures.value in
    let items = c.in-Ok.ensures.items in
    cc
