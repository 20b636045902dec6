use Rattle.std.proofs.Common.{arith}
use Rattle.store_rows.proofs.JoinLemmas.{next_from, next_is, decides}
use Rattle.store_rows.proofs.joiner.is_next.Goals as goal

pub returns-then-octets-ne0 : goal.returns-then-octets-ne0
returns-then-octets-ne0 c next = let parts = next_is c.args.octets.now c.args.number c.args.part.now next in omega (arith, parts.0)

pub returns-then-number-octets : goal.returns-then-number-octets
returns-then-number-octets c next = let parts = next_is c.args.octets.now c.args.number c.args.part.now next in omega (arith, parts.1)

pub returns : goal.returns
returns c = decides _ _ _ c.has_part_size.ensures
    (λ size. next_from c.args.octets.now c.args.number c.args.part.now (omega arith) (omega arith) size.0 size.1)
    (λ next. let parts = next_is c.args.octets.now c.args.number c.args.part.now next in (parts.2, parts.3))
