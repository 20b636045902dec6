use Rattle.store_desk.proofs.coming.Coming.make.Goals as goal

pub make_part-requires-clause-known : goal.make_part-requires-clause-known
make_part-requires-clause-known c = c.self.invariant.0

pub make_part-requires-clause-index : goal.make_part-requires-clause-index
make_part-requires-clause-index c = c.self.invariant.1

pub invariant_of-self : goal.invariant_of-self
invariant_of-self c = (c.self.invariant.0, c.make_part.ensures.index)
