use Rattle.store_holdings.proofs.NumberLemmas.{fewer_by, gone_there, same_beside, same_itself}
use Rattle.store_holdings.proofs.numbers.let_go_unless.Goals as goal

pub returns-then-has_number-clause-same : goal.returns-then-has_number-clause-same
returns-then-has_number-clause-same c = same_itself c.args.indexes.now c.args.items.now

pub returns-then-has_number-clause-gone : goal.returns-then-has_number-clause-gone
returns-then-has_number-clause-gone c = λ apart. absurd (c.has_number.ensures.there c.if-has_number.true apart)

pub returns-clause-same : goal.returns-clause-same
returns-clause-same c = same_beside c.args.number c.args.indexes.now c.let_go.new.self c.let_go.ensures c.args.items.now (c.has_number.ensures.apart c.if-has_number.false)

pub returns-clause-gone : goal.returns-clause-gone
returns-clause-gone c = λ apart. gone_there c.args.number c.args.indexes.now c.let_go.new.self c.let_go.ensures

pub returns-clause-none : goal.returns-clause-none
returns-clause-none c = fewer_by c.args.number c.args.indexes.now c.let_go.new.self c.let_go.ensures
