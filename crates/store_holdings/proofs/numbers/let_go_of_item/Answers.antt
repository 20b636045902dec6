use Rattle.store_holdings.proofs.NumberLemmas.{same_itself, same_then}
use Rattle.store_holdings.proofs.numbers.let_go_of_item.Goals as goal

pub returns-in_default-clause-same : goal.returns-in_default-clause-same
returns-in_default-clause-same c = same_itself c.args.indexes.now c.args.items.now

pub returns-in-Some-clause-same : goal.returns-in-Some-clause-same
returns-in-Some-clause-same c = same_then c.args.indexes.now c.let_go_unless.new.indexes c.let_go_unless-in-Some.new.indexes c.args.items.now c.let_go_unless.ensures.same c.let_go_unless-in-Some.ensures.same

pub returns-in-Some-clause-gone : goal.returns-in-Some-clause-gone
returns-in-Some-clause-gone c = rw c.in-Regular.is (rw c.in-Some.is ((λ apart. c.let_go_unless-in-Some.ensures.none _ (c.let_go_unless.ensures.gone apart)), (c.let_go_unless-in-Some.ensures.gone, tt)))
