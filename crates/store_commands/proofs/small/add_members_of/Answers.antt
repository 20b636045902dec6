use Rattle.store_commands.specs.Changes.{with_more_members}
use Rattle.store_commands.specs.Statements.{adding_member}
use Rattle.store_commands.proofs.LoopLemmas.{adding_none, members_none}
use Rattle.store_commands.proofs.small.add_members_of.Goals as goal

pub returns-in-Regular-clause-wrote : goal.returns-in-Regular-clause-wrote
returns-in-Regular-clause-wrote g c = rw c.in-Regular.is (adding_none g.S.Store adding_member with_more_members members_none (g.T.OpenTransaction.held c.args.tx.now))
