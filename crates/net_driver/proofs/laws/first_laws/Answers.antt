use Rattle.net_driver.proofs.FirstLemmas.{behind_longer, first_some, none_held}
use Rattle.net_driver.proofs.laws.first_laws.Goals as goal

pub returns-clause-some : goal.returns-clause-some
returns-clause-some g c = λ id is. first_some c.args.all.now id is

pub returns-clause-none : goal.returns-clause-none
returns-clause-none g c = λ is k d within. none_held c.args.all.now is k d within

pub returns-clause-behind : goal.returns-clause-behind
returns-clause-behind g c = λ place j k d rising in_j in_k less. behind_longer c.args.all.now c.args.new.now place j k d rising in_j in_k less
