use Rattle.net_connection.proofs.PieceLemmas.{line_found, line_not_found}
use Rattle.net_connection.proofs.held.first_line.Goals as goal

pub returns-in-Some : goal.returns-in-Some
returns-in-Some c = line_found c.args.octets.now c.in-Some.place c.in-Some.ensures.0 c.in-Some.ensures.1

pub returns-in-None : goal.returns-in-None
returns-in-None c = line_not_found c.args.octets.now c.in-None.ensures
