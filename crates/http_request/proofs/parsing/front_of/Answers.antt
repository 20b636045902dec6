use Rattle.std.proofs.Common.{sym, arith}
use Rattle.std.proofs.lemmas.List.{take_all}
use Rattle.http_request.proofs.parsing.front_of.Goals as goal

pub returns-then-octets-lt-MAX_HEAD-clause-value : goal.returns-then-octets-lt-MAX_HEAD-clause-value
returns-then-octets-lt-MAX_HEAD-clause-value c = sym (take_all 8192 c.args.octets.now (omega (arith, c.if-octets-lt-MAX_HEAD.true)))
