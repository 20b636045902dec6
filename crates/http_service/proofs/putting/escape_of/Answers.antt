use Rattle.std.proofs.Common.{rules}
use Rattle.json.specs.Print.{escape_byte}
use Rattle.http_service.proofs.putting.escape_of.Goals as goal

pub returns-then-letter-gt0-clause-value : goal.returns-then-letter-gt0-clause-value
unfolding escape_byte
returns-then-letter-gt0-clause-value c = search rules

pub returns-then-octet-lt32-clause-value : goal.returns-then-octet-lt32-clause-value
unfolding escape_byte
returns-then-octet-lt32-clause-value c = search rules

pub returns-clause-value : goal.returns-clause-value
unfolding escape_byte
returns-clause-value c = search rules
