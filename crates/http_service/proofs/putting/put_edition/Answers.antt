use Rattle.std.proofs.Common.{append-nil}
use Rattle.http_service.proofs.putting.put_edition.Goals as goal

pub returns-in-Some : goal.returns-in-Some
returns-in-Some g c = rw (c.in-Some.is, ← c.format-digits.ensures.text, ← c.as_bytes.ensures.value) (rw (append-nil c.as_bytes.result.now) at c.put_all.ensures)

pub returns-in-None : goal.returns-in-None
returns-in-None g c = rw c.in-None.is c.put.ensures.put
