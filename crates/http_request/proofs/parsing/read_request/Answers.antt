use Rattle.http_request.proofs.HeadLemmas.{reading_partial, reading_error}
use Rattle.http_request.proofs.parsing.read_request.Goals as goal

pub returns-in-Ok-Partial : goal.returns-in-Ok-Partial
returns-in-Ok-Partial c = reading_partial c.args.octets.now _ _ c.front_of-front.ensures.value (rw c.in-Ok-Partial.field-0-is at c.in-Ok-Partial.ensures.partial) c.without_head.ensures

pub returns-in-Err : goal.returns-in-Err
returns-in-Err c = reading_error c.args.octets.now _ _ c.front_of-front.ensures.value c.in-Err.ensures.no_room c.without_head-in-Err.ensures
