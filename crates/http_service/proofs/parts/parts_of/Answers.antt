use Rattle.http_service.proofs.PartLemmas.{no_parts, unread_parts, short_parts}
use Rattle.http_service.proofs.parts.parts_of.Goals as goal

pub returns-in_default : goal.returns-in_default
returns-in_default c index text parts = no_parts _ index text c.in_default.ensures parts

pub returns-in_default-read_size : goal.returns-in_default-read_size
returns-in_default-read_size c index text parts = unread_parts _ _ _ index text c.in-Some.ensures c.in_default-read_size.ensures parts

pub returns-then-rest-size : goal.returns-then-rest-size
returns-then-rest-size c index text parts =
    short_parts _ _ _ index text c.in-Some-read_size.size c.in-Some.ensures c.in-Some-read_size.ensures.0 c.in-Some-read_size.ensures.1 c.if-rest-size.true parts
