-- The statuses of answers: code and reason phrase. RFC 9112, section 4; RFC 9110, section 15.
use Rattle.std.specs.Prelude.{ℕ, List, codes}
use Rattle.http_request.specs.declared.statuses.Status.{Status}
use Rattle.http_request.specs.declared.statuses.Status.TheVariants.{Ok, BadRequest, NotFound, MethodNotAllowed, Conflict, ContentTooLarge, UnprocessableContent, ServiceUnavailable}

abbrev pub status_code : Status → ℕ
status_code Ok = 200
status_code BadRequest = 400
status_code NotFound = 404
status_code MethodNotAllowed = 405
status_code Conflict = 409
status_code ContentTooLarge = 413
status_code UnprocessableContent = 422
status_code ServiceUnavailable = 503

abbrev pub reason_phrase : Status → List ℕ
reason_phrase Ok = codes "OK"
reason_phrase BadRequest = codes "Bad Request"
reason_phrase NotFound = codes "Not Found"
reason_phrase MethodNotAllowed = codes "Method Not Allowed"
reason_phrase Conflict = codes "Conflict"
reason_phrase ContentTooLarge = codes "Content Too Large"
reason_phrase UnprocessableContent = codes "Unprocessable Content"
reason_phrase ServiceUnavailable = codes "Service Unavailable"
