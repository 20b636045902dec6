-- The octets of answers. RFC 9112, section 4; which header fields and bodies there are is this server's.
use Rattle.std.specs.Prelude.{ℕ, List, [], ◌++◌, length, codes, decimal}
use Rattle.http_request.specs.Statuses.{status_code, reason_phrase}
use Rattle.http_request.specs.declared.statuses.Status.{Status}
use Rattle.http_request.specs.declared.statuses.Status.TheVariants.{Ok, BadRequest, NotFound, MethodNotAllowed, Conflict, ContentTooLarge, UnprocessableContent, ServiceUnavailable}
use Rattle.http_request.specs.declared.route_kinds.Route.{Route}
use Rattle.http_request.specs.declared.route_kinds.Route.TheVariants.{Databases, Database, Rollback, Place, Virtual}
use Rattle.http_service.specs.declared.answers.Answer.{Answer}
use Rattle.http_service.specs.declared.answers.Answer.TheVariants.{Fixed, Made}

-- a status, the header lines that not every answer has, and a body
pub record Response : Type 0 where
  pub status : Status
  pub more : List ℕ
  pub body : List ℕ

-- the status line, the header lines, an empty line, and the body
abbrev pub response_text : Response → List ℕ
response_text response =
    codes "HTTP/1.1 " ++ (decimal (status_code response.status) ++ (codes " " ++ (reason_phrase response.status
    ++ (codes "\r\nContent-Type: application/json\r\nContent-Length: " ++ (decimal (length response.body)
    ++ (codes "\r\n" ++ (response.more ++ (codes "Connection: close\r\n\r\n" ++ response.body))))))))

abbrev pub with_body : Status → List ℕ → Response
with_body status body = record { status = status; more = []; body = body }

-- the body of an answer that tells nothing but its status
abbrev pub error_text : Status → List ℕ
error_text Ok = []
error_text BadRequest = codes "{\"error\":\"bad request\"}"
error_text NotFound = codes "{\"error\":\"not found\"}"
error_text MethodNotAllowed = codes "{\"error\":\"method not allowed\"}"
error_text Conflict = []
error_text ContentTooLarge = codes "{\"error\":\"too large\"}"
error_text UnprocessableContent = []
error_text ServiceUnavailable = codes "{\"error\":\"unavailable\"}"

abbrev pub plain : Status → Response
plain status = with_body status (error_text status)

-- the methods of a route
abbrev pub methods_of : Route → List ℕ
methods_of Databases = codes "GET"
methods_of Database = codes "PUT, DELETE"
methods_of Rollback = codes "POST"
methods_of Place = codes "POST"
methods_of Virtual = codes "PUT"

abbrev pub not_allowed : Route → Response
not_allowed route = record {
  status = MethodNotAllowed;
  more = codes "Allow: " ++ (methods_of route ++ codes "\r\n");
  body = error_text MethodNotAllowed;
}

-- the one answer where memory was wanting or the store failed
abbrev pub unavailable_text : List ℕ
unavailable_text = response_text (plain ServiceUnavailable)

abbrev pub answer_octets : Answer → List ℕ
answer_octets (Fixed text) = text.now
answer_octets (Made octets) = octets.items
