-- The fixed answers, octet for octet.
use Rattle.std.proofs.Common.{◌≡◌, codes, decimal, refl, arith, lit<}
use Rattle.std.proofs.lemmas.Fmt.{decimal-digits_value}
use Rattle.std.proofs.lemmas.Str.Parse.{numerals_by_value, tells_all_ascii_digits}
use Rattle.http_request.specs.declared.statuses.Status.TheVariants.{BadRequest, NotFound, ContentTooLarge}
use Rattle.http_request.specs.declared.route_kinds.Route.TheVariants.{Databases, Database, Rollback, Place, Virtual}
use Rattle.http_service.specs.Answers.{response_text, plain, not_allowed, unavailable_text}

d400 : decimal 400 ≡ codes "400"
d400 = decimal-digits_value (numerals_by_value _ tells_all_ascii_digits) (codes "400") refl (lit< tt) (λ e. absurd (omega (arith, e))) (lit< tt)

d404 : decimal 404 ≡ codes "404"
d404 = decimal-digits_value (numerals_by_value _ tells_all_ascii_digits) (codes "404") refl (lit< tt) (λ e. absurd (omega (arith, e))) (lit< tt)

d405 : decimal 405 ≡ codes "405"
d405 = decimal-digits_value (numerals_by_value _ tells_all_ascii_digits) (codes "405") refl (lit< tt) (λ e. absurd (omega (arith, e))) (lit< tt)

d413 : decimal 413 ≡ codes "413"
d413 = decimal-digits_value (numerals_by_value _ tells_all_ascii_digits) (codes "413") refl (lit< tt) (λ e. absurd (omega (arith, e))) (lit< tt)

d503 : decimal 503 ≡ codes "503"
d503 = decimal-digits_value (numerals_by_value _ tells_all_ascii_digits) (codes "503") refl (lit< tt) (λ e. absurd (omega (arith, e))) (lit< tt)

d21 : decimal 21 ≡ codes "21"
d21 = decimal-digits_value (numerals_by_value _ tells_all_ascii_digits) (codes "21") refl (lit< tt) (λ e. absurd (omega (arith, e))) (lit< tt)

d23 : decimal 23 ≡ codes "23"
d23 = decimal-digits_value (numerals_by_value _ tells_all_ascii_digits) (codes "23") refl (lit< tt) (λ e. absurd (omega (arith, e))) (lit< tt)

d30 : decimal 30 ≡ codes "30"
d30 = decimal-digits_value (numerals_by_value _ tells_all_ascii_digits) (codes "30") refl (lit< tt) (λ e. absurd (omega (arith, e))) (lit< tt)

pub bad_request_is : codes "HTTP/1.1 400 Bad Request\r\nContent-Type: application/json\r\nContent-Length: 23\r\nConnection: close\r\n\r\n{\"error\":\"bad request\"}" ≡ response_text (plain BadRequest)
bad_request_is = rw (d400, d23) refl

pub not_found_is : codes "HTTP/1.1 404 Not Found\r\nContent-Type: application/json\r\nContent-Length: 21\r\nConnection: close\r\n\r\n{\"error\":\"not found\"}" ≡ response_text (plain NotFound)
not_found_is = rw (d404, d21) refl

pub too_large_is : codes "HTTP/1.1 413 Content Too Large\r\nContent-Type: application/json\r\nContent-Length: 21\r\nConnection: close\r\n\r\n{\"error\":\"too large\"}" ≡ response_text (plain ContentTooLarge)
too_large_is = rw (d413, d21) refl

pub unavailable_is : codes "HTTP/1.1 503 Service Unavailable\r\nContent-Type: application/json\r\nContent-Length: 23\r\nConnection: close\r\n\r\n{\"error\":\"unavailable\"}" ≡ unavailable_text
unavailable_is = rw (d503, d23) refl

pub databases_is : codes "HTTP/1.1 405 Method Not Allowed\r\nContent-Type: application/json\r\nContent-Length: 30\r\nAllow: GET\r\nConnection: close\r\n\r\n{\"error\":\"method not allowed\"}" ≡ response_text (not_allowed Databases)
databases_is = rw (d405, d30) refl

pub database_is : codes "HTTP/1.1 405 Method Not Allowed\r\nContent-Type: application/json\r\nContent-Length: 30\r\nAllow: PUT, DELETE\r\nConnection: close\r\n\r\n{\"error\":\"method not allowed\"}" ≡ response_text (not_allowed Database)
database_is = rw (d405, d30) refl

pub rollback_is : codes "HTTP/1.1 405 Method Not Allowed\r\nContent-Type: application/json\r\nContent-Length: 30\r\nAllow: POST\r\nConnection: close\r\n\r\n{\"error\":\"method not allowed\"}" ≡ response_text (not_allowed Rollback)
rollback_is = rw (d405, d30) refl

pub place_is : codes "HTTP/1.1 405 Method Not Allowed\r\nContent-Type: application/json\r\nContent-Length: 30\r\nAllow: POST\r\nConnection: close\r\n\r\n{\"error\":\"method not allowed\"}" ≡ response_text (not_allowed Place)
place_is = rw (d405, d30) refl

pub virtual_is : codes "HTTP/1.1 405 Method Not Allowed\r\nContent-Type: application/json\r\nContent-Length: 30\r\nAllow: PUT\r\nConnection: close\r\n\r\n{\"error\":\"method not allowed\"}" ≡ response_text (not_allowed Virtual)
virtual_is = rw (d405, d30) refl
