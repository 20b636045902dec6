-- What the headers of a request say of its body, and under which id it comes. RFC 9112, sections 5 and 6; the
-- limits are this server's.
use Rattle.std.specs.Prelude.{◌≡◌, ◌<◌, ◌&&◌, if◌then◌else◌, ℕ, List, [], ◌∷◌, length, nat_le, codes, Option, Some, None}
use Rattle.std.specs.List.{list_all}
use Rattle.std.specs.Char.{is_ascii_digit}
use Rattle.std.specs.Str.{str_eq_ignore_ascii_case}
use Rattle.std.specs.Str.Parse.{digits_value}
use Rattle.http_request.specs.declared.kinds.Framing as framings
use Rattle.http_request.specs.declared.kinds.Framing.TheVariants.{Body, Refused}
use Rattle.http_request.specs.declared.kinds.Values.{Values}
use Rattle.http_request.specs.declared.kinds.Values.TheVariants.{Absent, One, Several}
use Rattle.http_request.specs.declared.statuses.Status.TheVariants.{BadRequest, ContentTooLarge}

-- a header: its name, and its value without blanks at its ends
abbrev pub Header : Type 0
Header = List ℕ × List ℕ

-- the values of the headers of this name, whatever the case of its ASCII letters, in their order
abbrev pub values_of : List ℕ → List Header → List (List ℕ)
values_of name [] = []
values_of name (header ∷ headers) =
    if str_eq_ignore_ascii_case header.0 name then header.1 ∷ values_of name headers else values_of name headers

-- the code's three cases of a list of values
abbrev pub AreValues : Values → List (List ℕ) → Type 0
AreValues Absent values = values ≡ []
AreValues (One value) values = values ≡ value.now ∷ []
AreValues Several values = 1 < length values

-- the number that 1 to 10 decimal digits write
abbrev pub length_of : List ℕ → Option ℕ
length_of value =
    if nat_le 1 (length value) && (nat_le (length value) 10 && list_all is_ascii_digit value)
    then Some (digits_value 10 value)
    else None

-- no number of 1 to 10 digits; one above 83,886,080; or the length of the body
abbrev pub framing_of_length : Option ℕ → framings.Framing
framing_of_length None = Refused BadRequest
framing_of_length (Some size) = if nat_le size 83886080 then Body size else Refused ContentTooLarge

-- by the values of `Content-Length`: none means that there is no body
abbrev pub framing_of_lengths : List (List ℕ) → framings.Framing
framing_of_lengths [] = Body 0
framing_of_lengths (value ∷ []) = framing_of_length (length_of value)
framing_of_lengths (value ∷ second ∷ others) = Refused BadRequest

-- by the values of `Transfer-Encoding`, and then by those of `Content-Length`
abbrev pub framing_of_codings : List (List ℕ) → List (List ℕ) → framings.Framing
framing_of_codings [] lengths = framing_of_lengths lengths
framing_of_codings (value ∷ others) lengths = Refused BadRequest

-- the body that the headers tell of, or the status of the first test that they fail
abbrev pub framing_of : List Header → framings.Framing
framing_of headers = framing_of_codings (values_of (codes "transfer-encoding") headers) (values_of (codes "content-length") headers)

-- the values of `Request-Id`
abbrev pub ids_of : List Header → List (List ℕ)
ids_of headers = values_of (codes "request-id") headers

abbrev pub IsFraming : List Header → framings.Framing → Type 0
IsFraming headers framing = framing ≡ framing_of headers
