-- Names and ids are ASCII, so UTF-8.
use Rattle.std.proofs.Common.{◌≡◌, ℕ, ◌<◌, Bool, true, ◌||◌, ◌&&◌, ◌==◌, inl, inr, List, [], ◌∷◌, arith, eqb-true}
use Rattle.std.specs.Prelude.{nat_le, IsTrue}
use Rattle.std.specs.List.{list_all}
use Rattle.std.specs.Str.{IsAscii, IsUtf8}
use Rattle.std.proofs.lemmas.Bool.{and_parts, or_cases, leb-true}
use Rattle.std.proofs.lemmas.Str.{IsUtf8-from_ascii}
use Rattle.std.proofs.lemmas.Str.Ascii.{IsAscii-nil, IsAscii-cons}
use Rattle.dict_text.specs.Names.{is_from, is_small_letter, is_capital_letter, is_digit, is_name_octet, is_request_octet, has_size, first_passes, is_name, is_request_id}

within : (low high octet : ℕ) → high < 128 → is_from low high octet ≡ true → octet < 128
within low high octet few e = let below = leb-true octet high (and_parts (nat_le low octet) (nat_le octet high) e).1 in omega (arith, few, below)

name_octet : (octet : ℕ) → is_name_octet octet ≡ true → octet < 128
name_octet octet e = elim (or_cases (is_small_letter octet || is_digit octet || (octet == 95)) (octet == 45) e) [
  | inl more ↦ (elim (or_cases (is_small_letter octet || is_digit octet) (octet == 95) more) [
    | inl plain ↦ (elim (or_cases (is_small_letter octet) (is_digit octet) plain) [
      | inl letter ↦ within 97 122 octet (omega arith) letter
      | inr digit ↦ within 48 57 octet (omega arith) digit
    ])
    | inr line ↦ (let is = eqb-true octet 95 line in omega (arith, is))
  ])
  | inr dash ↦ (let is = eqb-true octet 45 dash in omega (arith, is))
]

request_octet : (octet : ℕ) → is_request_octet octet ≡ true → octet < 128
request_octet octet e = elim (or_cases (is_capital_letter octet || is_small_letter octet || is_digit octet) (octet == 45) e) [
  | inl more ↦ (elim (or_cases (is_capital_letter octet || is_small_letter octet) (is_digit octet) more) [
    | inl letter ↦ (elim (or_cases (is_capital_letter octet) (is_small_letter octet) letter) [
      | inl capital ↦ within 65 90 octet (omega arith) capital
      | inr small ↦ within 97 122 octet (omega arith) small
    ])
    | inr digit ↦ within 48 57 octet (omega arith) digit
  ])
  | inr dash ↦ (let is = eqb-true octet 45 dash in omega (arith, is))
]

all_ascii : (test : ℕ → Bool) → ((octet : ℕ) → test octet ≡ true → octet < 128) → (text : List ℕ) → list_all test text ≡ true → IsAscii text
all_ascii test low [] e = IsAscii-nil
all_ascii test low (octet ∷ text) e = let parts = and_parts (test octet) (list_all test text) e in IsAscii-cons octet text (low octet parts.0) (all_ascii test low text parts.1)

-- words of a name's octets
pub word_utf8 : (word : List ℕ) → list_all is_name_octet word ≡ true → IsUtf8 word
word_utf8 word e = IsUtf8-from_ascii word (all_ascii is_name_octet name_octet word e)

pub name_utf8 : (name : List ℕ) → IsTrue (is_name name) → IsUtf8 name
unfolding is_name
name_utf8 name e =
    let sized = and_parts (has_size 32 name && list_all is_name_octet name) (first_passes is_small_letter name) e in
    word_utf8 name (and_parts (has_size 32 name) (list_all is_name_octet name) sized.0).1

pub id_utf8 : (id : List ℕ) → IsTrue (is_request_id id) → IsUtf8 id
unfolding is_request_id
id_utf8 id e = IsUtf8-from_ascii id (all_ascii is_request_octet request_octet id (and_parts (has_size 64 id) (list_all is_request_octet id) e).1)
