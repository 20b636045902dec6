-- The laws of keys for each of the two versions.
use Rattle.std.proofs.Common.{◌≡◌, ◌↔◌, ℕ, List, [], All, IsUtf8, chars}
use Rattle.caseless.specs.Caseless.{default_case_fold}
use Rattle.dict_match.proofs.KeyLemmas.{IsBlank}
use Rattle.dict_match.specs.Key.{in_ascii_lower_case, is_kept_first, is_kept, key_of, reserved_key_of}
use Rattle.dict_match.proofs.Scalars.{All-default_case_fold}
use Rattle.dict_text.specs.Blanks.{without_blanks_at_ends}
use Rattle.dict_match.proofs.EndLemmas.{key_by-ends}
use Rattle.dict_match.proofs.KeyLaws.{key_by-utf8, blanks-from_key, key-from_blanks}
use Rattle.dict_match.proofs.AsciiLaws.{lower-blanks, case_fold-blanks, lower-scalars, key_of-ascii, reserved_key_of-first}

pub key_of-utf8 : (text : List ℕ) → IsUtf8 text → IsUtf8 (key_of text)
unfolding key_of
key_of-utf8 = key_by-utf8 default_case_fold is_kept All-default_case_fold

pub key_of-empty : (text : List ℕ) → (key_of text ≡ []) ↔ All IsBlank (chars text)
unfolding key_of
key_of-empty text = (blanks-from_key default_case_fold is_kept text, key-from_blanks default_case_fold is_kept case_fold-blanks text)

pub key_of-ends : (text : List ℕ) → without_blanks_at_ends (key_of text) ≡ key_of text
unfolding key_of
key_of-ends = key_by-ends default_case_fold is_kept

pub reserved_key_of-ends : (text : List ℕ) → without_blanks_at_ends (reserved_key_of text) ≡ reserved_key_of text
unfolding reserved_key_of
reserved_key_of-ends = key_by-ends in_ascii_lower_case is_kept_first

pub reserved_key_of-utf8 : (text : List ℕ) → IsUtf8 text → IsUtf8 (reserved_key_of text)
unfolding reserved_key_of
reserved_key_of-utf8 = key_by-utf8 in_ascii_lower_case is_kept_first lower-scalars

pub reserved_key_of-empty : (text : List ℕ) → (reserved_key_of text ≡ []) ↔ All IsBlank (chars text)
unfolding reserved_key_of
reserved_key_of-empty text = (blanks-from_key in_ascii_lower_case is_kept_first text, key-from_blanks in_ascii_lower_case is_kept_first lower-blanks text)

pub ruleset laws_of_keys = (key_of-utf8, key_of-ends, key_of-empty, reserved_key_of-utf8, reserved_key_of-ends, reserved_key_of-empty)

-- one is empty exactly where the other is
pub empty_alike : (text : List ℕ) → (key_of text ≡ []) ↔ (reserved_key_of text ≡ [])
empty_alike text = (λ none. (reserved_key_of-empty text).1 ((key_of-empty text).0 none), λ none. (key_of-empty text).1 ((reserved_key_of-empty text).0 none))

pub ruleset laws_of_versions = (key_of-ascii, empty_alike, reserved_key_of-first)
