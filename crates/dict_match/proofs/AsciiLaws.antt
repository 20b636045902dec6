-- The two versions on ASCII, and the first version as its rule was written.
use Rattle.std.proofs.Common.{◌≡◌, ℕ, ◌<◌, Bool, false, List, [], ◌∷◌, length, map, ◌==◌, ◌&&◌, ◌||◌, nat_le, cond, All, IsAscii, refl, ap, ap₂, sym, ◌∙◌, subst, inl, inr, arith}
use Rattle.std.specs.List.{filter, join_with_byte}
use Rattle.std.specs.Char.{to_ascii_lowercase, IsScalar}
use Rattle.std.specs.Str.{chars, encode_utf8_all}
use Rattle.std.proofs.lemmas.Bool.{cases_Bool, cond-true, cond-false, lt-leb}
use Rattle.std.proofs.lemmas.Bool.Decides.{nat_tests}
use Rattle.std.proofs.lemmas.List.Elements.{All-head, All-tail, All-map, All-weaker}
use Rattle.caseless.specs.Caseless.{default_case_fold}
use Rattle.caseless.proofs.CaselessLemmas.{default_case_fold-ascii, All-chars}
use Rattle.ucd_derived.specs.Binary.{is_alphabetic}
use Rattle.ucd_category.specs.GeneralCategory.{general_category}
use Rattle.dict_text.specs.Blanks.{without_blanks_at_ends}
use Rattle.dict_match.specs.Words.{words_between_blanks}
use Rattle.dict_match.proofs.KeyLemmas.{IsBlank}
use Rattle.dict_match.proofs.FallbackLemmas.{blank_is_ascii}
use Rattle.dict_match.proofs.FoldLemmas.{is_blank-lower}
use Rattle.dict_match.specs.FirstVersion.{first_key_of}
use Rattle.dict_match.specs.Key.{key_by, is_kept_of_ascii, in_ascii_lower_case, is_kept_first, reserved_key_of, is_number, is_kept, key_of}

-- of a version the key wants only what is kept of the normal form
pub key_by-same : (n m : List ℕ → List ℕ) (k l : ℕ → Bool) (text : List ℕ) → filter k (n (chars text)) ≡ filter l (m (chars text)) → key_by n k text ≡ key_by m l text
unfolding key_by
key_by-same n m k l text same =
    ap (λ cs. encode_utf8_all (cond (length (join_with_byte 32 (words_between_blanks cs)) == 0) (without_blanks_at_ends (chars text)) (join_with_byte 32 (words_between_blanks cs)))) same

-- ---- ASCII

is_kept-ascii : (c : ℕ) → c < 128 → is_kept c ≡ is_kept_first c
is_kept-ascii c low =
    let past : nat_le 128 c ≡ false = lt-leb 128 c low in
    ap (λ b. (b && (is_alphabetic c || is_number (general_category c))) || is_kept_of_ascii c) past
    ∙ sym (ap (λ b. b || is_kept_of_ascii c) past)

filter-ascii : (cs : List ℕ) → All (λ c. c < 128) cs → filter is_kept cs ≡ filter is_kept_first cs
filter-ascii [] h = refl
filter-ascii (c ∷ cs) h =
    ap₂ (λ (b : Bool) (ds : List ℕ). cond b (c ∷ ds) ds) (is_kept-ascii c (All-head (λ d. d < 128) c cs h)) (filter-ascii cs (All-tail (λ d. d < 128) c cs h))

lower_ascii : (c : ℕ) → c < 128 → to_ascii_lowercase c < 128
lower_ascii c h = grind (arith, nat_tests)

All-lower : (cs : List ℕ) → All (λ c. c < 128) cs → All (λ c. c < 128) (map to_ascii_lowercase cs)
All-lower cs h = All-map (λ c. c < 128) to_ascii_lowercase cs (All-weaker (λ c. c < 128) (λ c. to_ascii_lowercase c < 128) lower_ascii cs h)

-- a text in ASCII has one key by both versions
pub key_of-ascii : (text : List ℕ) → IsAscii text → key_of text ≡ reserved_key_of text
unfolding key_of reserved_key_of
key_of-ascii text ascii =
    let low = All-chars text ascii in
    key_by-same default_case_fold in_ascii_lower_case is_kept is_kept_first text
    (ap (filter is_kept) (default_case_fold-ascii (chars text) low) ∙ filter-ascii (map to_ascii_lowercase (chars text)) (All-lower (chars text) low))

-- ---- the order of lowering and filtering

is_kept-lower : (c : ℕ) → is_kept_first (to_ascii_lowercase c) ≡ is_kept_first c
is_kept-lower c = grind (arith, nat_tests)

lower-filter : (cs : List ℕ) → filter is_kept_first (map to_ascii_lowercase cs) ≡ map to_ascii_lowercase (filter is_kept_first cs)
lower-filter [] = refl
lower-filter (c ∷ cs) =
    elim (cases_Bool (is_kept_first c)) [
      | inl kept ↦
          cond-true (is_kept_first (to_ascii_lowercase c)) _ _ (is_kept-lower c ∙ kept) ∙ ap (λ ds. to_ascii_lowercase c ∷ ds) (lower-filter cs)
          ∙ sym (ap (map to_ascii_lowercase) (cond-true (is_kept_first c) _ _ kept))
      | inr dropped ↦
          cond-false (is_kept_first (to_ascii_lowercase c)) _ _ (is_kept-lower c ∙ dropped) ∙ lower-filter cs
          ∙ sym (ap (map to_ascii_lowercase) (cond-false (is_kept_first c) _ _ dropped))
    ]

pub reserved_key_of-first : (text : List ℕ) → reserved_key_of text ≡ first_key_of text
unfolding key_by reserved_key_of first_key_of
reserved_key_of-first text =
    ap (λ cs. encode_utf8_all (cond (length (join_with_byte 32 (words_between_blanks cs)) == 0) (without_blanks_at_ends (chars text)) (join_with_byte 32 (words_between_blanks cs)))) (lower-filter (chars text))

-- ---- what the laws of keys ask of each version

pub lower-blanks : (cs : List ℕ) → All IsBlank cs → All IsBlank (in_ascii_lower_case cs)
lower-blanks cs h = All-map IsBlank to_ascii_lowercase cs (All-weaker IsBlank (λ c. IsBlank (to_ascii_lowercase c)) (λ c b. is_blank-lower c ∙ b) cs h)

pub case_fold-blanks : (cs : List ℕ) → All IsBlank cs → All IsBlank (default_case_fold cs)
case_fold-blanks cs h =
    subst (All IsBlank) (sym (default_case_fold-ascii cs (All-weaker IsBlank (λ c. c < 128) blank_is_ascii cs h))) (lower-blanks cs h)

scalar-lower : (c : ℕ) → IsScalar c → IsScalar (to_ascii_lowercase c)
scalar-lower c h = grind (arith, nat_tests)

pub lower-scalars : (cs : List ℕ) → All IsScalar cs → All IsScalar (in_ascii_lower_case cs)
lower-scalars cs h = All-map IsScalar to_ascii_lowercase cs (All-weaker IsScalar (λ c. IsScalar (to_ascii_lowercase c)) scalar-lower cs h)
