-- The blanks at the ends of a text are those of its bytes, so that a key may be cut from the bytes of its text.
use Rattle.std.proofs.Common.{◌≡◌, ℕ, ◌<◌, ◌≤◌, Bool, true, false, List, [], ◌∷◌, ◌++◌, length, get_or, ◌==◌, IsUtf8, refl, ap, sym, ◌∙◌, inl, inr, arith, append-nil}
use Rattle.std.specs.List.{AllByRecursion}
use Rattle.std.specs.Char.{encode_utf8}
use Rattle.std.specs.Str.{chars, encode_utf8_all}
use Rattle.std.proofs.lemmas.Bool.{cases_Bool, cond-true, cond-false, and_left, and_right, and_from, eq-eqb, ne_eqb, false_from_ne_true, both_ways}
use Rattle.std.proofs.lemmas.Bool.Decides.{nat_tests}
use Rattle.std.proofs.lemmas.List.{nil_from_length}
use Rattle.std.proofs.lemmas.List.Elements.{All-from_get_or, recursion_from_All}
use Rattle.std.proofs.lemmas.Str.{encode_ascii, inside_one, encodes-chars, length-encode, len_utf8_bounds, length-le-encodes}
use Rattle.dict_text.specs.Characters.{is_blank}
use Rattle.dict_text.specs.Blanks.{without_leading_blanks, without_trailing_blanks, without_blanks_at_ends}
use Rattle.dict_match.proofs.KeyLemmas.{IsSolid}
use Rattle.dict_match.specs.Key.{folded_by, key_by}

pub blank_is_ascii : (c : ℕ) → is_blank c ≡ true → c < 128
blank_is_ascii c blank = grind (arith, nat_tests)

encode-blank : (c : ℕ) → is_blank c ≡ true → encode_utf8 c ≡ c ∷ []
encode-blank c blank = encode_ascii c (blank_is_ascii c blank)

-- no octet of another character is a blank
solid_at : (c k : ℕ) → is_blank c ≡ false → k < length (encode_utf8 c) → IsSolid (get_or (encode_utf8 c) k 0)
solid_at c k solid lt =
    false_from_ne_true _ (λ blank.
    let same : c ≡ get_or (encode_utf8 c) k 0 = inside_one c [] (encode_utf8 c) k (sym (append-nil (encode_utf8 c))) lt (blank_is_ascii _ blank) in
    both_ways _ solid (ap is_blank same ∙ blank))

encode-solid : (c : ℕ) → is_blank c ≡ false → AllByRecursion IsSolid (encode_utf8 c)
encode-solid c solid = recursion_from_All IsSolid (encode_utf8 c) (All-from_get_or IsSolid (encode_utf8 c) 0 (λ k lt. solid_at c k solid lt))

encode-some : (c : ℕ) → 1 ≤ length (encode_utf8 c)
encode-some c = omega (arith, length-encode c, (len_utf8_bounds c).0)

leading-solid : (bs rest : List ℕ) → 1 ≤ length bs → AllByRecursion IsSolid bs → without_leading_blanks (bs ++ rest) ≡ bs ++ rest
leading-solid [] rest some h = absurd (omega arith)
leading-solid (b ∷ bs) rest some h = cond-false (is_blank b) _ (b ∷ (bs ++ rest)) h.0

pub trailing-solid : (bs rest : List ℕ) → AllByRecursion IsSolid bs → without_trailing_blanks (bs ++ rest) ≡ bs ++ without_trailing_blanks rest
trailing-solid [] rest h = refl
trailing-solid (b ∷ bs) rest h =
    cond-false _ [] (b ∷ without_trailing_blanks (bs ++ rest)) (and_left (is_blank b) (length (without_trailing_blanks (bs ++ rest)) == 0) h.0)
    ∙ ap (λ ys. b ∷ ys) (trailing-solid bs rest h.1)

leading-encodes : (cs : List ℕ) → without_leading_blanks (encode_utf8_all cs) ≡ encode_utf8_all (without_leading_blanks cs)
leading-encodes [] = refl
leading-encodes (c ∷ cs) =
    elim (cases_Bool (is_blank c)) [
      | inl blank ↦
          ap (λ bs. without_leading_blanks (bs ++ encode_utf8_all cs)) (encode-blank c blank)
          ∙ cond-true (is_blank c) _ _ blank ∙ leading-encodes cs
          ∙ sym (ap encode_utf8_all (cond-true (is_blank c) _ _ blank))
      | inr solid ↦
          leading-solid (encode_utf8 c) (encode_utf8_all cs) (encode-some c) (encode-solid c solid)
          ∙ sym (ap encode_utf8_all (cond-false (is_blank c) (without_leading_blanks cs) (c ∷ cs) solid))
    ]

-- a text is empty where its bytes are
empty-encodes : (cs : List ℕ) → (length (encode_utf8_all cs) == 0) ≡ (length cs == 0)
empty-encodes [] = refl
empty-encodes (c ∷ cs) =
    let long : length (c ∷ cs) ≤ length (encode_utf8_all (c ∷ cs)) = length-le-encodes (c ∷ cs) in
    ne_eqb _ 0 (λ none. absurd (omega arith)) ∙ sym (ne_eqb (length (c ∷ cs)) 0 (λ none. absurd (omega arith)))

trailing-encodes : (cs : List ℕ) → without_trailing_blanks (encode_utf8_all cs) ≡ encode_utf8_all (without_trailing_blanks cs)
trailing-encodes [] = refl
trailing-encodes (c ∷ cs) =
    let rest = trailing-encodes cs in
    elim (cases_Bool (is_blank c)) [
      | inl blank ↦
          let is = encode-blank c blank in
          let ends : (length (without_trailing_blanks (encode_utf8_all cs)) == 0) ≡ (length (without_trailing_blanks cs) == 0) =
          ap (λ bs. length bs == 0) rest ∙ empty-encodes (without_trailing_blanks cs) in
          ap (λ bs. without_trailing_blanks (bs ++ encode_utf8_all cs)) is
          ∙ elim (cases_Bool (length (without_trailing_blanks cs) == 0)) [
            | inl none ↦
                cond-true _ [] (c ∷ without_trailing_blanks (encode_utf8_all cs)) (and_from (is_blank c) _ blank (ends ∙ none))
                ∙ sym (ap encode_utf8_all (cond-true _ [] (c ∷ without_trailing_blanks cs) (and_from (is_blank c) _ blank none)))
            | inr some ↦
                cond-false _ [] (c ∷ without_trailing_blanks (encode_utf8_all cs)) (and_right (is_blank c) _ (ends ∙ some))
                ∙ ap (λ bs. c ∷ bs) rest
                ∙ sym (ap (λ bs. bs ++ encode_utf8_all (without_trailing_blanks cs)) is)
                ∙ sym (ap encode_utf8_all (cond-false _ [] (c ∷ without_trailing_blanks cs) (and_right (is_blank c) _ some)))
          ]
      | inr solid ↦
          trailing-solid (encode_utf8 c) (encode_utf8_all cs) (encode-solid c solid)
          ∙ ap (λ bs. encode_utf8 c ++ bs) rest
          ∙ sym (ap encode_utf8_all (cond-false _ [] (c ∷ without_trailing_blanks cs) (and_left (is_blank c) _ solid)))
    ]

pub ends-encodes : (cs : List ℕ) → without_blanks_at_ends (encode_utf8_all cs) ≡ encode_utf8_all (without_blanks_at_ends cs)
ends-encodes cs = ap without_trailing_blanks (leading-encodes cs) ∙ trailing-encodes (without_leading_blanks cs)

module _ (normal : List ℕ → List ℕ) (kept : ℕ → Bool) where
  -- where folding leaves nothing
  pub key_by-nothing : (text bytes : List ℕ) → IsUtf8 text → bytes ≡ encode_utf8_all (folded_by normal kept (chars text)) → length bytes ≡ 0 → key_by normal kept text ≡ without_blanks_at_ends text
  unfolding key_by
  key_by-nothing text bytes utf8 is none =
      let short : length (folded_by normal kept (chars text)) ≤ length (encode_utf8_all (folded_by normal kept (chars text))) = length-le-encodes (folded_by normal kept (chars text)) in
      let same : length bytes ≡ length (encode_utf8_all (folded_by normal kept (chars text))) = ap length is in
      let empty : length (folded_by normal kept (chars text)) ≡ 0 = omega arith in
      ap encode_utf8_all (cond-true (length (folded_by normal kept (chars text)) == 0) _ _ (eq-eqb _ 0 empty))
      ∙ sym (ends-encodes (chars text))
      ∙ ap without_blanks_at_ends (encodes-chars text utf8)

  -- where it leaves something
  pub key_by-folded : (text bytes : List ℕ) → bytes ≡ encode_utf8_all (folded_by normal kept (chars text)) → (length bytes ≡ 0 → ⊥) → key_by normal kept text ≡ bytes
  unfolding key_by
  key_by-folded text bytes is some =
      ap encode_utf8_all
      (cond-false (length (folded_by normal kept (chars text)) == 0) _ _ (ne_eqb _ 0 (λ none. some (ap length (is ∙ ap encode_utf8_all (nil_from_length _ none))))))
      ∙ sym is
