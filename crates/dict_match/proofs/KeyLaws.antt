-- What holds of a key by whichever version: it is text, and it is empty only where the text is blanks alone.
use Rattle.std.proofs.Common.{◌≡◌, ℕ, ◌≤◌, Bool, true, List, [], ◌∷◌, length, ◌==◌, ◌&&◌, All, refl, ap, sym, ◌∙◌, subst, inl, inr, arith, IsUtf8}
use Rattle.std.specs.List.{slice_split, onto_first, filter, join_with_byte}
use Rattle.std.specs.Char.{IsScalar}
use Rattle.std.specs.Str.{chars, encode_utf8_all, all_scalars}
use Rattle.std.proofs.lemmas.Bool.{cases_Bool, cond-true, cond-false, cond_both, and_parts, and_from, eqb-true, eqb-false}
use Rattle.std.proofs.lemmas.List.{nil_from_length}
use Rattle.std.proofs.lemmas.List.Elements.{All-nil, All-cons, All-head, All-tail, All-append, All-filter}
use Rattle.std.proofs.lemmas.Str.{length-le-encodes, scalars-chars}
use Rattle.dict_text.specs.Characters.{is_blank}
use Rattle.dict_text.specs.Blanks.{without_leading_blanks, without_trailing_blanks, without_blanks_at_ends}
use Rattle.dict_text.proofs.BlankLemmas.{All-ends}
use Rattle.dict_match.specs.Words.{words_between_blanks}
use Rattle.dict_match.proofs.FoldLemmas.{is_word}
use Rattle.dict_match.proofs.KeyLemmas.{IsBlank, no_words-from_blanks}
use Rattle.dict_match.specs.Key.{folded_by, key_chars_by, key_by}
use Rattle.dict_match.proofs.Scalars.{All-from_all_scalars}

-- what holds of each element of a list holds of each element of each piece, and of the pieces joined
module _ (P : ℕ → Type 0) where
  onto_first-All : (x : ℕ) (pieces : List (List ℕ)) → P x → All (All P) pieces → All (All P) (onto_first x pieces)
  onto_first-All x [] one h = All-cons (All P) (x ∷ []) [] (All-cons P x [] one (All-nil P)) (All-nil (All P))
  onto_first-All x (piece ∷ pieces) one h =
      All-cons (All P) (x ∷ piece) pieces (All-cons P x piece one (All-head (All P) piece pieces h)) (All-tail (All P) piece pieces h)

  pieces-All : (p : ℕ → Bool) (xs : List ℕ) → All P xs → All (All P) (slice_split p xs)
  pieces-All p [] h = All-cons (All P) [] [] (All-nil P) (All-nil (All P))
  pieces-All p (x ∷ xs) h =
      let more = pieces-All p xs (All-tail P x xs h) in
      cond_both (p x) ([] ∷ slice_split p xs) (onto_first x (slice_split p xs)) (All (All P))
      (λ _. All-cons (All P) [] (slice_split p xs) (All-nil P) more)
      (λ _. onto_first-All x (slice_split p xs) (All-head P x xs h) more)

  join-All : (c : ℕ) → P c → (pieces : List (List ℕ)) → All (All P) pieces → All P (join_with_byte c pieces)
  join-All c one [] h = All-nil P
  join-All c one (piece ∷ []) h = All-head (All P) piece [] h
  join-All c one (piece ∷ next ∷ pieces) h =
      All-append P piece (c ∷ join_with_byte c (next ∷ pieces)) (All-head (All P) piece (next ∷ pieces) h)
      (All-cons P c (join_with_byte c (next ∷ pieces)) one (join-All c one (next ∷ pieces) (All-tail (All P) piece (next ∷ pieces) h)))

  module _ (normal : List ℕ → List ℕ) (kept : ℕ → Bool) where
    -- a key has what its normal form has, and what a space has
    pub key_chars_by-All : P 32 → ((cs : List ℕ) → All P cs → All P (normal cs)) → (cs : List ℕ) → All P cs → All P (key_chars_by normal kept cs)
    key_chars_by-All space form cs h =
        cond_both (length (folded_by normal kept cs) == 0) (without_blanks_at_ends cs) (folded_by normal kept cs) (All P)
        (λ _. All-ends P cs h)
        (λ _. join-All 32 space (words_between_blanks (filter kept (normal cs)))
        (All-filter is_word (All P) (slice_split is_blank (filter kept (normal cs))) (pieces-All is_blank (filter kept (normal cs)) (All-filter kept P (normal cs) (form cs h)))))

all_scalars-from_All : (cs : List ℕ) → All IsScalar cs → all_scalars cs ≡ true
all_scalars-from_All [] h = refl
all_scalars-from_All (c ∷ cs) h =
    and_from _ (all_scalars cs) (All-head IsScalar c cs h) (all_scalars-from_All cs (All-tail IsScalar c cs h))

leading-from_blanks : (cs : List ℕ) → All IsBlank cs → without_leading_blanks cs ≡ []
leading-from_blanks [] h = refl
leading-from_blanks (c ∷ cs) h =
    cond-true (is_blank c) _ _ (All-head IsBlank c cs h) ∙ leading-from_blanks cs (All-tail IsBlank c cs h)

blanks-from_trailing : (cs : List ℕ) → without_trailing_blanks cs ≡ [] → All IsBlank cs
blanks-from_trailing [] e = All-nil IsBlank
blanks-from_trailing (c ∷ cs) e =
    elim (cases_Bool (is_blank c && length (without_trailing_blanks cs) == 0)) [
      | inl both ↦
          let parts = and_parts (is_blank c) (length (without_trailing_blanks cs) == 0) both in
          All-cons IsBlank c cs parts.0 (blanks-from_trailing cs (nil_from_length _ (eqb-true _ 0 parts.1)))
      | inr stays ↦
          let some : c ∷ without_trailing_blanks cs ≡ [] = sym (cond-false _ [] (c ∷ without_trailing_blanks cs) stays) ∙ e in
          cc
    ]

blanks-from_leading : (cs : List ℕ) → All IsBlank (without_leading_blanks cs) → All IsBlank cs
blanks-from_leading [] h = All-nil IsBlank
blanks-from_leading (c ∷ cs) h =
    elim (cases_Bool (is_blank c)) [
      | inl blank ↦
          All-cons IsBlank c cs blank (blanks-from_leading cs (subst (All IsBlank) (cond-true (is_blank c) _ _ blank) h))
      | inr solid ↦ subst (All IsBlank) (cond-false (is_blank c) (without_leading_blanks cs) (c ∷ cs) solid) h
    ]

module _ (normal : List ℕ → List ℕ) (kept : ℕ → Bool) where
  pub key_by-utf8 : ((cs : List ℕ) → All IsScalar cs → All IsScalar (normal cs)) → (text : List ℕ) → IsUtf8 text → IsUtf8 (key_by normal kept text)
  unfolding key_by
  key_by-utf8 form text utf8 = (
    key_chars_by normal kept (chars text),
    (all_scalars-from_All (key_chars_by normal kept (chars text)) (key_chars_by-All IsScalar normal kept refl form (chars text) (All-from_all_scalars (chars text) (scalars-chars text utf8))), refl),
  )

  blanks-from_key_chars : (cs : List ℕ) → key_chars_by normal kept cs ≡ [] → All IsBlank cs
  blanks-from_key_chars cs e =
      elim (cases_Bool (length (folded_by normal kept cs) == 0)) [
        | inl none ↦
            blanks-from_leading cs (blanks-from_trailing (without_leading_blanks cs) (sym (cond-true _ (without_blanks_at_ends cs) (folded_by normal kept cs) none) ∙ e))
        | inr some ↦
            let nothing : folded_by normal kept cs ≡ [] = sym (cond-false _ (without_blanks_at_ends cs) (folded_by normal kept cs) some) ∙ e in
            absurd (eqb-false (length (folded_by normal kept cs)) 0 some (ap length nothing))
      ]

  pub blanks-from_key : (text : List ℕ) → key_by normal kept text ≡ [] → All IsBlank (chars text)
  unfolding key_by
  blanks-from_key text e =
      let short : length (key_chars_by normal kept (chars text)) ≤ length (encode_utf8_all (key_chars_by normal kept (chars text))) = length-le-encodes (key_chars_by normal kept (chars text)) in
      let none : length (encode_utf8_all (key_chars_by normal kept (chars text))) ≡ 0 = ap length e in
      blanks-from_key_chars (chars text) (nil_from_length _ (omega arith))

  -- where the normal form of blanks is blanks
  pub key-from_blanks : ((cs : List ℕ) → All IsBlank cs → All IsBlank (normal cs)) → (text : List ℕ) → All IsBlank (chars text) → key_by normal kept text ≡ []
  unfolding key_by
  key-from_blanks form text h =
      let nothing : folded_by normal kept (chars text) ≡ [] =
      ap (join_with_byte 32) (no_words-from_blanks (filter kept (normal (chars text))) (All-filter kept IsBlank (normal (chars text)) (form (chars text) h))) in
      ap encode_utf8_all
      (cond-true (length (folded_by normal kept (chars text)) == 0) _ _ (ap (λ xs. length xs == 0) nothing) ∙ ap without_trailing_blanks (leading-from_blanks (chars text) h))
