-- A key has no blank at its ends, by whichever version.
use Rattle.std.proofs.Common.{◌≡◌, ℕ, ◌<◌, ◌≤◌, Bool, false, List, [], ◌∷◌, ◌++◌, length, ◌==◌, ◌&&◌, refl, ap, sym, ◌∙◌, inl, inr, arith, append-nil}
use Rattle.std.specs.List.{join_with_byte, filter}
use Rattle.std.specs.Str.{chars, encode_utf8_all}
use Rattle.std.proofs.lemmas.Bool.{cases_Bool, cond-true, cond-false, cond_both, and_left, ne_eqb}
use Rattle.std.proofs.lemmas.List.{nil_from_length}
use Rattle.std.proofs.lemmas.List.Elements.{All-head, recursion_from_All}
use Rattle.dict_text.specs.Characters.{is_blank}
use Rattle.dict_text.specs.Blanks.{without_leading_blanks, without_trailing_blanks, without_blanks_at_ends}
use Rattle.dict_match.specs.Words.{words_between_blanks, AreLongestRuns}
use Rattle.dict_match.specs.Key.{folded_by, key_chars_by, key_by}
use Rattle.dict_match.proofs.KeyLemmas.{IsSolid}
use Rattle.dict_match.proofs.JoinLemmas.{length-first-join}
use Rattle.dict_match.proofs.WordLaws.{runs_of}
use Rattle.dict_match.proofs.FallbackLemmas.{trailing-solid, ends-encodes}

-- words joined by a space end with no blank
trailing-join : (cs : List ℕ) (words : List (List ℕ)) → AreLongestRuns cs words → without_trailing_blanks (join_with_byte 32 words) ≡ join_with_byte 32 words
trailing-join cs [] h = refl
trailing-join cs (word ∷ []) h =
    ap without_trailing_blanks (sym (append-nil word)) ∙ trailing-solid word [] (recursion_from_All IsSolid word h.5) ∙ append-nil word
trailing-join cs (word ∷ next ∷ words) h =
    let rest : List ℕ = join_with_byte 32 (next ∷ words) in
    let same : without_trailing_blanks rest ≡ rest = trailing-join h.1 (next ∷ words) h.7 in
    let first : 0 < length next = omega (arith, λ (none : length next ≡ 0). h.7.4 (nil_from_length next none)) in
    let some : length next ≤ length rest = length-first-join 32 next words in
    let solid : (length (without_trailing_blanks rest) == 0) ≡ false = ap (λ ys. length ys == 0) same ∙ ne_eqb (length rest) 0 (λ none. absurd (omega arith)) in
    trailing-solid word (32 ∷ rest) (recursion_from_All IsSolid word h.5)
    ∙ ap (λ ys. word ++ ys) (cond-false (length (without_trailing_blanks rest) == 0) [] (32 ∷ without_trailing_blanks rest) solid ∙ ap (λ ys. 32 ∷ ys) same)

-- and begin with none
leading-join : (cs : List ℕ) (words : List (List ℕ)) → AreLongestRuns cs words → without_leading_blanks (join_with_byte 32 words) ≡ join_with_byte 32 words
leading-join cs [] h = refl
leading-join cs ([] ∷ words) h = absurd (h.4 refl)
leading-join cs ((c ∷ word) ∷ []) h = cond-false (is_blank c) _ (c ∷ word) (All-head IsSolid c word h.5)
leading-join cs ((c ∷ word) ∷ next ∷ words) h = cond-false (is_blank c) _ (c ∷ (word ++ 32 ∷ join_with_byte 32 (next ∷ words))) (All-head IsSolid c word h.5)

ends-words : (cs : List ℕ) → without_blanks_at_ends (join_with_byte 32 (words_between_blanks cs)) ≡ join_with_byte 32 (words_between_blanks cs)
ends-words cs =
    ap without_trailing_blanks (leading-join cs (words_between_blanks cs) (runs_of cs)) ∙ trailing-join cs (words_between_blanks cs) (runs_of cs)

-- what has been taken away at the ends isn't there any more
trailing-twice : (cs : List ℕ) → without_trailing_blanks (without_trailing_blanks cs) ≡ without_trailing_blanks cs
trailing-twice [] = refl
trailing-twice (c ∷ cs) =
    elim (cases_Bool (is_blank c && length (without_trailing_blanks cs) == 0)) [
      | inl both ↦
          let none : without_trailing_blanks (c ∷ cs) ≡ [] = cond-true _ [] (c ∷ without_trailing_blanks cs) both in
          ap without_trailing_blanks none ∙ sym none
      | inr stays ↦
          let first : without_trailing_blanks (c ∷ cs) ≡ c ∷ without_trailing_blanks cs = cond-false _ [] (c ∷ without_trailing_blanks cs) stays in
          let more = trailing-twice cs in
          ap without_trailing_blanks first
          ∙ cond-false _ [] (c ∷ without_trailing_blanks (without_trailing_blanks cs)) (ap (λ ys. is_blank c && length ys == 0) more ∙ stays)
          ∙ ap (λ ys. c ∷ ys) more ∙ sym first
    ]

leading-both : (cs : List ℕ) → without_leading_blanks (without_blanks_at_ends cs) ≡ without_blanks_at_ends cs
leading-both [] = refl
leading-both (c ∷ cs) =
    elim (cases_Bool (is_blank c)) [
      | inl blank ↦
          let next : without_blanks_at_ends (c ∷ cs) ≡ without_blanks_at_ends cs = ap without_trailing_blanks (cond-true (is_blank c) _ _ blank) in
          ap without_leading_blanks next ∙ leading-both cs ∙ sym next
      | inr solid ↦
          let first : without_blanks_at_ends (c ∷ cs) ≡ c ∷ without_trailing_blanks cs =
          ap without_trailing_blanks (cond-false (is_blank c) (without_leading_blanks cs) (c ∷ cs) solid)
          ∙ cond-false _ [] (c ∷ without_trailing_blanks cs) (and_left (is_blank c) (length (without_trailing_blanks cs) == 0) solid) in
          ap without_leading_blanks first ∙ cond-false (is_blank c) _ (c ∷ without_trailing_blanks cs) solid ∙ sym first
    ]

ends-twice : (cs : List ℕ) → without_blanks_at_ends (without_blanks_at_ends cs) ≡ without_blanks_at_ends cs
ends-twice cs = ap without_trailing_blanks (leading-both cs) ∙ trailing-twice (without_leading_blanks cs)

module _ (normal : List ℕ → List ℕ) (kept : ℕ → Bool) where
  pub key_by-ends : (text : List ℕ) → without_blanks_at_ends (key_by normal kept text) ≡ key_by normal kept text
  unfolding key_by
  key_by-ends text =
      ends-encodes (key_chars_by normal kept (chars text))
      ∙ ap encode_utf8_all
      (cond_both (length (folded_by normal kept (chars text)) == 0) (without_blanks_at_ends (chars text)) (folded_by normal kept (chars text)) (λ cs. without_blanks_at_ends cs ≡ cs)
      (λ _. ends-twice (chars text)) (λ _. ends-words (filter kept (normal (chars text)))))
