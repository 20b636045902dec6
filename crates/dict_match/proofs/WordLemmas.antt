-- The first word of a list, and the words that are left after it.
use Rattle.std.proofs.Common.{◌≡◌, ℕ, zero, suc, ◌-◌, ◌<◌, ◌≤◌, true, false, not, List, [], ◌∷◌, ◌++◌, length, take, drop, get_or, All, Option, None, Some, refl, ap, sym, ◌∙◌, subst, inl, inr, arith}
use Rattle.std.specs.List.{filter}
use Rattle.std.specs.Option.{unwrap_or}
use Rattle.std.proofs.lemmas.Bool.{cases_Bool, cond-true, cond-false, ne_eqb, both_ways, false_from_ne_true}
use Rattle.std.proofs.lemmas.List.{append-nil, take-append-drop, get_or-take, length-take-le, length-drop}
use Rattle.std.proofs.lemmas.List.Elements.{All-from_get_or}
use Rattle.std.proofs.lemmas.List.Splits.{slice_split-cons_yes, slice_split_none, slice_split_at}
use Rattle.std.proofs.Math.Seq.{drop-cons}
use Rattle.memchr.specs.Find.{IsFirstByte, is_byte2}
use Rattle.dict_text.specs.Characters.{is_blank}
use Rattle.dict_match.specs.Words.{words_between_blanks}
use Rattle.dict_text.specs.Blanks.{without_leading_blanks}
use Rattle.dict_match.proofs.FoldLemmas.{is_word}
use Rattle.dict_match.proofs.KeyLemmas.{IsSolid}

-- blanks at the front make no words
pub words_between_blanks-leading : (bs : List ℕ) → words_between_blanks (without_leading_blanks bs) ≡ words_between_blanks bs
words_between_blanks-leading [] = refl
words_between_blanks-leading (b ∷ bs) =
    elim (cases_Bool (is_blank b)) [
      | inl blank ↦
          ap words_between_blanks (cond-true (is_blank b) (without_leading_blanks bs) (b ∷ bs) blank) ∙ words_between_blanks-leading bs
          ∙ sym (ap (filter is_word) (slice_split-cons_yes is_blank b bs blank))
      | inr solid ↦ ap words_between_blanks (cond-false (is_blank b) (without_leading_blanks bs) (b ∷ bs) solid)
    ]

-- what is left of a list without blanks at its front begins with no blank
pub leading_solid : (bs : List ℕ) → 0 < length (without_leading_blanks bs) → is_blank (get_or (without_leading_blanks bs) 0 0) ≡ false
leading_solid [] some = absurd (omega arith)
leading_solid (b ∷ bs) some =
    elim (cases_Bool (is_blank b)) [
      | inl blank ↦
          let is : without_leading_blanks (b ∷ bs) ≡ without_leading_blanks bs = cond-true (is_blank b) _ _ blank in
          ap (λ cs. is_blank (get_or cs 0 0)) is ∙ leading_solid bs (subst (λ cs. 0 < length cs) is some)
      | inr solid ↦ ap (λ cs. is_blank (get_or cs 0 0)) (cond-false (is_blank b) (without_leading_blanks bs) (b ∷ bs) solid) ∙ solid
    ]

-- a run without blanks, up to a blank or the end, is the first word
pub words_between_blanks-run : (run rest : List ℕ) → All IsSolid run → 0 < length run → (0 < length rest → is_blank (get_or rest 0 0) ≡ true)
    → words_between_blanks (run ++ rest) ≡ run ∷ words_between_blanks rest
words_between_blanks-run run [] solid some ends =
    ap words_between_blanks (append-nil run) ∙ ap (filter is_word) (slice_split_none is_blank run solid)
    ∙ cond-true (is_word run) (run ∷ []) [] (ap not (ne_eqb (length run) 0 (λ none. absurd (omega arith))))
words_between_blanks-run run (b ∷ rest) solid some ends =
    let blank : is_blank b ≡ true = ends (omega arith) in
    ap (filter is_word) (slice_split_at is_blank run b rest solid blank)
    ∙ cond-true (is_word run) (run ∷ words_between_blanks rest) (words_between_blanks rest) (ap not (ne_eqb (length run) 0 (λ none. absurd (omega arith))))
    ∙ ap (λ ws. run ∷ ws) (sym (ap (filter is_word) (slice_split-cons_yes is_blank b rest blank)))

-- the same by places
pub first_word_at : (bs : List ℕ) (n : ℕ) → 0 < n → n ≤ length bs → ((k : ℕ) → k < n → is_blank (get_or bs k 0) ≡ false)
    → (n < length bs → is_blank (get_or bs n 0) ≡ true) → words_between_blanks bs ≡ take n bs ∷ words_between_blanks (drop n bs)
first_word_at bs n some within solid ends =
    let size : length (take n bs) ≡ n = length-take-le n bs within in
    let run : All IsSolid (take n bs) =
    All-from_get_or IsSolid (take n bs) 0 (λ i lt. let lt' : i < n = omega arith in ap is_blank (get_or-take n bs i 0 lt') ∙ solid i lt') in
    let next : 0 < length (drop n bs) → is_blank (get_or (drop n bs) 0 0) ≡ true =
    λ more.
    let size_left : length (drop n bs) ≡ length bs - n = length-drop n bs in
    let lt : n < length bs = omega arith in
    ap (λ cs. is_blank (get_or cs 0 0)) (drop-cons bs n 0 lt) ∙ ends lt in
    sym (ap words_between_blanks (take-append-drop n bs)) ∙ words_between_blanks-run (take n bs) (drop n bs) run (omega arith) next

-- by what a search for the first blank answers
pub first_word : (bs : List ℕ) (r : Option ℕ) → 0 < length bs → is_blank (get_or bs 0 0) ≡ false → IsFirstByte (is_byte2 32 9) bs r
    → words_between_blanks bs ≡ take (unwrap_or r (length bs)) bs ∷ words_between_blanks (drop (unwrap_or r (length bs)) bs)
first_word bs None some solid none =
    first_word_at bs (length bs) some (omega arith) (λ k lt. false_from_ne_true _ (none k (omega arith) lt)) (λ lt. absurd (omega arith))
first_word bs (Some n) some solid found =
    let low : 0 < n = later n found.1 in
    let within : n < length bs = found.0.high in
    first_word_at bs n low (omega arith) (λ k lt. false_from_ne_true _ (found.0.before k (omega arith) lt)) (λ lt. found.1)
  where
    later : (m : ℕ) → is_blank (get_or bs m 0) ≡ true → 0 < m
    later zero blank = absurd (both_ways _ solid blank)
    later (suc m) blank = omega arith
