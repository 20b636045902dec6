-- The words of a list are its longest runs without blanks, and nothing else is.
use Rattle.std.proofs.Common.{◌≡◌, ◌↔◌, ℕ, ◌<◌, true, false, List, [], ◌∷◌, ◌++◌, length, ◌≤◌, length-append, All, refl, ap, sym, ◌∙◌, subst, inl, inr, arith, append_assoc}
use Rattle.std.specs.List.{slice_split, onto_first, filter}
use Rattle.std.proofs.lemmas.Bool.{cases_Bool, cond-true, both_ways}
use Rattle.std.proofs.lemmas.List.{nil_from_length}
use Rattle.std.proofs.lemmas.List.Elements.{All-nil, All-cons, All-head}
use Rattle.std.proofs.lemmas.List.Splits.{slice_split-cons_yes, slice_split-cons_no}
use Rattle.dict_text.specs.Characters.{is_blank}
use Rattle.dict_match.specs.Words.{words_between_blanks, EndsOrGoesOnBlank, AreLongestRuns}
use Rattle.dict_match.proofs.FoldLemmas.{is_word, is_word-cons}
use Rattle.dict_match.proofs.SplitLemmas.{some_piece}
use Rattle.dict_match.proofs.KeyLemmas.{IsBlank, IsSolid, no_words-from_blanks, words_between_blanks-gap}
use Rattle.dict_match.proofs.WordLemmas.{words_between_blanks-run}

pub words_from_runs : (cs : List ℕ) (words : List (List ℕ)) → AreLongestRuns cs words → words_between_blanks cs ≡ words
words_from_runs cs [] h = no_words-from_blanks cs h
words_from_runs cs (word ∷ words) h =
    let gap = h.0 in
    let rest = h.1 in
    let some : 0 < length word = omega (arith, λ (none : length word ≡ 0). h.4 (nil_from_length word none)) in
    ap words_between_blanks (h.2 ∙ append_assoc gap word rest) ∙ words_between_blanks-gap gap (word ++ rest) h.3 ∙ words_between_blanks-run word rest h.5 some h.6
    ∙ ap (λ ws. word ∷ ws) (words_from_runs rest words h.7)

-- one more blank in front
runs-blank : (c : ℕ) (cs : List ℕ) (words : List (List ℕ)) → is_blank c ≡ true → AreLongestRuns cs words → AreLongestRuns (c ∷ cs) words
runs-blank c cs [] blank h = All-cons IsBlank c cs blank h
runs-blank c cs (word ∷ words) blank h =
    (c ∷ h.0, h.1, ap (λ ds. c ∷ ds) h.2, All-cons IsBlank c h.0 blank h.3, h.4, h.5, h.6, h.7)

-- a list whose first piece is empty ends, or goes on with a blank
first_empty : (cs : List ℕ) (rest : List (List ℕ)) → slice_split is_blank cs ≡ [] ∷ rest → EndsOrGoesOnBlank cs
first_empty [] rest e = λ some. absurd (omega arith)
first_empty (c ∷ cs) rest e = λ some.
    elim (cases_Bool (is_blank c)) [
      | inl blank ↦ blank
      | inr solid ↦
          let more = some_piece is_blank cs in
          let pieces : (c ∷ more.0) ∷ more.1 ≡ [] ∷ rest = sym (slice_split-cons_no is_blank c cs solid ∙ ap (onto_first c) more.2) ∙ e in
          cc
    ]

-- and one whose first piece is not begins with no blank
first_solid : (c : ℕ) (cs : List ℕ) (d : ℕ) (piece : List ℕ) (rest : List (List ℕ)) → slice_split is_blank (c ∷ cs) ≡ (d ∷ piece) ∷ rest → is_blank c ≡ false
first_solid c cs d piece rest e =
    elim (cases_Bool (is_blank c)) [
      | inl blank ↦ let pieces : [] ∷ slice_split is_blank cs ≡ (d ∷ piece) ∷ rest = sym (slice_split-cons_yes is_blank c cs blank) ∙ e in cc
      | inr solid ↦ solid
    ]

-- so no blanks stand before its first word
no_gap : (cs gap rest : List ℕ) (d : ℕ) (piece : List ℕ) (pieces : List (List ℕ)) → slice_split is_blank cs ≡ (d ∷ piece) ∷ pieces → cs ≡ gap ++ rest
    → All IsBlank gap → cs ≡ rest
no_gap cs [] rest d piece pieces e is h = is
no_gap [] (g ∷ gap) rest d piece pieces e is h = cc
no_gap (c ∷ cs) (g ∷ gap) rest d piece pieces e is h =
    let same : c ≡ g = cc in
    let solid = first_solid c cs d piece pieces e in
    absurd (both_ways (is_blank c) solid (ap is_blank same ∙ All-head IsBlank g gap h))

-- one more element in front that is no blank: `first` and `others` are the pieces of what follows it
runs-solid : (c : ℕ) (cs first : List ℕ) (others : List (List ℕ)) → is_blank c ≡ false → slice_split is_blank cs ≡ first ∷ others
    → AreLongestRuns cs (words_between_blanks cs) → AreLongestRuns (c ∷ cs) ((c ∷ first) ∷ filter is_word others)
runs-solid c cs [] others solid e h =
    let words : words_between_blanks cs ≡ filter is_word others = ap (filter is_word) e in
    ([], cs, refl, All-nil IsBlank, (λ none. cc), All-cons IsSolid c [] solid (All-nil IsSolid), first_empty cs others e, subst (AreLongestRuns cs) words h)
runs-solid c cs (d ∷ piece) others solid e h =
    let words : words_between_blanks cs ≡ (d ∷ piece) ∷ filter is_word others =
    ap (filter is_word) e ∙ cond-true (is_word (d ∷ piece)) ((d ∷ piece) ∷ filter is_word others) (filter is_word others) (is_word-cons d piece) in
    let runs : AreLongestRuns cs ((d ∷ piece) ∷ filter is_word others) = subst (AreLongestRuns cs) words h in
    let at_once : cs ≡ (d ∷ piece) ++ runs.1 =
    no_gap cs runs.0 ((d ∷ piece) ++ runs.1) d piece others e (runs.2 ∙ append_assoc runs.0 (d ∷ piece) runs.1) runs.3 in
    ([], runs.1, ap (λ ds. c ∷ ds) at_once, All-nil IsBlank, (λ none. cc), All-cons IsSolid c (d ∷ piece) solid runs.5, runs.6, runs.7)

pub runs_of : (cs : List ℕ) → AreLongestRuns cs (words_between_blanks cs)
runs_of [] = All-nil IsBlank
runs_of (c ∷ cs) =
    elim (cases_Bool (is_blank c)) [
      | inl blank ↦
          subst (AreLongestRuns (c ∷ cs)) (sym (ap (filter is_word) (slice_split-cons_yes is_blank c cs blank)))
          (runs-blank c cs (words_between_blanks cs) blank (runs_of cs))
      | inr solid ↦
          let some = some_piece is_blank cs in
          let words : words_between_blanks (c ∷ cs) ≡ (c ∷ some.0) ∷ filter is_word some.1 =
          ap (filter is_word) (slice_split-cons_no is_blank c cs solid ∙ ap (onto_first c) some.2)
          ∙ cond-true (is_word (c ∷ some.0)) ((c ∷ some.0) ∷ filter is_word some.1) (filter is_word some.1) (is_word-cons c some.0) in
          subst (AreLongestRuns (c ∷ cs)) (sym words) (runs-solid c cs some.0 some.1 solid some.2 (runs_of cs))
    ]

pub runs_are_words : (cs : List ℕ) (words : List (List ℕ)) → (words_between_blanks cs ≡ words) ↔ AreLongestRuns cs words
runs_are_words cs words = ((λ e. subst (AreLongestRuns cs) e (runs_of cs)), words_from_runs cs words)

-- each word takes an element at least
length_runs : (cs : List ℕ) (words : List (List ℕ)) → AreLongestRuns cs words → length words ≤ length cs
length_runs cs [] h = omega arith
length_runs cs (word ∷ words) h =
    let some : 0 < length word = omega (arith, λ (none : length word ≡ 0). h.4 (nil_from_length word none)) in
    let size : length cs ≡ length ((h.0 ++ word) ++ h.1) = ap length h.2 in
    omega (arith, length_runs h.1 words h.7, size, length-append (h.0 ++ word) h.1, length-append h.0 word)

pub length-words_between_blanks : (cs : List ℕ) → length (words_between_blanks cs) ≤ length cs
length-words_between_blanks cs = length_runs cs (words_between_blanks cs) (runs_of cs)
