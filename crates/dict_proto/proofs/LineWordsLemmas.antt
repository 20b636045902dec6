-- How the computed words of a line begin.
use Rattle.std.proofs.Common.{◌≡◌, ℕ, zero, suc, ◌<◌, ◌≤◌, List, [], ◌∷◌, ◌++◌, Bool, true, false, not, ◌&&◌, ◌||◌, arith, length, drop, get_or, refl, sym, ap, ◌∙◌, subst}
use Rattle.std.specs.Prelude.{Option, None, Some, if◌then◌else◌, ◌==◌}
use Rattle.std.specs.List.{position, position_or_len}
use Rattle.std.proofs.lemmas.List.Sums.{passes_at_first}
use Rattle.std.proofs.Math.Seq.{drop-cons}
use Rattle.dict_text.specs.Characters.{is_blank, is_control}
use Rattle.dict_text.proofs.PositionLemmas.{here, later, position_is, position_none}
use Rattle.dict_proto.specs.Words.{is_atom_character, is_quoting, is_quote_sign}
use Rattle.dict_proto.specs.LineWords.{line_words, words_from, place_after, within, onto_first, end_before}

-- ---- characters, one at a time

either_false : (a b c : Bool) → not (a || (b || c)) ≡ true → (a ≡ false) × (b ≡ false) × (c ≡ false)
either_false true b c e = cc
either_false false true c e = cc
either_false false false true e = cc
either_false false false false e = (refl, refl, refl)

-- an atom character is no blank, no control character and no sign of quoting
pub atom_parts : (c : ℕ) → is_atom_character c ≡ true → (is_blank c ≡ false) × (is_control c ≡ false) × (is_quoting c ≡ false)
atom_parts c e = either_false (is_blank c) (is_control c) (is_quoting c) e

both_false : (a b : Bool) → a || b ≡ false → (a ≡ false) × (b ≡ false)
both_false true b e = cc
both_false false b e = (refl, e)

-- after an atom character outside of strings a word goes on
pub place_after-atom : (c : ℕ) → is_atom_character c ≡ true → place_after c ≡ within
place_after-atom c e =
    let (blank, control, quoting) = atom_parts c e in
    let (quote, backslash) = both_false (is_quote_sign c) (c == 92) quoting in
    rw (blank, control, quote, backslash) refl

-- blanks at the front change nothing
pub line_words-blank : (b : ℕ) (bs : List ℕ) → is_blank b ≡ true → line_words (b ∷ bs) ≡ line_words bs
line_words-blank b bs e = rw e refl

-- a blank ends a word
pub within-blank : (b : ℕ) (bs : List ℕ) → is_blank b ≡ true → words_from within (b ∷ bs) ≡ end_before (line_words bs)
within-blank b bs e = rw e refl

pick_three : {X : Type 0} (a b : Bool) (x y z : X) → a ≡ false → b ≡ false → (if a then x else (if b then y else z)) ≡ z
pick_three a b x y z e f = rw (e, f) refl

-- an atom character is a word's first, or one more of it
pub within-atom : (c : ℕ) (cs : List ℕ) → is_atom_character c ≡ true → words_from within (c ∷ cs) ≡ onto_first c (words_from within cs)
within-atom c cs e =
    let (blank, control, quoting) = atom_parts c e in
    pick_three _ _ _ _ _ blank quoting ∙ ap (λ place. onto_first c (words_from place cs)) (place_after-atom c e)

-- where no blank stands, a word begins
pub between-within : (c : ℕ) (cs : List ℕ) → is_blank c ≡ false → line_words (c ∷ cs) ≡ words_from within (c ∷ cs)
between-within c cs e = rw e refl

pub between-atom : (c : ℕ) (cs : List ℕ) → is_atom_character c ≡ true → line_words (c ∷ cs) ≡ words_from within (c ∷ cs)
between-atom c cs e =
    let (blank, control, quoting) = atom_parts c e in
    pick_three _ _ _ _ _ blank quoting ∙ sym (pick_three _ _ _ _ _ blank quoting)

-- ---- a line without its first blanks

pub line_words-drop_blanks : (line : List ℕ) → line_words line ≡ line_words (drop (position_or_len (λ octet. not (is_blank octet)) line) line)
line_words-drop_blanks [] = refl
line_words-drop_blanks (b ∷ bs) = by_test (line_words-drop_blanks bs) (is_blank b) refl
  where
    by_test : line_words bs ≡ line_words (drop (position_or_len (λ octet. not (is_blank octet)) bs) bs) → (test : Bool) → is_blank b ≡ test → line_words (b ∷ bs)
        ≡ line_words (drop (position_or_len (λ octet. not (is_blank octet)) (b ∷ bs)) (b ∷ bs))
    by_test more true e = line_words-blank b bs e ∙ (more ∙ ap (λ n. line_words (drop n (b ∷ bs))) (sym (later (λ octet. not (is_blank octet)) b bs (ap not e))))
    by_test more false e = ap (λ n. line_words (drop n (b ∷ bs))) (sym (here (λ octet. not (is_blank octet)) b bs (ap not e)))

-- ---- the first word

pub both_true : (a b : Bool) → (a && b) ≡ true → (a ≡ true) × (b ≡ true)
both_true true b e = (refl, e)
both_true false b e = cc

not_true : (a : Bool) → not a ≡ true → a ≡ false
not_true true e = cc
not_true false e = refl

-- where the first blanks end, a word begins
starts : (line : List ℕ) → position_or_len (λ octet. not (is_blank octet)) line < length line
    → line_words (drop (position_or_len (λ octet. not (is_blank octet)) line) line) ≡ words_from within (drop (position_or_len (λ octet. not (is_blank octet)) line) line)
starts line lt =
    let n = position_or_len (λ octet. not (is_blank octet)) line in
    let e : drop n line ≡ get_or line n 0 ∷ drop (suc n) line = drop-cons line n 0 lt in
    subst (λ l. line_words l ≡ words_from within l) (sym e) (between-within (get_or line n 0) (drop (suc n) line) (not_true _ (passes_at_first (λ octet. not (is_blank octet)) line 0 lt)))

-- the words of a line are those from its first word on
pub line_words-found : (line : List ℕ) (i : ℕ) → position (λ octet. not (is_blank octet)) line ≡ Some i → line_words line ≡ words_from within (drop i line)
line_words-found line i e =
    let (begins, lt) = position_is (λ octet. not (is_blank octet)) line i e in
    line_words-drop_blanks line ∙ (starts line lt ∙ ap (λ n. words_from within (drop n line)) (sym begins))

pub drop_past : (n : ℕ) (xs : List ℕ) → length xs ≤ n → drop n xs ≡ []
drop_past zero [] h = refl
drop_past zero (x ∷ xs) h = absurd (omega arith)
drop_past (suc n) [] h = refl
drop_past (suc n) (x ∷ xs) h = drop_past n xs (omega arith)

-- a line of blanks has no words
pub line_words-none : (line : List ℕ) → position (λ octet. not (is_blank octet)) line ≡ None → line_words line ≡ Some []
line_words-none line e = line_words-drop_blanks line ∙ ap line_words (drop_past _ line (position_none (λ octet. not (is_blank octet)) line e))

-- ---- characters at the front of the first word

abbrev pub onto_all : List ℕ → Option (List (List ℕ)) → Option (List (List ℕ))
onto_all [] r = r
onto_all (b ∷ bs) r = onto_first b (onto_all bs r)

pub onto_all-word : (bs word : List ℕ) (words : List (List ℕ)) → onto_all bs (Some (word ∷ words)) ≡ Some ((bs ++ word) ∷ words)
onto_all-word [] word words = refl
onto_all-word (b ∷ bs) word words = ap (onto_first b) (onto_all-word bs word words)
