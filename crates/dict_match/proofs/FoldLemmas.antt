-- Words and blanks under folding.
use Rattle.std.proofs.Common.{◌≡◌, ℕ, All, true, false, Bool, not, List, [], ◌∷◌, length, ◌==◌, refl, arith}
use Rattle.std.specs.List.{filter, join_with_byte}
use Rattle.std.specs.Char.{to_ascii_lowercase}
use Rattle.std.proofs.lemmas.Bool.{not-true, eqb-false}
use Rattle.std.proofs.lemmas.List.Elements.{All-head, filter_passes}
use Rattle.std.proofs.lemmas.Bool.Decides.{nat_tests}
use Rattle.dict_text.specs.Characters.{is_blank}
use Rattle.dict_match.proofs.JoinLemmas.{length-first-join}

abbrev pub is_word : List ℕ → Bool
is_word piece = not (length piece == 0)

pub is_word-cons : (x : ℕ) (xs : List ℕ) → is_word (x ∷ xs) ≡ true
is_word-cons x xs = grind (arith, nat_tests)

-- lower case makes no blanks, and takes none away
pub is_blank-lower : (c : ℕ) → is_blank (to_ascii_lowercase c) ≡ is_blank c
is_blank-lower c = grind (arith, nat_tests)

-- no bytes, no words
no_bytes : (words : List (List ℕ)) → All (λ word. is_word word ≡ true) words → length (join_with_byte 32 words) ≡ 0 → words ≡ []
no_bytes [] h none = refl
no_bytes (word ∷ words) h none =
    let solid : (length word == 0) ≡ false = not-true _ (All-head (λ w. is_word w ≡ true) word words h) in
    absurd (eqb-false (length word) 0 solid (omega (arith, length-first-join 32 word words)))

pub no_words : (ps : List (List ℕ)) → length (join_with_byte 32 (filter is_word ps)) ≡ 0 → filter is_word ps ≡ []
no_words ps = no_bytes (filter is_word ps) (filter_passes is_word ps)
