-- The first line of a text, by where its first LF stands.
use Rattle.std.proofs.Common.{◌≡◌, ◌≢◌, ℕ, zero, suc, ◌+◌, ◌-◌, ◌<◌, List, [], ◌∷◌, length, take, drop, get_or, refl, ap, sym, ◌∙◌, arith, add-one, true, false, eqb, eq-eqb, eqb-true}
use Rattle.std.proofs.lemmas.Bool.Decides.{nat_tests}
use Rattle.std.proofs.lemmas.List.{take_rest}
use Rattle.std.proofs.Math.Seq.{drop-length}
use Rattle.dict_text.specs.Lines.{text_lines, onto_first_line}
use Rattle.std.specs.Prelude.{◌==◌}
use Rattle.memchr.specs.Find.{NoneBefore, Nowhere, Passes, is_byte}

-- what holds of each place after the first holds of each place of the rest
none_later : (b : ℕ) (bs : List ℕ) (n : ℕ) → ((k : ℕ) → k < suc n → get_or (b ∷ bs) k 0 ≢ 10) → (k : ℕ) → k < n → get_or bs k 0 ≢ 10
none_later b bs n none k lt = none (suc k) (omega arith)

-- a text with an LF: the octets before the first LF, and then the lines of what follows it
pub text_lines_at : (bs : List ℕ) (n : ℕ) → n < length bs → ((k : ℕ) → k < n → get_or bs k 0 ≢ 10) → get_or bs n 0 ≡ 10 → text_lines bs ≡ take n bs ∷ text_lines (drop (suc n) bs)
text_lines_at [] n lt none here = absurd (omega arith)
text_lines_at (b ∷ bs) zero lt none here = let test : eqb b 10 ≡ true = eq-eqb b 10 here in rw test refl
text_lines_at (b ∷ bs) (suc n) lt none here =
    let other : b ≢ 10 = none 0 (omega arith) in
    let test : eqb b 10 ≡ false = grind (arith, nat_tests, other) in
    rw test (ap (onto_first_line b) (text_lines_at bs n (omega arith) (none_later b bs n none) here))

-- a text of one line that no LF ends
pub text_lines_whole : (bs : List ℕ) → 0 < length bs → ((k : ℕ) → k < length bs → get_or bs k 0 ≢ 10) → text_lines bs ≡ bs ∷ []
text_lines_whole [] some none = absurd (omega arith)
text_lines_whole (b ∷ []) some none =
    let other : b ≢ 10 = none 0 (omega arith) in
    let test : eqb b 10 ≡ false = grind (arith, nat_tests, other) in
    rw test refl
text_lines_whole (b ∷ c ∷ bs) some none =
    let other : b ≢ 10 = none 0 (omega arith) in
    let test : eqb b 10 ≡ false = grind (arith, nat_tests, other) in
    rw test (ap (onto_first_line b) (text_lines_whole (c ∷ bs) (omega arith) (none_later b (c ∷ bs) (length (c ∷ bs)) none)))

-- the same from what a search for the first LF answers, at the rest as a slice gives it
pub first_line : (bs : List ℕ) (n : ℕ) → NoneBefore (Passes (is_byte 10) bs) 0 (length bs) n → Passes (is_byte 10) bs n → text_lines bs ≡ take n bs ∷ text_lines (take (length bs - (n + 1)) (drop (n + 1) bs))
first_line bs n none here =
    text_lines_at bs n none.high (λ k lt ten. none.before k (omega arith) lt (eq-eqb _ _ ten)) (eqb-true _ _ here)
    ∙ ap (λ m. take n bs ∷ text_lines (drop m bs)) (sym (add-one n))
    ∙ ap (λ l. take n bs ∷ text_lines l) (sym (take_rest bs (n + 1)))

-- the only line, where a search for an LF found none
pub only_line : (bs : List ℕ) → false ≡ (length bs == 0) → Nowhere (Passes (is_byte 10) bs) 0 (length bs) → text_lines bs ≡ bs ∷ text_lines (take (length bs - length bs) (drop (length bs) bs))
only_line bs some none =
    let pos : 0 < length bs = grind (arith, nat_tests) in
    text_lines_whole bs pos (λ k lt ten. none k (omega arith) lt (eq-eqb _ _ ten))
    ∙ ap (λ l. bs ∷ text_lines l) (sym (take_rest bs (length bs) ∙ drop-length bs))

-- each line takes one of the lines that are left
pub fewer_lines : (bs : List ℕ) (lines : List (List ℕ)) (n : ℕ) → text_lines bs ≡ lines → NoneBefore (Passes (is_byte 10) bs) 0 (length bs) n → Passes (is_byte 10) bs n
    → length (text_lines (take (length bs - (n + 1)) (drop (n + 1) bs))) < length lines
fewer_lines bs lines n e none here = omega (arith, ap length (sym e ∙ first_line bs n none here))
