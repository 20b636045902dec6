-- A text without the blanks at its ends is text.
use Rattle.std.proofs.Common.{◌≡◌, ℕ, suc, ◌-◌, ◌<◌, ◌≤◌, List, [], ◌∷◌, length, take, get_or, refl, sym, ap, ◌∙◌, subst, arith, cond, Bool, true, false, eqb-true}
use Rattle.std.proofs.lemmas.Str.{IsUtf8-take}
use Rattle.std.specs.Prelude.{◌==◌, ◌&&◌, ◌||◌, slice_get}
use Rattle.std.specs.Str.{IsUtf8}
use Rattle.dict_text.specs.Characters.{is_blank}
use Rattle.dict_text.specs.Blanks.{without_leading_blanks, without_trailing_blanks, without_blanks_at_ends}
use Rattle.dict_text.specs.Names.{passes, first_passes, last_passes}
use Rattle.dict_index.proofs.CutLemmas.{utf8_parts}

blank_small : (c : ℕ) → is_blank c ≡ true → c < 128
blank_small c e = by_first (c == 32) (c == 9) refl refl e
  where
    by_first : (a b : Bool) → (c == 32) ≡ a → (c == 9) ≡ b → (a || b) ≡ true → c < 128
    by_first true b h k t = omega (arith, eqb-true c 32 h)
    by_first false true h k t = omega (arith, eqb-true c 9 k)
    by_first false false h k t = absurd (let bad : false ≡ true = t in cc)

leading_utf8 : (bs : List ℕ) → IsUtf8 bs → IsUtf8 (without_leading_blanks bs)
leading_utf8 [] u = u
leading_utf8 (c ∷ cs) u = by_first (is_blank c) refl (leading_utf8 cs)
  where
    by_first : (b : Bool) → is_blank c ≡ b → (IsUtf8 cs → IsUtf8 (without_leading_blanks cs)) → IsUtf8 (cond b (without_leading_blanks cs) (c ∷ cs))
    by_first true e later = later (utf8_parts (c ∷ cs) [] cs c refl (blank_small c e) u).1
    by_first false e later = u

-- it is a front of the text, which ends there or has a blank next
record IsFront (bs front : List ℕ) : Type 0 where
  place : ℕ
  whole : front ≡ take place bs
  within : place ≤ length bs
  next : place < length bs → get_or bs place 0 < 128

trailing_front : (bs : List ℕ) → IsFront bs (without_trailing_blanks bs)
trailing_front [] = record { place = 0; whole = refl; within = omega arith; next = λ lt. omega arith }
trailing_front (c ∷ cs) = by_first (is_blank c) (length (without_trailing_blanks cs) == 0) refl (trailing_front cs)
  where
    by_first : (a b : Bool) → is_blank c ≡ a → IsFront cs (without_trailing_blanks cs) → IsFront (c ∷ cs) (cond (a && b) [] (c ∷ without_trailing_blanks cs))
    by_first true true e h = record { place = 0; whole = refl; within = omega arith; next = λ lt. blank_small c e }
    by_first true false e h = record { place = suc h.place; whole = ap (λ l. c ∷ l) h.whole; within = let w = h.within in omega arith; next = λ lt. h.next (omega arith) }
    by_first false b e h = record { place = suc h.place; whole = ap (λ l. c ∷ l) h.whole; within = let w = h.within in omega arith; next = λ lt. h.next (omega arith) }

pub trimmed_utf8 : (bs : List ℕ) → IsUtf8 bs → IsUtf8 (without_blanks_at_ends bs)
trimmed_utf8 bs u =
    let v = leading_utf8 bs u in
    let h = trailing_front (without_leading_blanks bs) in
    subst IsUtf8 (sym h.whole) (IsUtf8-take (without_leading_blanks bs) h.place v (h.within, λ lt high. absurd (let small = h.next lt in omega arith)))

-- no blank is left at an end
leading_first : (bs : List ℕ) → first_passes is_blank (without_leading_blanks bs) ≡ false
leading_first [] = refl
leading_first (c ∷ cs) = by_first (is_blank c) refl (leading_first cs)
  where
    by_first : (b : Bool) → is_blank c ≡ b → first_passes is_blank (without_leading_blanks cs) ≡ false → first_passes is_blank (cond b (without_leading_blanks cs) (c ∷ cs)) ≡ false
    by_first true e later = later
    by_first false e later = e

trailing_first : (bs : List ℕ) → first_passes is_blank bs ≡ false → first_passes is_blank (without_trailing_blanks bs) ≡ false
trailing_first [] e = refl
trailing_first (c ∷ cs) e = by_test (is_blank c && length (without_trailing_blanks cs) == 0)
  where
    by_test : (b : Bool) → first_passes is_blank (cond b [] (c ∷ without_trailing_blanks cs)) ≡ false
    by_test true = refl
    by_test false = e

pub trimmed_first : (bs : List ℕ) → first_passes is_blank (without_blanks_at_ends bs) ≡ false
trimmed_first bs = trailing_first (without_leading_blanks bs) (leading_first bs)

last_of_more : (c d : ℕ) (ds : List ℕ) → last_passes is_blank (d ∷ ds) ≡ false → last_passes is_blank (c ∷ d ∷ ds) ≡ false
last_of_more c d ds e =
    let far : length (c ∷ d ∷ ds) - 1 ≡ suc (length (d ∷ ds) - 1) = omega arith in
    ap (λ n. passes is_blank (slice_get (c ∷ d ∷ ds) n)) far ∙ e

trailing_last : (bs : List ℕ) → last_passes is_blank (without_trailing_blanks bs) ≡ false
trailing_last [] = refl
trailing_last (c ∷ cs) = by_rest (without_trailing_blanks cs) (is_blank c) refl (is_blank c && length (without_trailing_blanks cs) == 0) refl (trailing_last cs)
  where
    by_rest : (rest : List ℕ) (b : Bool) → is_blank c ≡ b → (t : Bool) → (b && length rest == 0) ≡ t → last_passes is_blank rest ≡ false → last_passes is_blank (cond t [] (c ∷ rest)) ≡ false
    by_rest rest b e true k later = refl
    by_rest [] true e false k later = absurd (let bad : true ≡ false = k in cc)
    by_rest [] false e false k later = e
    by_rest (d ∷ ds) b e false k later = last_of_more c d ds later

pub trimmed_last : (bs : List ℕ) → last_passes is_blank (without_blanks_at_ends bs) ≡ false
trimmed_last bs = trailing_last (without_leading_blanks bs)
