-- The first line of a text, and that the lines of text are text.
use Rattle.std.proofs.Common.{◌≡◌, ◌≢◌, ℕ, zero, suc, ◌+◌, ◌<◌, ◌≤◌, ◌⊎◌, inl, inr, List, [], ◌∷◌, ◌++◌, length, drop, refl, sym, ap, ◌∙◌, subst, arith, cond, Bool, true, false, eqb, eqb-true, length-append}
use Rattle.std.proofs.lemmas.Bool.{eqb-false}
use Rattle.std.proofs.lemmas.List.{drop_all}
use Rattle.std.proofs.lemmas.Bool.Decides.{nat_tests}
use Rattle.std.specs.Prelude.{slice_index_or}
use Rattle.std.specs.List.{AllByRecursion}
use Rattle.std.specs.Str.{IsUtf8, bytes_eq}
use Rattle.dict_match.specs.Key.{reserved_key_of}
use Rattle.dict_index.specs.Reserved.{first_line_of, without_key_line}
use Rattle.dict_text.specs.Lines.{text_lines, onto_first_line}
use Rattle.dict_index.specs.Cuts.{HasNo, IsCutAt}
use Rattle.dict_index.proofs.CutLemmas.{utf8_parts, behind_seam}

-- a text that an LF cuts: what stands before it is the first line
lines_cut : (xs ys : List ℕ) → HasNo 10 xs → text_lines (xs ++ 10 ∷ ys) ≡ xs ∷ text_lines ys
lines_cut [] ys h = refl
lines_cut (x ∷ xs) ys h =
    let other : x ≢ 10 = h.0 in
    let test : eqb x 10 ≡ false = grind (arith, nat_tests, other) in
    rw test (ap (onto_first_line x) (lines_cut xs ys h.1))

pub first_line_cut : (t xs ys : List ℕ) → IsCutAt 10 t xs ys → text_lines t ≡ xs ∷ text_lines ys
first_line_cut t xs ys c = ap text_lines c.whole ∙ lines_cut xs ys c.none

pub only_line : (t : List ℕ) → HasNo 10 t → 0 < length t → text_lines t ≡ t ∷ []
only_line [] h some = absurd (omega arith)
only_line (x ∷ []) h some =
    let other : x ≢ 10 = h.0 in
    let test : eqb x 10 ≡ false = grind (arith, nat_tests, other) in
    rw test refl
only_line (x ∷ y ∷ t) h some =
    let other : x ≢ 10 = h.0 in
    let test : eqb x 10 ≡ false = grind (arith, nat_tests, other) in
    rw test (ap (onto_first_line x) (only_line (y ∷ t) h.1 (omega arith)))

-- the first line, and what stands behind it
pub first_line_at : (t xs ys : List ℕ) → IsCutAt 10 t xs ys → first_line_of t ≡ xs
first_line_at t xs ys c = ap (λ ls. slice_index_or ls 0 []) (first_line_cut t xs ys c)

pub first_line_whole : (t : List ℕ) → HasNo 10 t → first_line_of t ≡ t
first_line_whole [] h = refl
first_line_whole (x ∷ t) h = ap (λ ls. slice_index_or ls 0 []) (only_line (x ∷ t) h (omega arith))

pub behind_cut : (t xs ys : List ℕ) → IsCutAt 10 t xs ys → drop (length xs + 1) t ≡ ys
behind_cut t xs ys c = ap (drop (length xs + 1)) c.whole ∙ behind_seam xs 10 ys

-- without the first line, where it has the key and where it hasn't
pub key_line_cut : (key t xs ys : List ℕ) → IsCutAt 10 t xs ys → bytes_eq (reserved_key_of xs) key ≡ true → without_key_line key t ≡ ys
key_line_cut key t xs ys c e =
    let first = first_line_at t xs ys c in
    ap (λ l. cond (bytes_eq (reserved_key_of l) key) (drop (length l + 1) t) t) first ∙ (ap (λ b. cond b (drop (length xs + 1) t) t) e ∙ behind_cut t xs ys c)

pub other_line_cut : (key t xs ys : List ℕ) → IsCutAt 10 t xs ys → bytes_eq (reserved_key_of xs) key ≡ false → without_key_line key t ≡ t
other_line_cut key t xs ys c e = ap (λ l. cond (bytes_eq (reserved_key_of l) key) (drop (length l + 1) t) t) (first_line_at t xs ys c) ∙ ap (λ b. cond b (drop (length xs + 1) t) t) e

pub key_line_whole : (key t : List ℕ) → HasNo 10 t → bytes_eq (reserved_key_of t) key ≡ true → without_key_line key t ≡ []
key_line_whole key t h e = ap (λ l. cond (bytes_eq (reserved_key_of l) key) (drop (length l + 1) t) t) (first_line_whole t h) ∙ (ap (λ b. cond b (drop (length t + 1) t) t) e ∙ drop_all (length t + 1) t (omega arith))

pub other_line_whole : (key t : List ℕ) → HasNo 10 t → bytes_eq (reserved_key_of t) key ≡ false → without_key_line key t ≡ t
other_line_whole key t h e = ap (λ l. cond (bytes_eq (reserved_key_of l) key) (drop (length l + 1) t) t) (first_line_whole t h) ∙ ap (λ b. cond b (drop (length t + 1) t) t) e

-- an octet cuts a list or doesn't stand in it
pub cut_or_none : (b : ℕ) (t : List ℕ) → HasNo b t ⊎ ((xs : List ℕ) × (ys : List ℕ) × IsCutAt b t xs ys)
cut_or_none b [] = inl tt
cut_or_none b (x ∷ t) = by_first (eqb x b) refl (cut_or_none b t)
  where
    longer : x ≢ b → ((xs : List ℕ) × (ys : List ℕ) × IsCutAt b t xs ys) → ((xs : List ℕ) × (ys : List ℕ) × IsCutAt b (x ∷ t) xs ys)
    longer other c = (x ∷ c.0, c.1, record { whole = ap (λ l. x ∷ l) c.2.whole; none = (other, c.2.none) })

    by_first : (e : Bool) → eqb x b ≡ e → HasNo b t ⊎ ((xs : List ℕ) × (ys : List ℕ) × IsCutAt b t xs ys) → HasNo b (x ∷ t) ⊎ ((xs : List ℕ) × (ys : List ℕ) × IsCutAt b (x ∷ t) xs ys)
    by_first true e h = inr ([], t, record { whole = ap (λ y. y ∷ t) (eqb-true x b e); none = tt })
    by_first false e (inl none) = inl (eqb-false x b e, none)
    by_first false e (inr c) = inr (longer (eqb-false x b e) c)

-- each line of text is text
lines_utf8_within : (n : ℕ) (t : List ℕ) → length t ≤ n → IsUtf8 t → AllByRecursion IsUtf8 (text_lines t)
lines_utf8_within n [] le u = tt
lines_utf8_within zero (x ∷ t) le u = absurd (omega arith)
lines_utf8_within (suc n) (x ∷ t) le u = by_cut (cut_or_none 10 (x ∷ t)) (λ xs ys c. lines_utf8_within n ys (shorter xs ys c) (utf8_parts (x ∷ t) xs ys 10 c.whole (omega arith) u).1)
  where
    shorter : (xs ys : List ℕ) → IsCutAt 10 (x ∷ t) xs ys → length ys ≤ n
    shorter xs ys c = omega (arith, ap length c.whole, length-append xs (10 ∷ ys))

    by_cut : HasNo 10 (x ∷ t) ⊎ ((xs : List ℕ) × (ys : List ℕ) × IsCutAt 10 (x ∷ t) xs ys) → ((xs ys : List ℕ) → IsCutAt 10 (x ∷ t) xs ys → AllByRecursion IsUtf8 (text_lines ys)) → AllByRecursion IsUtf8 (text_lines (x ∷ t))
    by_cut (inl none) later = subst (AllByRecursion IsUtf8) (sym (only_line (x ∷ t) none (omega arith))) (u, tt)
    by_cut (inr c) later = subst (AllByRecursion IsUtf8) (sym (first_line_cut (x ∷ t) c.0 c.1 c.2)) ((utf8_parts (x ∷ t) c.0 c.1 10 c.2.whole (omega arith) u).0, later c.0 c.1 c.2)

pub lines_utf8 : (t : List ℕ) → IsUtf8 t → AllByRecursion IsUtf8 (text_lines t)
lines_utf8 t u = lines_utf8_within (length t) t (omega arith) u
