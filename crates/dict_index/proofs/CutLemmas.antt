-- Lists of octets cut at an octet.
use Rattle.std.proofs.Common.{◌≡◌, ◌≢◌, ℕ, suc, ◌+◌, ◌-◌, ◌<◌, List, [], ◌∷◌, ◌++◌, length, drop, get_or, refl, ap, sym, ◌∙◌, subst, arith, cond, true, false, eq-eqb, append-nil, add-one, ◌⊎◌, inl, inr}
use Rattle.std.proofs.lemmas.Bool.Decides.{nat_tests}
use Rattle.std.proofs.lemmas.List.Sums.{sum_by-append, sum_by-cons}
use Rattle.std.proofs.lemmas.Str.{IsUtf8-take, IsUtf8-drop, IsCharBoundary-before_ascii, IsCharBoundary-after_ascii}
use Rattle.std.proofs.Math.Seq.{take-append_seam}
use Rattle.std.specs.Prelude.{◌==◌, count_by, Option, Some, None}
use Rattle.std.specs.Str.{IsUtf8}
use Rattle.dict_index.specs.Line.{behind_tab}
use Rattle.dict_index.specs.Cuts.{HasNo, IsCutAt, AreLast, AreColumns}

-- how often an octet stands in a list that doesn't have it, or that it cuts
pub count_none : (b : ℕ) (xs : List ℕ) → HasNo b xs → count_by (λ x. x == b) xs ≡ 0
count_none b [] h = refl
count_none b (x ∷ xs) h =
    let other : x ≢ b = h.0 in
    let test : (x == b) ≡ false = grind (arith, nat_tests, other) in
    sum_by-cons (λ x. cond (x == b) 1 0) x xs ∙ (ap (λ t. cond t 1 0 + count_by (λ x. x == b) xs) test ∙ omega (arith, count_none b xs h.1))

pub count_cut : (b : ℕ) (xs ys zs : List ℕ) → IsCutAt b xs ys zs → count_by (λ x. x == b) xs ≡ 1 + count_by (λ x. x == b) zs
count_cut b xs ys zs h =
    let test : (b == b) ≡ true = eq-eqb b b refl in
    let front : count_by (λ x. x == b) ys ≡ 0 = count_none b ys h.none in
    let back : count_by (λ x. x == b) (b ∷ zs) ≡ 1 + count_by (λ x. x == b) zs = sum_by-cons (λ x. cond (x == b) 1 0) b zs ∙ ap (λ t. cond t 1 0 + count_by (λ x. x == b) zs) test in
    ap (count_by (λ x. x == b)) h.whole ∙ (sum_by-append (λ x. cond (x == b) 1 0) ys (b ∷ zs) ∙ omega (arith, front, back))

-- the last columns have one tab at most, and all columns have two or three
pub count_last : (rest t : List ℕ) (f : Option (List ℕ)) → AreLast rest t f → (count_by (λ x. x == 9) rest ≡ 0) ⊎ (count_by (λ x. x == 9) rest ≡ 1)
count_last rest t None c = inl (ap (count_by (λ x. x == 9)) (c.whole ∙ append-nil t) ∙ count_none 9 t c.third_none)
count_last rest t (Some column) c = inr (let more = count_cut 9 rest t column (record { whole = c.whole; none = c.third_none }) in omega (arith, more, count_none 9 column c.fourth_none))

pub last_of : (line h o t : List ℕ) (f : Option (List ℕ)) → AreColumns line h o t f → AreLast (t ++ behind_tab f) t f
last_of line h o t f c = record { whole = refl; third_none = c.third_none; fourth_none = c.fourth_none }

pub count_columns : (line h o t : List ℕ) (f : Option (List ℕ)) → AreColumns line h o t f → (count_by (λ x. x == 9) line ≡ 2) ⊎ (count_by (λ x. x == 9) line ≡ 3)
count_columns line h o t f c = by_last (count_last (t ++ behind_tab f) t f (last_of line h o t f c))
  where
    first : count_by (λ x. x == 9) line ≡ 1 + count_by (λ x. x == 9) (o ++ (9 ∷ t ++ behind_tab f))
    first = count_cut 9 line h (o ++ (9 ∷ t ++ behind_tab f)) (record { whole = c.whole; none = c.first_none })

    second : count_by (λ x. x == 9) (o ++ (9 ∷ t ++ behind_tab f)) ≡ 1 + count_by (λ x. x == 9) (t ++ behind_tab f)
    second = count_cut 9 (o ++ (9 ∷ t ++ behind_tab f)) o (t ++ behind_tab f) (record { whole = refl; none = c.second_none })

    by_last : (count_by (λ x. x == 9) (t ++ behind_tab f) ≡ 0) ⊎ (count_by (λ x. x == 9) (t ++ behind_tab f) ≡ 1) → (count_by (λ x. x == 9) line ≡ 2) ⊎ (count_by (λ x. x == 9) line ≡ 3)
    by_last (inl none) = inl (omega (arith, first, second, none))
    by_last (inr one) = inr (omega (arith, first, second, one))

pub count_fourth : (line h o t column : List ℕ) → AreColumns line h o t (Some column) → count_by (λ x. x == 9) line ≡ 3
count_fourth line h o t column c =
    let first = count_cut 9 line h (o ++ (9 ∷ t ++ 9 ∷ column)) (record { whole = c.whole; none = c.first_none }) in
    let second = count_cut 9 (o ++ (9 ∷ t ++ 9 ∷ column)) o (t ++ 9 ∷ column) (record { whole = refl; none = c.second_none }) in
    let third = count_cut 9 (t ++ 9 ∷ column) t column (record { whole = refl; none = c.third_none }) in
    omega (arith, first, second, third, count_none 9 column c.fourth_none)

-- one list is cut at an octet in one way
pub one_cut : (b : ℕ) (xs us ys vs : List ℕ) → HasNo b xs → HasNo b ys → xs ++ b ∷ us ≡ ys ++ b ∷ vs → (xs ≡ ys) × (us ≡ vs)
one_cut b [] us [] vs h k e = (refl, (cc))
one_cut b [] us (y ∷ ys) vs h k e = absurd (k.0 (let same : y ≡ b = cc in same))
one_cut b (x ∷ xs) us [] vs h k e = absurd (h.0 (let same : x ≡ b = cc in same))
one_cut b (x ∷ xs) us (y ∷ ys) vs h k e =
    let heads : x ≡ y = cc in
    let tails : xs ++ b ∷ us ≡ ys ++ b ∷ vs = cc in
    let rest = one_cut b xs us ys vs h.1 k.1 tails in
    (ap (λ z. z ∷ xs) heads ∙ ap (λ l. y ∷ l) rest.0, rest.1)

-- so is what stands behind two columns: the third, and the fourth where there is one
no_seam : (b : ℕ) (xs ys : List ℕ) → HasNo b (xs ++ b ∷ ys) → ⊥
no_seam b [] ys h = h.0 refl
no_seam b (x ∷ xs) ys h = no_seam b xs ys h.1

pub one_last : (s t : List ℕ) (f g : Option (List ℕ)) → HasNo 9 s → HasNo 9 t → s ++ behind_tab f ≡ t ++ behind_tab g → (s ≡ t) × (f ≡ g)
one_last s t None None h k e = (sym (append-nil s) ∙ (e ∙ append-nil t), refl)
one_last s t None (Some column) h k e = absurd (no_seam 9 t column (subst (HasNo 9) (sym (append-nil s) ∙ e) h))
one_last s t (Some column) None h k e = absurd (no_seam 9 s column (subst (HasNo 9) (sym (append-nil t) ∙ sym e) k))
one_last s t (Some column) (Some other) h k e = let parts = one_cut 9 s column t other h k e in (parts.0, ap Some parts.1)

at_seam_lt : (xs : List ℕ) (b : ℕ) (ys : List ℕ) → length xs < length (xs ++ b ∷ ys)
at_seam_lt [] b ys = omega arith
at_seam_lt (x ∷ xs) b ys = omega (arith, at_seam_lt xs b ys)

at_seam : (xs : List ℕ) (b : ℕ) (ys : List ℕ) → get_or (xs ++ b ∷ ys) (length xs) 0 ≡ b
at_seam [] b ys = refl
at_seam (x ∷ xs) b ys = at_seam xs b ys

one_further : (xs : List ℕ) (b : ℕ) (ys : List ℕ) → drop (suc (length xs)) (xs ++ b ∷ ys) ≡ ys
one_further [] b ys = refl
one_further (x ∷ xs) b ys = one_further xs b ys

pub behind_seam : (xs : List ℕ) (b : ℕ) (ys : List ℕ) → drop (length xs + 1) (xs ++ b ∷ ys) ≡ ys
behind_seam xs b ys = ap (λ n. drop n (xs ++ b ∷ ys)) (add-one (length xs)) ∙ one_further xs b ys

-- a text that an ASCII character cuts is text on both sides
pub utf8_parts : (bs xs ys : List ℕ) (b : ℕ) → bs ≡ xs ++ b ∷ ys → b < 128 → IsUtf8 bs → IsUtf8 xs × IsUtf8 ys
utf8_parts bs xs ys b e ascii u =
    let v : IsUtf8 (xs ++ b ∷ ys) = subst IsUtf8 e u in
    let lt : length xs < length (xs ++ b ∷ ys) = at_seam_lt xs b ys in
    let here : get_or (xs ++ b ∷ ys) (length xs) 0 ≡ b = at_seam xs b ys in
    let small : get_or (xs ++ b ∷ ys) (length xs) 0 < 128 = omega (arith, here) in (
      subst IsUtf8 (take-append_seam xs (b ∷ ys)) (IsUtf8-take (xs ++ b ∷ ys) (length xs) v (IsCharBoundary-before_ascii _ _ lt small)),
      subst IsUtf8 (behind_seam xs b ys) (IsUtf8-drop (xs ++ b ∷ ys) (length xs + 1) v (IsCharBoundary-after_ascii _ _ v lt small)),
    )
