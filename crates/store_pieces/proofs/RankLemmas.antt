-- Numbers in whose order runs of three octets and their places are.
use Rattle.std.proofs.Common.{◌≡◌, ℕ, ◌+◌, ◌*◌, ◌<◌, List, [], ◌∷◌, length, get_or, refl, ap, sym, ◌∙◌, inl, inr, arith}
use Rattle.std.specs.Cmp.{nat_cmp_is}
use Rattle.std.specs.declared.cmp.Ordering.{Ordering}
use Rattle.std.specs.declared.cmp.Ordering.TheVariants.{Less, Equal, Greater}
use Rattle.std.specs.Ordering.{nat_cmp, ordering_then}
use Rattle.std.proofs.lemmas.Bool.{cases_lt}
use Rattle.store_derived.specs.Derived.{octets_cmp}

less : (x y : ℕ) → x < y → nat_cmp x y ≡ Less
less x y lt = sym (nat_cmp_is x y Less lt)

same : (x y : ℕ) → x ≡ y → nat_cmp x y ≡ Equal
same x y e = sym (nat_cmp_is x y Equal e)

greater : (x y : ℕ) → y < x → nat_cmp x y ≡ Greater
greater x y lt = sym (nat_cmp_is x y Greater lt)

-- two numbers compare as two others
alike : (p q m n : ℕ) → (p < q → m < n) → (p ≡ q → m ≡ n) → (q < p → n < m) → nat_cmp m n ≡ nat_cmp p q
alike p q m n below equal above = elim (cases_lt p q) [
  | inl lt ↦ less m n (below lt) ∙ sym (less p q lt)
  | inr le ↦ elim (cases_lt q p) [
    | inl gt ↦ greater m n (above gt) ∙ sym (greater p q gt)
    | inr ge ↦ let e : p ≡ q = omega (arith, le, ge) in same m n (equal e) ∙ sym (same p q e)
  ]
]

-- the first numbers tell, and the second ones where these are the same
in_turn : (a b p q m n : ℕ) → (a < b → m < n) → (b < a → n < m) → (a ≡ b → nat_cmp m n ≡ nat_cmp p q) → nat_cmp m n ≡ ordering_then (nat_cmp a b) (nat_cmp p q)
in_turn a b p q m n below above tied = elim (cases_lt a b) [
  | inl lt ↦ less m n (below lt) ∙ ap (λ o. ordering_then o (nat_cmp p q)) (sym (less a b lt))
  | inr le ↦ elim (cases_lt b a) [
    | inl gt ↦ greater m n (above gt) ∙ ap (λ o. ordering_then o (nat_cmp p q)) (sym (greater a b gt))
    | inr ge ↦ let e : a ≡ b = omega (arith, le, ge) in tied e ∙ ap (λ o. ordering_then o (nat_cmp p q)) (sym (same a b e))
  ]
]

-- one octet more, and a place
octet : (a b p q : ℕ) → p < 256 → q < 256 → nat_cmp (a * 256 + p) (b * 256 + q) ≡ ordering_then (nat_cmp a b) (nat_cmp p q)
octet a b p q small short = in_turn a b p q (a * 256 + p) (b * 256 + q) (λ lt. omega (arith, lt, small)) (λ gt. omega (arith, gt, short))
    (λ e. alike p q (a * 256 + p) (b * 256 + q) (λ lt. omega (arith, e, lt)) (λ is. omega (arith, e, is)) (λ gt. omega (arith, e, gt)))

placed : (a b p q : ℕ) → p < 4294967296 → q < 4294967296 → nat_cmp (a * 4294967296 + p) (b * 4294967296 + q) ≡ ordering_then (nat_cmp a b) (nat_cmp p q)
placed a b p q small short = in_turn a b p q (a * 4294967296 + p) (b * 4294967296 + q) (λ lt. omega (arith, lt, small)) (λ gt. omega (arith, gt, short))
    (λ e. alike p q (a * 4294967296 + p) (b * 4294967296 + q) (λ lt. omega (arith, e, lt)) (λ is. omega (arith, e, is)) (λ gt. omega (arith, e, gt)))

regroup : (x y z : Ordering) → ordering_then (ordering_then x y) z ≡ ordering_then x (ordering_then y (ordering_then z Equal))
regroup Less y z = refl
regroup Greater y z = refl
regroup Equal Less z = refl
regroup Equal Greater z = refl
regroup Equal Equal Less = refl
regroup Equal Equal Equal = refl
regroup Equal Equal Greater = refl

three : (a b c d e f : ℕ) → b < 256 → c < 256 → e < 256 → f < 256 → nat_cmp ((a * 256 + b) * 256 + c) ((d * 256 + e) * 256 + f) ≡ octets_cmp (a ∷ b ∷ c ∷ []) (d ∷ e ∷ f ∷ [])
three a b c d e f b_is c_is e_is f_is =
    octet (a * 256 + b) (d * 256 + e) c f c_is f_is
    ∙ ap (λ o. ordering_then o (nat_cmp c f)) (octet a d b e b_is e_is)
    ∙ regroup (nat_cmp a d) (nat_cmp b e) (nat_cmp c f)

parts : (g : List ℕ) → length g ≡ 3 → g ≡ get_or g 0 0 ∷ get_or g 1 0 ∷ get_or g 2 0 ∷ []
parts [] long = absurd (omega (arith, long))
parts (a ∷ []) long = absurd (omega (arith, long))
parts (a ∷ b ∷ []) long = absurd (omega (arith, long))
parts (a ∷ b ∷ c ∷ []) long = refl
parts (a ∷ b ∷ c ∷ r ∷ g) long = absurd (omega (arith, long))

pub by_rank : (g h : List ℕ) (p q : ℕ) → length g ≡ 3 → length h ≡ 3 → get_or g 1 0 < 256 → get_or g 2 0 < 256 → get_or h 1 0 < 256 → get_or h 2 0 < 256 → p < 4294967296 → q < 4294967296
    → nat_cmp (((get_or g 0 0 * 256 + get_or g 1 0) * 256 + get_or g 2 0) * 4294967296 + p) (((get_or h 0 0 * 256 + get_or h 1 0) * 256 + get_or h 2 0) * 4294967296 + q) ≡ ordering_then (octets_cmp g h) (nat_cmp p q)
by_rank g h p q long wide b_is c_is e_is f_is p_is q_is =
    placed ((get_or g 0 0 * 256 + get_or g 1 0) * 256 + get_or g 2 0) ((get_or h 0 0 * 256 + get_or h 1 0) * 256 + get_or h 2 0) p q p_is q_is
    ∙ ap (λ o. ordering_then o (nat_cmp p q)) (
    three (get_or g 0 0) (get_or g 1 0) (get_or g 2 0) (get_or h 0 0) (get_or h 1 0) (get_or h 2 0) b_is c_is e_is f_is
    ∙ ap (λ l. octets_cmp l (get_or h 0 0 ∷ get_or h 1 0 ∷ get_or h 2 0 ∷ [])) (sym (parts g long))
    ∙ ap (octets_cmp g) (sym (parts h wide)))
