-- From a list up to that list with 255 behind it are the texts that begin with it.
use Rattle.std.proofs.Common.{◌≡◌, ◌↔◌, IsTrue, ℕ, ◌+◌, ◌/◌, ◌%◌, ◌<◌, true, false, cond, List, [], ◌∷◌, ◌++◌, reverse, All, ◌==◌, refl, ap, sym, ◌∙◌, subst, arith, inl, inr, ltb, IsUtf8}
use Rattle.std.specs.Ordering.{nat_cmp, is_le, ordering_then}
use Rattle.std.specs.declared.cmp.Ordering.{Ordering}
use Rattle.std.specs.declared.cmp.Ordering.TheVariants.{Less, Equal, Greater}
use Rattle.std.proofs.lemmas.Bool.{false≢true, and_parts, le-ltb, lt-ltb, ltb-true, ne_eqb, cond_both}
use Rattle.std.proofs.lemmas.Cmp.{ranked, by_ranked, nat_cmp_total, tied_itself}
use Rattle.std.proofs.lemmas.List.Elements.{All-nil, All-cons, All-head, All-tail, All-append}
use Rattle.std.proofs.lemmas.List.Sorted.{IsPermutation-reverse, All-permutation}
use lib.Utf8.{scalar, scalars, encode, encodes, scalar_cases}
use Rattle.store_derived.specs.Derived.{octets_cmp}
use Rattle.store_derived.specs.Search.{IsBetween, with_last}

-- ---- the octets of a text

abbrev pub IsLow : ℕ → Type 0
IsLow b = b < 255

two : (a b : ℕ) → IsLow a → IsLow b → All IsLow (a ∷ b ∷ [])
two a b h i = All-cons IsLow a (b ∷ []) h (All-cons IsLow b [] i (All-nil IsLow))

encode-low : (c : ℕ) → scalar c ≡ true → All IsLow (encode c)
unfolding encode
encode-low c s =
    let most : c < 1114112 = elim (scalar_cases c s) [ inl h ↦ omega arith | inr h ↦ h.1 ] in
    let one = c ∷ [] in
    let two_octets = (192 + c / 64) ∷ (128 + c % 64) ∷ [] in
    let three_octets = (224 + c / 4096) ∷ (128 + c / 64 % 64) ∷ (128 + c % 64) ∷ [] in
    let four_octets = (240 + c / 262144) ∷ (128 + c / 4096 % 64) ∷ (128 + c / 64 % 64) ∷ (128 + c % 64) ∷ [] in
    cond_both (ltb c 128) one (cond (ltb c 2048) two_octets (cond (ltb c 65536) three_octets four_octets)) (All IsLow)
    (λ h. let low : c < 128 = ltb-true c 128 h in All-cons IsLow c [] (omega arith) (All-nil IsLow))
    (λ _. cond_both (ltb c 2048) two_octets (cond (ltb c 65536) three_octets four_octets) (All IsLow)
    (λ h. let low : c < 2048 = ltb-true c 2048 h in two (192 + c / 64) (128 + c % 64) (omega arith) (omega arith))
    (λ _. cond_both (ltb c 65536) three_octets four_octets (All IsLow)
    (λ h. let low : c < 65536 = ltb-true c 65536 h in
    All-cons IsLow (224 + c / 4096) ((128 + c / 64 % 64) ∷ (128 + c % 64) ∷ []) (omega arith) (two (128 + c / 64 % 64) (128 + c % 64) (omega arith) (omega arith)))
    (λ _. All-cons IsLow (240 + c / 262144) ((128 + c / 4096 % 64) ∷ (128 + c / 64 % 64) ∷ (128 + c % 64) ∷ []) (omega arith)
    (All-cons IsLow (128 + c / 4096 % 64) ((128 + c / 64 % 64) ∷ (128 + c % 64) ∷ []) (omega arith) (two (128 + c / 64 % 64) (128 + c % 64) (omega arith) (omega arith))))))

encodes-low : (cs : List ℕ) → scalars cs ≡ true → All IsLow (encodes cs)
encodes-low [] s = All-nil IsLow
encodes-low (c ∷ cs) s = let parts = and_parts (scalar c) (scalars cs) s in All-append IsLow (encode c) (encodes cs) (encode-low c parts.0) (encodes-low cs parts.1)

pub text-low : (k : List ℕ) → IsUtf8 k → All IsLow k
text-low k u = subst (All IsLow) u.1.1 (encodes-low u.0 u.1.0)

-- ---- the range

All-behind : (P : ℕ → Type 0) (xs ys : List ℕ) → All P (xs ++ ys) → All P ys
All-behind P [] ys h = h
All-behind P (x ∷ xs) ys h = All-behind P xs ys (All-tail P x (xs ++ ys) h)

-- what the order of two octets says
less : (x y : ℕ) → x < y → nat_cmp x y ≡ Less
less x y h = ap (λ t. cond t Less (cond (x == y) Equal Greater)) (lt-ltb x y h)

greater : (x y : ℕ) → y < x → nat_cmp x y ≡ Greater
greater x y h =
    let not_less : ltb x y ≡ false = le-ltb x y (omega arith) in
    let differ : (x == y) ≡ false = ne_eqb x y (λ e. omega (arith, e)) in
    ap (λ t. cond t Less (cond (x == y) Equal Greater)) not_less ∙ ap (λ t. cond t Equal Greater) differ

same : (x : ℕ) → nat_cmp x x ≡ Equal
same x = tied_itself nat_cmp_total x

IsUpTo : Ordering → Ordering → Type 0
IsUpTo o rest = IsTrue (is_le (ordering_then o rest))

pub begins : (q k : List ℕ) → IsBetween q (with_last q) k → (b : List ℕ) × (k ≡ q ++ b)
unfolding IsUpTo
begins [] k h = (k, refl)
begins (y ∷ q) [] h = absurd (false≢true h.0)
begins (y ∷ q) (x ∷ k) h =
    by_ranked (y < x) (y ≡ x) (x < y) (nat_cmp y x) (ranked y x (nat_cmp y x) refl)
    (λ e l. absurd (false≢true (subst (λ o. IsUpTo o (octets_cmp k (with_last q))) (greater x y l) h.1)))
    (λ e s.
    let low : IsTrue (is_le (octets_cmp q k)) = subst (λ o. IsUpTo o (octets_cmp q k)) e h.0 in
    let tied : nat_cmp x y ≡ Equal = ap (λ n. nat_cmp n y) (sym s) ∙ same y in
    let high : IsTrue (is_le (octets_cmp k (with_last q))) = subst (λ o. IsUpTo o (octets_cmp k (with_last q))) tied h.1 in
    let rest = begins q k (low, high) in
    (rest.0, ap (λ n. n ∷ k) (sym s) ∙ ap (λ l. y ∷ l) rest.1))
    (λ e l. absurd (false≢true (subst (λ o. IsUpTo o (octets_cmp q k)) e h.0)))

within : (q b : List ℕ) → All IsLow b → IsBetween q (with_last q) (q ++ b)
unfolding IsUpTo
within [] [] h = (refl, refl)
within [] (x ∷ b) h = (refl, subst (λ o. IsUpTo o (octets_cmp b [])) (sym (less x 255 (All-head IsLow x b h))) refl)
within (y ∷ q) b h =
    let rest = within q b h in
    (subst (λ o. IsUpTo o (octets_cmp q (q ++ b))) (sym (same y)) rest.0, subst (λ o. IsUpTo o (octets_cmp (q ++ b) (with_last q))) (sym (same y)) rest.1)

pub holds : (q k b : List ℕ) → All IsLow k → k ≡ q ++ b → IsBetween q (with_last q) k
holds q k b low e =
    let whole : All IsLow (q ++ b) = subst (All IsLow) e low in
    let P : List ℕ → Type 0 = λ l. IsBetween q (with_last q) l in
    subst P (sym e) (within q b (All-behind IsLow q b whole))

pub range : (q k : List ℕ) → IsUtf8 k → IsBetween q (with_last q) k ↔ ((b : List ℕ) × (k ≡ q ++ b))
range q k u = ((λ h. begins q k h), (λ h. holds q k h.0 (text-low k u) h.1))

-- ---- from behind

pub reverse-low : (k : List ℕ) → IsUtf8 k → All IsLow (reverse k)
reverse-low k u = All-permutation IsLow k (reverse k) (IsPermutation-reverse k) (text-low k u)
