-- Numbers by their values: one more digit, bounds, and that one number has one spelling.
use Rattle.std.proofs.Common.{◌≡◌, ◌≢◌, ℕ, zero, suc, ◌+◌, ◌-◌, ◌*◌, ◌^◌, ◌/◌, ◌%◌, ◌<◌, ◌≤◌, ◌⊎◌, inl, inr, List, [], ◌∷◌, ◌++◌, length, take, set, get_or, refl, ap, sym, ◌∙◌, subst, arith, add-one}
use Rattle.std.proofs.lemmas.List.{length_push, length-take-le, take_more}
use Rattle.std.proofs.lemmas.List.Elements.{AllZip-push}
use Rattle.std.proofs.Math.Seq.{take-suc-set}
use Rattle.std.proofs.Math.Nat.{pow-suc, mul-le-mul_right, pow-le-pow_right}
use Rattle.std.proofs.lemmas.Bool.{cases_lt}
use Rattle.std.proofs.lemmas.Bool.Decides.{nat_tests}
use Rattle.std.specs.Prelude.{slice_index, ◌==◌, false}
use Rattle.std.specs.List.{AllZip, AllByRecursion}
use Rattle.dict_text.specs.Number.{IsDigit, alphabet, number_of, Spells}
use Rattle.dict_text.specs.Faults.{IsSomeDigit}
use Rattle.dict_text.proofs.DigitLemmas.{one_value}

-- one more digit at the end
pub number_of_push : (vs : List ℕ) (v : ℕ) → number_of (vs ++ v ∷ []) ≡ number_of vs * 64 + v
number_of_push [] v = omega arith
number_of_push (x ∷ vs) v =
    let e : 64 ^ length (vs ++ v ∷ []) ≡ 64 ^ length vs * 64 = ap (λ n. 64 ^ n) (length_push vs v ∙ add-one (length vs)) ∙ pow-suc 64 (length vs) in
    rw e (omega (arith, number_of_push vs v))

-- digits say a number below 64 to the power of their count
pub number_below : (s vs : List ℕ) → AllZip IsDigit s vs → number_of vs < 64 ^ length vs
number_below [] [] h = omega arith
number_below [] (v ∷ vs) h = absurd h
number_below (b ∷ s) [] h = absurd h
number_below (b ∷ s) (v ∷ vs) h =
    let small : v ≤ 63 = omega (arith, h.0.0) in
    rw (pow-suc 64 (length vs)) (omega (arith, number_below s vs h.1, mul-le-mul_right (64 ^ length vs) small))

pub same_length : (s vs : List ℕ) → AllZip IsDigit s vs → length s ≡ length vs
same_length [] [] h = refl
same_length [] (v ∷ vs) h = absurd h
same_length (b ∷ s) [] h = absurd h
same_length (b ∷ s) (v ∷ vs) h = ap suc (same_length s vs h.1)

-- a quotient and a rest are those of one number
same_quotient : (x y p n m : ℕ) → x * p + n ≡ y * p + m → n < p → m < p → ¬ (x < y)
same_quotient x y p n m e nlt mlt lt =
    let step : x + 1 ≤ y = omega arith in
    omega (arith, mul-le-mul_right p step)

pub same_values : (s t vs ws : List ℕ) → AllZip IsDigit s vs → AllZip IsDigit t ws → length vs ≡ length ws → number_of vs ≡ number_of ws → vs ≡ ws
same_values s t [] [] h k l e = refl
same_values s t [] (w ∷ ws) h k l e = absurd (omega (arith, l))
same_values s t (v ∷ vs) [] h k l e = absurd (omega (arith, l))
same_values [] t (v ∷ vs) (w ∷ ws) h k l e = absurd h
same_values (a ∷ s) [] (v ∷ vs) (w ∷ ws) h k l e = absurd k
same_values (a ∷ s) (b ∷ t) (v ∷ vs) (w ∷ ws) h k l e =
    let lengths : length vs ≡ length ws = omega (arith, l) in
    let below_v = number_below s vs h.1 in
    let below_w : number_of ws < 64 ^ length vs = subst (λ n. number_of ws < 64 ^ n) (sym lengths) (number_below t ws k.1) in
    let e' : v * 64 ^ length vs + number_of vs ≡ w * 64 ^ length vs + number_of ws = e ∙ ap (λ n. w * 64 ^ n + number_of ws) (sym lengths) in
    let front : v ≡ w = no_less v w (same_quotient v w _ _ _ e' below_v below_w) (same_quotient w v _ _ _ (sym e') below_w below_v) in
    let back : number_of vs ≡ number_of ws = omega (arith, subst (λ x. v * 64 ^ length vs + number_of vs ≡ x * 64 ^ length vs + number_of ws) (sym front) e') in
    ap (λ x. x ∷ vs) front ∙ ap (λ l. w ∷ l) (same_values s t vs ws h.1 k.1 lengths back)
  where
    no_less : (x y : ℕ) → ¬ (x < y) → ¬ (y < x) → x ≡ y
    no_less x y a b = omega (arith, a, b)

-- one text, one list of values
pub values_of_text : (s vs ws : List ℕ) → AllZip IsDigit s vs → AllZip IsDigit s ws → vs ≡ ws
values_of_text [] [] [] h k = refl
values_of_text [] [] (w ∷ ws) h k = absurd k
values_of_text [] (v ∷ vs) ws h k = absurd h
values_of_text (b ∷ s) [] ws h k = absurd h
values_of_text (b ∷ s) (v ∷ vs) [] h k = absurd k
values_of_text (b ∷ s) (v ∷ vs) (w ∷ ws) h k = ap (λ x. x ∷ vs) (one_value b v w h.0 k.0) ∙ ap (λ l. w ∷ l) (values_of_text s vs ws h.1 k.1)

-- one list of values, one text
pub text_of_values : (s t vs : List ℕ) → AllZip IsDigit s vs → AllZip IsDigit t vs → s ≡ t
text_of_values [] [] [] h k = refl
text_of_values [] (b ∷ t) [] h k = absurd k
text_of_values (a ∷ s) t [] h k = absurd h
text_of_values [] t (v ∷ vs) h k = absurd h
text_of_values (a ∷ s) [] (v ∷ vs) h k = absurd k
text_of_values (a ∷ s) (b ∷ t) (v ∷ vs) h k = ap (λ x. x ∷ s) (h.0.1 ∙ sym k.0.1) ∙ ap (λ l. b ∷ l) (text_of_values s t vs h.1 k.1)

-- where the first digit isn't that of 0, the number is at least 64 to the power of how many follow
pub number_above : (b : ℕ) (s : List ℕ) (n : ℕ) → 0 < length s → Spells (b ∷ s) n → 64 ^ length s ≤ n
number_above b s n some h = at_values h.values h.digits h.number (first_of h.shortest)
  where
    first_of : (length (b ∷ s) ≡ 1) ⊎ (slice_index (b ∷ s) 0 ≢ slice_index alphabet 0) → b ≢ slice_index alphabet 0
    first_of (inl one) e = omega (arith, one)
    first_of (inr other) e = other e

    at_values : (vs : List ℕ) → AllZip IsDigit (b ∷ s) vs → n ≡ number_of vs → b ≢ slice_index alphabet 0 → 64 ^ length s ≤ n
    at_values [] h e other = absurd h
    at_values (zero ∷ vs) h e other = absurd (other h.0.1)
    at_values (suc v ∷ vs) h e other =
        let lengths : length s ≡ length vs = same_length s vs h.1 in
        let one : 1 ≤ suc v = omega arith in
        rw lengths (omega (arith, e, mul-le-mul_right (64 ^ length vs) one))

-- a spelling of so many digits is of a number below 64 to that power
pub spelled_below : (s : List ℕ) (n : ℕ) → Spells s n → n < 64 ^ length s
spelled_below s n h = rw (same_length s h.values h.digits) (subst (λ m. m < 64 ^ length h.values) (sym h.number) (number_below s h.values h.digits))

-- what is spelled has at most 36 bits
pub spelled_small : (s : List ℕ) (n : ℕ) → Spells s n → n < 68719476736
spelled_small s n h =
    let few : length s ≤ 6 = h.short in
    let power : 64 ^ length s ≤ 64 ^ 6 = pow-le-pow_right (omega arith) few in
    omega (arith, spelled_below s n h, power)

not_longer : (s t : List ℕ) (n : ℕ) → Spells s n → Spells t n → ¬ (length s < length t)
not_longer s [] n h k lt = omega arith
not_longer s (b ∷ t) n h k lt =
    let pos : 0 < length t = omega (arith, h.some) in
    let no_more : length s ≤ length t = omega arith in
    let more : 64 ^ length s ≤ 64 ^ length t = pow-le-pow_right (omega arith) no_more in
    omega (arith, spelled_below s n h, number_above b t n pos k)

pub one_text : (s t : List ℕ) (n : ℕ) → Spells s n → Spells t n → s ≡ t
one_text s t n h k =
    let p = not_longer s t n h k in
    let q = not_longer t s n k h in
    let lengths : length s ≡ length t = omega (arith, p, q) in
    let values : h.values ≡ k.values = same_values s t h.values k.values h.digits k.digits (sym (same_length s _ h.digits) ∙ (lengths ∙ same_length t _ k.digits)) (sym h.number ∙ k.number) in
    text_of_values s t k.values (subst (AllZip IsDigit s) values h.digits) k.digits

pub one_number : (s : List ℕ) (m n : ℕ) → Spells s m → Spells s n → m ≡ n
one_number s m n h k = h.number ∙ (ap number_of (values_of_text s h.values k.values h.digits k.digits) ∙ sym k.number)

-- digits that have values are digits
pub all_digits : (s vs : List ℕ) → AllZip IsDigit s vs → AllByRecursion IsSomeDigit s
all_digits [] vs h = tt
all_digits (b ∷ s) [] h = absurd h
all_digits (b ∷ s) (v ∷ vs) h = ((v, h.0), all_digits s vs h.1)

-- a front of at most five digits says a number below 2^30
pub front_below : (text vs : List ℕ) (i n : ℕ) → i < length text → length text ≤ 6 → AllZip IsDigit (take i text) vs → n ≡ number_of vs → n < 1073741824
front_below text vs i n lt few h e =
    let len : i ≡ length vs = sym (length-take-le i text (omega arith)) ∙ same_length (take i text) vs h in
    let small : length vs ≤ 5 = omega arith in
    let power : 64 ^ length vs ≤ 64 ^ 5 = pow-le-pow_right (omega arith) small in
    omega (arith, number_below (take i text) vs h, power)

-- one digit more of a text
pub digits_more : (text vs : List ℕ) (i v n : ℕ) → i < length text → AllZip IsDigit (take i text) vs → n ≡ number_of vs → IsDigit (get_or text i 0) v → (ws : List ℕ) × AllZip IsDigit (take (i + 1) text) ws × (n * 64 + v ≡ number_of ws)
digits_more text vs i v n lt h e d = (
  vs ++ v ∷ [],
  subst (λ l. AllZip IsDigit l (vs ++ v ∷ [])) (sym (take_more text i 0 lt)) (AllZip-push IsDigit (take i text) vs (get_or text i 0) v h d),
  sym (number_of_push vs v ∙ ap (λ m. m * 64 + v) (sym e)),
)

-- a digit written behind those that are there
pub push_digit : (ys vs : List ℕ) (k b n : ℕ) → 0 < k → k ≤ length ys → AllZip IsDigit (take (k - 1) ys) vs → n / 64 ≡ number_of vs → IsDigit b (n % 64) → (ws : List ℕ) × AllZip IsDigit (take k (set ys (k - 1) b)) ws × (n ≡ number_of ws)
push_digit ys vs zero b n some room h e d = absurd (omega arith)
push_digit ys vs (suc k) b n some room h e d =
    let e' : suc k - 1 ≡ k = omega arith in
    let h' : AllZip IsDigit (take k ys) vs = subst (λ j. AllZip IsDigit (take j ys) vs) e' h in
    let front : take (suc k) (set ys (suc k - 1) b) ≡ take k ys ++ b ∷ [] = rw e' (take-suc-set ys k b (omega arith)) in (
      vs ++ (n % 64) ∷ [],
      subst (λ l. AllZip IsDigit l (vs ++ (n % 64) ∷ [])) (sym front) (AllZip-push IsDigit (take k ys) vs b (n % 64) h' d),
      (let whole : n ≡ n / 64 * 64 + n % 64 = omega arith in whole ∙ (ap (λ m. m * 64 + n % 64) e ∙ sym (number_of_push vs (n % 64)))),
    )

-- a number of so many digits doesn't begin with the digit of 0
pub first_not_zero : (s vs : List ℕ) (n : ℕ) → AllZip IsDigit s vs → n ≡ number_of vs → 1 < length s → 64 ^ (length s - 1) ≤ n → slice_index s 0 ≢ slice_index alphabet 0
first_not_zero [] vs n h e some large z = omega arith
first_not_zero (b ∷ s) [] n h e some large z = h
first_not_zero (b ∷ s) (v ∷ vs) n h e some large z =
    let none : v ≡ 0 = one_value b v 0 h.0 (omega arith, z) in
    let lengths : length (b ∷ s) - 1 ≡ length vs = omega (arith, same_length s vs h.1) in
    let n' : n ≡ 0 * 64 ^ length vs + number_of vs = e ∙ ap (λ x. x * 64 ^ length vs + number_of vs) none in
    omega (arith, n', number_below s vs h.1, subst (λ k. 64 ^ k ≤ n) lengths large)

-- what was written spells the number
pub spelled_from : (ys vs : List ℕ) (k n : ℕ) → 1 ≤ k → k ≤ 6 → k ≤ length ys → AllZip IsDigit (take k ys) vs → n ≡ number_of vs → (1 < k → 64 ^ (k - 1) ≤ n) → Spells (take k ys) n
spelled_from ys vs k n some few room h e large =
    let len : length (take k ys) ≡ k = length-take-le k ys room in
    record { values = vs; digits = h; number = e; some = omega arith; short = omega arith; shortest = first len (cases_lt 1 k) }
  where
    first : length (take k ys) ≡ k → (1 < k) ⊎ (k ≤ 1) → (length (take k ys) ≡ 1) ⊎ (slice_index (take k ys) 0 ≢ slice_index alphabet 0)
    first len (inl more) = inr (first_not_zero (take k ys) vs n h e (omega arith) (subst (λ j. 64 ^ (j - 1) ≤ n) (sym len) (large more)))
    first len (inr one) = inl (omega arith)

-- digits with no needless one in front spell their number
pub spelled_text : (s vs : List ℕ) (n : ℕ) → false ≡ (length s == 0) → length s ≤ 6 → AllZip IsDigit s vs → n ≡ number_of vs → (length s ≤ 1) ⊎ (slice_index s 0 ≢ slice_index alphabet 0) → Spells s n
spelled_text s vs n nonempty few h e first =
    let some : 1 ≤ length s = grind (arith, nat_tests) in
    record { values = vs; digits = h; number = e; some = some; short = few; shortest = elim first [ inl one ↦ inl (omega arith) | inr other ↦ inr other ] }
