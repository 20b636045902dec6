-- Runs of three octets, as a list and as what stands in a key.
use Rattle.std.proofs.Common.{◌≡◌, ◌↔◌, ℕ, suc, ◌+◌, ◌-◌, ◌<◌, ◌≤◌, List, [], ◌∷◌, ◌++◌, length, drop, get_or, refl, ap, sym, ◌∙◌, subst, inl, inr, arith, append_assoc, drop-cons, length-drop}
use Rattle.std.specs.List.{Contains}
use Rattle.std.proofs.lemmas.List.Elements.{Contains-append_left, Contains-append_right, Contains-append_cases}
use Rattle.dict_match.specs.Matching.{StandsIn}
use Rattle.store_derived.specs.Derived.{IsGramOf, first_gram, grams}

later : (x : ℕ) (g xs : List ℕ) → StandsIn g xs → StandsIn g (x ∷ xs)
later x g xs h = (x ∷ h.0, h.1, ap (λ l. x ∷ l) h.2)

from_first : (g xs : List ℕ) → Contains (first_gram xs) g → IsGramOf xs g
from_first g [] h = absurd (omega (arith, h.1))
from_first g (x ∷ []) h = absurd (omega (arith, h.1))
from_first g (x ∷ y ∷ []) h = absurd (omega (arith, h.1))
from_first g (x ∷ y ∷ z ∷ rest) h =
    let at : h.0 ≡ 0 = omega (arith, h.1) in
    let is : x ∷ y ∷ z ∷ [] ≡ g = ap (λ n. get_or ((x ∷ y ∷ z ∷ []) ∷ []) n g) (sym at) ∙ h.2 in
    (ap length (sym is) ∙ omega arith, ([], rest, ap (λ l. l ++ rest) is))

gram_from : (xs g : List ℕ) → Contains (grams xs) g → IsGramOf xs g
gram_from [] g h = absurd (omega (arith, h.1))
gram_from (x ∷ xs) g h = elim (Contains-append_cases (first_gram (x ∷ xs)) (grams xs) g h) [
  | inl here ↦ from_first g (x ∷ xs) here
  | inr there ↦ let is = gram_from xs g there in (is.0, later x g xs is.1)
]

first_is : (g b : List ℕ) → length g ≡ 3 → Contains (grams (g ++ b)) g
first_is [] b n = absurd (omega arith)
first_is (x ∷ []) b n = absurd (omega arith)
first_is (x ∷ y ∷ []) b n = absurd (omega arith)
first_is (x ∷ y ∷ z ∷ []) b n = Contains-append_left (first_gram (x ∷ y ∷ z ∷ b)) (grams (y ∷ z ∷ b)) (x ∷ y ∷ z ∷ []) (0, omega arith, refl)
first_is (x ∷ y ∷ z ∷ w ∷ g) b n = absurd (omega arith)

behind : (a g b : List ℕ) → length g ≡ 3 → Contains (grams (a ++ (g ++ b))) g
behind [] g b n = first_is g b n
behind (x ∷ a) g b n = Contains-append_right (first_gram (x ∷ (a ++ (g ++ b)))) (grams (a ++ (g ++ b))) g (behind a g b n)

gram_to : (xs g : List ℕ) → IsGramOf xs g → Contains (grams xs) g
gram_to xs g h =
    let C : List ℕ → Type 0 = λ l. Contains (grams l) g in
    subst C (sym (append_assoc h.1.0 g h.1.1) ∙ sym h.1.2) (behind h.1.0 g h.1.1 h.0)

pub grams_are : (xs g : List ℕ) → Contains (grams xs) g ↔ IsGramOf xs g
grams_are xs g = (gram_from xs g, gram_to xs g)

to : {X : Type 0} (f : ℕ → X) (a b : ℕ) → a ≡ b → f a ≡ f b
to f a b e = ap f e

-- the grams from a place on
pub next_gram : (xs : List ℕ) (n : ℕ) → n + 3 ≤ length xs → grams (drop n xs) ≡ (get_or xs n 0 ∷ get_or xs (n + 1) 0 ∷ get_or xs (n + 2) 0 ∷ []) ∷ grams (drop (n + 1) xs)
next_gram xs n h =
    let one : drop n xs ≡ get_or xs n 0 ∷ drop (n + 1) xs = drop-cons xs n 0 (omega arith) ∙ to (λ m. get_or xs n 0 ∷ drop m xs) (suc n) (n + 1) (omega arith) in
    let two : drop (n + 1) xs ≡ get_or xs (n + 1) 0 ∷ drop (n + 2) xs = drop-cons xs (n + 1) 0 (omega arith) ∙ to (λ m. get_or xs (n + 1) 0 ∷ drop m xs) (suc (n + 1)) (n + 2) (omega arith) in
    let three : drop (n + 2) xs ≡ get_or xs (n + 2) 0 ∷ drop (n + 3) xs = drop-cons xs (n + 2) 0 (omega arith) ∙ to (λ m. get_or xs (n + 2) 0 ∷ drop m xs) (suc (n + 2)) (n + 3) (omega arith) in
    let all : drop n xs ≡ get_or xs n 0 ∷ get_or xs (n + 1) 0 ∷ get_or xs (n + 2) 0 ∷ drop (n + 3) xs = one ∙ ap (λ l. get_or xs n 0 ∷ l) (two ∙ ap (λ l. get_or xs (n + 1) 0 ∷ l) three) in
    ap grams all ∙ ap (λ l. (get_or xs n 0 ∷ get_or xs (n + 1) 0 ∷ get_or xs (n + 2) 0 ∷ []) ∷ grams l) (sym (two ∙ ap (λ l. get_or xs (n + 1) 0 ∷ l) three))

short : (xs : List ℕ) → length xs < 3 → grams xs ≡ []
short [] h = refl
short (x ∷ []) h = refl
short (x ∷ y ∷ []) h = refl
short (x ∷ y ∷ z ∷ rest) h = absurd (omega arith)

pub no_more : (xs : List ℕ) (n : ℕ) → length xs < n + 3 → grams (drop n xs) ≡ []
no_more xs n h = let size : length (drop n xs) ≡ length xs - n = length-drop n xs in short (drop n xs) (omega arith)

-- the same, told by the end of the gram
pub gram_to_end : (key : List ℕ) (end : ℕ) → 3 ≤ end → end < length key + 1 → grams (drop (end - 3) key) ≡ (get_or key (end - 3) 0 ∷ get_or key (end - 2) 0 ∷ get_or key (end - 1) 0 ∷ []) ∷ grams (drop (end + 1 - 3) key)
gram_to_end key end low fits =
    let n = end - 3 in
    let second : n + 1 ≡ end - 2 = omega arith in
    let third : n + 2 ≡ end - 1 = omega arith in
    let further : n + 1 ≡ end + 1 - 3 = omega arith in
    let gram : ℕ → ℕ → List ℕ = λ b d. get_or key n 0 ∷ get_or key b 0 ∷ get_or key d 0 ∷ [] in
    let is : gram (n + 1) (n + 2) ≡ gram (end - 2) (end - 1) = ap (λ b. gram b (n + 2)) second ∙ ap (λ d. gram (end - 2) d) third in
    next_gram key n (omega arith) ∙ ap (λ g. g ∷ grams (drop (n + 1) key)) is ∙ ap (λ m. gram (end - 2) (end - 1) ∷ grams (drop m key)) further
