-- Facts of each element, and sums over a list, as the commands change lists: in place, at the end, by a filter, or by
-- a move.
use Rattle.std.proofs.Common.{◌≡◌, ℕ, zero, suc, ◌+◌, ◌≤◌, Bool, true, false, ◌||◌, List, [], ◌∷◌, ◌++◌, length, take, drop, refl, ap, sym, ◌∙◌, arith, zero-add, add_assoc}
use Rattle.std.specs.Prelude.{map, filter, not, cond, flat_map, nat_lt}
use Rattle.std.specs.List.{list_any, AllByRecursion}
use Rattle.dict_catalogue.specs.WellFormed.{total}
use Rattle.std.proofs.lemmas.Bool.{false≢true}
use Rattle.std.proofs.lemmas.Bool.Decides.{nat_tests}
use Rattle.std.proofs.lemmas.List.Folds.{list_any-append}

-- sums

pub sum_append : {X : Type 0} (w : X → ℕ) (xs ys : List X) → total w (xs ++ ys) ≡ total w xs + total w ys
sum_append w [] ys = sym (zero-add (total w ys))
sum_append w (x ∷ xs) ys = ap (λ n. w x + n) (sum_append w xs ys) ∙ sym (add_assoc (w x) (total w xs) (total w ys))

sum_kept : {X : Type 0} (w : X → ℕ) (b : Bool) (x : X) (xs ys : List X) → total w (cond b (x ∷ xs) xs) + total w (cond (not b) (x ∷ ys) ys) ≡ w x + (total w xs + total w ys)
sum_kept w true x xs ys = omega arith
sum_kept w false x xs ys = omega arith

-- the elements that pass, and those that don't
pub sum_parted : {X : Type 0} (w : X → ℕ) (q : X → Bool) (xs : List X) → total w (filter q xs) + total w (filter (λ x. not (q x)) xs) ≡ total w xs
sum_parted w q [] = omega arith
sum_parted w q (x ∷ xs) = sum_kept w (q x) x (filter q xs) (filter (λ y. not (q y)) xs) ∙ ap (λ n. w x + n) (sum_parted w q xs)

pub sum_cut : {X : Type 0} (w : X → ℕ) (n : ℕ) (xs : List X) → total w (take n xs) + total w (drop n xs) ≡ total w xs
sum_cut w zero xs = omega arith
sum_cut w (suc n) [] = omega arith
sum_cut w (suc n) (x ∷ xs) = omega (arith, sum_cut w n xs)

pub sum_filtered : {X : Type 0} (w : X → ℕ) (q : X → Bool) (xs : List X) → total w (filter (λ x. not (q x)) xs) ≤ total w xs
sum_filtered w q xs = omega (arith, sum_parted w q xs)

-- the elements that pass, put at a place among the others
pub sum_moved : {X : Type 0} (w : X → ℕ) (q : X → Bool) (n : ℕ) (xs : List X) →
    total w (take n (filter (λ x. not (q x)) xs) ++ filter q xs ++ drop n (filter (λ x. not (q x)) xs)) ≡ total w xs
sum_moved w q n xs =
    let others : List _ = filter (λ x. not (q x)) xs in
    let a : total w (take n others ++ filter q xs ++ drop n others) ≡ total w (take n others ++ filter q xs) + total w (drop n others) = sum_append w (take n others ++ filter q xs) (drop n others) in
    let b : total w (take n others ++ filter q xs) ≡ total w (take n others) + total w (filter q xs) = sum_append w (take n others) (filter q xs) in
    let d : total w (take n others) + total w (drop n others) ≡ total w others = sum_cut w n others in
    let e : total w (filter q xs) + total w others ≡ total w xs = sum_parted w q xs in
    omega (arith, a, b, d, e)

pub sum_same : {X Y : Type 0} (w : X → ℕ) (u : Y → ℕ) (g : X → Y) → ((x : X) → u (g x) ≡ w x) → (xs : List X) → total u (map g xs) ≡ total w xs
sum_same w u g e [] = refl
sum_same w u g e (x ∷ xs) = λ i. e x i + sum_same w u g e xs i

pub sum_grown : {X : Type 0} (w u : X → ℕ) (g : X → X) → ((x : X) → w (g x) ≤ w x + u x) → (xs : List X) → total w (map g xs) ≤ total w xs + total u xs
sum_grown w u g le [] = omega arith
sum_grown w u g le (x ∷ xs) = omega (arith, le x, sum_grown w u g le xs)

pub sum_flat_map : {X Y : Type 0} (w : Y → ℕ) (g : X → List Y) (xs : List X) → total w (flat_map g xs) ≡ total (λ x. total w (g x)) xs
sum_flat_map w g [] = refl
sum_flat_map w g (x ∷ xs) = sum_append w (g x) (flat_map g xs) ∙ ap (λ n. total w (g x) + n) (sum_flat_map w g xs)

pub length_sum : {X : Type 0} (xs : List X) → length xs ≡ total (λ x. 1) xs
length_sum [] = refl
length_sum (x ∷ xs) = omega (arith, length_sum xs)

-- some element passes

any_head : (b : Bool) (n : ℕ) (rest : Bool) → rest ≡ nat_lt 0 n → (b || rest) ≡ nat_lt 0 (cond b 1 0 + n)
any_head true n rest e = grind (arith, nat_tests)
any_head false n rest e = e ∙ ap (nat_lt 0) (sym (zero-add n))

pub any_sum : {X : Type 0} (p : X → Bool) (xs : List X) → list_any p xs ≡ nat_lt 0 (total (λ x. cond (p x) 1 0) xs)
any_sum p [] = refl
any_sum p (x ∷ xs) = any_head (p x) (total (λ y. cond (p y) 1 0) xs) (list_any p xs) (any_sum p xs)

pub none_sum : {X : Type 0} (p : X → Bool) (xs : List X) → list_any p xs ≡ false → total (λ x. cond (p x) 1 0) xs ≡ 0
none_sum p xs e =
    let h : nat_lt 0 (total (λ x. cond (p x) 1 0) xs) ≡ false = sym (any_sum p xs) ∙ e in
    grind (arith, nat_tests)

pub any_moved : {X : Type 0} (p q : X → Bool) (n : ℕ) (xs : List X) →
    list_any p (take n (filter (λ x. not (q x)) xs) ++ filter q xs ++ drop n (filter (λ x. not (q x)) xs)) ≡ list_any p xs
any_moved p q n xs =
    any_sum p (take n (filter (λ x. not (q x)) xs) ++ filter q xs ++ drop n (filter (λ x. not (q x)) xs))
    ∙ ap (nat_lt 0) (sum_moved (λ x. cond (p x) 1 0) q n xs)
    ∙ sym (any_sum p xs)

pub any_same : {X Y : Type 0} (p : Y → Bool) (q : X → Bool) (g : X → Y) → ((x : X) → p (g x) ≡ q x) → (xs : List X) → list_any p (map g xs) ≡ list_any q xs
any_same p q g e [] = refl
any_same p q g e (x ∷ xs) = λ i. e x i || any_same p q g e xs i

or_left : (a b : Bool) → a ≡ true → (a || b) ≡ true
or_left true b e = refl
or_left false b e = absurd (false≢true e)

or_right : (a b : Bool) → b ≡ true → (a || b) ≡ true
or_right true b e = refl
or_right false b e = e

pub any_append_left : {X : Type 0} (p : X → Bool) (xs ys : List X) → list_any p xs ≡ true → list_any p (xs ++ ys) ≡ true
any_append_left p xs ys h = list_any-append p xs ys ∙ or_left (list_any p xs) (list_any p ys) h

pub any_append_right : {X : Type 0} (p : X → Bool) (xs ys : List X) → list_any p ys ≡ true → list_any p (xs ++ ys) ≡ true
any_append_right p xs ys h = list_any-append p xs ys ∙ or_right (list_any p xs) (list_any p ys) h

any_kept : {X : Type 0} (p : X → Bool) (keep passes : Bool) (x : X) (xs rest : List X) → p x ≡ passes → (passes ≡ true → keep ≡ true) →
    (list_any p xs ≡ true → list_any p rest ≡ true) → (passes || list_any p xs) ≡ true → list_any p (cond keep (x ∷ rest) rest) ≡ true
any_kept p true true x xs rest e k h a = or_left (p x) (list_any p rest) e
any_kept p false true x xs rest e k h a = absurd (false≢true (k refl))
any_kept p true false x xs rest e k h a = or_right (p x) (list_any p rest) (h a)
any_kept p false false x xs rest e k h a = h a

-- an element that passes is among those that are kept
pub any_filter : {X : Type 0} (p q : X → Bool) → ((x : X) → p x ≡ true → q x ≡ true) → (xs : List X) → list_any p xs ≡ true → list_any p (filter q xs) ≡ true
any_filter p q k [] h = h
any_filter p q k (x ∷ xs) h = any_kept p (q x) (p x) x xs (filter q xs) refl (k x) (any_filter p q k xs) h

or_false : (a b : Bool) → (a || b) ≡ false → (a ≡ false) × (b ≡ false)
or_false true b e = absurd (false≢true (sym e))
or_false false b e = (refl, e)

pub none_passes : {X : Type 0} (p : X → Bool) (xs : List X) → list_any p xs ≡ false → AllByRecursion (λ x. p x ≡ false) xs
none_passes p [] h = tt
none_passes p (x ∷ xs) h = let parts = or_false (p x) (list_any p xs) h in (parts.0, none_passes p xs parts.1)

pub any_false_parts : (a b : Bool) → (a || b) ≡ false → (a ≡ false) × (b ≡ false)
any_false_parts a b e = or_false a b e

-- a choice by a test
pub by_test : {X : Type 0} (Q : X → Type 0) (b : Bool) (x y : X) → (b ≡ true → Q x) → (b ≡ false → Q y) → Q (cond b x y)
by_test Q true x y h g = h refl
by_test Q false x y h g = g refl
