-- Lists of which so many first elements are in order.
use Rattle.std.proofs.Common.{◌≡◌, ℕ, ◌+◌, ◌-◌, ◌<◌, ◌≤◌, Bool, false, List, [], length, take, get_or, inl, inr, ap, ◌∙◌, sym, subst, arith}
use Rattle.std.specs.List.Sorted.{IsSortedBy}
use Rattle.std.proofs.lemmas.Bool.{cases_lt}
use Rattle.std.proofs.lemmas.List.{get_or-take, get_or_default, length-take, take_all}

pub none_compared : {X : Type 0} (lt : X → X → Bool) → IsSortedBy lt []
none_compared lt k d low inside = absurd (omega (arith, inside))

module _ {X : Type 0} (lt : X → X → Bool) (xs : List X) where
  -- the same elements stand in a longer beginning
  in_order : (m n k : ℕ) (d : X) → k + 1 < m → k + 1 < n → lt (get_or (take n xs) (k + 1) d) (get_or (take n xs) k d) ≡ false → lt (get_or (take m xs) (k + 1) d) (get_or (take m xs) k d) ≡ false
  in_order m n k d near far up =
      let second : get_or (take m xs) (k + 1) d ≡ get_or (take n xs) (k + 1) d = get_or-take m xs (k + 1) d near ∙ sym (get_or-take n xs (k + 1) d far) in
      let first : get_or (take m xs) k d ≡ get_or (take n xs) k d = get_or-take m xs k d (omega (arith, near)) ∙ sym (get_or-take n xs k d (omega (arith, far))) in
      ap (λ y. lt y (get_or (take m xs) k d)) second ∙ ap (lt (get_or (take n xs) (k + 1) d)) first ∙ up

  pub fewer_compared : (m n : ℕ) → m ≤ n → IsSortedBy lt (take n xs) → IsSortedBy lt (take m xs)
  fewer_compared m n le up k d low inside =
      let size = length-take m xs in
      let whole = length-take n xs in
      in_order m n k d (omega (arith, inside, size)) (omega (arith, inside, size, le)) (up k d low (omega (arith, inside, size, whole, le)))

  there : (n : ℕ) (d e : X) (i j : ℕ) → i < n + 1 → i ≡ j → j < length xs → get_or (take (n + 1) xs) i d ≡ get_or xs j e
  there n d e i j few same within = get_or-take (n + 1) xs i d few ∙ ap (λ k. get_or xs k d) same ∙ get_or_default xs j d e within

  pub one_compared : (n : ℕ) (e : X) → n < length xs → (0 < n → lt (get_or xs n e) (get_or xs (n - 1) e) ≡ false) → IsSortedBy lt (take n xs) → IsSortedBy lt (take (n + 1) xs)
  one_compared n e within here up k d low inside =
      let size = length-take (n + 1) xs in
      let less = length-take n xs in
      elim (cases_lt (k + 1) n) [
        | inl near ↦ in_order (n + 1) n k d (omega (arith, near)) near (up k d low (omega (arith, near, less, within)))
        | inr le ↦
            let last : k + 1 ≡ n = omega (arith, le, inside, size) in
            let before : k ≡ n - 1 = omega (arith, last) in
            let second : get_or (take (n + 1) xs) (k + 1) d ≡ get_or xs n e = there n d e (k + 1) n (omega (arith, last)) last within in
            let first : get_or (take (n + 1) xs) k d ≡ get_or xs (n - 1) e = there n d e k (n - 1) (omega (arith, last)) before (omega (arith, within)) in
            ap (λ y. lt y (get_or (take (n + 1) xs) k d)) second ∙ ap (lt (get_or xs n e)) first ∙ here (omega (arith, last))
      ]

  pub all_compared : (n : ℕ) → length xs ≤ n → IsSortedBy lt (take n xs) → IsSortedBy lt xs
  all_compared n past up = subst (IsSortedBy lt) (take_all n xs past) up
