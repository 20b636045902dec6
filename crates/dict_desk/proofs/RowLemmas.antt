-- What is handed out of a list of entries, as it is gone through.
use Rattle.std.proofs.Common.{◌≡◌, ℕ, zero, suc, ◌<◌, Bool, true, false, List, [], ◌∷◌, ◌++◌, length, map, take, drop, get_or, refl, ap, cond, arith}
use Rattle.std.specs.Prelude.{filter}

module _ {X Y : Type 0} (p : X → Bool) (r : X → Y) where
  abbrev chosen : List X → List Y
  chosen xs = map r (filter p xs)

  -- the rows of the front, that of the next element, and those behind
  pub rows_cut : (xs : List X) (i : ℕ) (d : X) → i < length xs → p (get_or xs i d) ≡ true
      → chosen xs ≡ chosen (take i xs) ++ ((r (get_or xs i d) ∷ []) ++ chosen (drop (suc i) xs))
  rows_cut [] i d below e = absurd (omega arith)
  rows_cut (x ∷ xs) zero d below e = ap (λ b. map r (cond b (x ∷ filter p xs) (filter p xs))) e
  rows_cut (x ∷ xs) (suc i) d below e = by_first (p x) (rows_cut xs i d (omega arith) e)
    where
      by_first : (b : Bool) → chosen xs ≡ chosen (take i xs) ++ ((r (get_or xs i d) ∷ []) ++ chosen (drop (suc i) xs))
          → map r (cond b (x ∷ filter p xs) (filter p xs)) ≡ map r (cond b (x ∷ filter p (take i xs)) (filter p (take i xs))) ++ ((r (get_or xs i d) ∷ []) ++ chosen (drop (suc i) xs))
      by_first true h = ap (λ ys. r x ∷ ys) h
      by_first false h = h

-- the rows found are those of the entries that a query finds, made after the choice or before it
pub chosen_after : {X Y : Type 0} (f : X → Y) (p : Y → Bool) (xs : List X) → filter p (map f xs) ≡ map f (filter (λ x. p (f x)) xs)
chosen_after f p [] = refl
chosen_after f p (x ∷ xs) = by_first (p (f x)) (chosen_after f p xs)
  where
    by_first : (b : Bool) → filter p (map f xs) ≡ map f (filter (λ y. p (f y)) xs) → cond b (f x ∷ filter p (map f xs)) (filter p (map f xs)) ≡ map f (cond b (x ∷ filter (λ y. p (f y)) xs) (filter (λ y. p (f y)) xs))
    by_first true h = ap (λ ys. f x ∷ ys) h
    by_first false h = h

pub mapped_twice : {X Y Z : Type 0} (f : X → Y) (g : Y → Z) (xs : List X) → map g (map f xs) ≡ map (λ x. g (f x)) xs
mapped_twice f g [] = refl
mapped_twice f g (x ∷ xs) = ap (λ ys. g (f x) ∷ ys) (mapped_twice f g xs)
