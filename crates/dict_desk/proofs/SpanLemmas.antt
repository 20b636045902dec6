-- Between which places the elements of a kind lie.
use Rattle.std.proofs.Common.{◌≡◌, ℕ, zero, suc, ◌+◌, ◌-◌, ◌<◌, ◌≤◌, Bool, false, List, [], ◌∷◌, ◌++◌, length, map, take, drop, get_or, refl, ap, sym, subst, ◌∙◌, cond, arith}
use Rattle.std.specs.Prelude.{filter}
use Rattle.std.proofs.Math.Seq.{take-add}
use Rattle.std.proofs.lemmas.List.{take-append-drop, length-map}
use Rattle.std.proofs.lemmas.List.Elements.{filter-append}
use Rattle.dict_desk.specs.PlainEntries.{LieWithin}
use Rattle.dict_desk.proofs.RowLemmas.{chosen_after}

append_none : {X : Type 0} (xs ys : List X) → ys ≡ [] → xs ++ ys ≡ xs
append_none [] ys e = e
append_none (x ∷ xs) ys e = ap (λ zs. x ∷ zs) (append_none xs ys e)

none_append : {X : Type 0} (xs ys : List X) → xs ≡ [] → xs ++ ys ≡ ys
none_append xs ys e = ap (λ zs. zs ++ ys) e

module _ {X : Type 0} (p : X → Bool) where
  -- what lies within is all
  pub within_all : (xs : List X) (first end : ℕ) → LieWithin p xs first end → filter p (take (end - first) (drop first xs)) ≡ filter p xs
  within_all xs first end w =
      let size : first + (end - first) ≡ end = let o = w.ordered in omega arith in
      let front : take end xs ≡ take first xs ++ take (end - first) (drop first xs) = subst (λ n. take n xs ≡ take first xs ++ take (end - first) (drop first xs)) size (take-add first (end - first) xs) in
      sym (none_append (filter p (take first xs)) (filter p (take (end - first) (drop first xs))) w.before)
      ∙ (sym (filter-append p (take first xs) (take (end - first) (drop first xs)))
      ∙ (ap (filter p) (sym front)
      ∙ (sym (append_none (filter p (take end xs)) (filter p (drop end xs)) w.behind)
      ∙ (sym (filter-append p (take end xs) (drop end xs))
      ∙ ap (filter p) (take-append-drop end xs)))))

  -- what lies before its end is all
  pub front_all : (xs : List X) (first end : ℕ) → LieWithin p xs first end → filter p (take end xs) ≡ filter p xs
  front_all xs first end w =
      sym (append_none (filter p (take end xs)) (filter p (drop end xs)) w.behind) ∙ (sym (filter-append p (take end xs) (drop end xs)) ∙ ap (filter p) (take-append-drop end xs))

  -- one element more, which is of the kind or isn't
  same_front : (xs : List X) (i : ℕ) (d : X) → i < length xs → p (get_or xs i d) ≡ false → filter p (take (suc i) xs) ≡ filter p (take i xs)
  same_front [] i d below e = absurd (omega arith)
  same_front (x ∷ xs) zero d below e = ap (λ b. cond b (x ∷ []) []) e
  same_front (x ∷ xs) (suc i) d below e = ap (λ ys. cond (p x) (x ∷ ys) ys) (same_front xs i d (omega arith) e)

  pub behind_same : (xs : List X) (end i : ℕ) (d : X) → i < length xs → end ≤ i → p (get_or xs i d) ≡ false → filter p (drop end (take i xs)) ≡ [] → filter p (drop end (take (suc i) xs)) ≡ []
  behind_same [] end i d below le e h = absurd (omega arith)
  behind_same (x ∷ xs) zero i d below le e h = same_front (x ∷ xs) i d below e ∙ h
  behind_same (x ∷ xs) (suc end) zero d below le e h = absurd (omega arith)
  behind_same (x ∷ xs) (suc end) (suc i) d below le e h = behind_same xs end i d (omega arith) (omega arith) e h

  pub behind_here : (xs : List X) (i : ℕ) → filter p (drop i (take i xs)) ≡ []
  behind_here xs zero = refl
  behind_here [] (suc i) = refl
  behind_here (x ∷ xs) (suc i) = behind_here xs i

-- the kind is told before a mapping or after it
module _ {X Y : Type 0} (f : X → Y) (p : Y → Bool) where
  take_mapped : (n : ℕ) (xs : List X) → take n (map f xs) ≡ map f (take n xs)
  take_mapped zero xs = refl
  take_mapped (suc n) [] = refl
  take_mapped (suc n) (x ∷ xs) = ap (λ ys. f x ∷ ys) (take_mapped n xs)

  drop_mapped : (n : ℕ) (xs : List X) → drop n (map f xs) ≡ map f (drop n xs)
  drop_mapped zero xs = refl
  drop_mapped (suc n) [] = refl
  drop_mapped (suc n) (x ∷ xs) = drop_mapped n xs

  none_mapped : (xs : List X) → map f xs ≡ [] → xs ≡ []
  none_mapped [] e = refl
  none_mapped (x ∷ xs) e = cc

  pub span_mapped : (xs : List X) (first end : ℕ) → LieWithin (λ x. p (f x)) xs first end → LieWithin p (map f xs) first end
  span_mapped xs first end w = record {
    before = ap (filter p) (take_mapped first xs) ∙ (chosen_after f p (take first xs) ∙ ap (map f) w.before);
    behind = ap (filter p) (drop_mapped end xs) ∙ (chosen_after f p (drop end xs) ∙ ap (map f) w.behind);
    ordered = w.ordered;
    fits = subst (λ n. end ≤ n) (sym (length-map xs f)) w.fits;
  }

  pub span_before : (xs : List X) (first end : ℕ) → LieWithin p (map f xs) first end → LieWithin (λ x. p (f x)) xs first end
  span_before xs first end w = record {
    before = none_mapped (filter (λ x. p (f x)) (take first xs)) (sym (chosen_after f p (take first xs)) ∙ (sym (ap (filter p) (take_mapped first xs)) ∙ w.before));
    behind = none_mapped (filter (λ x. p (f x)) (drop end xs)) (sym (chosen_after f p (drop end xs)) ∙ (sym (ap (filter p) (drop_mapped end xs)) ∙ w.behind));
    ordered = w.ordered;
    fits = subst (λ n. end ≤ n) (length-map xs f) w.fits;
  }
