-- Pieces with the places of their keys: put behind one another, sorted, and each left once.
use Rattle.std.proofs.Common.{◌≡◌, ℕ, zero, suc, ◌+◌, ◌<◌, Bool, ◌&&◌, ◌==◌, nat_eq, List, [], ◌∷◌, ◌++◌, map, take, length, get_or, refl, ap, sym, ◌∙◌, subst, inl, inr, arith, append_assoc, append-nil}
use Rattle.std.specs.Cmp.{IsTotalOrder, Equal-is, both_tied, unsigned_ties}
use Rattle.std.specs.Cmp.Lexicographic.{pointwise, texts_ties}
use Rattle.std.specs.declared.cmp.Ordering.{Ordering}
use Rattle.std.specs.declared.cmp.Ordering.TheVariants.{Less, Equal}
use Rattle.std.specs.Ordering.{nat_cmp, ordering_then, eq_by_cmp, is_eq}
use Rattle.std.specs.List.{AllByRecursion, Contains, dedup}
use Rattle.std.specs.List.Sorted.{IsPermutation, IsSorted, IsStrictlySortedBy}
use Rattle.std.proofs.lemmas.Cmp.{nat_cmp_total, nat_list_cmp_total, on_total, then_total, eq_by_cmp_equiv}
use Rattle.std.proofs.lemmas.List.{map-append, take_more, length-map, get_or-map, length-take}
use Rattle.std.proofs.lemmas.List.Elements.{Contains-get_or, Contains-append_left, Contains-append_right, Contains-append_cases}
use Rattle.std.proofs.lemmas.List.Kept.{Any-dedup, Contains-from_dedup, IsStrictlySortedBy-dedup}
use Rattle.std.proofs.lemmas.List.Sorted.{Contains-permutation, IsPermutation-map, IsPermutation-sym}
use Rattle.std.proofs.lemmas.Map.Lookups.{exact_bytes, exact_pairs, exact_unsigned}
use Rattle.store_derived.specs.Derived.{octets_cmp}
use Rattle.store_pieces.specs.Pieces.{Placed, placed_at, occurrences_from, pair_cmp, AreOccurrences}
use Rattle.store_pieces.specs.PlacedPieces.{word_placed, gram_placed, gram_cmp}
use Rattle.store_pieces.specs.declared.placed.PlacedWord.{PlacedWord}
use Rattle.store_pieces.specs.declared.placed.PlacedGram.{PlacedGram}
use Rattle.store_places.proofs.ListLemmas.{none_in}

-- ---- one piece more, and one key more

pub put_more : {X Y : Type 0} (row : X → Y) (f : List ℕ → Y) (old new : List X) (x : X) (w : List ℕ) (left rest : List (List ℕ)) (all : List Y) → new ≡ old ++ x ∷ [] → row x ≡ f w → left ≡ w ∷ rest
    → map row old ++ map f left ≡ all → map row new ++ map f rest ≡ all
put_more row f old new x w left rest all added is next before =
    ap (λ l. map row l ++ map f rest) added
    ∙ ap (λ l. l ++ map f rest) (map-append row old (x ∷ []))
    ∙ append_assoc (map row old) (row x ∷ []) (map f rest)
    ∙ ap (λ p. map row old ++ p ∷ map f rest) is
    ∙ ap (λ l. map row old ++ map f l) (sym next)
    ∙ before

pub none_left : {X Y : Type 0} (row : X → Y) (f : List ℕ → Y) (list : List X) (left : List (List ℕ)) (all : List Y) → left ≡ [] → map row list ++ map f left ≡ all → map row list ≡ all
none_left row f list left all none before = sym (append-nil (map row list)) ∙ ap (λ l. map row list ++ map f l) (sym none) ∙ before

module _ (pieces_in : List ℕ → List (List ℕ)) where
  push : (first : ℕ) (keys : List (List ℕ)) (key : List ℕ) → occurrences_from pieces_in first (keys ++ key ∷ []) ≡ occurrences_from pieces_in first keys ++ map (placed_at (first + length keys)) (pieces_in key)
  push first [] key = append-nil (map (placed_at first) (pieces_in key)) ∙ ap (λ n. map (placed_at n) (pieces_in key)) (omega arith)
  push first (k ∷ keys) key =
      let more : first + 1 + length keys ≡ first + length (k ∷ keys) = omega arith in
      let here = map (placed_at first) (pieces_in k) in
      ap (λ rows. here ++ rows) (push (first + 1) keys key ∙ ap (λ n. occurrences_from pieces_in (first + 1) keys ++ map (placed_at n) (pieces_in key)) more)
      ∙ sym (append_assoc here (occurrences_from pieces_in (first + 1) keys) (map (placed_at (first + length (k ∷ keys))) (pieces_in key)))

  pub next_key : (keys : List (List ℕ)) (n : ℕ) (key : List ℕ) → n < length keys → key ≡ get_or keys n [] → occurrences_from pieces_in 0 (take (n + 1) keys) ≡ occurrences_from pieces_in 0 (take n keys) ++ map (placed_at n) (pieces_in key)
  next_key keys n key lt is =
      let size : 0 + length (take n keys) ≡ n = omega (arith, length-take n keys) in
      ap (occurrences_from pieces_in 0) (take_more keys n [] lt ∙ ap (λ k. take n keys ++ k ∷ []) (sym is))
      ∙ push 0 (take n keys) key
      ∙ ap (λ m. occurrences_from pieces_in 0 (take n keys) ++ map (placed_at m) (pieces_in key)) size

-- ---- members

module _ {X Y : Type 0} (f : X → Y) where
  pub from_map : (xs : List X) (r : Y) → Contains (map f xs) r → (x : X) × Contains xs x × (f x ≡ r)
  from_map [] r c = absurd (omega (arith, c.1))
  from_map (x ∷ xs) r c =
      let size = length-map (x ∷ xs) f in
      let within : c.0 < length (x ∷ xs) = omega (arith, c.1) in
      (get_or (x ∷ xs) c.0 x, Contains-get_or (x ∷ xs) c.0 x within, sym (get_or-map f (x ∷ xs) c.0 x r within) ∙ c.2)

  pub to_map : (xs : List X) (x : X) → Contains xs x → Contains (map f xs) (f x)
  to_map xs x c =
      let size = length-map xs f in
      (c.0, omega (arith, c.1), get_or-map f xs c.0 x (f x) c.1 ∙ ap f c.2)

module _ (pieces_in : List ℕ → List (List ℕ)) where
  pub from_occurrences : (first : ℕ) (keys : List (List ℕ)) (w : List ℕ) (z : ℕ) → Contains (occurrences_from pieces_in first keys) (w, z) → (i : ℕ) × (i < length keys) × (z ≡ first + i) × Contains (pieces_in (get_or keys i [])) w
  from_occurrences first [] w z c = absurd (none_in (w, z) c)
  from_occurrences first (k ∷ keys) w z c = elim (Contains-append_cases (map (placed_at first) (pieces_in k)) (occurrences_from pieces_in (first + 1) keys) (w, z) c) [
    | inl here ↦
        let r = from_map (placed_at first) (pieces_in k) (w, z) here in
        let place : first ≡ z = ap (λ (o : Placed). o.1) r.2 in
        let word : r.0 ≡ w = ap (λ (o : Placed). o.0) r.2 in
        (0, omega arith, omega (arith, place), subst (Contains (pieces_in k)) word r.1)
    | inr there ↦
        let r = from_occurrences (first + 1) keys w z there in
        (suc r.0, omega (arith, r.1), omega (arith, r.2), r.3)
  ]

  pub to_occurrences : (first : ℕ) (keys : List (List ℕ)) (w : List ℕ) (i : ℕ) → i < length keys → Contains (pieces_in (get_or keys i [])) w → Contains (occurrences_from pieces_in first keys) (w, first + i)
  to_occurrences first [] w i lt c = absurd (omega (arith, lt))
  to_occurrences first (k ∷ keys) w zero lt c =
      let same : first ≡ first + 0 = omega arith in
      Contains-append_left (map (placed_at first) (pieces_in k)) (occurrences_from pieces_in (first + 1) keys) (w, first + 0)
      (subst (λ m. Contains (map (placed_at first) (pieces_in k)) (w, m)) same (to_map (placed_at first) (pieces_in k) w c))
  to_occurrences first (k ∷ keys) w (suc i) lt c =
      let same : first + 1 + i ≡ first + suc i = omega arith in
      Contains-append_right (map (placed_at first) (pieces_in k)) (occurrences_from pieces_in (first + 1) keys) (w, first + suc i)
      (subst (λ m. Contains (occurrences_from pieces_in (first + 1) keys) (w, m)) same (to_occurrences (first + 1) keys w i (omega arith) c))

-- ---- sorted, and each left once

exact : (p q : Placed) → pair_cmp p q ≡ Equal → p ≡ q
exact = exact_pairs octets_cmp nat_cmp exact_bytes exact_unsigned

module _ {X : Type 0} (row : X → Placed) (cmp : X → X → Ordering) (o : IsTotalOrder cmp) (below : (x y : X) → cmp x y ≡ pair_cmp (row x) (row y)) where
  each_rises : (x : X) (ys : List X) → AllByRecursion (λ y. cmp x y ≡ Less) ys → AllByRecursion (λ r. pair_cmp (row x) r ≡ Less) (map row ys)
  each_rises x [] h = tt
  each_rises x (y ∷ ys) h = (sym (below x y) ∙ h.0, each_rises x ys h.1)

  rises : (xs : List X) → IsStrictlySortedBy cmp xs → IsStrictlySortedBy pair_cmp (map row xs)
  unfolding IsStrictlySortedBy
  rises [] h = tt
  rises (x ∷ xs) h = (each_rises x xs h.0, rises xs h.1)

  pub once_sorted : (pieces_in : List ℕ → List (List ℕ)) (keys : List (List ℕ)) (sorted last : List X) → IsPermutation (occurrences_from pieces_in 0 keys) (map row sorted) → IsSorted cmp sorted → last ≡ dedup (eq_by_cmp cmp) sorted
      → AreOccurrences pieces_in keys (map row last)
  once_sorted pieces_in keys sorted last moved up kept =
      let all = occurrences_from pieces_in 0 keys in
      record {
        rising = rises last (subst (IsStrictlySortedBy cmp) (sym kept) (IsStrictlySortedBy-dedup o (λ x y. refl) sorted up));
        each = λ r. (
          (λ c.
              let from = from_map row last r c in
              let x = from.0 in
              let had : Contains sorted x = Contains-from_dedup (eq_by_cmp cmp) sorted x (subst (λ l. Contains l x) kept from.1) in
              Contains-permutation (map row sorted) all r (IsPermutation-sym all (map row sorted) moved) (subst (Contains (map row sorted)) from.2 (to_map row sorted x had))),
          (λ d.
              let from = from_map row sorted r (Contains-permutation all (map row sorted) r moved d) in
              let x = from.0 in
              let found = Any-dedup (eq_by_cmp_equiv o) sorted x from.1 in
              let y = found.1 in
              let there : Contains last y = subst (λ l. Contains l y) (sym kept) (found.0, found.2, found.3) in
              let same : row x ≡ row y = exact (row x) (row y) (sym (below x y) ∙ (Equal-is (cmp x y)).0 found.4) in
              subst (Contains (map row last)) (sym same ∙ from.2) (to_map row last y there)),
        );
      }

  pub sorted_once : (pieces_in : List ℕ → List (List ℕ)) (keys : List (List ℕ)) (all sorted last : List X) → map row all ≡ occurrences_from pieces_in 0 keys → IsPermutation all sorted → IsSorted cmp sorted → last
      ≡ dedup (eq_by_cmp cmp) sorted → AreOccurrences pieces_in keys (map row last)
  sorted_once pieces_in keys all sorted last are moved up kept =
      once_sorted pieces_in keys sorted last (subst (λ l. IsPermutation l (map row sorted)) are (IsPermutation-map row all sorted moved)) up kept

abbrev pub word_cmp : PlacedWord → PlacedWord → Ordering
word_cmp x y = ordering_then (octets_cmp x.word.now y.word.now) (nat_cmp x.place y.place)

word_total : IsTotalOrder word_cmp
word_total = then_total (on_total (λ (w : PlacedWord). w.word.now) nat_list_cmp_total) (on_total (λ (w : PlacedWord). w.place) nat_cmp_total)

pub gram_total : IsTotalOrder gram_cmp
gram_total = then_total (on_total (λ (g : PlacedGram). g.gram) nat_list_cmp_total) (on_total (λ (g : PlacedGram). g.place) nat_cmp_total)

-- two tests of equality that tell the same of each pair leave the same
left_by : {X : Type 0} (E F : X → X → Bool) → ((x y : X) → E x y ≡ F x y) → (xs ys : List X) → ys ≡ dedup E xs → ys ≡ dedup F xs
left_by E F same xs ys e = e ∙ ap (λ test. dedup test xs) (λ i x y. same x y i)

pub placed_words : (pieces_in : List ℕ → List (List ℕ)) (keys : List (List ℕ)) (all sorted last : List PlacedWord) (E : PlacedWord → PlacedWord → Bool) → ((x y : PlacedWord) → E x y ≡ eq_by_cmp word_cmp x y) → map word_placed all
    ≡ occurrences_from pieces_in 0 keys
    → IsPermutation all sorted → IsSorted word_cmp sorted → last ≡ dedup E sorted → AreOccurrences pieces_in keys (map word_placed last)
placed_words pieces_in keys all sorted last E same are moved up kept =
    sorted_once word_placed word_cmp word_total (λ x y. refl) pieces_in keys all sorted last are moved up (left_by E (eq_by_cmp word_cmp) same sorted last kept)

pub placed_grams : (pieces_in : List ℕ → List (List ℕ)) (keys : List (List ℕ)) (all sorted last : List PlacedGram) (E : PlacedGram → PlacedGram → Bool) → ((x y : PlacedGram) → E x y ≡ eq_by_cmp gram_cmp x y) → map gram_placed all
    ≡ occurrences_from pieces_in 0 keys
    → IsPermutation all sorted → IsSorted gram_cmp sorted → last ≡ dedup E sorted → AreOccurrences pieces_in keys (map gram_placed last)
placed_grams pieces_in keys all sorted last E same are moved up kept =
    sorted_once gram_placed gram_cmp gram_total (λ x y. refl) pieces_in keys all sorted last are moved up (left_by E (eq_by_cmp gram_cmp) same sorted last kept)

-- the same of runs that were moved before
pub placed_again : (pieces_in : List ℕ → List (List ℕ)) (keys : List (List ℕ)) (sorted last : List PlacedGram) (E : PlacedGram → PlacedGram → Bool) → ((x y : PlacedGram) → E x y ≡ eq_by_cmp gram_cmp x y)
    → IsPermutation (occurrences_from pieces_in 0 keys) (map gram_placed sorted) → IsSorted gram_cmp sorted → last ≡ dedup E sorted → AreOccurrences pieces_in keys (map gram_placed last)
placed_again pieces_in keys sorted last E same moved up kept =
    once_sorted gram_placed gram_cmp gram_total (λ x y. refl) pieces_in keys sorted last moved up (left_by E (eq_by_cmp gram_cmp) same sorted last kept)

-- the tests of equality
pub pieces_tie : (p q : List ℕ) (a b : ℕ) → (pointwise nat_eq p q && (a == b)) ≡ is_eq (ordering_then (octets_cmp p q) (nat_cmp a b))
pieces_tie p q a b = both_tied (pointwise nat_eq p q) (a == b) (octets_cmp p q) (nat_cmp a b) (texts_ties p q) (unsigned_ties a b)
