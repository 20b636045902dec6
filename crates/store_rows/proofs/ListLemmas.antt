-- Lists whose elements have their places, filters, and what comes next in them.
use Rattle.std.proofs.Common.{◌≡◌, ℕ, zero, suc, ◌+◌, ◌≤◌, ◌<◌, ◌||◌, Bool, true, false, List, [], ◌∷◌, ◌++◌, length, take, drop, get_or, refl, ap, sym, ◌∙◌, arith, zero-add}
use Rattle.std.specs.Prelude.{map, filter, cond}
use Rattle.std.specs.List.{AllByRecursion, list_any}
use Rattle.std.proofs.Math.ListN.{set}
use Rattle.std.proofs.lemmas.Bool.{false≢true}
use Rattle.std.proofs.Math.Seq.{split_at}
use Rattle.std.proofs.lemmas.List.{map-append, length-map, length-take-le, take_more, take-append-drop, take-map, set_split}
use Rattle.std.proofs.lemmas.List.Elements.{filter-append}
use Rattle.store_rows.specs.Written.{numbered}
use Rattle.store_rows.proofs.OnceLemmas.{head_same, tail_same}

-- elements with their places

pub numbered_length : {X Y : Type 0} (f : ℕ → X → Y) (n : ℕ) (xs : List X) → length (numbered f n xs) ≡ length xs
numbered_length f n [] = refl
numbered_length f n (x ∷ xs) = ap suc (numbered_length f (n + 1) xs)

pub all_numbered : {X Y : Type 0} (f : ℕ → X → Y) (P : X → Type 0) (Q : Y → Type 0) → ((n : ℕ) (x : X) → P x → Q (f n x)) → (n : ℕ) (xs : List X) → AllByRecursion P xs → AllByRecursion Q (numbered f n xs)
all_numbered f P Q then n [] h = tt
all_numbered f P Q then n (x ∷ xs) h = (then n x h.0, all_numbered f P Q then (n + 1) xs h.1)

pub each_numbered : {X Y : Type 0} (f : ℕ → X → Y) (Q : Y → Type 0) → ((n : ℕ) (x : X) → Q (f n x)) → (n : ℕ) (xs : List X) → AllByRecursion Q (numbered f n xs)
each_numbered f Q then n [] = tt
each_numbered f Q then n (x ∷ xs) = (then n x, each_numbered f Q then (n + 1) xs)

pub numbered_at : {X Y : Type 0} (f : ℕ → X → Y) (n : ℕ) (xs : List X) (i : ℕ) (d : X) (e : Y) → i < length xs → get_or (numbered f n xs) i e ≡ f (n + i) (get_or xs i d)
numbered_at f n [] i d e lt = absurd (omega (arith, lt))
numbered_at f n (x ∷ xs) zero d e lt = ap (λ k. f k x) (let same : n ≡ n + 0 = omega arith in same)
numbered_at f n (x ∷ xs) (suc i) d e lt =
    let same : (n + 1) + i ≡ n + suc i = omega arith in
    numbered_at f (n + 1) xs i d e (let less : i < length xs = omega (arith, lt) in less) ∙ ap (λ k. f k (get_or xs i d)) same

pub numbered_append : {X Y : Type 0} (f : ℕ → X → Y) (n : ℕ) (xs ys : List X) → numbered f n (xs ++ ys) ≡ numbered f n xs ++ numbered f (n + length xs) ys
numbered_append f n [] ys = ap (λ k. numbered f k ys) (let e : n ≡ n + 0 = omega arith in e)
numbered_append f n (x ∷ xs) ys =
    let e : (n + 1) + length xs ≡ n + suc (length xs) = omega arith in
    ap (λ rest. f n x ∷ rest) (numbered_append f (n + 1) xs ys ∙ ap (λ k. numbered f (n + 1) xs ++ numbered f k ys) e)

pub numbered_push : {X Y : Type 0} (f : ℕ → X → Y) (xs : List X) (x : X) → numbered f 0 (xs ++ x ∷ []) ≡ numbered f 0 xs ++ f (length xs) x ∷ []
numbered_push f xs x = numbered_append f 0 xs (x ∷ []) ∙ ap (λ k. numbered f 0 xs ++ f k x ∷ []) (zero-add (length xs))

-- the element of a list that stands behind the first ones
next_from : {X Y : Type 0} (f : ℕ → X → Y) (n : ℕ) (ys : List X) (zs more : List Y) (r : Y) → zs ++ r ∷ more ≡ numbered f n ys → (y : X) × (r ≡ f (n + length zs) y)
next_from f n [] [] more r e = absurd (cc)
next_from f n (y ∷ ys) [] more r e = (y, head_same _ _ _ _ e ∙ ap (λ k. f k y) (let e : n ≡ n + 0 = omega arith in e))
next_from f n [] (z ∷ zs) more r e = absurd (cc)
next_from f n (y ∷ ys) (z ∷ zs) more r e =
    let found = next_from f (n + 1) ys zs more r (tail_same _ _ _ _ e) in
    (found.0, found.1 ∙ ap (λ k. f k found.0) (let e : (n + 1) + length zs ≡ n + suc (length zs) = omega arith in e))

pub next_is : {X Y : Type 0} (f : ℕ → X → Y) (ys : List X) (zs more : List Y) (r : Y) → zs ++ r ∷ more ≡ numbered f 0 ys → (y : X) × (r ≡ f (length zs) y)
next_is f ys zs more r e =
    let found = next_from f 0 ys zs more r e in
    (found.0, found.1 ∙ ap (λ k. f k found.0) (zero-add (length zs)))

-- the same, with what holds of each
next_held : {X Y : Type 0} (f : ℕ → X → Y) (P : X → Type 0) (n : ℕ) (ys : List X) (zs more : List Y) (r : Y) → AllByRecursion P ys → zs ++ r ∷ more ≡ numbered f n ys → (y : X) × (r ≡ f (n + length zs) y) × P y
next_held f P n [] [] more r h e = absurd (cc)
next_held f P n (y ∷ ys) [] more r h e = (y, head_same _ _ _ _ e ∙ ap (λ k. f k y) (let e : n ≡ n + 0 = omega arith in e), h.0)
next_held f P n [] (z ∷ zs) more r h e = absurd (cc)
next_held f P n (y ∷ ys) (z ∷ zs) more r h e =
    let found = next_held f P (n + 1) ys zs more r h.1 (tail_same _ _ _ _ e) in
    (found.0, found.1 ∙ ap (λ k. f k found.0) (let e : (n + 1) + length zs ≡ n + suc (length zs) = omega arith in e), found.2)

pub next_of_all : {X Y : Type 0} (f : ℕ → X → Y) (P : X → Type 0) (ys : List X) (zs more : List Y) (r : Y) → AllByRecursion P ys → zs ++ r ∷ more ≡ numbered f 0 ys → (y : X) × (r ≡ f (length zs) y) × P y
next_of_all f P ys zs more r h e =
    let found = next_held f P 0 ys zs more r h e in
    (found.0, found.1 ∙ ap (λ k. f k found.0) (zero-add (length zs)), found.2)

-- the images of the elements up to one, and of the rest
pub map_cut : {X Y : Type 0} (f : X → Y) (xs : List X) (i : ℕ) (x : X) → i < length xs → x ≡ get_or xs i x → map f xs ≡ map f (take i xs) ++ f x ∷ map f (drop (suc i) xs)
map_cut f xs i x lt is =
    ap (map f) (split_at xs i x lt ∙ ap (λ y. take i xs ++ y ∷ drop (suc i) xs) (sym is))
    ∙ map-append f (take i xs) (x ∷ drop (suc i) xs)

pub map_next : {X Y : Type 0} (f : X → Y) (xs : List X) (i : ℕ) (x : X) → i < length xs → x ≡ get_or xs i x → map f (take (i + 1) xs) ≡ map f (take i xs) ++ f x ∷ []
map_next f xs i x lt is =
    ap (map f) (take_more xs i x lt ∙ ap (λ y. take i xs ++ y ∷ []) (sym is)) ∙ map-append f (take i xs) (x ∷ [])

-- a filter of the images, up to an element and from it on

one_filtered : {Y : Type 0} (p : Y → Bool) (y : Y) (ys : List Y) (b : Bool) → p y ≡ b → filter p (y ∷ ys) ≡ cond b (y ∷ filter p ys) (filter p ys)
one_filtered p y ys b e = ap (λ c. cond c (y ∷ filter p ys) (filter p ys)) e

pub filter_more : {X Y : Type 0} (f : X → Y) (p : Y → Bool) (xs : List X) (i : ℕ) (x : X) (b : Bool) → i < length xs → x ≡ get_or xs i x → p (f x) ≡ b →
    filter p (map f (take (i + 1) xs)) ≡ filter p (map f (take i xs)) ++ cond b (f x ∷ []) []
filter_more f p xs i x b lt is e =
    ap (λ ys. filter p (map f ys)) (take_more xs i x lt ∙ ap (λ y. take i xs ++ y ∷ []) (sym is))
    ∙ ap (filter p) (map-append f (take i xs) (x ∷ []))
    ∙ filter-append p (map f (take i xs)) (f x ∷ [])
    ∙ ap (λ ys. filter p (map f (take i xs)) ++ ys) (one_filtered p (f x) [] b e)

pub filter_rest : {X Y : Type 0} (f : X → Y) (p : Y → Bool) (xs : List X) (i : ℕ) (x : X) → i < length xs → x ≡ get_or xs i x → p (f x) ≡ true →
    filter p (map f xs) ≡ filter p (map f (take i xs)) ++ f x ∷ filter p (map f (drop (suc i) xs))
filter_rest f p xs i x lt is e =
    ap (λ ys. filter p (map f ys)) (split_at xs i x lt ∙ ap (λ y. take i xs ++ y ∷ drop (suc i) xs) (sym is))
    ∙ ap (filter p) (map-append f (take i xs) (x ∷ drop (suc i) xs))
    ∙ filter-append p (map f (take i xs)) (f x ∷ map f (drop (suc i) xs))
    ∙ ap (λ ys. filter p (map f (take i xs)) ++ ys) (one_filtered p (f x) (map f (drop (suc i) xs)) true e)

-- ---- one element of a list

-- a list is cut at a place in one way
pub cut_same : {X : Type 0} (xs ys zs ws : List X) (x y : X) → length xs ≡ length ys → xs ++ x ∷ zs ≡ ys ++ y ∷ ws → (xs ≡ ys) × (x ≡ y) × (zs ≡ ws)
cut_same [] [] zs ws x y l e = (refl, head_same _ _ _ _ e, tail_same _ _ _ _ e)
cut_same [] (b ∷ ys) zs ws x y l e = absurd (cc)
cut_same (a ∷ xs) [] zs ws x y l e = absurd (cc)
cut_same (a ∷ xs) (b ∷ ys) zs ws x y l e =
    let rest = cut_same xs ys zs ws x y (let h : length xs ≡ length ys = omega arith in h) (tail_same _ _ _ _ e) in
    let first : a ≡ b = head_same _ _ _ _ e in
    ((λ i. first i ∷ rest.0 i), rest.1, rest.2)

-- an element is written, and nothing else changes of the images
pub map_written : {X Y : Type 0} (f : X → Y) (xs : List X) (place : ℕ) (x y : X) (front behind : List Y) (z : Y) → place < length xs → x ≡ get_or xs place x → map f xs ≡ front ++ z ∷ behind → length front ≡ place →
    (map f (set xs place y) ≡ front ++ f y ∷ behind) × (f x ≡ z)
map_written f xs place x y front behind z lt is whole many =
    let cut = map_cut f xs place x lt is in
    let long : length (map f (take place xs)) ≡ length front = length-map (take place xs) f ∙ length-take-le place xs (let le : place ≤ length xs = omega arith in le) ∙ sym many in
    let same = cut_same (map f (take place xs)) front (map f (drop (suc place) xs)) behind (f x) z long (sym cut ∙ whole) in
    (ap (map f) (set_split xs place y lt) ∙ map-append f (take place xs) (y ∷ drop (suc place) xs) ∙ (λ i. same.0 i ++ f y ∷ same.2 i), same.1)

any_one : {Y : Type 0} (p : Y → Bool) (ys : List Y) → list_any p (take 1 ys) ≡ true → (y : Y) × (rest : List Y) × (ys ≡ y ∷ rest) × (p y ≡ true)
any_one p [] h = absurd (false≢true h)
any_one p (y ∷ ys) h = (y, ys, refl, last_of (p y) h)
  where
    last_of : (b : Bool) → (b || false) ≡ true → b ≡ true
    last_of true e = refl
    last_of false e = e

-- the images of a list, cut where one of them passes
pub map_found : {X Y : Type 0} (f : X → Y) (p : Y → Bool) (xs : List X) (place : ℕ) → place < length xs → list_any p (map f (take 1 (drop place xs))) ≡ true →
    (front : List Y) × (y : Y) × (behind : List Y) × (map f xs ≡ front ++ y ∷ behind) × (length front ≡ place) × (p y ≡ true)
map_found f p xs place lt h =
    let there : list_any p (take 1 (map f (drop place xs))) ≡ true = ap (list_any p) (take-map f 1 (drop place xs)) ∙ h in
    let one = any_one p (map f (drop place xs)) there in (
      map f (take place xs),
      one.0,
      one.1,
      ap (map f) (sym (take-append-drop place xs)) ∙ map-append f (take place xs) (drop place xs) ∙ ap (λ ys. map f (take place xs) ++ ys) one.2,
      length-map (take place xs) f ∙ length-take-le place xs (let le : place ≤ length xs = omega arith in le),
      one.3,
    )
