-- Files in parts.
use Rattle.std.proofs.Common.{◌≡◌, ℕ, zero, suc, ◌+◌, ◌-◌, ◌*◌, ◌/◌, ◌<◌, ◌≤◌, List, [], ◌∷◌, ◌++◌, length, take, drop, get_or, refl, ap, sym, ◌∙◌, arith, append-nil, length-append, length-drop}
use Rattle.std.proofs.lemmas.List.{take-append-drop, take_all, take_at, drop_at, drop-drop, length-take-le, nil_from_length}
use Rattle.std.specs.List.{concat}
use Rattle.store_rows.specs.Parts.{first_parts, part_count, parts_of, AreOfSize, AreParts}

-- ---- of any size and count

pub first_parts_length : (size k : ℕ) (xs : List ℕ) → length (first_parts size k xs) ≡ k
first_parts_length size zero xs = refl
first_parts_length size (suc k) xs = ap suc (first_parts_length size k (drop size xs))

pub first_parts_join : (size k : ℕ) (xs : List ℕ) → length xs ≤ k * size → concat (first_parts size k xs) ≡ xs
first_parts_join size zero xs h = sym (nil_from_length xs (omega arith))
first_parts_join size (suc k) xs h =
    ap (λ l. take size xs ++ l) (first_parts_join size k (drop size xs) (omega (arith, length-drop size xs))) ∙ take-append-drop size xs

pub first_parts_at : (size k i : ℕ) (xs : List ℕ) → i < k → get_or (first_parts size k xs) i [] ≡ take size (drop (i * size) xs)
first_parts_at size zero i xs h = absurd (omega arith)
first_parts_at size (suc k) zero xs h = ap (λ n. take size (drop n xs)) (let none : 0 ≡ 0 * size = omega arith in none)
first_parts_at size (suc k) (suc i) xs h =
    let next : size + i * size ≡ suc i * size = omega arith in
    first_parts_at size k i (drop size xs) (omega arith) ∙ ap (take size) (drop-drop (i * size) size xs ∙ ap (λ n. drop n xs) next)

pub first_parts_regular : (size k : ℕ) (xs : List ℕ) → length xs ≤ k * size → k * size < length xs + size → AreOfSize size (first_parts size k xs)
first_parts_regular size zero xs h j = tt
first_parts_regular size (suc zero) xs h j =
    let all : take size xs ≡ xs = take_all size xs (omega arith) in
    (omega (arith, ap length all), omega (arith, ap length all), (λ more. absurd (omega arith)), tt)
first_parts_regular size (suc (suc k)) xs h j =
    let full : length (take size xs) ≡ size = length-take-le size xs (omega arith) in
    let rest : length (drop size xs) ≡ length xs - size = length-drop size xs in
    (omega (arith, full), omega (arith, full), (λ more. full), first_parts_regular size (suc k) (drop size xs) (omega (arith, rest)) (omega (arith, rest)))

-- how many octets parts join to
pub joined_bounds : (size : ℕ) (ps : List (List ℕ)) → 0 < size → AreOfSize size ps → (length (concat ps) ≤ length ps * size) × (length ps * size < length (concat ps) + size)
joined_bounds size [] some h = (omega arith, omega arith)
joined_bounds size (p ∷ []) some h = (omega (arith, length-append p []), omega (arith, length-append p []))
joined_bounds size (p ∷ q ∷ ps) some h =
    let more : 1 ≤ length (q ∷ ps) = omega arith in
    let full : length p ≡ size = h.2 more in
    let rest = joined_bounds size (q ∷ ps) some h.3 in
    let joined : length (concat (p ∷ q ∷ ps)) ≡ length p + length (concat (q ∷ ps)) = length-append p (concat (q ∷ ps)) in
    (omega (arith, rest.0, joined, full), omega (arith, rest.1, joined, full))

pub first_parts_only : (size : ℕ) (ps : List (List ℕ)) → AreOfSize size ps → first_parts size (length ps) (concat ps) ≡ ps
first_parts_only size [] h = refl
first_parts_only size (p ∷ []) h = ap (λ l. l ∷ []) (take_all size (p ++ []) (omega (arith, ap length (append-nil p), h.1)) ∙ append-nil p)
first_parts_only size (p ∷ q ∷ ps) h =
    let more : 1 ≤ length (q ∷ ps) = omega arith in
    let full : length p ≡ size = h.2 more in
    ap (λ l. l ∷ first_parts size (length (q ∷ ps)) (drop size (p ++ concat (q ∷ ps)))) (take_at p (concat (q ∷ ps)) size full)
    ∙ ap (λ l. p ∷ l) (ap (first_parts size (length (q ∷ ps))) (drop_at p (concat (q ∷ ps)) size full) ∙ first_parts_only size (q ∷ ps) h.3)

-- ---- of 16,384 octets

pub count_above : (n : ℕ) → n ≤ part_count n * 16384
count_above n = omega arith

pub count_below : (n : ℕ) → part_count n * 16384 < n + 16384
count_below n = omega arith

pub count_is : (n k : ℕ) → n ≤ k * 16384 → k * 16384 < n + 16384 → part_count n ≡ k
count_is n k h j = omega arith

pub parts_length : (xs : List ℕ) → length (parts_of xs) ≡ part_count (length xs)
unfolding parts_of
parts_length xs = first_parts_length 16384 (part_count (length xs)) xs

pub parts_join : (xs : List ℕ) → concat (parts_of xs) ≡ xs
unfolding parts_of
parts_join xs = first_parts_join 16384 (part_count (length xs)) xs (count_above (length xs))

pub parts_regular : (xs : List ℕ) → AreParts (parts_of xs)
unfolding parts_of
parts_regular xs = first_parts_regular 16384 (part_count (length xs)) xs (count_above (length xs)) (count_below (length xs))

pub parts_at : (xs : List ℕ) (i : ℕ) → i < length (parts_of xs) → get_or (parts_of xs) i [] ≡ take 16384 (drop (i * 16384) xs)
unfolding parts_of
parts_at xs i h = first_parts_at 16384 (part_count (length xs)) i xs (omega (arith, first_parts_length 16384 (part_count (length xs)) xs))

pub parts_only : (ps : List (List ℕ)) → AreParts ps → ps ≡ parts_of (concat ps)
unfolding parts_of
parts_only ps h =
    let bounds = joined_bounds 16384 ps (omega arith) h in
    sym (first_parts_only 16384 ps h) ∙ ap (λ k. first_parts 16384 k (concat ps)) (sym (count_is (length (concat ps)) (length ps) bounds.0 bounds.1))

-- where the part of a number lies in the octets
pub full_part : (xs : List ℕ) (i : ℕ) → i < length xs / 16384 → (i < length (parts_of xs)) × (take (i * 16384 + 16384 - i * 16384) (drop (i * 16384) xs) ≡ get_or (parts_of xs) i [])
full_part xs i h =
    let within : i < length (parts_of xs) = omega (arith, parts_length xs) in
    let size : i * 16384 + 16384 - i * 16384 ≡ 16384 = omega arith in
    (within, ap (λ n. take n (drop (i * 16384) xs)) size ∙ sym (parts_at xs i within))

pub last_part : (xs : List ℕ) (i : ℕ) → i * 16384 < length xs → length xs < i * 16384 + 16384 → (i < length (parts_of xs)) × (take (length xs - i * 16384) (drop (i * 16384) xs) ≡ get_or (parts_of xs) i [])
last_part xs i h j =
    let within : i < length (parts_of xs) = omega (arith, parts_length xs) in
    let left : length (drop (i * 16384) xs) ≡ length xs - i * 16384 = length-drop (i * 16384) xs in
    (within, take_all (length xs - i * 16384) (drop (i * 16384) xs) (omega (arith, left)) ∙ (sym (take_all 16384 (drop (i * 16384) xs) (omega (arith, left))) ∙ sym (parts_at xs i within)))
