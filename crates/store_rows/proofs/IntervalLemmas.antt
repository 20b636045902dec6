-- The octets of an interval, part by part.
use Rattle.std.proofs.Common.{◌≡◌, ℕ, ◌+◌, ◌-◌, ◌*◌, ◌/◌, ◌%◌, ◌<◌, ◌≤◌, inl, inr, List, [], ◌++◌, length, take, drop, get_or, ap, sym, ◌∙◌, arith, length-drop, length-append}
use Rattle.std.proofs.lemmas.Bool.{cases_lt}
use Rattle.std.proofs.lemmas.List.{take-append-drop, take_all, take_min, take_rest, drop-drop, length-take, take-take, drop-take, get_or_past}
use Rattle.store_rows.specs.Parts.{parts_of}
use Rattle.store_rows.proofs.PartLemmas.{parts_length, parts_at}

-- a place lies in the file where its part reaches it
pub place_within : (xs part : List ℕ) (n : ℕ) → part ≡ get_or (parts_of xs) (n / 16384) [] → n % 16384 < length part → n < length xs
place_within xs part n e reached = elim (cases_lt (n / 16384) (length (parts_of xs))) [
  | inl there ↦ omega (arith, ap length (e ∙ parts_at xs (n / 16384) there), length-take 16384 (drop (n / 16384 * 16384) xs), length-drop (n / 16384 * 16384) xs)
  | inr beyond ↦ absurd (omega (arith, ap length (e ∙ get_or_past (parts_of xs) (n / 16384) [] beyond)))
]

-- what a part has from a place of the file on
pub part_rest : (xs : List ℕ) (n : ℕ) → n < length xs → drop (n % 16384) (get_or (parts_of xs) (n / 16384) []) ≡ take (16384 - n % 16384) (drop n xs)
part_rest xs n h =
    let size : 16384 ≡ n % 16384 + (16384 - n % 16384) = omega arith in
    let place : n / 16384 * 16384 + n % 16384 ≡ n = omega arith in
    ap (drop (n % 16384)) (parts_at xs (n / 16384) (omega (arith, parts_length xs)))
    ∙ (ap (λ k. drop (n % 16384) (take k (drop (n / 16384 * 16384) xs))) size
    ∙ (drop-take (n % 16384) (16384 - n % 16384) (drop (n / 16384 * 16384) xs)
    ∙ ap (take (16384 - n % 16384)) (drop-drop (n % 16384) (n / 16384 * 16384) xs ∙ ap (λ k. drop k xs) place)))

-- a front of a list is as long as it is
own_length : (k : ℕ) (l front : List ℕ) → front ≡ take k l → front ≡ take (length front) l
own_length k l front e = e ∙ sym (ap (λ n. take n l) (ap length e ∙ length-take k l) ∙ take_min k l)

-- a front of a front
front_of_front : (most size : ℕ) (l front : List ℕ) → front ≡ take most (take size l) → front ≡ take (length front) l
front_of_front most size l front e = elim (cases_lt size most) [
  | inr within ↦ own_length most l front (e ∙ take-take most size l within)
  | inl long ↦ own_length size l front (e ∙ take_all most (take size l) (omega (arith, length-take size l)))
]

-- what is put of a part is what stands in the file from the place on
pub put_of_part : (xs part old new : List ℕ) (n most : ℕ) → part ≡ get_or (parts_of xs) (n / 16384) [] → n % 16384 < length part
    → new ≡ old ++ take most (take (length part - n % 16384) (drop (n % 16384) part)) → new ≡ old ++ take (length new - length old) (drop n xs)
put_of_part xs part old new n most e reached put =
    let front : List ℕ = take most (take (length part - n % 16384) (drop (n % 16384) part)) in
    let rest : drop (n % 16384) part ≡ take (16384 - n % 16384) (drop n xs) = ap (drop (n % 16384)) e ∙ part_rest xs n (place_within xs part n e reached) in
    let is_front : front ≡ take (length front) (drop n xs) = front_of_front most (16384 - n % 16384) (drop n xs) front (ap (take most) (take_rest part (n % 16384) ∙ rest)) in
    let many : length front ≡ length new - length old = omega (arith, ap length put, length-append old front) in
    put ∙ ap (λ l. old ++ l) (is_front ∙ ap (λ k. take k (drop n xs)) many)

-- some more of an interval's octets
take_further : (l : List ℕ) (done more : ℕ) → take done l ++ take more (drop done l) ≡ take (done + more) l
take_further l done more =
    ap (λ t. t ++ take more (drop done l)) (sym (take-take done (done + more) l (omega arith)))
    ∙ (ap (λ t. take done (take (done + more) l) ++ t) (sym (drop-take done more l)) ∙ take-append-drop done (take (done + more) l))

pub cut_further : (xs old new : List ℕ) (start done : ℕ) → done ≡ length old → length old ≤ length new → old ≡ take (length old) (drop start xs)
    → new ≡ old ++ take (length new - length old) (drop (start + done) xs) → new ≡ take (length new) (drop start xs)
cut_further xs old new start done whole more e f =
    let count : length old + (length new - length old) ≡ length new = omega arith in
    f ∙ (ap (λ l. l ++ take (length new - length old) (drop (start + done) xs)) e
    ∙ (ap (λ k. take (length old) (drop start xs) ++ take (length new - length old) (drop (start + k) xs)) whole
    ∙ (ap (λ l. take (length old) (drop start xs) ++ take (length new - length old) l) (sym (drop-drop (length old) start xs))
    ∙ (take_further (drop start xs) (length old) (length new - length old) ∙ ap (λ k. take k (drop start xs)) count))))

-- a part that doesn't reach a place is of a file that doesn't
pub short_by : (xs part : List ℕ) (n : ℕ) → part ≡ get_or (parts_of xs) (n / 16384) [] → length part ≤ n % 16384 → length xs ≤ n
short_by xs part n e ends = elim (cases_lt n (length xs)) [
  | inr beyond ↦ beyond
  | inl within ↦
      let there : part ≡ take 16384 (drop (n / 16384 * 16384) xs) = e ∙ parts_at xs (n / 16384) (omega (arith, parts_length xs)) in
      absurd (omega (arith, ap length there, length-take 16384 (drop (n / 16384 * 16384) xs), length-drop (n / 16384 * 16384) xs))
]
