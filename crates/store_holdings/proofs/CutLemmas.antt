-- What is cut out of a text, part by part.
use Rattle.std.proofs.Common.{◌≡◌, ℕ, ◌+◌, ◌-◌, ◌/◌, ◌%◌, ◌≤◌, inl, inr, List, [], ◌∷◌, ◌++◌, length, take, drop, get_or, refl, ap, sym, ◌∙◌, arith, append-nil, length-drop, length-append}
use Rattle.std.proofs.lemmas.Bool.{cases_lt}
use Rattle.std.proofs.lemmas.List.{take_all, take_rest, length-take}
use Rattle.store_rows.specs.Parts.{parts_of}
use Rattle.store_rows.proofs.IntervalLemmas.{put_of_part, short_by}

empty_by : (xs : List ℕ) → length xs ≡ 0 → xs ≡ []
empty_by [] e = refl
empty_by (x ∷ xs) e = absurd (let no : ⊥ = omega (arith, e) in no)

take_none : (xs : List ℕ) → take 0 xs ≡ []
take_none [] = refl
take_none (x ∷ xs) = refl

-- what octets have from a place on was appended, so many at most
module _ (part old new : List ℕ) (place most : ℕ) (put : new ≡ old ++ take most (drop place part)) where
  count : length new ≡ length old + length (take most (drop place part))
  count = ap length put ∙ length-append old (take most (drop place part))

  pub put_more : length old ≤ length new
  put_more = omega (arith, count)

  pub put_most : length new ≤ length old + most
  put_most = omega (arith, count, length-take most (drop place part))

  -- where that is nothing, they end before
  pub put_none : 1 ≤ most → length new ≡ length old → length part ≤ place
  put_none some none = omega (arith, count, length-take most (drop place part), length-drop place part)

  put_past : length part ≤ place → new ≡ old
  put_past past =
      let front : List ℕ = take most (drop place part) in
      let none : front ≡ [] = empty_by front (omega (arith, length-take most (drop place part), length-drop place part)) in
      put ∙ ap (λ l. old ++ l) none ∙ append-nil old

-- and these octets are a part of the text
module _ (text part old new : List ℕ) (place most : ℕ) (is : part ≡ get_or (parts_of text) (place / 16384) []) (put : new ≡ old ++ take most (drop (place % 16384) part)) where
  pub put_is : new ≡ old ++ take (length new - length old) (drop place text)
  put_is = elim (cases_lt (place % 16384) (length part)) [
    | inl reached ↦ put_of_part text part old new place most is reached (put ∙ ap (λ l. old ++ take most l) (sym (take_rest part (place % 16384))))
    | inr past ↦
        let same : new ≡ old = put_past part old new (place % 16384) most put past in
        let none : length new - length old ≡ 0 = omega (arith, ap length same) in
        same ∙ sym (ap (λ k. old ++ take k (drop place text)) none ∙ ap (λ l. old ++ l) (take_none (drop place text)) ∙ append-nil old)
  ]

  pub put_ends : 1 ≤ most → length new ≡ length old → length text ≤ place
  put_ends some none = short_by text part place is (put_none part old new (place % 16384) most put some none)

-- ---- an interval

-- as many octets as were asked for
pub cut_whole : (text octets : List ℕ) (start size : ℕ) → octets ≡ take (length octets) (drop start text) → length octets ≡ size → octets ≡ take size (drop start text)
cut_whole text octets start size is whole = is ∙ ap (λ k. take k (drop start text)) whole

-- and fewer, where the text ends behind them
pub cut_ended : (text octets : List ℕ) (start size : ℕ) → octets ≡ take (length octets) (drop start text) → length octets ≤ size → length text ≤ start + length octets → octets ≡ take size (drop start text)
cut_ended text octets start size is fewer ends =
    let short : length (drop start text) ≤ length octets = omega (arith, length-drop start text) in
    let within : length (drop start text) ≤ size = omega arith in
    is ∙ take_all (length octets) (drop start text) short ∙ sym (take_all size (drop start text) within)

-- none yet
pub cut_none : (text octets : List ℕ) (start : ℕ) → octets ≡ [] → octets ≡ take (length octets) (drop start text)
cut_none text octets start none = none ∙ sym (ap (λ (l : List ℕ). take (length l) (drop start text)) none ∙ take_none (drop start text))
