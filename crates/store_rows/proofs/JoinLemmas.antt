-- One more part behind others.
use Rattle.std.proofs.Common.{◌≡◌, ℕ, ◌+◌, ◌*◌, ◌/◌, ◌%◌, ◌≤◌, List, [], ◌∷◌, ◌++◌, length, refl, ap, sym, ◌∙◌, arith, append-nil, length-append}
use Rattle.std.proofs.lemmas.List.{length_push}
use Rattle.std.specs.List.{concat}
use Rattle.std.specs.Prelude.{Bool, true, false, MatchBool}
use Rattle.store_rows.specs.Parts.{part_count, parts_of, AreOfSize}
use Rattle.store_rows.specs.Joining.{IsNext}
use Rattle.store_rows.proofs.PartLemmas.{parts_length, parts_join, parts_regular, parts_only}

-- parts that all have the size, and one more
pub of_size_push : (size : ℕ) (ps : List (List ℕ)) (p : List ℕ) → AreOfSize size ps → length (concat ps) ≡ length ps * size → 1 ≤ length p → length p ≤ size → AreOfSize size (ps ++ p ∷ [])
of_size_push size [] p h full some small = (some, small, (λ more. absurd (omega arith)), tt)
of_size_push size (q ∷ ps) p h full some small =
    let joined : length (concat (q ∷ ps)) ≡ length q + length (concat ps) = length-append q (concat ps) in
    let most : length (concat ps) ≤ length ps * size = at_most size ps h.3 in
    let whole : length q ≡ size = omega (arith, joined, most, full, h.1) in
    (h.0, h.1, (λ more. whole), of_size_push size ps p h.3 (omega (arith, joined, whole, full)) some small)
  where
    at_most : (size : ℕ) (ps : List (List ℕ)) → AreOfSize size ps → length (concat ps) ≤ length ps * size
    at_most size [] h = omega arith
    at_most size (q ∷ ps) h = omega (arith, at_most size ps h.3, length-append q (concat ps), h.1)

-- and what they are, where one more follows
pub of_size_before : (size : ℕ) (ps : List (List ℕ)) (p : List ℕ) → AreOfSize size (ps ++ p ∷ []) → (length (concat ps) ≡ length ps * size) × (1 ≤ length p) × (length p ≤ size)
of_size_before size [] p h = (omega arith, h.0, h.1)
of_size_before size (q ∷ ps) p h =
    let more : 1 ≤ length (ps ++ p ∷ []) = omega (arith, length_push ps p) in
    let whole : length q ≡ size = h.2 more in
    let rest = of_size_before size ps p h.3 in
    let joined : length (concat (q ∷ ps)) ≡ length q + length (concat ps) = length-append q (concat ps) in
    (omega (arith, joined, whole, rest.0), rest.1, rest.2)

concat_push : (ps : List (List ℕ)) (p : List ℕ) → concat (ps ++ p ∷ []) ≡ concat ps ++ p
concat_push [] p = append-nil p
concat_push (q ∷ ps) p = ap (λ l. q ++ l) (concat_push ps p) ∙ sym (assoc q (concat ps) p)
  where
    assoc : (a b c : List ℕ) → (a ++ b) ++ c ≡ a ++ (b ++ c)
    assoc [] b c = refl
    assoc (x ∷ a) b c = ap (λ l. x ∷ l) (assoc a b c)

-- the part that follows, by the octets so far
pub next_from : (xs : List ℕ) (n : ℕ) (p : List ℕ) → length xs % 16384 ≡ 0 → n ≡ length xs / 16384 → 1 ≤ length p → length p ≤ 16384 → IsNext xs n p
next_from xs n p even at some small =
    let count : length (parts_of xs) ≡ part_count (length xs) = parts_length xs in
    let all : length (concat (parts_of xs)) ≡ length xs = ap length (parts_join xs) in
    record {
      numbered = omega (arith, count);
      follows = of_size_push 16384 (parts_of xs) p (parts_regular xs) (omega (arith, count, all)) some small;
    }

pub next_is : (xs : List ℕ) (n : ℕ) (p : List ℕ) → IsNext xs n p → (length xs % 16384 ≡ 0) × (n ≡ length xs / 16384) × (1 ≤ length p) × (length p ≤ 16384)
next_is xs n p h =
    let count : length (parts_of xs) ≡ part_count (length xs) = parts_length xs in
    let all : length (concat (parts_of xs)) ≡ length xs = ap length (parts_join xs) in
    let before = of_size_before 16384 (parts_of xs) p h.follows in
    (omega (arith, count, all, before.0), omega (arith, count, all, before.0, h.numbered), before.1, before.2)

pub parts_push : (xs : List ℕ) (n : ℕ) (p : List ℕ) → IsNext xs n p → parts_of (xs ++ p) ≡ parts_of xs ++ p ∷ []
parts_push xs n p h = sym (parts_only (parts_of xs ++ p ∷ []) h.follows ∙ ap parts_of (concat_push (parts_of xs) p ∙ ap (λ l. l ++ p) (parts_join xs)))

-- what is decided of one fact is decided of another that is as true
pub decides : (b : Bool) (P Q : Type 0) → MatchBool b P (¬ P) → (P → Q) → (Q → P) → MatchBool b Q (¬ Q)
decides true P Q h to from = to h
decides false P Q h to from = λ q. h (from q)
