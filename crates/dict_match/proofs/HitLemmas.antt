-- What std's searches of slices say of a hit.
use Rattle.std.proofs.Common.{◌≡◌, ◌↔◌, IsTrue, ℕ, ◌+◌, ◌<◌, ◌≤◌, Bool, List, ◌++◌, Option, Some, None, is_some, length, take, drop, get_or, ap, sym, ◌∙◌, arith, length-append, append_assoc}
use Rattle.std.proofs.lemmas.Bool.{false≢true, eq-eqb}
use Rattle.std.proofs.lemmas.List.{take-append-drop, drop-append-le}
use Rattle.std.proofs.lemmas.List.Prefix.{front_rest, at_from_reads, at_reads}
use Rattle.memchr.specs.Find.{FindsNeedle, OccursAt, NoneBefore, Nowhere, Passes, is_byte}
use Rattle.dict_match.specs.Matching.{StandsIn}

-- a place at which the query occurs cuts the key in three
occurs-cuts : (q k : List ℕ) (n : ℕ) → OccursAt k q n → k ≡ take n k ++ q ++ drop (n + length q) k
occurs-cuts q k n h =
    sym (take-append-drop n k) ∙ ap (λ bs. take n k ++ bs) (at_from_reads 0 k q n h.fits h.reads)
    ∙ sym (append_assoc (take n k) q (drop (n + length q) k))

cuts-occurs : (q k a b : List ℕ) → k ≡ a ++ q ++ b → OccursAt k q (length a)
cuts-occurs q k a b e =
    let parts : k ≡ a ++ (q ++ b) = e ∙ append_assoc a q b in
    let rest : drop (length a) k ≡ q ++ b = front_rest k a (q ++ b) parts in
    let size : length k ≡ length a + length (q ++ b) = ap length parts ∙ length-append a (q ++ b) in
    let size' : length (q ++ b) ≡ length q + length b = length-append q b in
    record { fits = omega arith; reads = λ i lt. at_reads 0 k q (length a) b rest i lt }

-- what a search for the query says
pub stands_found : (q k : List ℕ) (r : Option ℕ) (t : Bool) → FindsNeedle k q 0 r → t ≡ is_some r → IsTrue t ↔ StandsIn q k
stands_found q k None t none is = (
  (λ h. absurd (false≢true (sym is ∙ h))),
  (λ h.
      let occurs = cuts-occurs q k h.0 h.1 h.2 in
      let fits = occurs.fits in
      absurd (none (length h.0) (omega arith) (omega arith) occurs)),
)
stands_found q k (Some n) t found is = ((λ h. (take n k, drop (n + length q) k, occurs-cuts q k n found.1)), (λ h. is))

-- a longer list doesn't stand in a shorter
pub stands_fits : (q k : List ℕ) → StandsIn q k → length q ≤ length k
stands_fits q k h = let fits = (cuts-occurs q k h.0 h.1 h.2).fits in omega arith

-- where the query stands, its first byte does
stands-passes : (q k : List ℕ) → 0 < length q → (h : StandsIn q k) → (length h.0 < length k) × Passes (is_byte (get_or q 0 0)) k (length h.0)
stands-passes q k some h =
    let occurs = cuts-occurs q k h.0 h.1 h.2 in
    let fits = occurs.fits in
    let place : length h.0 + 0 ≡ length h.0 = omega arith in
    (omega arith, eq-eqb _ _ (sym (ap (λ n. get_or k n 0) place) ∙ occurs.reads 0 some))

-- a list without the query's first byte hasn't the query in it
pub stands_nowhere : (q k : List ℕ) → 0 < length q → Nowhere (Passes (is_byte (get_or q 0 0)) k) 0 (length k) → StandsIn q k → ⊥
stands_nowhere q k some none h = let passes = stands-passes q k some h in none (length h.0) (omega arith) passes.0 passes.1

-- the query stands in a list as it does from the first place of its first byte on
pub stands_from : (q k : List ℕ) (n : ℕ) → 0 < length q → NoneBefore (Passes (is_byte (get_or q 0 0)) k) 0 (length k) n
    → StandsIn q (drop n k) ↔ StandsIn q k
stands_from q k n some first = (
  (λ h. (
    take n k ++ h.0,
    h.1,
    sym (take-append-drop n k) ∙ ap (λ bs. take n k ++ bs) h.2 ∙ sym (append_assoc (take n k) (h.0 ++ q) h.1)
        ∙ ap (λ bs. bs ++ h.1) (sym (append_assoc (take n k) h.0 q)),
  )),
  (λ h.
      let passes = stands-passes q k some h in
      let not_before : length h.0 < n → ⊥ = λ lt. first.before (length h.0) (omega arith) lt passes.1 in
      let within : n ≤ length h.0 = omega (arith, not_before) in (
        drop n h.0,
        h.1,
        ap (drop n) (h.2 ∙ append_assoc h.0 q h.1) ∙ drop-append-le n h.0 (q ++ h.1) within ∙ sym (append_assoc (drop n h.0) q h.1),
      )),
)
