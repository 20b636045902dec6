-- How many octets texts have, after some were taken out.
use Rattle.std.proofs.Common.{◌≡◌, ℕ, zero, suc, ◌+◌, ◌-◌, ◌<◌, ◌≤◌, Bool, true, false, cond, leb, List, [], ◌∷◌, length, take, Some, None, refl, ap, arith}
use Rattle.std.specs.Prelude.{slice_get}
use Rattle.std.specs.List.{sum_by}
use Rattle.std.specs.Map.{lookup, remove_entry}
use Rattle.std.proofs.lemmas.Bool.{leb-true, le-leb}
use Rattle.std.proofs.lemmas.List.Sums.{sum_by-cons}
use Rattle.store_holdings.specs.KeptTexts.{PartNumbers, same_key, octets_of_texts, fitting}

module _ {X : Type 0} where
  -- a list that has no element at a place ends there
  pub cut_none : (k : ℕ) (xs : List X) → slice_get xs k ≡ None → take k xs ≡ xs
  cut_none zero [] e = refl
  cut_none (suc k) [] e = refl
  cut_none zero (x ∷ xs) e = absurd (cc)
  cut_none (suc k) (x ∷ xs) e = ap (λ l. x ∷ l) (cut_none k xs e)

  -- the last element that there may be is all that is behind the place
  pub cut_some : (size : X → ℕ) (k : ℕ) (xs : List X) (x : X) → length xs ≤ suc k → slice_get xs k ≡ Some x → sum_by size xs ≡ sum_by size (take k xs) + size x
  cut_some size k [] x few e = absurd (cc)
  cut_some size zero (y ∷ []) x few e = let same : y ≡ x = cc in let head = sum_by-cons size y [] in let one = ap size same in omega (arith, head, one)
  cut_some size zero (y ∷ z ∷ xs) x few e = absurd (omega (arith, few))
  cut_some size (suc k) (y ∷ xs) x few e =
      let whole = sum_by-cons size y xs in
      let part = sum_by-cons size y (take k xs) in
      let rest = cut_some size k xs x (omega (arith, few)) e in
      omega (arith, whole, part, rest)

-- ---- a text that is taken out

taken_step : (kept : PartNumbers × List ℕ) (texts : List (PartNumbers × List ℕ)) (key : PartNumbers) (text : List ℕ) (b : Bool) → cond b (Some kept.1) (lookup (same_key key) texts) ≡ Some text
    → (lookup (same_key key) texts ≡ Some text → octets_of_texts texts ≡ length text + octets_of_texts (remove_entry (same_key key) texts)) → octets_of_texts (kept ∷ texts) ≡ length text
    + octets_of_texts (cond b texts (kept ∷ remove_entry (same_key key) texts))
taken_step kept texts key text true e rest =
    let same : kept.1 ≡ text = cc in
    let head = sum_by-cons (λ (k : PartNumbers × List ℕ). length k.1) kept texts in
    let size = ap (λ (t : List ℕ). length t) same in
    omega (arith, head, size)
taken_step kept texts key text false e rest =
    let behind = rest e in
    let whole = sum_by-cons (λ (k : PartNumbers × List ℕ). length k.1) kept texts in
    let part = sum_by-cons (λ (k : PartNumbers × List ℕ). length k.1) kept (remove_entry (same_key key) texts) in
    omega (arith, behind, whole, part)

pub octets_taken : (key : PartNumbers) (text : List ℕ) (texts : List (PartNumbers × List ℕ)) → lookup (same_key key) texts ≡ Some text → octets_of_texts texts ≡ length text + octets_of_texts (remove_entry (same_key key) texts)
octets_taken key text [] e = absurd (cc)
octets_taken key text (kept ∷ texts) e = taken_step kept texts key text (same_key key kept.0) e (octets_taken key text texts)

-- ---- those that fit

-- the front of those that fit
abbrev fit_step : (kept : PartNumbers × List ℕ) (room : ℕ) → List (PartNumbers × List ℕ) → Bool → List (PartNumbers × List ℕ)
fit_step kept room texts b = cond b (kept ∷ fitting (room - length kept.1) texts) []

all_by : (kept : PartNumbers × List ℕ) (room : ℕ) (texts : List (PartNumbers × List ℕ)) (b : Bool) → leb (length kept.1) room ≡ b → length kept.1 ≤ room → fitting (room - length kept.1) texts ≡ texts → fit_step kept room texts b
    ≡ kept ∷ texts
all_by kept room texts true e fits rest = ap (λ l. kept ∷ l) rest
all_by kept room texts false e fits rest = absurd (let yes = le-leb (length kept.1) room fits in cc)

-- all of them, where they have no more octets
pub all_fit : (room : ℕ) (texts : List (PartNumbers × List ℕ)) → octets_of_texts texts ≤ room → fitting room texts ≡ texts
all_fit room [] h = refl
all_fit room (kept ∷ texts) h =
    let whole = sum_by-cons (λ (k : PartNumbers × List ℕ). length k.1) kept texts in
    all_by kept room texts (leb (length kept.1) room) refl (omega (arith, whole, h)) (all_fit (room - length kept.1) texts (omega (arith, whole, h)))

within_by : (kept : PartNumbers × List ℕ) (room : ℕ) (texts : List (PartNumbers × List ℕ)) (b : Bool) → leb (length kept.1) room ≡ b → octets_of_texts (fitting (room - length kept.1) texts) ≤ room - length kept.1
    → octets_of_texts (fit_step kept room texts b) ≤ room
within_by kept room texts true e rest =
    let fits = leb-true (length kept.1) room e in
    let whole = sum_by-cons (λ (k : PartNumbers × List ℕ). length k.1) kept (fitting (room - length kept.1) texts) in
    omega (arith, fits, whole, rest)
within_by kept room texts false e rest = omega arith

-- those that fit have no more octets
pub fitting_within : (room : ℕ) (texts : List (PartNumbers × List ℕ)) → octets_of_texts (fitting room texts) ≤ room
fitting_within room [] = omega arith
fitting_within room (kept ∷ texts) = within_by kept room texts (leb (length kept.1) room) refl (fitting_within (room - length kept.1) texts)

without_by : (kept : PartNumbers × List ℕ) (room : ℕ) (texts front : List (PartNumbers × List ℕ)) (b : Bool) → leb (length kept.1) room ≡ b
    → (length kept.1 ≤ room → fitting (room - length kept.1) front ≡ fitting (room - length kept.1) texts) → fit_step kept room front b ≡ fit_step kept room texts b
without_by kept room texts front true e rest = ap (λ l. kept ∷ l) (rest (leb-true (length kept.1) room e))
without_by kept room texts front false e rest = refl

none_by : (kept : PartNumbers × List ℕ) (room : ℕ) (b : Bool) → leb (length kept.1) room ≡ b → room < length kept.1 → [] ≡ fit_step kept room [] b
none_by kept room true e over = absurd (let fits = leb-true (length kept.1) room e in let no : ⊥ = omega (arith, fits, over) in no)
none_by kept room false e over = refl

-- where there are more octets, those that fit are the same without the last
pub last_goes : (room n : ℕ) (texts : List (PartNumbers × List ℕ)) → length texts ≡ suc n → room < octets_of_texts texts → fitting room (take n texts) ≡ fitting room texts
last_goes room n [] size h = absurd (let no : ⊥ = omega (arith, size) in no)
last_goes room zero (kept ∷ []) size h =
    let whole = sum_by-cons (λ (k : PartNumbers × List ℕ). length k.1) kept [] in
    none_by kept room (leb (length kept.1) room) refl (omega (arith, whole, h))
last_goes room (suc n) (kept ∷ []) size h = absurd (let no : ⊥ = omega (arith, size) in no)
last_goes room zero (kept ∷ one ∷ texts) size h = absurd (let no : ⊥ = omega (arith, size) in no)
last_goes room (suc n) (kept ∷ one ∷ texts) size h =
    let whole = sum_by-cons (λ (k : PartNumbers × List ℕ). length k.1) kept (one ∷ texts) in
    without_by kept room (one ∷ texts) (take n (one ∷ texts)) (leb (length kept.1) room) refl
    (λ fits. last_goes (room - length kept.1) n (one ∷ texts) (omega (arith, size)) (omega (arith, whole, h, fits)))

-- some text has them
pub some_there : (room : ℕ) (texts : List (PartNumbers × List ℕ)) → room < octets_of_texts texts → 0 < length texts
some_there room [] h = absurd (let no : ⊥ = omega (arith, h) in no)
some_there room (kept ∷ texts) h = omega arith
