-- Selections by numbers that are apart are together the whole.
use Rattle.std.proofs.Common.{◌≡◌, Bool, true, false, ◌&&◌, ◌||◌, List, [], ◌∷◌, ◌++◌, refl, ap, sym, subst, ◌∙◌}
use Rattle.std.specs.Prelude.{ℤ, filter, cond, not, IsPermutation, IsTrue}
use Rattle.std.specs.List.{AllByRecursion}
use Rattle.std.proofs.lemmas.Bool.{false≢true}
use Rattle.std.proofs.lemmas.List.Folds.{list_any-append}
use Rattle.std.proofs.lemmas.List.Sorted.{IsPermutation-filter_both, IsPermutation-append, IsPermutation-trans}
use Rattle.store_tables.specs.Records as spec
use Rattle.store_rows.specs.Tables.{same_number, editions_numbered, entries_of}
use Rattle.store_rows.specs.Order.{is_of, editions_of_numbers, entries_of_numbers}
use Rattle.store_rows.proofs.TakenLemmas.{same_number_is}

filter_step : {X : Type 0} (r s t : X → Bool) (x : X) (xs : List X) (a b d : Bool) → s x ≡ a → r x ≡ b → t x ≡ d → (a && b) ≡ d → filter r (filter s xs) ≡ filter t xs → filter r (cond a (x ∷ filter s xs) (filter s xs))
    ≡ cond d (x ∷ filter t xs) (filter t xs)
filter_step r s t x xs true true d ea eb ed both rest = ap (λ b. cond b (x ∷ filter r (filter s xs)) (filter r (filter s xs))) eb ∙ ap (λ ys. x ∷ ys) rest ∙ ap (λ b. cond b (x ∷ filter t xs) (filter t xs)) both
filter_step r s t x xs true false d ea eb ed both rest = ap (λ b. cond b (x ∷ filter r (filter s xs)) (filter r (filter s xs))) eb ∙ rest ∙ ap (λ b. cond b (x ∷ filter t xs) (filter t xs)) both
filter_step r s t x xs false b d ea eb ed both rest = rest ∙ ap (λ b. cond b (x ∷ filter t xs) (filter t xs)) both

-- what passes both tests
pub filter_filter : {X : Type 0} (r s t : X → Bool) → ((x : X) → (s x && r x) ≡ t x) → (xs : List X) → filter r (filter s xs) ≡ filter t xs
filter_filter r s t e [] = refl
filter_filter r s t e (x ∷ xs) = filter_step r s t x xs (s x) (r x) (t x) refl refl refl (e x) (filter_filter r s t e xs)

first_of_two : (p q : Bool) → ((p || q) && p) ≡ p
first_of_two true q = refl
first_of_two false true = refl
first_of_two false false = refl

second_of_two : (p q : Bool) → (p && q) ≡ false → ((p || q) && not p) ≡ q
second_of_two true true e = absurd (false≢true (sym e))
second_of_two true false e = refl
second_of_two false true e = refl
second_of_two false false e = refl

-- what passes one test of two that nothing passes both of
pub parts_together : {X : Type 0} (p q : X → Bool) → ((x : X) → (p x && q x) ≡ false) → (xs ys zs : List X) → IsPermutation (filter p xs) ys → IsPermutation (filter q xs) zs → IsPermutation (filter (λ x. p x || q x) xs) (ys ++ zs)
parts_together p q apart xs ys zs one other =
    let both = IsPermutation-filter_both p (λ x. not (p x)) (λ x. refl) (filter (λ x. p x || q x) xs) in
    let first = filter_filter p (λ x. p x || q x) p (λ x. first_of_two (p x) (q x)) xs in
    let second = filter_filter (λ x. not (p x)) (λ x. p x || q x) q (λ x. second_of_two (p x) (q x) (apart x)) xs in
    let split : IsPermutation (filter (λ x. p x || q x) xs) (filter p xs ++ filter q xs) = subst (IsPermutation (filter (λ x. p x || q x) xs)) (λ i. first i ++ second i) both in
    IsPermutation-trans (filter (λ x. p x || q x) xs) (filter p xs ++ filter q xs) (ys ++ zs) split (IsPermutation-append (filter p xs) ys (filter q xs) zs one other)

pub filter_alike : {X : Type 0} (p q : X → Bool) → ((x : X) → p x ≡ q x) → (xs : List X) → filter p xs ≡ filter q xs
filter_alike p q e [] = refl
filter_alike p q e (x ∷ xs) = λ i. cond (e x i) (x ∷ filter_alike p q e xs i) (filter_alike p q e xs i)

pub filter_whole : {X : Type 0} (p : X → Bool) (xs : List X) → AllByRecursion (λ x. IsTrue (p x)) xs → filter p xs ≡ xs
filter_whole p [] h = refl
filter_whole p (x ∷ xs) h = ap (λ b. cond b (x ∷ filter p xs) (filter p xs)) h.0 ∙ ap (λ ys. x ∷ ys) (filter_whole p xs h.1)

-- ---- numbers

or_no : (a : Bool) → (a || false) ≡ a
or_no true = refl
or_no false = refl

pub of_more : (numbers : List ℤ) (number one : ℤ) → is_of (numbers ++ number ∷ []) one ≡ (is_of numbers one || same_number one number)
of_more numbers number one = list_any-append (same_number one) numbers (number ∷ []) ∙ ap (λ b. is_of numbers one || b) (or_no (same_number one number))

and_false : (a b : Bool) → (b ≡ true → a ≡ false) → (a && b) ≡ false
and_false true true h = sym (false_true h)
  where
    false_true : (true ≡ true → true ≡ false) → false ≡ true
    false_true f = sym (f refl)
and_false true false h = refl
and_false false b h = refl

pub of_apart : (numbers : List ℤ) (number one : ℤ) → is_of numbers number ≡ false → (is_of numbers one && same_number one number) ≡ false
of_apart numbers number one new = and_false (is_of numbers one) (same_number one number) (λ e. ap (is_of numbers) (same_number_is one number e) ∙ new)

-- one number more
pub numbers_more : {X : Type 0} (key : X → ℤ) (numbers : List ℤ) (number : ℤ) (all read part : List X) → is_of numbers number ≡ false →
    IsPermutation (filter (λ x. is_of numbers (key x)) all) read → IsPermutation (filter (λ x. same_number (key x) number) all) part → IsPermutation (filter (λ x. is_of (numbers ++ number ∷ []) (key x)) all) (read ++ part)
numbers_more key numbers number all read part new done next =
    subst (λ xs. IsPermutation xs (read ++ part)) (sym (filter_alike (λ x. is_of (numbers ++ number ∷ []) (key x)) (λ x. is_of numbers (key x) || same_number (key x) number) (λ x. of_more numbers number (key x)) all))
    (parts_together (λ x. is_of numbers (key x)) (λ x. same_number (key x) number) (λ x. of_apart numbers number (key x) new) all read part done next)

pub editions_more : (numbers : List ℤ) (number : ℤ) (all read part : List spec.EditionRecord) → is_of numbers number ≡ false → IsPermutation (editions_of_numbers numbers all) read → IsPermutation (editions_numbered number all) part
    → IsPermutation (editions_of_numbers (numbers ++ number ∷ []) all) (read ++ part)
editions_more = numbers_more (λ (row : spec.EditionRecord). row.number)

pub entries_more : (numbers : List ℤ) (number : ℤ) (all read part : List spec.EntryRecord) → is_of numbers number ≡ false → IsPermutation (entries_of_numbers numbers all) read → IsPermutation (entries_of number all) part
    → IsPermutation (entries_of_numbers (numbers ++ number ∷ []) all) (read ++ part)
entries_more = numbers_more (λ (row : spec.EntryRecord). row.edition)
