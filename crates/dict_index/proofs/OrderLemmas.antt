-- The order of the tests, and what is made first.
use Rattle.std.proofs.Common.{◌≡◌, ℕ, ◌+◌, ◌<◌, ◌≤◌, ◌⊎◌, inl, inr, Bool, true, List, [], ◌∷◌, ◌++◌, length, refl, sym, ap, ◌∙◌, subst, arith, eqb-true}
use Rattle.std.proofs.lemmas.Bool.{and_parts, cases_eq}
use Rattle.std.specs.Prelude.{◌==◌, ◌&&◌, slice_index_or}
use Rattle.std.specs.List.{AllByRecursion}
use Rattle.dict_index.specs.Refusals.{whole_tests, line_tests, tests_in_order}
use Rattle.dict_index.specs.Order.{rank, IsFirstFailing}
use Rattle.dict_index.specs.declared.fault.EditionRefusal.{EditionRefusal}
use Rattle.dict_index.specs.declared.fault.EditionRefusal.TheVariants.{Columns, TextTooLong}

-- each test stands at its place
at_rank : (f : EditionRefusal) → slice_index_or tests_in_order (rank f) Columns ≡ f
unfolding rank
at_rank TextTooLong = refl
at_rank _ = refl

-- two tests have different places
pub one_rank : (f g : EditionRefusal) → rank f ≡ rank g → f ≡ g
one_rank f g e = sym (at_rank f) ∙ (ap (λ n. slice_index_or tests_in_order n Columns) e ∙ at_rank g)

-- these tests stand at the places from n on
abbrev ranks_from : ℕ → List EditionRefusal → Bool
ranks_from n [] = true
ranks_from n (f ∷ fs) = (rank f == n) && ranks_from (n + 1) fs

pub whole_ranks : ranks_from 0 whole_tests ≡ true
unfolding rank
whole_ranks = refl

pub line_ranks : ranks_from (length whole_tests) line_tests ≡ true
unfolding rank
line_ranks = refl

-- this test fails, its place is from n up to m, and those from n up to it hold
pub record IsFirstInOrder (Holds : EditionRefusal → Type 0) (n m : ℕ) (f : EditionRefusal) : Type 0 where
  pub low : n ≤ rank f
  pub high : rank f < m
  pub fails : ¬ Holds f
  pub earlier : (g : EditionRefusal) → n ≤ rank g → rank g < rank f → Holds g

module _ (Holds : EditionRefusal → Type 0) where
  -- what holds of each test of a list holds of each that stands at its places
  pub all_in_order : (n : ℕ) (fs : List EditionRefusal) → ranks_from n fs ≡ true → AllByRecursion Holds fs → (f : EditionRefusal) → n ≤ rank f → rank f < n + length fs → Holds f
  all_in_order n [] ranks h f low high = absurd (omega arith)
  all_in_order n (g ∷ fs) ranks h f low high =
      let parts = and_parts (rank g == n) (ranks_from (n + 1) fs) ranks in
      let at : rank g ≡ n = eqb-true (rank g) n parts.0 in
      elim (cases_eq (rank f) n) [
        | inl here ↦ subst Holds (one_rank g f (at ∙ sym here)) h.0
        | inr other ↦ all_in_order (n + 1) fs parts.1 h.1 f (omega arith) (omega arith)
      ]

  -- the first of a list that fails is the first in order from the list's first place on
  pub first_in_order : (n : ℕ) (fs : List EditionRefusal) (f : EditionRefusal) → ranks_from n fs ≡ true → IsFirstFailing Holds fs f → IsFirstInOrder Holds n (n + length fs) f
  first_in_order n [] f ranks h = absurd h
  first_in_order n (g ∷ fs) f ranks (inl h) =
      let parts = and_parts (rank g == n) (ranks_from (n + 1) fs) ranks in
      let at : rank f ≡ n = ap rank h.0 ∙ eqb-true (rank g) n parts.0 in
      record {
        low = omega arith;
        high = omega arith;
        fails = λ p. h.1 (subst Holds h.0 p);
        earlier = λ e low lt. absurd (omega arith);
      }
  first_in_order n (g ∷ fs) f ranks (inr h) =
      let parts = and_parts (rank g == n) (ranks_from (n + 1) fs) ranks in
      let at : rank g ≡ n = eqb-true (rank g) n parts.0 in
      let rest = first_in_order (n + 1) fs f parts.1 h.1 in
      record {
        low = (let l = rest.low in omega arith);
        high = (let m = rest.high in omega arith);
        fails = rest.fails;
        earlier = λ e low lt. elim (cases_eq (rank e) n) [
          | inl here ↦ subst Holds (one_rank g e (at ∙ sym here)) h.0
          | inr other ↦ rest.earlier e (omega arith) lt
        ];
      }

  -- the first of a list that fails is so of a longer one
  pub first_of_more : (fs gs : List EditionRefusal) (f : EditionRefusal) → IsFirstFailing Holds fs f → IsFirstFailing Holds (fs ++ gs) f
  first_of_more [] gs f h = absurd h
  first_of_more (g ∷ fs) gs f (inl h) = inl h
  first_of_more (g ∷ fs) gs f (inr h) = inr (h.0, first_of_more fs gs f h.1)

  pub first_behind : (fs gs : List EditionRefusal) (f : EditionRefusal) → AllByRecursion Holds fs → IsFirstFailing Holds gs f → IsFirstFailing Holds (fs ++ gs) f
  first_behind [] gs f all h = h
  first_behind (g ∷ fs) gs f all h = inr (all.0, first_behind fs gs f all.1 h)

  -- tests that can be decided all hold, or one is the first that fails
  pub try_each : (fs : List EditionRefusal) → AllByRecursion (λ f. Holds f ⊎ ¬ Holds f) fs → ((f : EditionRefusal) × IsFirstFailing Holds fs f) ⊎ AllByRecursion Holds fs
  try_each [] d = inr tt
  try_each (g ∷ fs) d = by_first d.0 (try_each fs d.1)
    where
      by_first : Holds g ⊎ ¬ Holds g → ((f : EditionRefusal) × IsFirstFailing Holds fs f) ⊎ AllByRecursion Holds fs → ((f : EditionRefusal) × IsFirstFailing Holds (g ∷ fs) f) ⊎ AllByRecursion Holds (g ∷ fs)
      by_first (inr bad) rest = inl (g, inl (refl, bad))
      by_first (inl p) (inl failing) = inl (failing.0, inr (p, failing.1))
      by_first (inl p) (inr all) = inr (p, all)
