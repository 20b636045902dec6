-- The tests of a hit decide what a hit is.
use Rattle.std.proofs.Common.{◌≡◌, ◌≢◌, ℕ, Bool, true, List, [], ◌∷◌, ◌++◌, ◌-◌, length, take, drop, not, refl, ap, eqb, arith, inl, inr, bytes_eq}
use Rattle.std.specs.Bool.{Decides}
use Rattle.std.specs.List.{starts_with, ends_with}
use Rattle.std.proofs.lemmas.Bool.{or_cases, or_left, or_right, and_parts, and_from, ne_eqb, not_from_false}
use Rattle.std.proofs.lemmas.Bool.Decides.{Decides-eqb, same_from_decides}
use Rattle.std.proofs.lemmas.Slice.Eq.{starts_is, ends_is, bytes_eq-Decides}
use Rattle.dict_match.specs.Words.{words_between_blanks}
use Rattle.dict_match.specs.declared.strategy.Strategy.{Strategy}
use Rattle.dict_match.specs.declared.strategy.Strategy.TheVariants.{Exact, Prefix, Suffix, Substring, Word, First, Last}
use Rattle.dict_match.specs.Matching.{Fits, Hits, has_run, is_fit, is_hit}

module _ {X : Type 0} (eq : X → X → Bool) (decides : (x y : X) → Decides (eq x y) (x ≡ y)) where
  starts_law : (xs run : List X) → Decides (starts_with eq xs run) ((b : List X) × (xs ≡ run ++ b))
  starts_law xs run = let both = starts_is decides xs run (starts_with eq xs run) refl in ((λ h. (drop (length run) xs, both.0 h)), (λ h. both.1 h.0 h.1))

  ends_law : (xs run : List X) → Decides (ends_with eq xs run) ((a : List X) × (xs ≡ a ++ run))
  ends_law xs run = let both = ends_is decides xs run (ends_with eq xs run) refl in ((λ h. (take (length xs - length run) xs, both.0 h)), (λ h. both.1 h.0 h.1))

  run_found : (xs run : List X) → has_run eq xs run ≡ true → (a : List X) × (b : List X) × (xs ≡ a ++ run ++ b)
  run_found [] run h = let here = (starts_law [] run).0 h in ([], here.0, here.1)
  run_found (x ∷ xs) run h = elim (or_cases (starts_with eq (x ∷ xs) run) (has_run eq xs run) h) [
    | inl begins ↦ let here = (starts_law (x ∷ xs) run).0 begins in ([], here.0, here.1)
    | inr further ↦ let there = run_found xs run further in (x ∷ there.0, there.1, ap (λ l. x ∷ l) there.2)
  ]

  run_finds : (xs run a b : List X) → xs ≡ a ++ run ++ b → has_run eq xs run ≡ true
  run_finds [] run [] b e = (starts_law [] run).1 (b, e)
  run_finds [] run (y ∷ a) b e = cc
  run_finds (x ∷ xs) run [] b e = or_left (starts_with eq (x ∷ xs) run) (has_run eq xs run) ((starts_law (x ∷ xs) run).1 (b, e))
  run_finds (x ∷ xs) run (y ∷ a) b e =
      let rest : xs ≡ a ++ run ++ b = cc in
      or_right (starts_with eq (x ∷ xs) run) (has_run eq xs run) (run_finds xs run a b rest)

  run_law : (xs run : List X) → Decides (has_run eq xs run) ((a : List X) × (b : List X) × (xs ≡ a ++ run ++ b))
  run_law xs run = ((λ h. run_found xs run h), (λ h. run_finds xs run h.0 h.1 h.2))

pub fit_law : (s : Strategy) (q k : List ℕ) → Decides (is_fit s q k) (Fits s q k)
fit_law Exact q k = bytes_eq-Decides k q
fit_law Prefix q k = starts_law eqb Decides-eqb k q
fit_law Suffix q k = ends_law eqb Decides-eqb k q
fit_law Substring q k = run_law eqb Decides-eqb k q
fit_law Word q k = run_law bytes_eq bytes_eq-Decides (words_between_blanks k) (words_between_blanks q)
fit_law First q k = starts_law bytes_eq bytes_eq-Decides (words_between_blanks k) (words_between_blanks q)
fit_law Last q k = ends_law bytes_eq bytes_eq-Decides (words_between_blanks k) (words_between_blanks q)

some_query : (q : List ℕ) → Decides (not (eqb (length q) 0)) (q ≢ [])
some_query [] = ((λ h. cc), (λ h. absurd (h refl)))
some_query (x ∷ q) = ((λ h e. cc), (λ h. not_from_false (eqb (length (x ∷ q)) 0) (ne_eqb (length (x ∷ q)) 0 (λ e. absurd (omega arith)))))

pub hit_law : (s : Strategy) (q k : List ℕ) → Decides (is_hit s q k) (Hits s q k)
unfolding is_hit
hit_law s q k =
    let some = some_query q in
    let fit = fit_law s q k in
    let t = not (eqb (length q) 0) in (
      (λ h. let parts = and_parts t (is_fit s q k) h in (some.0 parts.0, fit.0 parts.1)),
      (λ h. and_from t (is_fit s q k) (some.1 h.0) (fit.1 h.1)),
    )

-- what decides a hit is the test of it
pub decided_hit : (s : Strategy) (q k : List ℕ) (r : Bool) → Decides r (Hits s q k) → r ≡ is_hit s q k
decided_hit s q k r h = same_from_decides r (is_hit s q k) h (hit_law s q k)
