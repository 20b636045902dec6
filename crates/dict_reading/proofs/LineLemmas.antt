-- What an index of one line means.
use Rattle.std.proofs.Common.{◌≡◌, ℕ, ◌+◌, ◌≤◌, ◌⊎◌, inl, inr, List, [], ◌∷◌, ◌++◌, length, take, refl, sym, ap, subst, arith}
use Rattle.std.specs.Prelude.{Option, Some, None, slice_index_or}
use Rattle.std.specs.Str.{IsUtf8}
use Rattle.dict_text.specs.Lines.{text_lines}
use Rattle.dict_index.specs.Cuts.{HasNo}
use Rattle.dict_index.specs.Limits.{most_octets}
use Rattle.dict_index.specs.Edition.{ReadEdition}
use Rattle.dict_index.specs.Tests.{PassesWhole, PassesLine, line_at}
use Rattle.dict_index.specs.Refusals.{whole_tests, line_tests}
use Rattle.dict_index.specs.Order.{rank, IsOfLine}
use Rattle.dict_index.specs.Meaning.{IsReadEdition, IsFault}
use Rattle.dict_index.specs.Refused.{PassesEach, LineFailsFirst, PassWholes}
use Rattle.dict_index.specs.declared.fault.EditionRefusal.{EditionRefusal}
use Rattle.dict_index.specs.declared.fault.EditionRefusal.TheVariants.{IndexNotUtf8, NoTitle, BadTitle, TooManyEntries, TextTooLong, LastLine}
use Rattle.dict_text.proofs.AllLemmas.{all_of}
use Rattle.dict_index.proofs.OrderLemmas.{try_each, all_in_order, line_ranks}
use Rattle.dict_index.proofs.TextLemmas.{first_line_cut}
use Rattle.dict_index.proofs.MeaningLemmas.{stop_fault}
use Rattle.dict_index.proofs.DecideLemmas.{Decided, line_test}
use Rattle.dict_index.proofs.LawLemmas.{one_fault, not_both}

-- a test of a line asks nothing of the whole
asks_no_whole : (f : EditionRefusal) (index text : List ℕ) → IsOfLine f → PassesWhole f index text
unfolding rank
asks_no_whole TextTooLong index text o = absurd (let low = o.0 in omega arith)
asks_no_whole IndexNotUtf8 index text o = absurd (let low = o.0 in omega arith)
asks_no_whole LastLine index text o = absurd (let low = o.0 in omega arith)
asks_no_whole TooManyEntries index text o = absurd (let low = o.0 in omega arith)
asks_no_whole NoTitle index text o = absurd (let high = o.1 in omega arith)
asks_no_whole BadTitle index text o = absurd (let high = o.1 in omega arith)
asks_no_whole _ index text o = tt

-- the line and its LF have one line
pub one_line : (line : List ℕ) → HasNo 10 line → text_lines (line ++ 10 ∷ []) ≡ line ∷ []
one_line line none = first_line_cut (line ++ 10 ∷ []) line [] (record { whole = refl; none = none })

pub first_line_at : (line : List ℕ) → HasNo 10 line → line_at (line ++ 10 ∷ []) 0 ≡ line
first_line_at line none = ap (λ ls. slice_index_or ls 0 []) (one_line line none)

pub wholes_alone : (text line : List ℕ) → HasNo 10 line → length text ≤ most_octets → IsUtf8 (line ++ 10 ∷ []) → PassWholes (line ++ 10 ∷ []) text
wholes_alone text line none short utf8 =
    let one : length (text_lines (line ++ 10 ∷ [])) ≡ 1 = ap length (one_line line none) in
    (short, (utf8, (inr (line, refl), (omega (arith, one), tt))))

module _ (text line : List ℕ) (none : HasNo 10 line) (short : length text ≤ most_octets) (utf8 : IsUtf8 (line ++ 10 ∷ [])) where
  -- its first test that fails is what it is refused for
  fault_alone : (g : EditionRefusal) → LineFailsFirst line_tests g text [] line → IsFault (line ++ 10 ∷ []) text g (Some 1)
  fault_alone g first = stop_fault g (line ++ 10 ∷ []) text 0 (wholes_alone text line none short utf8) (record {
    there = (let one : length (text_lines (line ++ 10 ∷ [])) ≡ 1 = ap length (one_line line none) in omega (arith, one));
    before = λ k lt. absurd (omega arith);
    first = subst (λ l. LineFailsFirst line_tests g text [] l) (sym (first_line_at line none)) first;
  })

  verdict : ((g : EditionRefusal) × LineFailsFirst line_tests g text [] line) ⊎ PassesEach line_tests text [] line
  verdict = try_each (λ f. PassesLine f text [] line) line_tests (all_of (λ f. Decided (PassesLine f text [] line)) (λ f. line_test f text [] line) line_tests)

  -- unless one fails, all pass
  unless : ((g : EditionRefusal) → LineFailsFirst line_tests g text [] line → ⊥) → PassesEach line_tests text [] line
  unless never = elim verdict [ inl failing ↦ absurd (never failing.0 failing.1) | inr all ↦ all ]

  pub read_passes : (reading : ReadEdition) → IsReadEdition (line ++ 10 ∷ []) text reading → PassesEach line_tests text [] line
  read_passes reading is = unless (λ g first. not_both (line ++ 10 ∷ []) text reading g (Some 1) is (fault_alone g first))

  pub whole_passes : (refusal : EditionRefusal) → IsFault (line ++ 10 ∷ []) text refusal None → PassesEach line_tests text [] line
  whole_passes refusal is = unless (λ g first. let same : (let none : Option ℕ = None in none) ≡ Some 1 = (one_fault (line ++ 10 ∷ []) text refusal g None (Some 1) is (fault_alone g first)).1 in cc)

  pub line_fails : (refusal : EditionRefusal) (number : ℕ) → IsFault (line ++ 10 ∷ []) text refusal (Some number) → LineFailsFirst line_tests refusal text [] line
  line_fails refusal number is = elim verdict [
    | inl failing ↦ subst (λ f. LineFailsFirst line_tests f text [] line) (one_fault (line ++ 10 ∷ []) text failing.0 refusal (Some 1) (Some number) (fault_alone failing.0 failing.1) is).0 failing.1
    | inr all ↦ absurd (by_place is.tells all)
  ]
    where
      by_place : (IsOfLine refusal × (Some number ≡ Some (is.at + 1))) ⊎ (¬ IsOfLine refusal × (Some number ≡ None)) → PassesEach line_tests text [] line → ⊥
      by_place (inr other) all = let wrong : Some number ≡ None = other.1 in cc
      by_place (inl told) all =
          let there = is.made told.0 in
          let one : length (text_lines (line ++ 10 ∷ [])) ≡ 1 = ap length (one_line line none) in
          let first : is.at ≡ 0 = omega (arith, there, one) in
          let passes : PassesLine refusal text [] line = all_in_order (λ f. PassesLine f text [] line) (length whole_tests) line_tests line_ranks all refusal told.0.0 told.0.1 in
          is.fails (subst (λ k. PassesWhole refusal (line ++ 10 ∷ []) text × PassesLine refusal text (take k (text_lines (line ++ 10 ∷ []))) (line_at (line ++ 10 ∷ []) k)) (sym first)
          (asks_no_whole refusal (line ++ 10 ∷ []) text told.0, subst (λ l. PassesLine refusal text [] l) (sym (first_line_at line none)) passes))
