-- An index and a text have a reading or a fault.
use Rattle.std.proofs.Common.{◌≡◌, ℕ, zero, suc, ◌+◌, ◌<◌, ◌≤◌, ◌⊎◌, inl, inr, List, [], ◌∷◌, length, take, refl, arith}
use Rattle.std.specs.Prelude.{Option, Some, None, slice_index_or}
use Rattle.std.specs.List.{AllZip}
use Rattle.dict_text.specs.Lines.{text_lines}
use Rattle.dict_index.specs.Limits.{most_lines, most_octets}
use Rattle.dict_index.specs.Line.{Line, IsLine}
use Rattle.dict_index.specs.Edition.{ReadEdition}
use Rattle.dict_index.specs.Reserved.{title_in, info_in}
use Rattle.dict_index.specs.Tests.{PassesWhole, PassesLine, IsTitle, line_at}
use Rattle.dict_index.specs.Refusals.{whole_tests, line_tests}
use Rattle.dict_index.specs.Meaning.{IsReadEdition, IsFault, entry_lines}
use Rattle.dict_index.specs.Refused.{PassesEach, LineFailsFirst, PassLines, StopsAt, PassWholes, FailsWhole}
use Rattle.dict_index.specs.declared.fault.EditionRefusal.{EditionRefusal}
use Rattle.dict_index.specs.declared.fault.EditionRefusal.TheVariants.{NoTitle, BadTitle}
use Rattle.dict_text.proofs.AllLemmas.{all_of}
use Rattle.dict_index.proofs.OrderLemmas.{try_each}
use Rattle.dict_index.proofs.PassLemmas.{pass_more}
use Rattle.dict_index.proofs.MeaningLemmas.{whole_fault, stop_fault, no_title, bad_title, all_pass}
use Rattle.dict_index.proofs.DecideLemmas.{Decided, at_most, utf8, ends, line_test, is_title}

-- the first line that a test stops at, if one does
module _ (index text : List ℕ) where
  abbrev FirstStop : Type 0
  FirstStop = (refusal : EditionRefusal) × (k : ℕ) × StopsAt index text refusal k

  next_line : (n : ℕ) → n < length (text_lines index) → PassLines index text n → FirstStop ⊎ PassLines index text (n + 1)
  next_line n there passes =
      by_tests (try_each (λ f. PassesLine f text (take n (text_lines index)) (line_at index n)) line_tests
      (all_of (λ f. Decided (PassesLine f text (take n (text_lines index)) (line_at index n))) (λ f. line_test f text (take n (text_lines index)) (line_at index n)) line_tests))
    where
      by_tests : ((f : EditionRefusal) × LineFailsFirst line_tests f text (take n (text_lines index)) (line_at index n)) ⊎ PassesEach line_tests text (take n (text_lines index)) (line_at index n) → FirstStop ⊎ PassLines index text (n + 1)
      by_tests (inl failing) = inl (failing.0, n, record { there = there; before = passes; first = failing.1 })
      by_tests (inr all) = inr (pass_more index text n (line_at index n) passes refl all)

  lines_until : (n : ℕ) → n ≤ length (text_lines index) → FirstStop ⊎ PassLines index text n
  lines_until zero le = inr (λ k lt. absurd (omega arith))
  lines_until (suc n) le = by_earlier (lines_until n (omega arith))
    where
      one_more : n + 1 ≡ suc n
      one_more = omega arith

      by_earlier : FirstStop ⊎ PassLines index text n → FirstStop ⊎ PassLines index text (suc n)
      by_earlier (inl stop) = inl stop
      by_earlier (inr passes) = rw (← one_more) (next_line n (omega arith) passes)

  -- the first test of the whole files that fails, if one does
  try_wholes : ((f : EditionRefusal) × FailsWhole f index text) ⊎ PassWholes index text
  try_wholes = try_each (λ f. PassesWhole f index text) whole_tests (at_most (length text) most_octets, (utf8 index, (ends index, (at_most (length (text_lines index)) most_lines, tt))))

-- what lines say that each say something
all_say : (lines : List (List ℕ)) → ((k : ℕ) → k < length lines → (said : Line) × IsLine (slice_index_or lines k []) said) → (all_said : List Line) × AllZip IsLine lines all_said
all_say [] h = ([], tt)
all_say (line ∷ lines) h =
    let first = h 0 (omega arith) in
    let others = all_say lines (λ k lt. h (suc k) (omega arith)) in
    (first.0 ∷ others.0, (first.1, others.1))

-- the title is good, or it isn't there, or it is bad
module _ (index text : List ℕ) where
  abbrev Meaning : Type 0
  Meaning = ((reading : ReadEdition) × IsReadEdition index text reading) ⊎ ((refusal : EditionRefusal) × (line : Option ℕ) × IsFault index text refusal line)

  by_title : PassWholes index text → PassLines index text (length (text_lines index)) → (said : List Line) → AllZip IsLine (text_lines index) said → (title : Option (List ℕ)) → title_in text said ≡ title → Meaning
  by_title wholes passed said are None e = inr (NoTitle, None, no_title index text wholes passed said are e)
  by_title wholes passed said are (Some found) e = by_test (is_title found)
    where
      by_test : Decided (IsTitle found) → Meaning
      by_test (inl good) = inl (
        record { title = found; info = info_in text said; text = text; lines = entry_lines said },
        record {
          passes = all_pass index text wholes passed said are found e good;
          lines = said;
          said = are;
          entries = refl;
          title = e;
          info = refl;
          whole = refl;
        },
      )
      by_test (inr bad) = inr (BadTitle, None, bad_title index text wholes passed said are found e bad)

  by_lines : PassWholes index text → FirstStop index text ⊎ PassLines index text (length (text_lines index)) → Meaning
  by_lines wholes (inl stop) = inr (stop.0, Some (stop.1 + 1), stop_fault stop.0 index text stop.1 wholes stop.2)
  by_lines wholes (inr passed) =
      let found = all_say (text_lines index) (λ k lt. (passed k lt).1.0) in
      by_title wholes passed found.0 found.1 (title_in text found.0) refl

  by_wholes : ((f : EditionRefusal) × FailsWhole f index text) ⊎ PassWholes index text → Meaning
  by_wholes (inl failing) = inr (failing.0, None, whole_fault failing.0 index text failing.1)
  by_wholes (inr wholes) = by_lines wholes (lines_until index text (length (text_lines index)) (omega arith))

  pub some_meaning : Meaning
  some_meaning = by_wholes (try_wholes index text)
