-- The lines so far, one more of them, and the tests that they pass.
use Rattle.std.proofs.Common.{◌≡◌, ℕ, zero, suc, ◌+◌, ◌<◌, ◌≤◌, inl, inr, List, [], ◌∷◌, ◌++◌, length, take, drop, refl, sym, ap, ◌∙◌, subst, arith}
use Rattle.std.proofs.lemmas.Bool.{cases_lt}
use Rattle.std.proofs.lemmas.List.{length-drop}
use Rattle.std.specs.Prelude.{slice_index_or, Result, Ok, Err, OnOk, IfErr}
use Rattle.dict_text.specs.Lines.{text_lines}
use Rattle.dict_index.specs.Tests.{PassesLine, line_at}
use Rattle.dict_index.specs.Refusals.{said_tests, reserved_tests, line_tests}
use Rattle.dict_index.specs.Gathered.{IsGatherFault}
use Rattle.dict_index.specs.Refused.{PassesEach, LineFailsFirst, IsLineFault, PassLines, IsFaultBehind, IsLinesFault, told_at}
use Rattle.dict_index.specs.declared.fault.IndexFault.{IndexFault}
use Rattle.dict_index.specs.declared.fault.EditionRefusal.TheVariants.{Reserved, ReservedTwice}
use Rattle.dict_index.specs.declared.line.EntryLineFault.{EntryLineFault}
use Rattle.dict_index.specs.declared.line.EntryLineFault.TheVariants.{Refused, Memory}
use Rattle.dict_text.proofs.AllLemmas.{all_append}
use Rattle.dict_index.proofs.OrderLemmas.{first_of_more, first_behind}

-- the next of the lines that are left
pub record IsNext (lines : List (List ℕ)) (n : ℕ) (line : List ℕ) (rest : List (List ℕ)) : Type 0 where
  pub there : n < length lines
  pub at : slice_index_or lines n [] ≡ line
  pub left : rest ≡ drop (n + 1) lines
  pub front : take (n + 1) lines ≡ take n lines ++ line ∷ []

pub next_of : (lines : List (List ℕ)) (n : ℕ) (line : List ℕ) (rest : List (List ℕ)) → drop n lines ≡ line ∷ rest → IsNext lines n line rest
next_of [] zero line rest e = absurd (cc)
next_of [] (suc n) line rest e = absurd (cc)
next_of (x ∷ lines) zero line rest e =
    let first : x ≡ line = cc in
    let others : lines ≡ rest = cc in
    record { there = omega arith; at = first; left = sym others; front = ap (λ y. y ∷ []) first }
next_of (x ∷ lines) (suc n) line rest e =
    let h = next_of lines n line rest e in
    let more : suc n + 1 ≡ suc (n + 1) = omega arith in
    record {
      there = let t = h.there in omega arith;
      at = h.at;
      left = h.left ∙ sym (ap (λ m. drop m (x ∷ lines)) more);
      front = ap (λ m. take m (x ∷ lines)) more ∙ ap (λ l. x ∷ l) h.front;
    }

-- a line that passes the tests of what it says, and the two of its reserved key, passes all
pub passes_all : (text : List ℕ) (lines : List (List ℕ)) (line : List ℕ) → PassesEach said_tests text lines line → PassesLine Reserved text lines line → PassesLine ReservedTwice text lines line → PassesEach line_tests text lines line
passes_all text lines line said reserved twice = all_append (λ f. PassesLine f text lines line) said_tests reserved_tests said (reserved, (twice, tt))

-- a fault of the reserved tests, behind the tests before them
pub gather_fault : (fault : EntryLineFault) (text : List ℕ) (lines : List (List ℕ)) (line : List ℕ) → PassesEach said_tests text lines line → IsGatherFault fault text lines line → IsFaultBehind fault text lines line
gather_fault (Refused Reserved) text lines line said h = first_behind (λ f. PassesLine f text lines line) said_tests reserved_tests Reserved said (inl (refl, h))
gather_fault (Refused ReservedTwice) text lines line said h = first_behind (λ f. PassesLine f text lines line) said_tests reserved_tests ReservedTwice said (inr (h.0, inl (refl, h.1)))
gather_fault (Refused _) text lines line said h = absurd h
gather_fault Memory text lines line said h = tt

pub line_fault : (fault : EntryLineFault) (text : List ℕ) (lines : List (List ℕ)) (line : List ℕ) → IsLineFault fault text line → IsFaultBehind fault text lines line
line_fault (Refused refusal) text lines line h = first_of_more (λ f. PassesLine f text lines line) said_tests reserved_tests refusal (h lines)
line_fault Memory text lines line h = tt

-- one line more passes
pub pass_more : (index text : List ℕ) (n : ℕ) (line : List ℕ) → PassLines index text n → line_at index n ≡ line → PassesEach line_tests text (take n (text_lines index)) line → PassLines index text (n + 1)
pass_more index text n line earlier at here k lt = elim (cases_lt k n) [
  | inl below ↦ earlier k below
  | inr not_below ↦ (let same : n ≡ k = omega arith in subst (λ j. PassesEach line_tests text (take j (text_lines index)) (line_at index j)) same (subst (λ l. PassesEach line_tests text (take n (text_lines index)) l) (sym at) here))
]

-- no line is left where all are taken
pub none_left : (lines rest : List (List ℕ)) (n : ℕ) → rest ≡ drop n lines → rest ≡ [] → length lines ≤ n
none_left lines rest n e none = omega (arith, ap length (sym e ∙ none), length-drop n lines)

-- what follows of an Ok, and of an Err
pub on_ok_map : {T E P Q : Type 0} (r : Result T E) → (P → Q) → OnOk r P → OnOk r Q
on_ok_map (Ok x) f p = f p
on_ok_map (Err e) f p = tt

pub if_err_map : {T E : Type 0} {P Q : E → Type 0} (r : Result T E) → ((e : E) → P e → Q e) → IfErr r P → IfErr r Q
if_err_map (Ok x) f p = tt
if_err_map (Err e) f p = f e p

-- what is told where a line is not gathered
pub lines_fault : (fault : EntryLineFault) (told : IndexFault) (index text : List ℕ) (n : ℕ) (line : List ℕ) → told ≡ told_at fault (n + 1) → n < length (text_lines index) → line_at index n ≡ line → PassLines index text n
    → IsFaultBehind fault text (take n (text_lines index)) line → IsLinesFault told index text
lines_fault (Refused refusal) told index text n line e there at before h =
    subst (λ t. IsLinesFault t index text) (sym e) (n, refl, record { there = there; before = before; first = subst (LineFailsFirst line_tests refusal text (take n (text_lines index))) (sym at) h })
lines_fault Memory told index text n line e there at before h = subst (λ t. IsLinesFault t index text) (sym e) tt
