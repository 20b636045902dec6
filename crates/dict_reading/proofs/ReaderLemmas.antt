-- One line more that is read.
use Rattle.std.proofs.Common.{◌≡◌, ℕ, ◌+◌, ◌-◌, ◌<◌, ◌≤◌, List, [], ◌∷◌, ◌++◌, length, take, drop, refl, sym, ap, ◌∙◌, subst, arith, length-append}
use Rattle.std.proofs.lemmas.List.{length-drop, drop-drop}
use Rattle.std.proofs.lemmas.Str.{IsUtf8-append}
use Rattle.std.proofs.Math.Seq.{take-append-add}
use Rattle.std.specs.Str.{IsUtf8}
use Rattle.dict_text.specs.Lines.{text_lines}
use Rattle.dict_index.specs.Cuts.{HasNo, IsCutAt}
use Rattle.dict_index.specs.Refusals.{line_tests}
use Rattle.dict_index.specs.Refused.{PassesEach, LineFailsFirst, IsIndexFault}
use Rattle.dict_index.specs.Tests.{line_at}
use Rattle.dict_index.specs.declared.fault.IndexFault.{IndexFault}
use Rattle.dict_index.proofs.CutLemmas.{utf8_parts, behind_seam}
use Rattle.dict_index.proofs.TextLemmas.{first_line_cut}
use Rattle.dict_index.proofs.PassLemmas.{IsNext, next_of, pass_more}
use Rattle.dict_index.proofs.MeaningLemmas.{stop_fault}
use Rattle.dict_reading.specs.Gathered.{HasGatheredPlaces}
use Rattle.dict_reading.specs.Lines.{FailsBehind, line_told_at}
use Rattle.dict_reading.specs.Reading.{HasRead}
use Rattle.dict_reading.specs.declared.line.EditionLineFault.{EditionLineFault}
use Rattle.dict_reading.specs.declared.line.EditionLineFault.TheVariants.{Refused, Memory}
use Rattle.dict_reading.specs.declared.reader.EditionReader.{EditionReader}

no_seam : (b : ℕ) (xs ys : List ℕ) → HasNo b (xs ++ b ∷ ys) → ⊥
no_seam b [] ys h = h.0 refl
no_seam b (x ∷ xs) ys h = no_seam b xs ys h.1

pub whole_line : (rest line behind : List ℕ) → IsCutAt 10 rest line behind → take (length line + 1) rest ≡ line ++ 10 ∷ []
whole_line rest line behind c = ap (take (length line + 1)) c.whole ∙ take-append-add line (10 ∷ behind) 1

pub utf8_line : (rest line behind : List ℕ) → IsCutAt 10 rest line behind → IsUtf8 rest → IsUtf8 (line ++ 10 ∷ [])
unfolding lib.Utf8.encode
utf8_line rest line behind c u = IsUtf8-append line (10 ∷ []) (utf8_parts rest line behind 10 c.whole (omega arith) u).0 (10 ∷ [], (refl, refl))

module _ (index text : List ℕ) (reader : EditionReader) (h : HasRead index text reader) (line behind : List ℕ) (c : IsCutAt 10 (drop reader.place index) line behind) where
  next : IsNext (text_lines index) reader.number line (text_lines behind)
  next = next_of (text_lines index) reader.number line (text_lines behind) (sym h.rest ∙ first_line_cut (drop reader.place index) line behind c)

  pub line_within : reader.place + (length line + 1) ≤ length index
  line_within =
      let all : length index - reader.place ≡ length line + length (10 ∷ behind) = sym (length-drop reader.place index) ∙ (ap length c.whole ∙ length-append line (10 ∷ behind)) in
      let within = h.within in
      omega (arith, all, within)

  pub this_line : line_at index reader.number ≡ line
  this_line = next.at

  pub read_more : (after : EditionReader) → after.place ≡ reader.place + (length line + 1) → after.number ≡ reader.number + 1 →
      HasGatheredPlaces index text (take reader.number (text_lines index) ++ line ∷ []) after.gathered → PassesEach line_tests text (take reader.number (text_lines index)) line → HasRead index text after
  read_more after place number gathers passes =
      let further : drop after.place index ≡ behind = ap (λ n. drop n index) place ∙ (sym (drop-drop (length line + 1) reader.place index) ∙ (ap (drop (length line + 1)) c.whole ∙ behind_seam line 10 behind)) in
      let there = next.there in
      let within = line_within in
      record {
        wholes = h.wholes;
        passes = subst (λ n. (k : ℕ) → k < n → PassesEach line_tests text (take k (text_lines index)) (line_at index k)) (sym number) (pass_more index text reader.number line h.passes next.at passes);
        few = omega (arith, number, there);
        within = omega (arith, place, within);
        rest = ap text_lines further ∙ (next.left ∙ ap (λ n. drop n (text_lines index)) (sym number));
        utf8 = subst IsUtf8 (sym further) (utf8_parts (drop reader.place index) line behind 10 c.whole (omega arith) h.utf8).1;
        gathers = subst (λ ls. HasGatheredPlaces index text ls after.gathered) (sym next.front ∙ ap (λ n. take n (text_lines index)) (sym number)) gathers;
      }

  pub line_told : (fault : EditionLineFault) (told : IndexFault) → told ≡ line_told_at fault (reader.number + 1) → FailsBehind fault text (take reader.number (text_lines index)) line → IsIndexFault told index text
  line_told (Refused refusal) told e f = subst (λ t. IsIndexFault t index text) (sym e) (stop_fault refusal index text reader.number h.wholes (record {
    there = next.there;
    before = h.passes;
    first = subst (LineFailsFirst line_tests refusal text (take reader.number (text_lines index))) (sym next.at) f;
  }))
  line_told Memory told e f = subst (λ t. IsIndexFault t index text) (sym e) tt
