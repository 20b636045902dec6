-- How much the lines of a slice come to, and whether a line is left.
use Rattle.std.proofs.Common.{◌≡◌, ℕ, ◌+◌, ◌-◌, ◌<◌, ◌≤◌, inl, inr, List, [], ◌∷◌, ◌++◌, length, take, drop, get_or, refl, sym, ap, ◌∙◌, subst, arith, cond, Bool, true, false, eqb}
use Rattle.std.proofs.lemmas.Bool.{cases_lt}
use Rattle.std.proofs.lemmas.List.{length-drop, drop-drop, drop_all, drop_more, take_more}
use Rattle.std.specs.Prelude.{IsTrue}
use Rattle.std.specs.List.{AllZip}
use Rattle.dict_text.specs.Lines.{text_lines, onto_first_line}
use Rattle.dict_index.specs.Line.{Line, IsLine}
use Rattle.dict_index.specs.Tests.{line_at}
use Rattle.dict_index.proofs.GatherLemmas.{said_push}
use Rattle.dict_index.proofs.MeaningLemmas.{all_said_one}
use Rattle.dict_reading.specs.Reading.{HasRead, IsAtEnd}
use Rattle.dict_reading.specs.Slices.{lines_from, octets_of_lines, IsSlice, ComesTo}
use Rattle.dict_reading.specs.declared.reader.EditionReader.{EditionReader}

-- a text that isn't empty has a line
some_line : (b : ℕ) (bs : List ℕ) → text_lines (b ∷ bs) ≡ [] → ⊥
some_line b bs e = by_test (eqb b 10) (text_lines bs) e
  where
    by_test : (t : Bool) (lines : List (List ℕ)) → cond t ([] ∷ lines) (onto_first_line b lines) ≡ [] → ⊥
    by_test true lines e = let wrong : [] ∷ lines ≡ [] = e in cc
    by_test false [] e = let wrong : (b ∷ []) ∷ [] ≡ [] = e in cc
    by_test false (line ∷ lines) e = let wrong : (b ∷ line) ∷ lines ≡ [] = e in cc

no_octets : (octets : List ℕ) → text_lines octets ≡ [] → length octets ≡ 0
no_octets [] e = refl
no_octets (b ∷ bs) e = absurd (some_line b bs e)

-- no line is left exactly where no octet is
module _ (index text : List ℕ) (reader : EditionReader) (h : HasRead index text reader) where
  pub end_from_octets : length index ≤ reader.place → IsAtEnd index reader
  end_from_octets le =
      let nothing : drop reader.number (text_lines index) ≡ [] = sym h.rest ∙ ap text_lines (drop_all reader.place index le) in
      let left : length (text_lines index) - reader.number ≡ 0 = sym (length-drop reader.number (text_lines index)) ∙ ap length nothing in
      let few = h.few in
      omega (arith, left, few)

  pub octets_from_end : IsAtEnd index reader → length index ≤ reader.place
  octets_from_end e =
      let nothing : text_lines (drop reader.place index) ≡ [] = h.rest ∙ drop_all reader.number (text_lines index) (omega (arith, e)) in
      let left : length index - reader.place ≡ 0 = sym (length-drop reader.place index) ∙ no_octets (drop reader.place index) nothing in
      omega (arith, left)

-- one line more
sum_more : (lines : List (List ℕ)) (said : List Line) (line : List ℕ) (s : Line) → AllZip IsLine lines said → octets_of_lines (lines ++ line ∷ []) (said ++ s ∷ []) ≡ octets_of_lines lines said + (length line + 1 + s.size)
sum_more [] [] line s h = omega arith
sum_more [] (x ∷ said) line s h = absurd h
sum_more (l ∷ lines) [] line s h = absurd h
sum_more (l ∷ lines) (x ∷ said) line s h = omega (arith, sum_more lines said line s h.1)

module _ (index : List ℕ) (from count : ℕ) (there : from + count < length (text_lines index)) where
  -- the lines with the next
  pub lines_more : lines_from index from (count + 1) ≡ lines_from index from count ++ line_at index (from + count) ∷ []
  lines_more =
      let long : count < length (drop from (text_lines index)) = omega (arith, length-drop from (text_lines index), there) in
      let at : drop count (drop from (text_lines index)) ≡ get_or (drop from (text_lines index)) count [] ∷ drop (count + 1) (drop from (text_lines index)) = drop_more (drop from (text_lines index)) count [] long in
      let whole : drop count (drop from (text_lines index)) ≡ line_at index (from + count) ∷ drop (from + count + 1) (text_lines index) = drop-drop count from (text_lines index) ∙ drop_more (text_lines index) (from + count) [] there in
      let same : get_or (drop from (text_lines index)) count [] ≡ line_at index (from + count) = heads (sym at ∙ whole) in
      take_more (drop from (text_lines index)) count [] long ∙ ap (λ l. take count (drop from (text_lines index)) ++ l ∷ []) same
    where
      heads : {a b : List ℕ} {xs ys : List (List ℕ)} → a ∷ xs ≡ b ∷ ys → a ≡ b
      heads e = cc

  pub comes_more : (octets more : ℕ) (s : Line) → ComesTo index from count octets → IsLine (line_at index (from + count)) s → more ≡ length (line_at index (from + count)) + 1 + s.size → ComesTo index from (count + 1) (octets + more)
  comes_more octets more s t is e = record {
    said = t.said ++ s ∷ [];
    are = subst (λ ls. AllZip IsLine ls (t.said ++ s ∷ [])) (sym lines_more) (said_push (lines_from index from count) t.said (line_at index (from + count)) s t.are is);
    sum = ap (λ ls. octets_of_lines ls (t.said ++ s ∷ [])) lines_more ∙ (sum_more (lines_from index from count) t.said (line_at index (from + count)) s t.are ∙ (let sum = t.sum in omega (arith, sum, e)));
  }

-- lines before the last that come to less than so many octets
pub slice_more : (index : List ℕ) (from count octets : ℕ) → ComesTo index from count octets → octets < 1048576 → count < 4096 → IsSlice index from (count + 1)
slice_more index from count octets t low few = record {
  many = omega arith;
  short = λ said are. by_count (count + 1 - 1) (omega arith) said are;
}
  where
    by_count : (n : ℕ) → n ≡ count → (said : List Line) → AllZip IsLine (lines_from index from n) said → octets_of_lines (lines_from index from n) said < 1048576
    by_count n e said are =
        let zipped = subst (λ k. AllZip IsLine (lines_from index from k) said) e are in
        let same : said ≡ t.said = all_said_one (lines_from index from count) said t.said zipped t.are in
        let sum : octets_of_lines (lines_from index from n) said ≡ octets = ap (λ k. octets_of_lines (lines_from index from k) said) e ∙ (ap (octets_of_lines (lines_from index from count)) same ∙ t.sum) in
        omega (arith, sum, low)

-- a reader that isn't at its end has octets left
pub not_yet : (index text : List ℕ) (reader : EditionReader) → HasRead index text reader → (t : Bool) → (IsTrue t → IsAtEnd index reader) × (IsAtEnd index reader → IsTrue t) → t ≡ false → reader.place < length index
not_yet index text reader h t law no_end = elim (cases_lt reader.place (length index)) [
  | inl more ↦ more
  | inr none ↦ absurd (let there : t ≡ true = law.1 (end_from_octets index text reader h (omega (arith, none))) in cc)
]
