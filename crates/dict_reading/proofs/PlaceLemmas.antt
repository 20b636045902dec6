-- The texts of a line where they stand in an index.
use Rattle.std.proofs.Common.{◌≡◌, ℕ, ◌+◌, ◌-◌, List, [], ◌∷◌, ◌++◌, length, take, drop, sym, ap, ◌∙◌, arith, length-append}
use Rattle.std.proofs.lemmas.List.{drop-drop, append_assoc}
use Rattle.std.proofs.Math.Seq.{take-append_seam, drop-append_seam}
use Rattle.std.specs.Prelude.{Some}
use Rattle.dict_index.specs.Cuts.{AreColumns}
use Rattle.dict_reading.specs.Places.{octets_at}

-- what stands behind a front of what the index has from a place on
pub at_front : (index front text rest : List ℕ) (start : ℕ) → drop start index ≡ front ++ (text ++ rest) → octets_at index (start + length front) (length text) ≡ text
at_front index front text rest start e =
    ap (take (length text)) (sym (drop-drop (length front) start index) ∙ (ap (drop (length front)) e ∙ drop-append_seam front (text ++ rest))) ∙ take-append_seam text rest

-- what stands before the fourth column
front_of : (h o s : List ℕ) → List ℕ
front_of h o s = h ++ (9 ∷ o ++ (9 ∷ s ++ 9 ∷ []))

front_whole : (h o s f : List ℕ) → h ++ (9 ∷ o ++ (9 ∷ s ++ 9 ∷ f)) ≡ front_of h o s ++ f
unfolding front_of
front_whole h o s f = sym (append_assoc h (9 ∷ o ++ (9 ∷ s ++ 9 ∷ [])) f ∙ ap (λ l. h ++ 9 ∷ l) (append_assoc o (9 ∷ s ++ 9 ∷ []) f ∙ ap (λ l. o ++ 9 ∷ l) (append_assoc s (9 ∷ []) f)))

pub fourth_at : (index line behind h o s f : List ℕ) (start : ℕ) → AreColumns line h o s (Some f) → drop start index ≡ line ++ behind → octets_at index (start + (length line - length f)) (length f) ≡ f
fourth_at index line behind h o s f start c e =
    let whole : line ≡ front_of h o s ++ f = c.whole ∙ front_whole h o s f in
    let long : length line ≡ length (front_of h o s) + length f = ap length whole ∙ length-append (front_of h o s) f in
    let front : length line - length f ≡ length (front_of h o s) = omega (arith, long) in
    ap (λ n. octets_at index (start + n) (length f)) front ∙ at_front index (front_of h o s) f behind start (e ∙ (ap (λ l. l ++ behind) whole ∙ append_assoc (front_of h o s) f behind))
