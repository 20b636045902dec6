-- What a line says is one thing.
use Rattle.std.proofs.Common.{◌≡◌, ◌≢◌, ℕ, zero, suc, ◌<◌, inl, inr, List, [], ◌∷◌, ◌++◌, refl, sym, ap, ◌∙◌, subst, arith, Bool, true, false, eq-eqb}
use Rattle.std.proofs.lemmas.Bool.{cases_lt}
use Rattle.std.specs.Prelude.{◌==◌, ◌&&◌, not, slice_index, Option, IfSome, unwrap_or}
use Rattle.std.specs.List.{AllZip}
use Rattle.dict_text.specs.Number.{Spells, IsDigit, alphabet}
use Rattle.dict_text.proofs.NumberLemmas.{one_number}
use Rattle.dict_index.specs.Cuts.{HasNo, AreColumns}
use Rattle.dict_index.specs.Line.{Line, IsLine, behind_tab}
use Rattle.dict_index.specs.Tests.{IfSays, IfFourth}
use Rattle.dict_index.proofs.CutLemmas.{one_cut, one_last}

-- no digit is a tab
abbrev no_tab_below : ℕ → Bool
no_tab_below zero = true
no_tab_below (suc n) = not (slice_index alphabet n == 9) && no_tab_below n

no_tab_at : (n : ℕ) → no_tab_below n ≡ true → (v : ℕ) → v < n → slice_index alphabet v ≡ 9 → ⊥
no_tab_at zero all v lt e = omega arith
no_tab_at (suc n) all v lt e = elim (cases_lt v n) [
  | inl below ↦ no_tab_at n (rest (not (slice_index alphabet n == 9)) (no_tab_below n) all) v below e
  | inr not_below ↦ (let same : v ≡ n = omega arith in here (slice_index alphabet n == 9) (no_tab_below n) all (eq-eqb _ _ (ap (slice_index alphabet) (sym same) ∙ e)))
]
  where
    rest : (a b : Bool) → (a && b) ≡ true → b ≡ true
    rest true b h = h
    rest false b h = absurd (let no : false ≡ true = h in cc)

    here : (a b : Bool) → (not a && b) ≡ true → a ≡ true → ⊥
    here true b h k = let no : false ≡ true = h in cc
    here false b h k = cc

digit_no_tab : (byte v : ℕ) → IsDigit byte v → byte ≢ 9
digit_no_tab byte v d e = no_tab_at 64 refl v d.0 (sym d.1 ∙ e)

digits_no_tab : (s vs : List ℕ) → AllZip IsDigit s vs → HasNo 9 s
digits_no_tab [] vs h = tt
digits_no_tab (b ∷ s) [] h = absurd h
digits_no_tab (b ∷ s) (v ∷ vs) h = (digit_no_tab b v h.0, digits_no_tab s vs h.1)

pub spelled_no_tab : (s : List ℕ) (n : ℕ) → Spells s n → HasNo 9 s
spelled_no_tab s n h = digits_no_tab s h.values h.digits

-- columns that are spelled make a line
pub line_from_columns : (line h o s : List ℕ) (f : Option (List ℕ)) (m n : ℕ) → AreColumns line h o s f → Spells o m → Spells s n → IsLine line (record { headword = h; offset = m; size = n; shown = unwrap_or f h })
line_from_columns line h o s f m n c p q = record { offset_text = o; size_text = s; fourth = f; whole = c.whole; no_tab = c.first_none; fourth_no_tab = c.fourth_none; offset = p; size = q; shown = refl }

-- a line has one headword, one text of each number, and one fourth column or none
pub columns_of_line : (line h o s : List ℕ) (f : Option (List ℕ)) (said : Line) → AreColumns line h o s f → (l : IsLine line said) → (said.headword ≡ h) × Spells o said.offset × Spells s said.size × (l.fourth ≡ f)
columns_of_line line h o s f said c l =
    let first = one_cut 9 said.headword (l.offset_text ++ (9 ∷ l.size_text ++ behind_tab l.fourth)) h (o ++ (9 ∷ s ++ behind_tab f)) l.no_tab c.first_none (sym l.whole ∙ c.whole) in
    let second = one_cut 9 l.offset_text (l.size_text ++ behind_tab l.fourth) o (s ++ behind_tab f) (spelled_no_tab l.offset_text said.offset l.offset) c.second_none first.1 in
    let third = one_last l.size_text s l.fourth f (spelled_no_tab l.size_text said.size l.size) c.third_none second.1 in
    (first.0, subst (λ t. Spells t said.offset) second.0 l.offset, subst (λ t. Spells t said.size) third.0 l.size, third.1)

pub columns_from_line : (line : List ℕ) (said : Line) (l : IsLine line said) → AreColumns line said.headword l.offset_text l.size_text l.fourth
columns_from_line line said l = record { whole = l.whole; first_none = l.no_tab; second_none = spelled_no_tab l.offset_text said.offset l.offset; third_none = spelled_no_tab l.size_text said.size l.size; fourth_none = l.fourth_no_tab }

-- a line has one fourth column, or none
pub one_fourth : (line : List ℕ) (s t : Line) (h : IsLine line s) (k : IsLine line t) → k.fourth ≡ h.fourth
one_fourth line s t h k = (columns_of_line line s.headword h.offset_text h.size_text h.fourth t (columns_from_line line s h) k).3

-- a line says one thing
pub one_said : (line : List ℕ) (s t : Line) → IsLine line s → IsLine line t → s ≡ t
one_said line s t h k =
    let parts = columns_of_line line s.headword h.offset_text h.size_text h.fourth t (columns_from_line line s h) k in
    let shown : s.shown ≡ t.shown = h.shown ∙ (ap (λ f. unwrap_or f s.headword) (sym parts.3) ∙ (ap (unwrap_or k.fourth) (sym parts.0) ∙ sym k.shown)) in
    same_line s t (sym parts.0) (one_number h.offset_text s.offset t.offset h.offset parts.1) (one_number h.size_text s.size t.size h.size parts.2) shown
  where
    same_line : (s t : Line) → s.headword ≡ t.headword → s.offset ≡ t.offset → s.size ≡ t.size → s.shown ≡ t.shown → s ≡ t
    same_line s t a b c d =
        ap (λ (h : List ℕ). let made : Line = record { headword = h; offset = s.offset; size = s.size; shown = s.shown } in made) a
        ∙ (ap (λ (n : ℕ). let made : Line = record { headword = t.headword; offset = n; size = s.size; shown = s.shown } in made) b
        ∙ (ap (λ (n : ℕ). let made : Line = record { headword = t.headword; offset = t.offset; size = n; shown = s.shown } in made) c
        ∙ ap (λ (h : List ℕ). let made : Line = record { headword = t.headword; offset = t.offset; size = t.size; shown = h } in made) d))

-- what holds of one thing that the line says holds of all that it says
pub if_says : (line : List ℕ) (said : Line) (P : Line → Type 0) → IsLine line said → P said → IfSays line P
if_says line said P h p other k = subst P (one_said line said other h k) p

pub if_fourth : (line : List ℕ) (said : Line) (P : List ℕ → Type 0) (l : IsLine line said) → IfSome l.fourth P → IfFourth line P
if_fourth line said P l p other k = subst (λ f. IfSome f P) (sym (one_fourth line said other l k)) p
