-- What a stored line says, and which line says it.
use Rattle.std.proofs.Common.{◌≡◌, ◌≢◌, ℕ, ◌+◌, ◌^◌, ◌<◌, ◌≤◌, List, [], ◌∷◌, ◌++◌, length, refl, ap, sym, ◌∙◌, subst, arith, Bool, true, false}
use Rattle.std.specs.Prelude.{Option, Some, None, IfSome, MatchOption, unwrap_or, bytes_eq, if◌then◌else◌, ◌||◌}
use Rattle.std.specs.Str.{IsUtf8}
use Rattle.std.specs.Borrow.{Bor}
use Rattle.std.proofs.lemmas.Slice.Eq.{bytes_eq-Decides}
use Rattle.dict_text.specs.Number.{Spells}
use Rattle.dict_text.specs.Characters.{is_control, has_control}
use Rattle.dict_index.specs.Cuts.{HasNo, IsCutAt, AreColumns}
use Rattle.dict_index.specs.Edition.{entry_in}
use Rattle.dict_index.specs.Line.{Line, IsLine, behind_tab}
use Rattle.dict_index.specs.WellFormed.{IsWellFormedEntry}
use Rattle.dict_index.proofs.CutLemmas.{one_cut}
use Rattle.dict_index.proofs.LineLemmas.{one_said, columns_of_line, columns_from_line}
use Rattle.store_rows.specs.Spelling.{spelling}
use Rattle.store_rows.specs.Stored.{IsColumn, IsStorable, fourth_column, stored_line, saying}
use Rattle.store_rows.specs.Views.{columns_line}
use Rattle.store_rows.specs.declared.reading.StoredColumns.{StoredColumns}
use Rattle.store_rows.proofs.SpellingLemmas.{spelled, spelling_is}
use Rattle.store_rows.proofs.OctetLemmas.{no_append, no_front, no_back, spelled_no_newline}

false_or_true : (P : Type 0) → false ≡ true → P
false_or_true P e = cc

not_true : (b : Bool) → b ≢ true → b ≡ false
not_true true other = absurd (other refl)
not_true false other = refl

-- ---- what is shown, and the fourth column

chosen : List ℕ → Bool → Option (List ℕ)
chosen shown b = if b then None else Some shown

pub fourth_none : (h s : List ℕ) → s ≡ h → fourth_column h s ≡ None
unfolding chosen
fourth_none h s e = ap (chosen s) ((bytes_eq-Decides s h).1 e)

pub fourth_some : (h s : List ℕ) → s ≢ h → fourth_column h s ≡ Some s
unfolding chosen
fourth_some h s other = ap (chosen s) (not_true (bytes_eq s h) (λ same. other ((bytes_eq-Decides s h).0 same)))

pub shown_by : (h s : List ℕ) → s ≡ unwrap_or (fourth_column h s) h
shown_by h s = by_test (bytes_eq s h) refl
  where
    by_test : (b : Bool) → bytes_eq s h ≡ b → s ≡ unwrap_or (if b then None else Some s) h
    by_test true e = (bytes_eq-Decides s h).0 e
    by_test false e = refl

fourth_has_no : (b : ℕ) (h s : List ℕ) → HasNo b s → IfSome (fourth_column h s) (HasNo b)
fourth_has_no b h s none = by_test (bytes_eq s h)
  where
    by_test : (t : Bool) → IfSome (if t then None else Some s) (HasNo b)
    by_test true = tt
    by_test false = none

pub from_fourth : (h s : List ℕ) (f : Option (List ℕ)) → s ≡ unwrap_or f h → f ≢ Some h → f ≡ fourth_column h s
from_fourth h s None e other = sym (fourth_none h s e)
from_fourth h s (Some column) e other = ap Some (sym e) ∙ sym (fourth_some h s (λ same. other (ap Some (sym e ∙ same))))

-- ---- a stored line

pub is_line : (line : List ℕ) (said : Line) → IsStorable said → line ≡ stored_line said → IsLine line said
unfolding stored_line
is_line line said storable e = record {
  offset_text = spelling said.offset;
  size_text = spelling said.size;
  fourth = fourth_column said.headword said.shown;
  whole = e;
  no_tab = storable.headword.no_tab;
  fourth_no_tab = fourth_has_no 9 said.headword said.shown storable.shown.no_tab;
  offset = spelled said.offset storable.offset;
  size = spelled said.size storable.size;
  shown = shown_by said.headword said.shown;
}

pub only_stored : (line : List ℕ) (said : Line) (is : IsLine line said) → is.fourth ≢ Some said.headword → line ≡ stored_line said
unfolding stored_line
only_stored line said is other =
    is.whole
    ∙ (ap (λ o. said.headword ++ (9 ∷ o ++ (9 ∷ is.size_text ++ behind_tab is.fourth))) (spelling_is is.offset_text said.offset is.offset)
    ∙ (ap (λ s. said.headword ++ (9 ∷ spelling said.offset ++ (9 ∷ s ++ behind_tab is.fourth))) (spelling_is is.size_text said.size is.size)
    ∙ ap (λ f. said.headword ++ (9 ∷ spelling said.offset ++ (9 ∷ spelling said.size ++ behind_tab f))) (from_fourth said.headword said.shown is.fourth is.shown other)))

pub says_one : (s t : Line) → IsStorable s → IsStorable t → stored_line s ≡ stored_line t → s ≡ t
says_one s t h k e = one_said (stored_line s) s t (is_line (stored_line s) s h refl) (is_line (stored_line s) t k e)

-- ---- what is read of a line

-- columns of which a stored line is made
pub line_from_columns : (line h o s shown : List ℕ) (f : Option (List ℕ)) (m n : ℕ) → AreColumns line h o s f → Spells o m → Spells s n → m < 64 ^ 6 → n < 64 ^ 6
    → IsUtf8 h → IsUtf8 shown → f ≡ fourth_column h shown → HasNo 10 line → IsStorable (saying h m n shown) × (line ≡ stored_line (saying h m n shown))
unfolding stored_line
line_from_columns line h o s shown f m n c p q small few t u e none = (
  record {
    headword = record { utf8 = t; no_tab = c.first_none; no_newline = first };
    shown = record { utf8 = u; no_tab = shown_none 9 f shown_is c.first_none c.fourth_none; no_newline = shown_none 10 f shown_is first (of_fourth f last) };
    offset = small;
    size = few;
  },
  c.whole
      ∙ (ap (λ l. h ++ (9 ∷ l ++ (9 ∷ s ++ behind_tab f))) (spelling_is o m p)
      ∙ (ap (λ l. h ++ (9 ∷ spelling m ++ (9 ∷ l ++ behind_tab f))) (spelling_is s n q)
      ∙ ap (λ g. h ++ (9 ∷ spelling m ++ (9 ∷ spelling n ++ behind_tab g))) e)),
)
  where
    shown_is : shown ≡ unwrap_or f h
    shown_is = shown_by h shown ∙ ap (λ g. unwrap_or g h) (sym e)

    whole : HasNo 10 (h ++ (9 ∷ o ++ (9 ∷ s ++ behind_tab f)))
    whole = subst (HasNo 10) c.whole none

    first : HasNo 10 h
    first = no_front 10 h (9 ∷ o ++ (9 ∷ s ++ behind_tab f)) whole

    last : HasNo 10 (behind_tab f)
    last = no_back 10 s (behind_tab f) (no_back 10 o (9 ∷ s ++ behind_tab f) (no_back 10 h (9 ∷ o ++ (9 ∷ s ++ behind_tab f)) whole).1).1

    of_fourth : (g : Option (List ℕ)) → HasNo 10 (behind_tab g) → IfSome g (HasNo 10)
    of_fourth None lacks = tt
    of_fourth (Some column) lacks = lacks.1

    shown_none : (b : ℕ) (g : Option (List ℕ)) → shown ≡ unwrap_or g h → HasNo b h → IfSome g (HasNo b) → HasNo b shown
    shown_none b None is headword fourth = subst (HasNo b) (sym is) headword
    shown_none b (Some column) is headword fourth = subst (HasNo b) (sym is) fourth

-- what the columns of a stored line are
pub columns_of_stored : (line h o s : List ℕ) (f : Option (List ℕ)) (said : Line) → AreColumns line h o s f → IsStorable said → line ≡ stored_line said
    → (said.headword ≡ h) × Spells o said.offset × Spells s said.size × (fourth_column said.headword said.shown ≡ f)
unfolding is_line
columns_of_stored line h o s f said c storable e = columns_of_line line h o s f said c (is_line line said storable e)

pub are_columns : (line : List ℕ) (said : Line) → IsStorable said → line ≡ stored_line said → AreColumns line said.headword (spelling said.offset) (spelling said.size) (fourth_column said.headword said.shown)
unfolding is_line
are_columns line said storable e = columns_from_line line said (is_line line said storable e)

-- ---- a stored line has no LF

pub no_newline : (said : Line) → IsStorable said → HasNo 10 (stored_line said)
unfolding stored_line
no_newline said storable =
    no_append 10 said.headword (9 ∷ spelling said.offset ++ (9 ∷ spelling said.size ++ behind_tab (fourth_column said.headword said.shown))) storable.headword.no_newline (
      (λ same. omega arith),
      no_append 10 (spelling said.offset) (9 ∷ spelling said.size ++ behind_tab (fourth_column said.headword said.shown)) (spelled_no_newline (spelling said.offset) said.offset (spelled said.offset storable.offset)) (
        (λ same. omega arith),
        no_append 10 (spelling said.size) (behind_tab (fourth_column said.headword said.shown)) (spelled_no_newline (spelling said.size) said.size (spelled said.size storable.size))
            (behind_tab_no (fourth_column said.headword said.shown) (fourth_has_no 10 said.headword said.shown storable.shown.no_newline)),
      ),
    )
  where
    behind_tab_no : (f : Option (List ℕ)) → IfSome f (HasNo 10) → HasNo 10 (behind_tab f)
    behind_tab_no None h = tt
    behind_tab_no (Some column) h = ((λ same. omega arith), h)

-- ---- octets that begin with a stored line

pub first_is : (octets line behind rest : List ℕ) (said : Line) → IsCutAt 10 octets line behind → IsStorable said → octets ≡ stored_line said ++ 10 ∷ rest → (line ≡ stored_line said) × (behind ≡ rest)
first_is octets line behind rest said cut storable e = one_cut 10 line behind (stored_line said) rest cut.none (no_newline said storable) (sym cut.whole ∙ e)

pub one_first : (s t : Line) (a b : List ℕ) → IsStorable s → IsStorable t → stored_line s ++ 10 ∷ a ≡ stored_line t ++ 10 ∷ b → (s ≡ t) × (a ≡ b)
one_first s t a b h k e =
    let parts = one_cut 10 (stored_line s) a (stored_line t) b (no_newline s h) (no_newline t k) e in
    (says_one s t h k parts.0, parts.1)

-- ---- of lawful entries

no_control_has_no : (b : ℕ) → is_control b ≡ true → (xs : List ℕ) → has_control xs ≡ false → HasNo b xs
no_control_has_no b control [] h = tt
no_control_has_no b control (x ∷ xs) h = ((λ same. false_or_true ⊥ (sym (front (is_control x) (has_control xs) h) ∙ (ap is_control same ∙ control))), no_control_has_no b control xs (behind (is_control x) (has_control xs) h))
  where
    front : (p q : Bool) → (p || q) ≡ false → p ≡ false
    front true q e = false_or_true (true ≡ false) (sym e)
    front false q e = refl

    behind : (p q : Bool) → (p || q) ≡ false → q ≡ false
    behind true q e = false_or_true (q ≡ false) (sym e)
    behind false q e = e

column_of : (text : List ℕ) → IsUtf8 text → has_control text ≡ false → IsColumn text
column_of text utf8 none = record { utf8 = utf8; no_tab = no_control_has_no 9 refl text none; no_newline = no_control_has_no 10 refl text none }

pub of_entries : (text : List ℕ) (said : Line) → length text < 64 ^ 6 → said.offset + said.size ≤ length text → IsWellFormedEntry (entry_in text said) → IsStorable said
of_entries text said short within lawful = record {
  headword = column_of said.headword lawful.headword.0 lawful.headword.1.2;
  shown = column_of said.shown lawful.shown.0 lawful.shown.1.2;
  offset = omega arith;
  size = omega arith;
}

-- what was said is read
pub same_read : (octets : List ℕ) (found : Option (StoredColumns × Bor (List ℕ)))
    → MatchOption found ((said : Line) (rest : List ℕ) → IsStorable said → octets ≢ stored_line said ++ 10 ∷ rest) (λ read. IsStorable (columns_line read.0) × (octets ≡ stored_line (columns_line read.0) ++ 10 ∷ read.1.now))
    → (said : Line) (rest : List ℕ) → IsStorable said → octets ≡ stored_line said ++ 10 ∷ rest → MatchOption found ⊥ (λ read. (columns_line read.0 ≡ said) × (read.1.now ≡ rest))
same_read octets None h said rest storable e = h said rest storable e
same_read octets (Some read) h said rest storable e = one_first (columns_line read.0) said read.1.now rest h.0 storable (sym h.1 ∙ e)
