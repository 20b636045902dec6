-- The worked database has its reading.
use Rattle.std.proofs.Common.{◌≡◌, ◌≢◌, ℕ, zero, suc, ◌+◌, ◌<◌, ◌≤◌, inl, inr, Bool, true, false, List, [], ◌∷◌, ◌++◌, length, take, refl, sym, ◌∙◌, subst, arith, eqb-true}
use Rattle.std.proofs.lemmas.Bool.{and_parts, or_cases, leb-true, eqb-false, not-true}
use Rattle.std.proofs.lemmas.Str.{IsUtf8-from_is_utf8}
use Rattle.std.specs.Prelude.{◌==◌, ◌&&◌, ◌||◌, not, nat_le, count_by, codes, slice_index, slice_index_or, IsTrue, Some, None, IfSome}
use Rattle.std.specs.List.{AllByRecursion, AllZip, list_all}
use Rattle.std.specs.Str.{is_utf8, chars}
use lib.Utf8.{encode}
use Rattle.dict_text.specs.Number.{Spells, alphabet}
use Rattle.dict_text.specs.Characters.{is_control, has_control}
use Rattle.dict_text.specs.Lines.{text_lines}
use Rattle.dict_match.specs.Key.{reserved_key_of}
use Rattle.dict_match.proofs.Computing.{keys}
use Rattle.dict_index.specs.Cuts.{HasNo}
use Rattle.dict_index.specs.Limits.{most_lines, most_octets}
use Rattle.dict_index.specs.Line.{Line, IsLine, body_in}
use Rattle.dict_index.specs.Reserved.{is_reserved, is_known_reserved, title_in}
use Rattle.dict_index.specs.Tests.{PassesLine, IsHeadword, IsShown, IsText, IsTextOctet, HasShortLines, IsTitle, NoneHasKey}
use Rattle.dict_index.specs.Meaning.{IsReadEdition}
use Rattle.dict_index.specs.Refused.{PassesEach, PassLines, PassWholes}
use Rattle.dict_index.specs.Refusals.{line_tests}
use Rattle.dict_index.specs.Worked.{worked_index, worked_text, worked_reading, opal, fire_opal, dot}
use Rattle.dict_index.specs.declared.fault.EditionRefusal.{EditionRefusal}
use Rattle.dict_index.specs.declared.fault.EditionRefusal.TheVariants.{Columns, Number, Interval, Headword, Shown, BodyText, BodyLine, Reserved, ReservedTwice}
use Rattle.dict_text.proofs.AllLemmas.{all_of}
use Rattle.dict_index.proofs.GatherLemmas.{known_is_reserved}
use Rattle.dict_index.proofs.LineLemmas.{if_says, if_fourth}
use Rattle.dict_index.proofs.MeaningLemmas.{all_pass}

-- what a test computes of each element
all_from : {X : Type 0} (P : X → Type 0) (test : X → Bool) → ((x : X) → test x ≡ true → P x) → (xs : List X) → list_all test xs ≡ true → AllByRecursion P xs
all_from P test f [] e = tt
all_from P test f (x ∷ xs) e = (f x (and_parts (test x) (list_all test xs) e).0, all_from P test f xs (and_parts (test x) (list_all test xs) e).1)

not_true : (b : Bool) → not b ≡ true → ¬ IsTrue b
not_true true e k = let bad : false ≡ true = e in cc
not_true false e k = let bad : false ≡ true = k in cc

is_plain : ℕ → Bool
is_plain octet = not (is_control octet)

is_text_octet : ℕ → Bool
is_text_octet octet = (octet == 10) || ((octet == 9) || is_plain octet)

text_octet : (octet : ℕ) → is_text_octet octet ≡ true → IsTextOctet octet
unfolding is_plain is_text_octet
text_octet octet e = elim (or_cases (octet == 10) ((octet == 9) || not (is_control octet)) e) [
  | inl feed ↦ inl (eqb-true octet 10 feed)
  | inr other ↦ (elim (or_cases (octet == 9) (not (is_control octet)) other) [
    | inl blank ↦ inr (inl (eqb-true octet 9 blank))
    | inr plain ↦ inr (inr (not_true (is_control octet) plain))
  ])
]

-- the tests of a line that say nothing of its key
is_good : List ℕ → List ℕ → List ℕ → Bool
is_good headword body text = nat_le 1 (length headword) && (nat_le (length headword) 255 && (not (has_control headword) && (is_utf8 body && (list_all is_text_octet body && list_all (λ line. nat_le (length line) 1021) (text_lines body)))))

record Good (headword body : List ℕ) : Type 0 where
  some : 1 ≤ length headword
  few : length headword ≤ 255
  plain : has_control headword ≡ false
  is_text : IsText body
  short : HasShortLines body

good : (headword body text : List ℕ) → is_good headword body text ≡ true → Good headword body
unfolding is_good
good headword body text e =
    let a = and_parts _ _ e in
    let b = and_parts _ _ a.1 in
    let c = and_parts _ _ b.1 in
    let d = and_parts _ _ c.1 in
    let f = and_parts _ _ d.1 in
    record {
      some = leb-true _ _ a.0;
      few = leb-true _ _ b.0;
      plain = not-true (has_control headword) c.0;
      is_text = (IsUtf8-from_is_utf8 body d.0, all_from IsTextOctet is_text_octet text_octet body f.0);
      short = all_from (λ line. length line ≤ 1021) (λ line. nat_le (length line) 1021) (λ line. leb-true (length line) 1021) (text_lines body) f.1;
    }

-- a line that passes
passes_by : (text : List ℕ) (before : List (List ℕ)) (line : List ℕ) (said : Line) (l : IsLine line said) → l.fourth ≡ None → count_by (λ octet. octet == 9) line ≡ 2 → nat_le (said.offset + said.size) (length text) ≡ true
    → Good said.headword (body_in text said) → reserved_key_of said.headword ≢ [] → PassesLine Reserved text before line → PassesLine ReservedTwice text before line → (f : EditionRefusal) → PassesLine f text before line
passes_by text before line said l three tabs within g key reserved twice Columns = inl tabs
passes_by text before line said l three tabs within g key reserved twice Number = (said, l)
passes_by text before line said l three tabs within g key reserved twice Interval = if_says line said (λ said. said.offset + said.size ≤ length text) l (leb-true _ _ within)
passes_by text before line said l three tabs within g key reserved twice Headword = if_says line said (λ said. IsHeadword said.headword) l (g.some, g.few, g.plain, key)
passes_by text before line said l three tabs within g key reserved twice Shown = if_fourth line said IsShown l (subst (λ f. IfSome f IsShown) (sym three) tt)
passes_by text before line said l three tabs within g key reserved twice BodyText = if_says line said (λ said. IsText (body_in text said)) l g.is_text
passes_by text before line said l three tabs within g key reserved twice BodyLine = if_says line said (λ said. HasShortLines (body_in text said)) l g.short
passes_by text before line said l three tabs within g key reserved twice Reserved = reserved
passes_by text before line said l three tabs within g key reserved twice ReservedTwice = twice
passes_by text before line said l three tabs within g key reserved twice _ = tt

-- a line whose key isn't reserved
entry_passes : (text : List ℕ) (before : List (List ℕ)) (line : List ℕ) (said : Line) (l : IsLine line said) → l.fourth ≡ None → count_by (λ octet. octet == 9) line ≡ 2 → nat_le (said.offset + said.size) (length text) ≡ true
    → is_good said.headword (body_in text said) text ≡ true → reserved_key_of said.headword ≢ [] → is_reserved (reserved_key_of said.headword) ≡ false → (f : EditionRefusal) → PassesLine f text before line
entry_passes text before line said l three tabs within g key free f =
    passes_by text before line said l three tabs within (good _ _ text g) key
    (if_says line said (λ said. IsTrue (is_reserved (reserved_key_of said.headword)) → IsTrue (is_known_reserved (reserved_key_of said.headword))) l (λ e. absurd (reserved e)))
    (if_says line said (λ said. IsTrue (is_known_reserved (reserved_key_of said.headword)) → NoneHasKey before (reserved_key_of said.headword)) l (λ e. absurd (reserved (known_is_reserved (reserved_key_of said.headword) e)))) f
  where
    reserved : is_reserved (reserved_key_of said.headword) ≡ true → ⊥
    reserved e = let bad : false ≡ true = sym free ∙ e in cc

-- the first line, whose key is known
first_passes : (text line : List ℕ) (said : Line) (l : IsLine line said) → l.fourth ≡ None → count_by (λ octet. octet == 9) line ≡ 2 → nat_le (said.offset + said.size) (length text) ≡ true
    → is_good said.headword (body_in text said) text ≡ true → reserved_key_of said.headword ≢ [] → is_known_reserved (reserved_key_of said.headword) ≡ true → (f : EditionRefusal) → PassesLine f text [] line
first_passes text line said l three tabs within g key known f =
    passes_by text [] line said l three tabs within (good _ _ text g) key
    (if_says line said (λ said. IsTrue (is_reserved (reserved_key_of said.headword)) → IsTrue (is_known_reserved (reserved_key_of said.headword))) l (λ e. known))
    (λ other k e. tt) f

-- one digit spells its value
one_digit : (byte value : ℕ) → value < 64 → byte ≡ slice_index alphabet value → Spells (byte ∷ []) value
one_digit byte value small e = record { values = value ∷ []; digits = ((small, e), tt); number = omega arith; some = omega arith; short = omega arith; shortest = inl refl }

no_tab : (h : List ℕ) → list_all (λ x. not (x == 9)) h ≡ true → HasNo 9 h
no_tab h e = all_from (λ x. x ≢ 9) (λ x. not (x == 9)) (λ x t. eqb-false x 9 (not-true (x == 9) t)) h e

says_digits : (line h : List ℕ) (o s m n : ℕ) → line ≡ h ++ (9 ∷ o ∷ 9 ∷ s ∷ []) → list_all (λ x. not (x == 9)) h ≡ true → m < 64 → o ≡ slice_index alphabet m → n < 64 → s ≡ slice_index alphabet n
    → IsLine line (record { headword = h; offset = m; size = n; shown = h })
says_digits line h o s m n whole none m_small o_is n_small s_is =
    record { offset_text = o ∷ []; size_text = s ∷ []; fourth = None; whole = whole; no_tab = no_tab h none; fourth_no_tab = tt; offset = one_digit o m m_small o_is; size = one_digit s n n_small s_is; shown = refl }

short : Line
short = record { headword = codes "00-database-short"; offset = 0; size = 25; shown = codes "00-database-short" }

short_line : IsLine (codes "00-database-short\tA\tZ") short
unfolding short
short_line = says_digits (codes "00-database-short\tA\tZ") (codes "00-database-short") 65 90 0 25 refl refl (omega arith) refl (omega arith) refl

opal_line : IsLine (codes "opal\tZ\tP") opal
opal_line = says_digits (codes "opal\tZ\tP") (codes "opal") 90 80 25 15 refl refl (omega arith) refl (omega arith) refl

fire_line : IsLine (codes "Fire Opal\tZ\tP") fire_opal
fire_line = says_digits (codes "Fire Opal\tZ\tP") (codes "Fire Opal") 90 80 25 15 refl refl (omega arith) refl (omega arith) refl

dot_line : IsLine (codes "dot\to\tF") dot
dot_line = says_digits (codes "dot\to\tF") (codes "dot") 111 70 40 5 refl refl (omega arith) refl (omega arith) refl

worked_lines : List (List ℕ)
worked_lines = codes "00-database-short\tA\tZ" ∷ codes "opal\tZ\tP" ∷ codes "Fire Opal\tZ\tP" ∷ codes "dot\to\tF" ∷ []

lines_are : text_lines worked_index ≡ worked_lines
unfolding worked_lines
lines_are = refl

pass_short : (f : EditionRefusal) → PassesLine f worked_text [] (codes "00-database-short\tA\tZ")
unfolding keys chars encode is_utf8 short short_line says_digits is_good is_plain is_text_octet
pass_short = first_passes worked_text (codes "00-database-short\tA\tZ") short short_line refl refl refl refl (λ e. cc) refl

pass_opal : (before : List (List ℕ)) (f : EditionRefusal) → PassesLine f worked_text before (codes "opal\tZ\tP")
unfolding keys chars encode is_utf8 opal_line says_digits is_good is_plain is_text_octet
pass_opal before = entry_passes worked_text before (codes "opal\tZ\tP") opal opal_line refl refl refl refl (λ e. cc) refl

pass_fire : (before : List (List ℕ)) (f : EditionRefusal) → PassesLine f worked_text before (codes "Fire Opal\tZ\tP")
unfolding keys chars encode is_utf8 fire_line says_digits is_good is_plain is_text_octet
pass_fire before = entry_passes worked_text before (codes "Fire Opal\tZ\tP") fire_opal fire_line refl refl refl refl (λ e. cc) refl

pass_dot : (before : List (List ℕ)) (f : EditionRefusal) → PassesLine f worked_text before (codes "dot\to\tF")
unfolding keys chars encode is_utf8 dot_line says_digits is_good is_plain is_text_octet
pass_dot before = entry_passes worked_text before (codes "dot\to\tF") dot dot_line refl refl refl refl (λ e. cc) refl

pass_each : (k : ℕ) → k < length worked_lines → (f : EditionRefusal) → PassesLine f worked_text (take k worked_lines) (slice_index_or worked_lines k [])
unfolding worked_lines
pass_each zero lt f = pass_short f
pass_each (suc zero) lt f = pass_opal _ f
pass_each (suc (suc zero)) lt f = pass_fire _ f
pass_each (suc (suc (suc zero))) lt f = pass_dot _ f
pass_each (suc (suc (suc (suc k)))) lt f = absurd (omega arith)

pass_lines : (index text : List ℕ) (lines : List (List ℕ)) → lines ≡ text_lines index → ((k : ℕ) → k < length lines → (f : EditionRefusal) → PassesLine f text (take k lines) (slice_index_or lines k []))
    → PassLines index text (length (text_lines index))
pass_lines index text lines e h =
    subst (λ (ls : List (List ℕ)). (k : ℕ) → k < length ls → PassesEach line_tests text (take k ls) (slice_index_or ls k [])) e
    (λ k lt. all_of (λ f. PassesLine f text (take k lines) (slice_index_or lines k [])) (h k lt) line_tests)

wholes : PassWholes worked_index worked_text
unfolding is_utf8 chars encode
wholes = (
  leb-true (length worked_text) most_octets refl,
  (IsUtf8-from_is_utf8 worked_index refl, (inr (take 52 worked_index, refl), (leb-true (length (text_lines worked_index)) most_lines refl, tt))),
)

worked_said : List Line
worked_said = short ∷ opal ∷ fire_opal ∷ dot ∷ []

said_is : AllZip IsLine (text_lines worked_index) worked_said
unfolding worked_said
said_is = (short_line, (opal_line, (fire_line, (dot_line, tt))))

title_is : title_in worked_text worked_said ≡ Some (codes "Gems")
unfolding worked_said short keys chars encode
title_is = refl

good_title : IsTitle (codes "Gems")
good_title = (omega arith, omega arith, refl)

pub worked : IsReadEdition worked_index worked_text worked_reading
unfolding worked_said short keys chars encode
worked = record {
  passes = all_pass worked_index worked_text wholes (pass_lines worked_index worked_text worked_lines (sym lines_are) pass_each) worked_said said_is (codes "Gems") title_is good_title;
  lines = worked_said;
  said = said_is;
  entries = refl;
  title = title_is;
  info = refl;
  whole = refl;
}
