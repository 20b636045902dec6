-- Each test passes or fails.
use Rattle.std.proofs.Common.{◌≡◌, ◌≢◌, ℕ, zero, suc, ◌+◌, ◌<◌, ◌≤◌, ◌⊎◌, inl, inr, Bool, true, false, List, [], ◌∷◌, ◌++◌, length, refl, sym, ap, ◌∙◌, arith, append-nil}
use Rattle.std.proofs.lemmas.Bool.{cases_lt, cases_eq}
use Rattle.std.proofs.lemmas.Slice.Eq.{bytes_eq-Decides}
use Rattle.std.proofs.lemmas.Str.{IsUtf8-from_is_utf8, is_utf8-from_IsUtf8}
use Rattle.std.specs.Prelude.{◌==◌, count_by, slice_index, IsTrue, Option, Some, None, IfSome, unwrap_or}
use Rattle.std.specs.List.{AllByRecursion, AllZip}
use Rattle.std.specs.Str.{IsUtf8, is_utf8, bytes_eq}
use Rattle.dict_text.specs.Number.{Spells, IsDigit, alphabet, number_of}
use Rattle.dict_text.specs.Faults.{IsSomeDigit}
use Rattle.dict_text.specs.Characters.{is_control, has_control}
use Rattle.dict_text.specs.Lines.{text_lines}
use Rattle.dict_match.specs.Key.{reserved_key_of}
use Rattle.dict_index.specs.Cuts.{AreLast, AreColumns}
use Rattle.dict_index.specs.Line.{Line, IsLine, body_in}
use Rattle.dict_index.specs.Reserved.{is_reserved, is_known_reserved}
use Rattle.dict_index.specs.Tests.{PassesLine, IfSays, IfFourth, IsHeadword, IsShown, IsTextOctet, IsText, HasShortLines, NoneHasKey, IsTitle, EndsByLineFeed}
use Rattle.dict_index.specs.declared.fault.EditionRefusal.{EditionRefusal}
use Rattle.dict_index.specs.declared.fault.EditionRefusal.TheVariants.{Columns, Number, Interval, Headword, Shown, BodyText, BodyLine, Reserved, ReservedTwice}
use Rattle.dict_index.proofs.CutLemmas.{count_none, count_cut, count_columns}
use Rattle.dict_index.proofs.TextLemmas.{cut_or_none}
use Rattle.dict_index.proofs.LineLemmas.{columns_of_line, columns_from_line, if_says, if_fourth}

-- it holds or it doesn't
abbrev pub Decided : Type 0 → Type 0
Decided P = P ⊎ ¬ P

both : (P Q : Type 0) → Decided P → Decided Q → Decided (P × Q)
both P Q (inl p) (inl q) = inl (p, q)
both P Q (inl p) (inr bad) = inr (λ h. bad h.1)
both P Q (inr bad) q = inr (λ h. bad h.0)

either : (P Q : Type 0) → Decided P → Decided Q → Decided (P ⊎ Q)
either P Q (inl p) q = inl (inl p)
either P Q (inr bad) (inl q) = inl (inr q)
either P Q (inr bad) (inr worse) = inr (λ h. elim h [ inl p ↦ bad p | inr q ↦ worse q ])

opposite : (P : Type 0) → Decided P → Decided (¬ P)
opposite P (inl p) = inr (λ bad. bad p)
opposite P (inr bad) = inl bad

implied : (P Q : Type 0) → Decided P → Decided Q → Decided (P → Q)
implied P Q (inl p) (inl q) = inl (λ _. q)
implied P Q (inl p) (inr bad) = inr (λ h. bad (h p))
implied P Q (inr bad) q = inl (λ p. absurd (bad p))

same_as : (P Q : Type 0) → (P → Q) → (Q → P) → Decided P → Decided Q
same_as P Q f g (inl p) = inl (f p)
same_as P Q f g (inr bad) = inr (λ q. bad (g q))

all : {X : Type 0} (P : X → Type 0) → ((x : X) → Decided (P x)) → (xs : List X) → Decided (AllByRecursion P xs)
all P d [] = inl tt
all P d (x ∷ xs) = both (P x) (AllByRecursion P xs) (d x) (all P d xs)

is_true : (b : Bool) → Decided (IsTrue b)
is_true true = inl refl
is_true false = inr (λ e. let bad : false ≡ true = e in cc)

is_false : (b : Bool) → Decided (b ≡ false)
is_false true = inr (λ e. let bad : true ≡ false = e in cc)
is_false false = inl refl

pub at_most : (a b : ℕ) → Decided (a ≤ b)
at_most a b = elim (cases_lt b a) [ inl more ↦ inr (λ le. omega arith) | inr few ↦ inl few ]

same_list : (xs ys : List ℕ) → Decided (xs ≡ ys)
same_list xs ys = by_test (bytes_eq xs ys) refl
  where
    by_test : (b : Bool) → bytes_eq xs ys ≡ b → Decided (xs ≡ ys)
    by_test true e = inl ((bytes_eq-Decides xs ys).0 e)
    by_test false e = inr (λ same. let bad : false ≡ true = sym e ∙ (bytes_eq-Decides xs ys).1 same in cc)

pub utf8 : (octets : List ℕ) → Decided (IsUtf8 octets)
utf8 octets = by_test (is_utf8 octets) refl
  where
    by_test : (b : Bool) → is_utf8 octets ≡ b → Decided (IsUtf8 octets)
    by_test true e = inl (IsUtf8-from_is_utf8 octets e)
    by_test false e = inr (λ u. let bad : false ≡ true = sym e ∙ is_utf8-from_IsUtf8 octets u in cc)

-- a value below n at which the octet stands, or none
value_below : (at : ℕ → ℕ) (b n : ℕ) → ((v : ℕ) × (v < n) × (b ≡ at v)) ⊎ ((v : ℕ) → v < n → b ≡ at v → ⊥)
value_below at b zero = inr (λ v lt e. omega arith)
value_below at b (suc n) = by_last (cases_eq b (at n)) (value_below at b n)
  where
    by_last : (b ≡ at n) ⊎ (b ≡ at n → ⊥) → ((v : ℕ) × (v < n) × (b ≡ at v)) ⊎ ((v : ℕ) → v < n → b ≡ at v → ⊥) → ((v : ℕ) × (v < suc n) × (b ≡ at v)) ⊎ ((v : ℕ) → v < suc n → b ≡ at v → ⊥)
    by_last (inl here) earlier = inl (n, omega arith, here)
    by_last (inr other) (inl found) = inl (found.0, (let lt = found.1 in omega arith), found.2)
    by_last (inr other) (inr none) = inr (λ v lt e. elim (cases_lt v n) [
      | inl below ↦ none v below e
      | inr not_below ↦ (let same : v ≡ n = omega arith in other (e ∙ ap at same))
    ])

digit : (b : ℕ) → Decided (IsSomeDigit b)
digit b = elim (value_below (slice_index alphabet) b 64) [
  | inl found ↦ inl (found.0, (found.1, found.2))
  | inr none ↦ inr (λ h. none h.0 h.1.0 h.1.1)
]

Digits : List ℕ → Type 0
Digits s = (values : List ℕ) × AllZip IsDigit s values

first_digit : (b : ℕ) (s vs : List ℕ) → AllZip IsDigit (b ∷ s) vs → IsSomeDigit b
first_digit b s [] h = absurd h
first_digit b s (v ∷ vs) h = (v, h.0)

other_digits : (b : ℕ) (s vs : List ℕ) → AllZip IsDigit (b ∷ s) vs → Digits s
unfolding Digits
other_digits b s [] h = absurd h
other_digits b s (v ∷ vs) h = (vs, h.1)

digits : (s : List ℕ) → Decided (Digits s)
unfolding Digits
digits [] = inl ([], tt)
digits (b ∷ s) = same_as (IsSomeDigit b × Digits s) (Digits (b ∷ s)) (λ h. (h.0.0 ∷ h.1.0, (h.0.1, h.1.1))) (λ h. (first_digit b s h.0 h.1, other_digits b s h.0 h.1)) (both (IsSomeDigit b) (Digits s) (digit b) (digits s))

IsShort : List ℕ → Type 0
IsShort s = (1 ≤ length s) × ((length s ≤ 6) × ((length s ≡ 1) ⊎ (slice_index s 0 ≢ slice_index alphabet 0)))

is_short : (s : List ℕ) → Decided (IsShort s)
unfolding IsShort
is_short s = both (1 ≤ length s) ((length s ≤ 6) × ((length s ≡ 1) ⊎ (slice_index s 0 ≢ slice_index alphabet 0))) (at_most 1 (length s))
    (both (length s ≤ 6) ((length s ≡ 1) ⊎ (slice_index s 0 ≢ slice_index alphabet 0)) (at_most (length s) 6)
    (either (length s ≡ 1) (slice_index s 0 ≢ slice_index alphabet 0) (cases_eq (length s) 1) (opposite (slice_index s 0 ≡ slice_index alphabet 0) (cases_eq (slice_index s 0) (slice_index alphabet 0)))))

spelled : (s : List ℕ) → Decided ((n : ℕ) × Spells s n)
unfolding Digits IsShort
spelled s = same_as (Digits s × IsShort s) ((n : ℕ) × Spells s n)
    (λ h. (number_of h.0.0, record { values = h.0.0; digits = h.0.1; number = refl; some = h.1.0; short = h.1.1.0; shortest = h.1.1.1 }))
    (λ h. ((h.1.values, h.1.digits), (h.1.some, (h.1.short, h.1.shortest))))
    (both (Digits s) (IsShort s) (digits s) (is_short s))

-- the last columns, or there are two tabs or more
HasLast : List ℕ → Type 0
HasLast rest = (s : List ℕ) × (f : Option (List ℕ)) × AreLast rest s f

last_columns : (rest : List ℕ) → HasLast rest ⊎ (2 ≤ count_by (λ x. x == 9) rest)
unfolding HasLast
last_columns rest = elim (cut_or_none 9 rest) [
  | inl none ↦ inl (rest, None, record { whole = sym (append-nil rest); third_none = none; fourth_none = tt })
  | inr c ↦ (elim (cut_or_none 9 c.1) [
    | inl none ↦ inl (c.0, Some c.1, record { whole = c.2.whole; third_none = c.2.none; fourth_none = none })
    | inr d ↦ inr (omega (arith, count_cut 9 rest c.0 c.1 c.2, count_cut 9 c.1 d.0 d.1 d.2))
  ])
]

-- the columns of a line, or it hasn't two tabs or three
HasColumns : List ℕ → Type 0
HasColumns line = (h : List ℕ) × (o : List ℕ) × (s : List ℕ) × (f : Option (List ℕ)) × AreColumns line h o s f

HasOtherTabs : List ℕ → Type 0
HasOtherTabs line = (count_by (λ x. x == 9) line ≢ 2) × (count_by (λ x. x == 9) line ≢ 3)

columns : (line : List ℕ) → HasColumns line ⊎ HasOtherTabs line
unfolding HasColumns HasLast HasOtherTabs
columns line = elim (cut_or_none 9 line) [
  | inl none ↦ inr ((λ e. omega (arith, e, count_none 9 line none)), (λ e. omega (arith, e, count_none 9 line none)))
  | inr c ↦ (elim (cut_or_none 9 c.1) [
    | inl none ↦ inr ((λ e. omega (arith, e, count_cut 9 line c.0 c.1 c.2, count_none 9 c.1 none)), (λ e. omega (arith, e, count_cut 9 line c.0 c.1 c.2, count_none 9 c.1 none)))
    | inr d ↦ (elim (last_columns d.1) [
      | inl last ↦ inl (
        c.0,
        d.0,
        last.0,
        last.1,
        record {
          whole = c.2.whole ∙ ap (λ l. c.0 ++ 9 ∷ l) (d.2.whole ∙ ap (λ l. d.0 ++ 9 ∷ l) last.2.whole);
          first_none = c.2.none;
          second_none = d.2.none;
          third_none = last.2.third_none;
          fourth_none = last.2.fourth_none;
        },
      )
      | inr more ↦ inr ((λ e. omega (arith, e, count_cut 9 line c.0 c.1 c.2, count_cut 9 c.1 d.0 d.1 d.2)), (λ e. omega (arith, e, count_cut 9 line c.0 c.1 c.2, count_cut 9 c.1 d.0 d.1 d.2)))
    ])
  ])
]

-- what a line says, or it says nothing
pub says : (line : List ℕ) → Decided ((said : Line) × IsLine line said)
unfolding HasColumns HasOtherTabs
says line = elim (columns line) [
  | inr other ↦ inr (λ h. elim (count_columns line h.0.headword h.1.offset_text h.1.size_text h.1.fourth (columns_from_line line h.0 h.1)) [ inl two ↦ other.0 two | inr three ↦ other.1 three ])
  | inl c ↦ same_as (((m : ℕ) × Spells c.1 m) × ((n : ℕ) × Spells c.2 n)) ((said : Line) × IsLine line said)
      (λ h. (
        record { headword = c.0; offset = h.0.0; size = h.1.0; shown = unwrap_or c.3 c.0 },
        record { offset_text = c.1; size_text = c.2; fourth = c.3; whole = c.4.whole; no_tab = c.4.first_none; fourth_no_tab = c.4.fourth_none; offset = h.0.1; size = h.1.1; shown = refl },
      ))
      (λ h. let parts = columns_of_line line c.0 c.1 c.2 c.3 h.0 c.4 h.1 in ((h.0.offset, parts.1), (h.0.size, parts.2)))
      (both ((m : ℕ) × Spells c.1 m) ((n : ℕ) × Spells c.2 n) (spelled c.1) (spelled c.2))
]

if_it_says : (line : List ℕ) (P : Line → Type 0) → ((said : Line) → Decided (P said)) → Decided (IfSays line P)
if_it_says line P d = elim (says line) [
  | inl s ↦ same_as (P s.0) (IfSays line P) (λ p. if_says line s.0 P s.1 p) (λ f. f s.0 s.1) (d s.0)
  | inr silent ↦ inl (λ said l. absurd (silent (said, l)))
]

if_some : (o : Option (List ℕ)) (P : List ℕ → Type 0) → ((octets : List ℕ) → Decided (P octets)) → Decided (IfSome o P)
if_some None P d = inl tt
if_some (Some octets) P d = d octets

if_it_has_fourth : (line : List ℕ) (P : List ℕ → Type 0) → ((octets : List ℕ) → Decided (P octets)) → Decided (IfFourth line P)
if_it_has_fourth line P d = elim (says line) [
  | inl s ↦ same_as (IfSome s.1.fourth P) (IfFourth line P) (λ p. if_fourth line s.0 P s.1 p) (λ f. f s.0 s.1) (if_some s.1.fourth P d)
  | inr silent ↦ inl (λ said l. absurd (silent (said, l)))
]

no_control : (octets : List ℕ) → Decided (has_control octets ≡ false)
no_control octets = is_false (has_control octets)

is_headword : (h : List ℕ) → Decided (IsHeadword h)
is_headword h = same_as ((1 ≤ length h) × ((length h ≤ 255) × ((has_control h ≡ false) × (reserved_key_of h ≢ [])))) (IsHeadword h)
    (λ p. (p.0, p.1.0, p.1.1.0, p.1.1.1)) (λ p. (p.0, (p.1, (p.2, p.3))))
    (both (1 ≤ length h) ((length h ≤ 255) × ((has_control h ≡ false) × (reserved_key_of h ≢ []))) (at_most 1 (length h))
    (both (length h ≤ 255) ((has_control h ≡ false) × (reserved_key_of h ≢ [])) (at_most (length h) 255)
    (both ((has_control h ≡ false)) (reserved_key_of h ≢ []) (no_control h) (opposite (reserved_key_of h ≡ []) (same_list (reserved_key_of h) [])))))

is_shown : (h : List ℕ) → Decided (IsShown h)
is_shown h = same_as ((1 ≤ length h) × ((length h ≤ 255) × (has_control h ≡ false))) (IsShown h)
    (λ p. (p.0, p.1.0, p.1.1)) (λ p. (p.0, (p.1, p.2)))
    (both (1 ≤ length h) ((length h ≤ 255) × (has_control h ≡ false)) (at_most 1 (length h)) (both (length h ≤ 255) ((has_control h ≡ false)) (at_most (length h) 255) (no_control h)))

pub is_title : (t : List ℕ) → Decided (IsTitle t)
is_title t = same_as ((1 ≤ length t) × ((length t ≤ 200) × (has_control t ≡ false))) (IsTitle t)
    (λ p. (p.0, p.1.0, p.1.1)) (λ p. (p.0, (p.1, p.2)))
    (both (1 ≤ length t) ((length t ≤ 200) × (has_control t ≡ false)) (at_most 1 (length t)) (both (length t ≤ 200) ((has_control t ≡ false)) (at_most (length t) 200) (no_control t)))

is_text_octet : (x : ℕ) → Decided (IsTextOctet x)
is_text_octet x = same_as ((x ≡ 10) ⊎ ((x ≡ 9) ⊎ ¬ IsTrue (is_control x))) (IsTextOctet x) (λ h. h) (λ h. h)
    (either (x ≡ 10) ((x ≡ 9) ⊎ ¬ IsTrue (is_control x)) (cases_eq x 10) (either (x ≡ 9) (¬ IsTrue (is_control x)) (cases_eq x 9) (opposite (IsTrue (is_control x)) (is_true (is_control x)))))

is_text : (octets : List ℕ) → Decided (IsText octets)
is_text octets = both (IsUtf8 octets) (AllByRecursion IsTextOctet octets) (utf8 octets) (all IsTextOctet is_text_octet octets)

none_has_key : (lines : List (List ℕ)) (key : List ℕ) → Decided (NoneHasKey lines key)
none_has_key lines key = all (λ line. IfSays line (λ said. reserved_key_of said.headword ≢ key))
    (λ line. if_it_says line (λ said. reserved_key_of said.headword ≢ key) (λ said. opposite (reserved_key_of said.headword ≡ key) (same_list (reserved_key_of said.headword) key))) lines

-- a test of a line
pub line_test : (f : EditionRefusal) (text : List ℕ) (before : List (List ℕ)) (line : List ℕ) → Decided (PassesLine f text before line)
line_test Columns text before line = either (count_by (λ octet. octet == 9) line ≡ 2) (count_by (λ octet. octet == 9) line ≡ 3) (cases_eq (count_by (λ octet. octet == 9) line) 2) (cases_eq (count_by (λ octet. octet == 9) line) 3)
line_test Number text before line = says line
line_test Interval text before line = if_it_says line (λ said. said.offset + said.size ≤ length text) (λ said. at_most (said.offset + said.size) (length text))
line_test Headword text before line = if_it_says line (λ said. IsHeadword said.headword) (λ said. is_headword said.headword)
line_test Shown text before line = if_it_has_fourth line IsShown is_shown
line_test BodyText text before line = if_it_says line (λ said. IsText (body_in text said)) (λ said. is_text (body_in text said))
line_test BodyLine text before line = if_it_says line (λ said. HasShortLines (body_in text said)) (λ said. all (λ l. length l ≤ 1021) (λ l. at_most (length l) 1021) (text_lines (body_in text said)))
line_test Reserved text before line = if_it_says line (λ said. IsTrue (is_reserved (reserved_key_of said.headword)) → IsTrue (is_known_reserved (reserved_key_of said.headword)))
    (λ said. implied (IsTrue (is_reserved (reserved_key_of said.headword))) (IsTrue (is_known_reserved (reserved_key_of said.headword))) (is_true (is_reserved (reserved_key_of said.headword)))
    (is_true (is_known_reserved (reserved_key_of said.headword))))
line_test ReservedTwice text before line = if_it_says line (λ said. IsTrue (is_known_reserved (reserved_key_of said.headword)) → NoneHasKey before (reserved_key_of said.headword))
    (λ said. implied (IsTrue (is_known_reserved (reserved_key_of said.headword))) (NoneHasKey before (reserved_key_of said.headword)) (is_true (is_known_reserved (reserved_key_of said.headword)))
    (none_has_key before (reserved_key_of said.headword)))
line_test _ text before line = inl tt

-- an index ends by LF, or not
longer_end : (x y : ℕ) (t : List ℕ) → Decided (EndsByLineFeed (y ∷ t)) → Decided (EndsByLineFeed (x ∷ y ∷ t))
longer_end x y t d = same_as (EndsByLineFeed (y ∷ t)) (EndsByLineFeed (x ∷ y ∷ t)) longer shorter d
  where
    longer : EndsByLineFeed (y ∷ t) → EndsByLineFeed (x ∷ y ∷ t)
    longer (inl e) = absurd (cc)
    longer (inr h) = inr (x ∷ h.0, ap (λ l. x ∷ l) h.1)

    behind : (front : List ℕ) → x ∷ y ∷ t ≡ front ++ 10 ∷ [] → EndsByLineFeed (y ∷ t)
    behind [] e = absurd (cc)
    behind (z ∷ front) e = inr (front, cc)

    shorter : EndsByLineFeed (x ∷ y ∷ t) → EndsByLineFeed (y ∷ t)
    shorter (inl e) = absurd (cc)
    shorter (inr h) = behind h.0 h.1

one_end : (x : ℕ) → EndsByLineFeed (x ∷ []) → x ≡ 10
one_end x (inl e) = absurd (cc)
one_end x (inr h) = at_front h.0 h.1
  where
    at_front : (front : List ℕ) → x ∷ [] ≡ front ++ 10 ∷ [] → x ≡ 10
    at_front [] e = cc
    at_front (z ∷ []) e = absurd (cc)
    at_front (z ∷ w ∷ front) e = absurd (cc)

pub ends : (index : List ℕ) → Decided (EndsByLineFeed index)
ends [] = inl (inl refl)
ends (x ∷ []) = same_as (x ≡ 10) (EndsByLineFeed (x ∷ [])) (λ e. inr ([], ap (λ y. y ∷ []) e)) (one_end x) (cases_eq x 10)
ends (x ∷ y ∷ t) = longer_end x y t (ends (y ∷ t))
