-- An index and a text mean one thing at most.
use Rattle.std.proofs.Common.{◌≡◌, ℕ, ◌+◌, ◌⊎◌, inl, inr, List, length, sym, ap, ◌∙◌, subst, arith}
use Rattle.std.proofs.lemmas.Bool.{cases_lt, cases_order}
use Rattle.std.specs.Prelude.{Option, Some}
use Rattle.dict_text.specs.Lines.{text_lines}
use Rattle.dict_index.specs.Line.{Line}
use Rattle.dict_index.specs.Edition.{ReadEdition}
use Rattle.dict_index.specs.Reserved.{title_in, info_in}
use Rattle.dict_index.specs.Refusals.{whole_tests, line_tests}
use Rattle.dict_index.specs.Order.{rank, IsOfLine, Precedes}
use Rattle.dict_index.specs.Meaning.{IsReadEdition, IsFault, TellsLine, entry_lines}
use Rattle.dict_index.specs.declared.fault.EditionRefusal.{EditionRefusal}
use Rattle.dict_index.proofs.OrderLemmas.{one_rank}
use Rattle.dict_index.proofs.MeaningLemmas.{all_said_one}

-- a test is one of a line, or it isn't
of_line_or_not : (f : EditionRefusal) → IsOfLine f ⊎ ¬ IsOfLine f
of_line_or_not f = elim (cases_lt (rank f) (length whole_tests)) [
  | inl low ↦ inr (λ o. let least = o.0 in omega arith)
  | inr high ↦ (elim (cases_lt (rank f) (length whole_tests + length line_tests)) [ inl within ↦ inl (high, omega arith) | inr above ↦ inr (λ o. let most = o.1 in omega arith) ])
]

-- of two tests one is made before the other, or they are one
AreOne : EditionRefusal → ℕ → EditionRefusal → ℕ → Type 0
AreOne f j g k = (f ≡ g) × (IsOfLine f → j ≡ k)

both_of_line : (f : EditionRefusal) (j : ℕ) (g : EditionRefusal) (k : ℕ) → IsOfLine f → IsOfLine g → Precedes f j g k ⊎ (Precedes g k f j ⊎ AreOne f j g k)
unfolding AreOne
both_of_line f j g k o p = elim (cases_order j k) [
  | inl same ↦ (elim (cases_order (rank f) (rank g)) [
    | inl equal ↦ inr (inr (one_rank f g equal, λ _. same))
    | inr other ↦ (elim other [ inl less ↦ inl (inr (o, p, inr (same, less))) | inr more ↦ inr (inl (inr (p, o, inr (sym same, more)))) ])
  ])
  | inr other ↦ (elim other [ inl less ↦ inl (inr (o, p, inl less)) | inr more ↦ inr (inl (inr (p, o, inl more))) ])
]

not_both_of_line : (f : EditionRefusal) (j : ℕ) (g : EditionRefusal) (k : ℕ) → ¬ (IsOfLine f × IsOfLine g) → Precedes f j g k ⊎ (Precedes g k f j ⊎ AreOne f j g k)
unfolding AreOne
not_both_of_line f j g k none = elim (cases_order (rank f) (rank g)) [
  | inl equal ↦ inr (inr (one_rank f g equal, λ o. absurd (none (o, subst IsOfLine (one_rank f g equal) o))))
  | inr other ↦ (elim other [ inl less ↦ inl (inl (less, none)) | inr more ↦ inr (inl (inl (more, λ both. none (both.1, both.0)))) ])
]

in_order_or_one : (f : EditionRefusal) (j : ℕ) (g : EditionRefusal) (k : ℕ) → Precedes f j g k ⊎ (Precedes g k f j ⊎ AreOne f j g k)
in_order_or_one f j g k = elim (of_line_or_not f) [
  | inl o ↦ (elim (of_line_or_not g) [ inl p ↦ both_of_line f j g k o p | inr none ↦ not_both_of_line f j g k (λ both. none both.1) ])
  | inr none ↦ not_both_of_line f j g k (λ both. none both.0)
]

-- one test at one place is told by one line
one_line : (f : EditionRefusal) (j k : ℕ) (l m : Option ℕ) → (IsOfLine f → j ≡ k) → TellsLine f j l → TellsLine f k m → l ≡ m
one_line f j k l m same (inl a) (inl b) = a.1 ∙ (ap (λ n. let told : Option ℕ = Some (n + 1) in told) (same a.0) ∙ sym b.1)
one_line f j k l m same (inl a) (inr b) = absurd (b.0 a.0)
one_line f j k l m same (inr a) (inl b) = absurd (a.0 b.0)
one_line f j k l m same (inr a) (inr b) = a.1 ∙ sym b.1

pub one_fault : (index text : List ℕ) (f g : EditionRefusal) (k l : Option ℕ) → IsFault index text f k → IsFault index text g l → (f ≡ g) × (k ≡ l)
unfolding AreOne
one_fault index text f g k l h i = elim (in_order_or_one f h.at g i.at) [
  | inl before ↦ absurd (h.fails (i.earlier f h.at before h.made))
  | inr other ↦ (elim other [
    | inl behind ↦ absurd (i.fails (h.earlier g i.at behind i.made))
    | inr one ↦ (one.0, one_line g h.at i.at k l (λ o. one.1 (subst IsOfLine (sym one.0) o)) (subst (λ r. TellsLine r h.at k) one.0 h.tells) i.tells)
  ])
]

pub not_both : (index text : List ℕ) (reading : ReadEdition) (refusal : EditionRefusal) (line : Option ℕ) → IsReadEdition index text reading → IsFault index text refusal line → ⊥
not_both index text reading refusal line h i = i.fails (h.passes refusal i.at i.made)

same_reading : (a b : ReadEdition) → a.title ≡ b.title → a.info ≡ b.info → a.text ≡ b.text → a.lines ≡ b.lines → a ≡ b
same_reading a b title info text lines =
    ap (λ (x : List ℕ). let made : ReadEdition = record { title = x; info = a.info; text = a.text; lines = a.lines } in made) title
    ∙ (ap (λ (x : List ℕ). let made : ReadEdition = record { title = b.title; info = x; text = a.text; lines = a.lines } in made) info
    ∙ (ap (λ (x : List ℕ). let made : ReadEdition = record { title = b.title; info = b.info; text = x; lines = a.lines } in made) text
    ∙ ap (λ (x : List Line). let made : ReadEdition = record { title = b.title; info = b.info; text = b.text; lines = x } in made) lines))

same_some : (x y : List ℕ) (o : Option (List ℕ)) → o ≡ Some x → o ≡ Some y → x ≡ y
same_some x y o p q = cc

pub one_reading : (index text : List ℕ) (a b : ReadEdition) → IsReadEdition index text a → IsReadEdition index text b → a ≡ b
one_reading index text a b h i =
    let one : h.lines ≡ i.lines = all_said_one (text_lines index) h.lines i.lines h.said i.said in
    same_reading a b
    (same_some a.title b.title (title_in text i.lines) (sym (ap (title_in text) one) ∙ h.title) i.title)
    (h.info ∙ (ap (info_in text) one ∙ sym i.info))
    (h.whole ∙ sym i.whole)
    (h.entries ∙ (ap entry_lines one ∙ sym i.entries))
