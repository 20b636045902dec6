-- Stored lines one after another.
use Rattle.std.proofs.Common.{◌≡◌, ◌≢◌, ℕ, List, [], ◌∷◌, ◌++◌, length, map, refl, ap, sym, ◌∙◌, subst, arith, false, eqb, append-nil, append_assoc}
use Rattle.std.proofs.lemmas.Bool.Decides.{nat_tests}
use Rattle.std.specs.List.{AllByRecursion}
use Rattle.dict_text.specs.Lines.{text_lines, onto_first_line}
use Rattle.dict_index.specs.Cuts.{HasNo}
use Rattle.dict_index.specs.Line.{Line}
use Rattle.store_rows.specs.Stored.{IsStorable, stored_line, stored_index}
use Rattle.store_rows.proofs.StoredLemmas.{no_newline, one_first}

-- a line without LF and its LF in front of a text
line_in_front : (line rest : List ℕ) → HasNo 10 line → text_lines (line ++ 10 ∷ rest) ≡ line ∷ text_lines rest
line_in_front [] rest none = refl
line_in_front (b ∷ line) rest none =
    let test : eqb b 10 ≡ false = grind (arith, nat_tests, none.0) in
    rw test (ap (onto_first_line b) (line_in_front line rest none.1))

-- the first of the lines, and the index of the others
pub first_and_others : (said : Line) (lines : List Line) → stored_index (said ∷ lines) ≡ stored_line said ++ 10 ∷ stored_index lines
first_and_others said lines = append_assoc (stored_line said) (10 ∷ []) (stored_index lines)

pub lines_of_index : (lines : List Line) → AllByRecursion IsStorable lines → text_lines (stored_index lines) ≡ map stored_line lines
lines_of_index [] all = refl
lines_of_index (said ∷ lines) all =
    ap text_lines (first_and_others said lines) ∙ (line_in_front (stored_line said) (stored_index lines) (no_newline said all.0) ∙ ap (λ l. stored_line said ∷ l) (lines_of_index lines all.1))

nothing_in_front : (line rest : List ℕ) → [] ≡ line ++ 10 ∷ rest → ⊥
nothing_in_front [] rest e = omega (arith, ap length e)
nothing_in_front (b ∷ line) rest e = omega (arith, ap length e)

pub goes_on : (front lines : List Line) (rest : List ℕ) → AllByRecursion IsStorable front → AllByRecursion IsStorable lines → stored_index lines ≡ stored_index front ++ rest
    → (more : List Line) × (lines ≡ front ++ more) × (rest ≡ stored_index more)
goes_on [] lines rest h k e = (lines, refl, sym e)
goes_on (x ∷ front) [] rest h k e = absurd (nothing_in_front (stored_line x) (stored_index front ++ rest) (e ∙ (ap (λ l. l ++ rest) (first_and_others x front) ∙ append_assoc (stored_line x) (10 ∷ stored_index front) rest)))
goes_on (x ∷ front) (y ∷ lines) rest h k e =
    let same = one_first y x (stored_index lines) (stored_index front ++ rest) k.0 h.0
    (sym (first_and_others y lines) ∙ (e ∙ (ap (λ l. l ++ rest) (first_and_others x front) ∙ append_assoc (stored_line x) (10 ∷ stored_index front) rest))) in
    let others = goes_on front lines rest h.1 k.1 same.1 in
    (others.0, ap (λ l. y ∷ l) others.1 ∙ ap (λ s. s ∷ (front ++ others.0)) same.0, others.2)

pub says_one_list : (lines others : List Line) → AllByRecursion IsStorable lines → AllByRecursion IsStorable others → stored_index lines ≡ stored_index others → lines ≡ others
says_one_list lines others h k e =
    let more = goes_on others lines [] k h (e ∙ sym (append-nil (stored_index others))) in
    more.1 ∙ (ap (λ l. others ++ l) (none more.0 more.2) ∙ append-nil others)
  where
    none : (more : List Line) → [] ≡ stored_index more → more ≡ []
    none [] e = refl
    none (said ∷ more) e = absurd (nothing_in_front (stored_line said) (stored_index more) (e ∙ first_and_others said more))

-- one line more behind others
pub pushed : (front : List Line) (said : Line) → stored_index (front ++ said ∷ []) ≡ stored_index front ++ (stored_line said ++ 10 ∷ [])
pushed [] said = append-nil (stored_line said ++ 10 ∷ [])
pushed (x ∷ front) said = ap (λ l. (stored_line x ++ 10 ∷ []) ++ l) (pushed front said) ∙ sym (append_assoc (stored_line x ++ 10 ∷ []) (stored_index front) (stored_line said ++ 10 ∷ []))

pub one_more : (front : List Line) (said : Line) (behind : List ℕ) → stored_index front ++ (stored_line said ++ 10 ∷ behind) ≡ stored_index (front ++ said ∷ []) ++ behind
one_more front said behind =
    sym (ap (λ l. l ++ behind) (pushed front said)
    ∙ (append_assoc (stored_index front) (stored_line said ++ 10 ∷ []) behind ∙ ap (λ l. stored_index front ++ l) (append_assoc (stored_line said) (10 ∷ []) behind)))

all_behind : (front more : List Line) → AllByRecursion IsStorable (front ++ more) → AllByRecursion IsStorable more
all_behind [] more all = all
all_behind (x ∷ front) more all = all_behind front more all.1

-- what is left and doesn't begin with a stored line is the end of no index
pub no_more : (front lines : List Line) (rest : List ℕ) → AllByRecursion IsStorable front → AllByRecursion IsStorable lines → rest ≢ []
    → ((said : Line) (behind : List ℕ) → IsStorable said → rest ≢ stored_line said ++ 10 ∷ behind) → stored_index lines ≢ stored_index front ++ rest
no_more front lines rest h k some none e =
    let others = goes_on front lines rest h k e in
    at others.0 (all_behind front others.0 (subst (AllByRecursion IsStorable) others.1 k)) others.2
  where
    at : (more : List Line) → AllByRecursion IsStorable more → rest ≡ stored_index more → ⊥
    at [] all is = some is
    at (said ∷ more) all is = none said (stored_index more) all.0 (is ∙ first_and_others said more)

-- what was put of a line, piece by piece
pub put_pieces : (before h o s f one two three four five : List ℕ) → one ≡ before ++ h → two ≡ one ++ 9 ∷ o → three ≡ two ++ 9 ∷ s → four ≡ three ++ f → five ≡ four ++ 10 ∷ []
    → five ≡ before ++ ((h ++ (9 ∷ o ++ (9 ∷ s ++ f))) ++ 10 ∷ [])
put_pieces before h o s f one two three four five a b c d e =
    e ∙ (ap (λ l. l ++ 10 ∷ []) (d ∙ ap (λ l. l ++ f) (c ∙ ap (λ l. l ++ 9 ∷ s) (b ∙ ap (λ l. l ++ 9 ∷ o) a))) ∙ regroup before h (9 ∷ o) (9 ∷ s) f (10 ∷ []))
  where
    regroup : (a b c d e f : List ℕ) → ((((a ++ b) ++ c) ++ d) ++ e) ++ f ≡ a ++ ((b ++ (c ++ (d ++ e))) ++ f)
    regroup a b c d e f = simp append_assoc
