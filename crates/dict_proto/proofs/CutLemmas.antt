-- What is computed as the words of a line are its words by the definition.
use Rattle.std.proofs.Common.{◌≡◌, ◌≢◌, ℕ, inl, inr, List, [], ◌∷◌, ◌++◌, Bool, true, false, ◌||◌, map, refl, sym, ap, ◌∙◌, subst, append_assoc, eqb-true, eq-eqb}
use Rattle.std.specs.Prelude.{Option, None, Some, if◌then◌else◌, ◌==◌, ⊤}
use Rattle.std.specs.List.{flat_map, AllByRecursion}
use Rattle.dict_text.specs.Characters.{is_blank, is_control}
use Rattle.dict_proto.specs.Words.{is_atom_character, is_quoting, is_quote_sign, StandsForCharacter, IsPart, EndsWord, AreWords}
use Rattle.dict_proto.specs.LineWords.{Place, line_words, words_from, place_after, between, within, in_string, escaped, escaped_in, stuck, onto_first, end_before, with_character}
use Rattle.dict_proto.proofs.LineWordsLemmas.{line_words-blank, within-blank, within-atom}

-- ---- what is left of a line at each place

-- parts, or none
abbrev AreParts : List ℕ → List ℕ → Type 0
AreParts text content = (parts : List (List ℕ × List ℕ)) × AllByRecursion (λ p. IsPart p.0 p.1) parts
    × (text ≡ flat_map (λ p. p.0) parts) × (content ≡ flat_map (λ p. p.1) parts)

-- a word goes on with this content, and then these words follow
abbrev GoesOn : List ℕ → List ℕ → List (List ℕ) → Type 0
GoesOn cs word words = (text : List ℕ) × (rest : List ℕ) × (cs ≡ text ++ rest) × AreParts text word × EndsWord rest × AreWords rest words

-- the same in a string
abbrev GoesOnIn : ℕ → List ℕ → List ℕ → List (List ℕ) → Type 0
GoesOnIn quote cs word words = (pieces : List (List ℕ × ℕ)) × (more : List ℕ) × (others : List ℕ) × AllByRecursion (λ p. StandsForCharacter quote p.0 p.1) pieces
    × (cs ≡ flat_map (λ p. p.0) pieces ++ (quote ∷ more)) × GoesOn more others words × (word ≡ map (λ p. p.1) pieces ++ others)

-- after a backslash
abbrev GoesOnEscaped : (List ℕ → List ℕ → List (List ℕ) → Type 0) → List ℕ → List ℕ → List (List ℕ) → Type 0
GoesOnEscaped After cs word words = (c : ℕ) × (more : List ℕ) × (others : List ℕ) × (cs ≡ c ∷ more) × (is_control c ≡ false) × After more others words × (word ≡ c ∷ others)

abbrev OfFirst : (List ℕ → List (List ℕ) → Type 0) → List (List ℕ) → Type 0
OfFirst P [] = ⊥
OfFirst P (word ∷ words) = P word words

abbrev Reads : Place → List ℕ → List (List ℕ) → Type 0
Reads between cs ws = AreWords cs ws
Reads within cs ws = OfFirst (GoesOn cs) ws
Reads (in_string quote) cs ws = OfFirst (GoesOnIn quote cs) ws
Reads escaped cs ws = OfFirst (GoesOnEscaped GoesOn cs) ws
Reads (escaped_in quote) cs ws = OfFirst (GoesOnEscaped (GoesOnIn quote) cs) ws
Reads stuck cs ws = ⊥

-- a string's quote sign is one
abbrev HasSign : Place → Type 0
HasSign between = ⊤
HasSign within = ⊤
HasSign (in_string quote) = is_quote_sign quote ≡ true
HasSign escaped = ⊤
HasSign (escaped_in quote) = is_quote_sign quote ≡ true
HasSign stuck = ⊤

-- ---- one more part, piece or blank at the front

more_part : (text content cs word : List ℕ) (words : List (List ℕ)) → IsPart text content → GoesOn cs word words → GoesOn (text ++ cs) (content ++ word) words
more_part text content cs word words part (spelled, rest, whole, (parts, each, is, means), ends, more) = (
  text ++ spelled,
  rest,
  ap (λ l. text ++ l) whole ∙ sym (append_assoc text spelled rest),
  ((text, content) ∷ parts, (part, each), ap (λ l. text ++ l) is, ap (λ l. content ++ l) means),
  ends,
  more,
)

more_piece : (quote : ℕ) (text : List ℕ) (c : ℕ) (cs word : List ℕ) (words : List (List ℕ)) → StandsForCharacter quote text c → GoesOnIn quote cs word words → GoesOnIn quote (text ++ cs) (c ∷ word) words
more_piece quote text c cs word words stands (pieces, more, others, each, whole, goes, means) = (
  (text, c) ∷ pieces,
  more,
  others,
  (stands, each),
  ap (λ l. text ++ l) whole ∙ sym (append_assoc text (flat_map (λ p. p.0) pieces) (quote ∷ more)),
  goes,
  ap (λ l. c ∷ l) means,
)

more_blank : (c : ℕ) (cs : List ℕ) (ws : List (List ℕ)) → is_blank c ≡ true → AreWords cs ws → AreWords (c ∷ cs) ws
more_blank c cs [] e h = (e, h)
more_blank c cs (word ∷ words) e (before, text, rest, whole, blanks, is, ends, more) = (c ∷ before, text, rest, ap (λ l. c ∷ l) whole, (e, blanks), is, ends, more)

-- where a line begins with no blank, a word begins
from_within : (c : ℕ) (cs : List ℕ) (ws : List (List ℕ)) → is_blank c ≡ false → OfFirst (GoesOn (c ∷ cs)) ws → AreWords (c ∷ cs) ws
from_within c cs [] e h = absurd h
from_within c cs (word ∷ words) e (text, rest, whole, ([], each, spelled, means), ends, more) =
    absurd (let ends_here : EndsWord (c ∷ cs) = subst EndsWord (sym (whole ∙ ap (λ l. l ++ rest) spelled)) ends in cc)
from_within c cs (word ∷ words) e (text, rest, whole, (part ∷ parts, each, spelled, means), ends, more) =
    ([], text, rest, whole, tt, (part ∷ parts, (λ empty. cc), each, spelled, means), ends, more)

-- ---- from what was computed

onto_inverse : (c : ℕ) (r : Option (List (List ℕ))) (ws : List (List ℕ)) → onto_first c r ≡ Some ws → (word : List ℕ) × (words : List (List ℕ)) × (r ≡ Some (word ∷ words)) × ((c ∷ word) ∷ words ≡ ws)
onto_inverse c None ws e = cc
onto_inverse c (Some []) ws e = cc
onto_inverse c (Some (word ∷ words)) ws e = (word, words, refl, cc)

end_inverse : (r : Option (List (List ℕ))) (ws : List (List ℕ)) → end_before r ≡ Some ws → (words : List (List ℕ)) × (r ≡ Some words) × ([] ∷ words ≡ ws)
end_inverse None ws e = cc
end_inverse (Some words) ws e = (words, refl, cc)

if_none : (a b : Bool) (x y z : Option (List (List ℕ))) → x ≡ None → y ≡ None → z ≡ None → (if a then x else (if b then y else z)) ≡ None
if_none true b x y z e f g = e
if_none false true x y z e f g = f
if_none false false x y z e f g = g

with-none : (place : Place) (c : ℕ) → with_character place c None ≡ None
with-none between c = if_none (is_blank c) (is_quoting c) None None None refl refl refl
with-none within c = if_none (is_blank c) (is_quoting c) None None None refl refl refl
with-none (in_string quote) c = if_none ((c == quote) || (c == 92)) true None None None refl refl refl
with-none escaped c = refl
with-none (escaped_in quote) c = refl
with-none stuck c = refl

stuck-none : (cs : List ℕ) → words_from stuck cs ≡ None
stuck-none [] = refl
stuck-none (c ∷ cs) = refl

-- after a control character no words are computed
none_after : {X : Type 0} (place : Place) (c : ℕ) (cs : List ℕ) (after : Place) (ws : List (List ℕ)) → after ≡ stuck → with_character place c (words_from after cs) ≡ Some ws → X
none_after place c cs after ws e h = let none : with_character place c (words_from after cs) ≡ None = ap (with_character place c) (ap (λ p. words_from p cs) e ∙ stuck-none cs) ∙ with-none place c in cc

differs : (m n : ℕ) → (m == n) ≡ false → m ≢ n
differs m n e h = let same : (m == n) ≡ true = eq-eqb m n h in cc

-- ---- one character

abbrev Known : List ℕ → Type 0
Known cs = (place : Place) → HasSign place → (ws : List (List ℕ)) → words_from place cs ≡ Some ws → Reads place cs ws

opened : (c : ℕ) (cs : List ℕ) (ws : List (List ℕ)) → is_quote_sign c ≡ true → OfFirst (GoesOnIn c cs) ws → OfFirst (GoesOn (c ∷ cs)) ws
opened c cs [] e h = h
opened c cs (word ∷ words) e (pieces, more, others, each, whole, goes, means) =
    let spelled : List ℕ = c ∷ (flat_map (λ p. p.0) pieces ++ (c ∷ [])) in
    let content : List ℕ = map (λ p. p.1) pieces in
    let all : spelled ++ more ≡ c ∷ cs = ap (λ l. c ∷ l) (append_assoc (flat_map (λ p. p.0) pieces) (c ∷ []) more ∙ sym whole) in
    subst (λ l. GoesOn l word words) all (subst (λ w. GoesOn (spelled ++ more) w words) (sym means) (more_part spelled content more others words (inr (inl (c, pieces, e, each, refl, refl))) goes))

paired : (c : ℕ) (cs : List ℕ) (ws : List (List ℕ)) → (c == 92) ≡ true → OfFirst (GoesOnEscaped GoesOn cs) ws → OfFirst (GoesOn (c ∷ cs)) ws
paired c cs [] e h = h
paired c cs (word ∷ words) e (d, more, others, whole, control, goes, means) =
    let all : 92 ∷ d ∷ more ≡ c ∷ cs = ap (λ b. b ∷ d ∷ more) (sym (eqb-true _ _ e)) ∙ ap (λ l. c ∷ l) (sym whole) in
    subst (λ l. GoesOn l word words) all (subst (λ w. GoesOn (92 ∷ d ∷ more) w words) (sym means) (more_part (92 ∷ d ∷ []) (d ∷ []) more others words (inr (inr (d, control, refl, refl))) goes))

within_by : (c : ℕ) (cs : List ℕ) → Known cs → (ws : List (List ℕ)) → (a b d f : Bool) → is_blank c ≡ a → is_control c ≡ b → is_quote_sign c ≡ d → (c == 92) ≡ f
    → words_from within (c ∷ cs) ≡ Some ws → OfFirst (GoesOn (c ∷ cs)) ws
within_by c cs known ws true b d f ea eb ed ef e =
    let (words, is, same) = end_inverse (line_words cs) ws (sym (within-blank c cs ea) ∙ e) in
    subst (OfFirst (GoesOn (c ∷ cs))) same ([], c ∷ cs, refl, ([], tt, refl, refl), ea, more_blank c cs words ea (known between tt words is))
within_by c cs known ws false true d f ea eb ed ef e = none_after within c cs (place_after c) ws (rw (ea, eb) refl) e
within_by c cs known ws false false true f ea eb ed ef e =
    let opens : words_from within (c ∷ cs) ≡ words_from (in_string c) cs = rw (ea, eb, ed) refl in
    opened c cs ws ed (known (in_string c) ed ws (sym opens ∙ e))
within_by c cs known ws false false false true ea eb ed ef e =
    let pairs : words_from within (c ∷ cs) ≡ words_from escaped cs = rw (ea, eb, ed, ef) refl in
    paired c cs ws ef (known escaped tt ws (sym pairs ∙ e))
within_by c cs known ws false false false false ea eb ed ef e =
    let atom : is_atom_character c ≡ true = rw (ea, eb, ed, ef) refl in
    let (word, words, is, same) = onto_inverse c (words_from within cs) ws (sym (within-atom c cs atom) ∙ e) in
    subst (OfFirst (GoesOn (c ∷ cs))) same (more_part (c ∷ []) (c ∷ []) cs word words (inl (refl, (λ empty. cc), (atom, tt))) (known within tt (word ∷ words) is))

between_by : (c : ℕ) (cs : List ℕ) → Known cs → (ws : List (List ℕ)) → (a : Bool) → is_blank c ≡ a → line_words (c ∷ cs) ≡ Some ws → AreWords (c ∷ cs) ws
between_by c cs known ws true ea e = more_blank c cs ws ea (known between tt ws (sym (line_words-blank c cs ea) ∙ e))
between_by c cs known ws false ea e =
    let same : line_words (c ∷ cs) ≡ words_from within (c ∷ cs) = rw ea refl in
    from_within c cs ws ea (within_by c cs known ws (is_blank c) (is_control c) (is_quote_sign c) (c == 92) refl refl refl refl (sym same ∙ e))

closed : (quote c : ℕ) (cs : List ℕ) (ws : List (List ℕ)) → (c == quote) ≡ true → OfFirst (GoesOn cs) ws → OfFirst (GoesOnIn quote (c ∷ cs)) ws
closed quote c cs [] e h = h
closed quote c cs (word ∷ words) e goes = ([], cs, word, tt, ap (λ b. b ∷ cs) (eqb-true _ _ e), goes, refl)

paired_in : (quote c : ℕ) (cs : List ℕ) (ws : List (List ℕ)) → (c == 92) ≡ true → OfFirst (GoesOnEscaped (GoesOnIn quote) cs) ws → OfFirst (GoesOnIn quote (c ∷ cs)) ws
paired_in quote c cs [] e h = h
paired_in quote c cs (word ∷ words) e (d, more, others, whole, control, goes, means) =
    let all : 92 ∷ d ∷ more ≡ c ∷ cs = ap (λ b. b ∷ d ∷ more) (sym (eqb-true _ _ e)) ∙ ap (λ l. c ∷ l) (sym whole) in
    subst (λ l. GoesOnIn quote l word words) all (subst (λ w. GoesOnIn quote (92 ∷ d ∷ more) w words) (sym means) (more_piece quote (92 ∷ d ∷ []) d more others words (control, inr refl) goes))

string_by : (quote c : ℕ) (cs : List ℕ) → Known cs → is_quote_sign quote ≡ true → (ws : List (List ℕ)) → (b d f : Bool) → is_control c ≡ b → (c == quote) ≡ d → (c == 92) ≡ f
    → words_from (in_string quote) (c ∷ cs) ≡ Some ws → OfFirst (GoesOnIn quote (c ∷ cs)) ws
string_by quote c cs known sign ws true d f eb ed ef e = none_after (in_string quote) c cs _ ws (rw eb refl) e
string_by quote c cs known sign ws false true f eb ed ef e =
    let closes : words_from (in_string quote) (c ∷ cs) ≡ words_from within cs = rw (eb, ed) refl in
    closed quote c cs ws ed (known within tt ws (sym closes ∙ e))
string_by quote c cs known sign ws false false true eb ed ef e =
    let pairs : words_from (in_string quote) (c ∷ cs) ≡ words_from (escaped_in quote) cs = rw (eb, ed, ef) refl in
    paired_in quote c cs ws ef (known (escaped_in quote) sign ws (sym pairs ∙ e))
string_by quote c cs known sign ws false false false eb ed ef e =
    let goes : words_from (in_string quote) (c ∷ cs) ≡ onto_first c (words_from (in_string quote) cs) = rw (eb, ed, ef) refl in
    let (word, words, is, same) = onto_inverse c (words_from (in_string quote) cs) ws (sym goes ∙ e) in
    subst (OfFirst (GoesOnIn quote (c ∷ cs))) same (more_piece quote (c ∷ []) c cs word words (eb, inl (refl, differs c quote ed, differs c 92 ef)) (known (in_string quote) sign (word ∷ words) is))

escaped_by : (c : ℕ) (cs : List ℕ) → Known cs → (ws : List (List ℕ)) → (b : Bool) → is_control c ≡ b → words_from escaped (c ∷ cs) ≡ Some ws → OfFirst (GoesOnEscaped GoesOn (c ∷ cs)) ws
escaped_by c cs known ws true eb e = none_after escaped c cs _ ws (rw eb refl) e
escaped_by c cs known ws false eb e =
    let goes : words_from escaped (c ∷ cs) ≡ onto_first c (words_from within cs) = rw eb refl in
    let (word, words, is, same) = onto_inverse c (words_from within cs) ws (sym goes ∙ e) in
    subst (OfFirst (GoesOnEscaped GoesOn (c ∷ cs))) same (c, cs, word, refl, eb, known within tt (word ∷ words) is, refl)

escaped_in_by : (quote c : ℕ) (cs : List ℕ) → Known cs → is_quote_sign quote ≡ true → (ws : List (List ℕ)) → (b : Bool) → is_control c ≡ b → words_from (escaped_in quote) (c ∷ cs) ≡ Some ws
    → OfFirst (GoesOnEscaped (GoesOnIn quote) (c ∷ cs)) ws
escaped_in_by quote c cs known sign ws true eb e = none_after (escaped_in quote) c cs _ ws (rw eb refl) e
escaped_in_by quote c cs known sign ws false eb e =
    let goes : words_from (escaped_in quote) (c ∷ cs) ≡ onto_first c (words_from (in_string quote) cs) = rw eb refl in
    let (word, words, is, same) = onto_inverse c (words_from (in_string quote) cs) ws (sym goes ∙ e) in
    subst (OfFirst (GoesOnEscaped (GoesOnIn quote) (c ∷ cs))) same (c, cs, word, refl, eb, known (in_string quote) sign (word ∷ words) is, refl)

one_character : (c : ℕ) (cs : List ℕ) → Known cs → Known (c ∷ cs)
one_character c cs known between sign ws e = between_by c cs known ws (is_blank c) refl e
one_character c cs known within sign ws e = within_by c cs known ws (is_blank c) (is_control c) (is_quote_sign c) (c == 92) refl refl refl refl e
one_character c cs known (in_string quote) sign ws e = string_by quote c cs known sign ws (is_control c) (c == quote) (c == 92) refl refl refl e
one_character c cs known escaped sign ws e = escaped_by c cs known ws (is_control c) refl e
one_character c cs known (escaped_in quote) sign ws e = escaped_in_by quote c cs known sign ws (is_control c) refl e
one_character c cs known stuck sign ws e = cc

no_character : Known []
no_character between sign ws e = let same : [] ≡ ws = cc in subst (AreWords []) same tt
no_character within sign ws e = let same : [] ∷ [] ≡ ws = cc in subst (OfFirst (GoesOn [])) same ([], [], refl, ([], tt, refl, refl), tt, tt)
no_character (in_string quote) sign ws e = cc
no_character escaped sign ws e = cc
no_character (escaped_in quote) sign ws e = cc
no_character stuck sign ws e = cc

all_known : (cs : List ℕ) → Known cs
all_known [] = no_character
all_known (c ∷ cs) = one_character c cs (all_known cs)

-- what is computed are the words
pub AreWords-line_words : (line : List ℕ) (words : List (List ℕ)) → line_words line ≡ Some words → AreWords line words
AreWords-line_words line words e = all_known line between tt words e
