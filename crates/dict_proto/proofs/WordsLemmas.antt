-- The computed words of a line are those of the definition, and no others.
use Rattle.std.proofs.Common.{◌≡◌, ◌≢◌, ℕ, inl, inr, List, [], ◌∷◌, ◌++◌, Bool, true, false, ◌||◌, map, refl, sym, ap, ◌∙◌, subst, arith, append_assoc, append-nil, eqb-true}
use Rattle.std.specs.Prelude.{Option, Some, ◌==◌}
use Rattle.std.specs.List.{flat_map, AllByRecursion}
use Rattle.std.proofs.lemmas.Bool.Decides.{nat_tests}
use Rattle.dict_text.specs.Characters.{is_blank, is_control}
use Rattle.dict_proto.specs.Words.{is_atom_character, is_quote_sign, StandsForCharacter, IsPart, IsWord, AreBlanks, EndsWord, AreWords}
use Rattle.dict_proto.specs.LineWords.{line_words, words_from, within, in_string, onto_first, end_before}
use Rattle.dict_proto.proofs.LineWordsLemmas.{line_words-blank, within-blank, within-atom, atom_parts, onto_all, onto_all-word}

pub onto_all-append : (a b : List ℕ) (r : Option (List (List ℕ))) → onto_all (a ++ b) r ≡ onto_all a (onto_all b r)
onto_all-append [] b r = refl
onto_all-append (x ∷ a) b r = ap (onto_first x) (onto_all-append a b r)

-- ---- parts

within-atoms : (content rest : List ℕ) → AllByRecursion (λ c. is_atom_character c ≡ true) content → words_from within (content ++ rest) ≡ onto_all content (words_from within rest)
within-atoms [] rest h = refl
within-atoms (c ∷ content) rest h = within-atom c (content ++ rest) h.0 ∙ ap (onto_first c) (within-atoms content rest h.1)

-- what holds of a quote sign
SignFacts : ℕ → Type 0
SignFacts quote = (is_blank quote ≡ false) × (is_control quote ≡ false) × ((quote == quote) ≡ true) × ((92 == quote) ≡ false)
    × ((rest : List ℕ) → words_from within (quote ∷ rest) ≡ words_from (in_string quote) rest)

double_sign : SignFacts 34
unfolding SignFacts
double_sign = (refl, refl, refl, refl, λ rest. refl)

single_sign : SignFacts 39
unfolding SignFacts
single_sign = (refl, refl, refl, refl, λ rest. refl)

by_sign : (a b : Bool) (quote : ℕ) → (quote == 34) ≡ a → (quote == 39) ≡ b → (a || b) ≡ true → SignFacts quote
by_sign true b quote e f h = subst SignFacts (sym (eqb-true _ _ e)) double_sign
by_sign false true quote e f h = subst SignFacts (sym (eqb-true _ _ f)) single_sign
by_sign false false quote e f h = cc

sign_facts : (quote : ℕ) → is_quote_sign quote ≡ true → SignFacts quote
sign_facts quote h = by_sign (quote == 34) (quote == 39) quote refl refl h

not_equal : (m n : ℕ) → m ≢ n → (m == n) ≡ false
not_equal m n h = grind (arith, nat_tests, h)

string-character : (quote c : ℕ) (rest : List ℕ) → is_control c ≡ false → c ≢ quote → c ≢ 92 → words_from (in_string quote) (c ∷ rest) ≡ onto_first c (words_from (in_string quote) rest)
string-character quote c rest e f g = rw (e, not_equal c quote f, not_equal c 92 g) refl

string-pair : (quote c : ℕ) (rest : List ℕ) → is_control c ≡ false → (92 == quote) ≡ false → words_from (in_string quote) (92 ∷ c ∷ rest) ≡ onto_first c (words_from (in_string quote) rest)
string-pair quote c rest e f = rw (f, e) refl

string-piece : (quote : ℕ) (text : List ℕ) (c : ℕ) (rest : List ℕ) → (92 == quote) ≡ false → StandsForCharacter quote text c → words_from (in_string quote) (text ++ rest) ≡ onto_first c (words_from (in_string quote) rest)
string-piece quote text c rest f (e, inl (is, other, plain)) = ap (λ t. words_from (in_string quote) (t ++ rest)) is ∙ string-character quote c rest e other plain
string-piece quote text c rest f (e, inr is) = ap (λ t. words_from (in_string quote) (t ++ rest)) is ∙ string-pair quote c rest e f

string-end : (quote : ℕ) (rest : List ℕ) → is_control quote ≡ false → (quote == quote) ≡ true → words_from (in_string quote) (quote ∷ rest) ≡ words_from within rest
string-end quote rest e f = rw (e, f) refl

string-pieces : (quote : ℕ) (pieces : List (List ℕ × ℕ)) (rest : List ℕ) → SignFacts quote → AllByRecursion (λ p. StandsForCharacter quote p.0 p.1) pieces
    → words_from (in_string quote) (flat_map (λ p. p.0) pieces ++ (quote ∷ rest)) ≡ onto_all (map (λ p. p.1) pieces) (words_from within rest)
unfolding SignFacts
string-pieces quote [] rest (blank, control, same, other, opens) h = string-end quote rest control same
string-pieces quote ((text, c) ∷ pieces) rest sign h =
    ap (words_from (in_string quote)) (append_assoc text (flat_map (λ p. p.0) pieces) (quote ∷ rest))
    ∙ (string-piece quote text c (flat_map (λ p. p.0) pieces ++ (quote ∷ rest)) sign.3 h.0 ∙ ap (onto_first c) (string-pieces quote pieces rest sign h.1))

pair-alone : (c : ℕ) (rest : List ℕ) → is_control c ≡ false → words_from within (92 ∷ c ∷ rest) ≡ onto_first c (words_from within rest)
pair-alone c rest e = rw e refl

string-whole : (quote : ℕ) (pieces : List (List ℕ × ℕ)) (rest : List ℕ) → SignFacts quote → AllByRecursion (λ p. StandsForCharacter quote p.0 p.1) pieces
    → words_from within ((quote ∷ (flat_map (λ p. p.0) pieces ++ (quote ∷ []))) ++ rest) ≡ onto_all (map (λ p. p.1) pieces) (words_from within rest)
unfolding SignFacts
string-whole quote pieces rest sign h =
    sign.4 _ ∙ (ap (words_from (in_string quote)) (append_assoc (flat_map (λ p. p.0) pieces) (quote ∷ []) rest) ∙ string-pieces quote pieces rest sign h)

part-reads : (text content rest : List ℕ) → IsPart text content → words_from within (text ++ rest) ≡ onto_all content (words_from within rest)
part-reads text content rest (inl (same, some, atoms)) = ap (λ t. words_from within (t ++ rest)) same ∙ within-atoms content rest atoms
part-reads text content rest (inr (inl (quote, pieces, sign, stand, spelled, means))) =
    ap (λ t. words_from within (t ++ rest)) spelled ∙ (string-whole quote pieces rest (sign_facts quote sign) stand ∙ ap (λ t. onto_all t (words_from within rest)) (sym means))
part-reads text content rest (inr (inr (c, control, spelled, means))) =
    ap (λ t. words_from within (t ++ rest)) spelled ∙ (pair-alone c rest control ∙ ap (λ t. onto_all t (words_from within rest)) (sym means))

parts-read : (parts : List (List ℕ × List ℕ)) (rest : List ℕ) → AllByRecursion (λ p. IsPart p.0 p.1) parts
    → words_from within (flat_map (λ p. p.0) parts ++ rest) ≡ onto_all (flat_map (λ p. p.1) parts) (words_from within rest)
parts-read [] rest h = refl
parts-read ((text, content) ∷ parts) rest h =
    ap (words_from within) (append_assoc text (flat_map (λ p. p.0) parts) rest)
    ∙ (part-reads text content (flat_map (λ p. p.0) parts ++ rest) h.0 ∙ (ap (onto_all content) (parts-read parts rest h.1) ∙ sym (onto_all-append content (flat_map (λ p. p.1) parts) (words_from within rest))))

-- ---- words

-- a part, and so a word, begins with a character that is no blank
StartsWord : List ℕ → Type 0
StartsWord text = (c : ℕ) × (cs : List ℕ) × (text ≡ c ∷ cs) × (is_blank c ≡ false)

atoms_start : (content : List ℕ) → content ≢ [] → AllByRecursion (λ c. is_atom_character c ≡ true) content → StartsWord content
unfolding StartsWord
atoms_start [] some h = absurd (some refl)
atoms_start (c ∷ cs) some h = (c, cs, refl, (atom_parts c h.0).0)

part_starts : (text content : List ℕ) → IsPart text content → StartsWord text
unfolding StartsWord SignFacts
part_starts text content (inl (same, some, atoms)) = subst StartsWord (sym same) (atoms_start content some atoms)
part_starts text content (inr (inl (quote, pieces, sign, stand, spelled, means))) = (quote, _, spelled, (sign_facts quote sign).0)
part_starts text content (inr (inr (c, control, spelled, means))) = (92, _, spelled, refl)

between-word : (text rest : List ℕ) → StartsWord text → line_words (text ++ rest) ≡ words_from within (text ++ rest)
unfolding StartsWord
between-word text rest (c, cs, is, blank) = subst (λ t. line_words (t ++ rest) ≡ words_from within (t ++ rest)) (sym is) (rw blank refl)

word_starts : (parts : List (List ℕ × List ℕ)) (rest : List ℕ) → parts ≢ [] → AllByRecursion (λ p. IsPart p.0 p.1) parts
    → line_words (flat_map (λ p. p.0) parts ++ rest) ≡ words_from within (flat_map (λ p. p.0) parts ++ rest)
word_starts [] rest some h = absurd (some refl)
word_starts ((text, content) ∷ parts) rest some h =
    ap line_words (append_assoc text (flat_map (λ p. p.0) parts) rest) ∙ (between-word text (flat_map (λ p. p.0) parts ++ rest) (part_starts text content h.0)
    ∙ ap (words_from within) (sym (append_assoc text (flat_map (λ p. p.0) parts) rest)))

word-reads : (text content rest : List ℕ) → IsWord text content → line_words (text ++ rest) ≡ onto_all content (words_from within rest)
word-reads text content rest (parts, some, each, spelled, means) =
    ap (λ t. line_words (t ++ rest)) spelled ∙ (word_starts parts rest some each ∙ (parts-read parts rest each ∙ ap (λ t. onto_all t (words_from within rest)) (sym means)))

word-ends : (rest : List ℕ) → EndsWord rest → words_from within rest ≡ end_before (line_words rest)
word-ends [] h = refl
word-ends (c ∷ cs) h = within-blank c cs h ∙ ap end_before (sym (line_words-blank c cs h))

blanks-read : (before rest : List ℕ) → AreBlanks before → line_words (before ++ rest) ≡ line_words rest
blanks-read [] rest h = refl
blanks-read (c ∷ before) rest h = line_words-blank c (before ++ rest) h.0 ∙ blanks-read before rest h.1

only-blanks : (line : List ℕ) → AreBlanks line → line_words line ≡ Some []
only-blanks [] h = refl
only-blanks (c ∷ line) h = line_words-blank c line h.0 ∙ only-blanks line h.1

-- the words of a line are computed
pub line_words-AreWords : (words : List (List ℕ)) (line : List ℕ) → AreWords line words → line_words line ≡ Some words
line_words-AreWords [] line h = only-blanks line h
line_words-AreWords (word ∷ words) line (before, text, rest, whole, blanks, is, ends, more) =
    ap line_words whole ∙ (blanks-read before (text ++ rest) blanks ∙ (word-reads text word rest is ∙ (ap (onto_all word) (word-ends rest ends ∙ ap end_before (line_words-AreWords words rest more))
    ∙ (onto_all-word word [] words ∙ ap (λ w. Some (w ∷ words)) (append-nil word)))))

pub AreWords-unique : (line : List ℕ) (words others : List (List ℕ)) → AreWords line words → AreWords line others → words ≡ others
AreWords-unique line words others h g = let same : Some words ≡ Some others = sym (line_words-AreWords words line h) ∙ line_words-AreWords others line g in cc
