-- The content of a word, octet by octet.
use Rattle.std.proofs.Common.{◌≡◌, ℕ, ◌+◌, ◌<◌, ◌≤◌, List, [], ◌∷◌, ◌++◌, Bool, true, false, refl, sym, ap, ◌∙◌, append-nil, add-one, length, take, drop, get_or, drop-cons, arith}
use Rattle.std.specs.Prelude.{if◌then◌else◌, ◌==◌, ◌&&◌}
use Rattle.std.specs.Str.{str_eq_ignore_ascii_case}
use Rattle.std.specs.Char.{eq_ignore_ascii_case}
use Rattle.std.proofs.lemmas.Bool.Decides.{nat_tests}
use Rattle.std.proofs.lemmas.List.{take_more}
use Rattle.dict_proto.specs.LineWords.{Place, next_place, words_from, within}
use Rattle.dict_proto.specs.Places.{is_content, ends_word}
use Rattle.dict_proto.specs.Content.{content_from}
use Rattle.dict_proto.proofs.LineWordsLemmas.{onto_all, drop_past}
use Rattle.dict_proto.proofs.PlaceLemmas.{IsInside, more-at, same-at}

-- the place after these octets
abbrev pub place_from : Place → List ℕ → Place
place_from place [] = place
place_from place (c ∷ cs) = place_from (next_place place c) cs

-- what an octet at a place adds to a word's content
abbrev pub added : Place → ℕ → List ℕ
added place c = if is_content place c then c ∷ [] else []

pub place_from-more : (place : Place) (cs : List ℕ) (c : ℕ) → place_from place (cs ++ c ∷ []) ≡ next_place (place_from place cs) c
place_from-more place [] c = refl
place_from-more place (b ∷ cs) c = place_from-more (next_place place b) cs c

one : (test : Bool) (c : ℕ) → (if test then c ∷ [] else []) ≡ (if test then c ∷ [] else []) ++ []
one true c = refl
one false c = refl

first : (test : Bool) (b : ℕ) (x y z : List ℕ) → x ≡ y ++ z → (if test then b ∷ x else x) ≡ (if test then b ∷ y else y) ++ z
first true b x y z e = ap (λ l. b ∷ l) e
first false b x y z e = e

pub content_from-more : (place : Place) (cs : List ℕ) (c : ℕ) → content_from place (cs ++ c ∷ []) ≡ content_from place cs ++ added (place_from place cs) c
content_from-more place [] c = refl
content_from-more place (b ∷ cs) c = first (is_content place b) b _ _ _ (content_from-more (next_place place b) cs c)

-- at an index of a word: its content, and what is left to read
pub read-at : (text : List ℕ) (i : ℕ) (place next : Place) (content : List ℕ) → i < length text → IsInside place → ends_word place (get_or text i 0) ≡ false → next ≡ next_place place (get_or text i 0)
    → onto_all content (words_from place (drop i text)) ≡ onto_all (content ++ added place (get_or text i 0)) (words_from next (drop (i + 1) text))
read-at text i place next content lt inside ends e = by_test (is_content place (get_or text i 0)) refl
  where
    by_test : (test : Bool) → is_content place (get_or text i 0) ≡ test → onto_all content (words_from place (drop i text)) ≡ onto_all (content ++ added place (get_or text i 0)) (words_from next (drop (i + 1) text))
    by_test true f = rw f (more-at text i place next content (content ++ get_or text i 0 ∷ []) lt inside ends e f refl)
    by_test false f = rw f (rw (append-nil content) (same-at text i place next content lt inside ends e f))

pub content-at : (text : List ℕ) (i : ℕ) (place : Place) → i < length text → place ≡ place_from within (take i text)
    → content_from within (take (i + 1) text) ≡ content_from within (take i text) ++ added place (get_or text i 0)
content-at text i place lt e =
    ap (content_from within) (take_more text i 0 lt) ∙ (content_from-more within (take i text) (get_or text i 0) ∙ ap (λ p. content_from within (take i text) ++ added p (get_or text i 0)) (sym e))

pub place-at : (text : List ℕ) (i : ℕ) (place next : Place) → i < length text → place ≡ place_from within (take i text) → next ≡ next_place place (get_or text i 0) → next ≡ place_from within (take (i + 1) text)
place-at text i place next lt e f = f ∙ (ap (λ p. next_place p (get_or text i 0)) e ∙ (sym (place_from-more within (take i text) (get_or text i 0)) ∙ ap (place_from within) (sym (take_more text i 0 lt))))

-- what is left of a word's content, at an index
left-at : (text : List ℕ) (i : ℕ) (place next : Place) → i < length text → next ≡ next_place place (get_or text i 0)
    → content_from place (drop i text) ≡ (if is_content place (get_or text i 0) then get_or text i 0 ∷ content_from next (drop (i + 1) text) else content_from next (drop (i + 1) text))
left-at text i place next lt e =
    ap (content_from place) (drop-cons text i 0 lt ∙ ap (λ n. get_or text i 0 ∷ drop n text) (sym (add-one i)))
    ∙ ap (λ p. if is_content place (get_or text i 0) then get_or text i 0 ∷ content_from p (drop (i + 1) text) else content_from p (drop (i + 1) text)) (sym e)

pub left-more : (text : List ℕ) (i : ℕ) (place next : Place) → i < length text → next ≡ next_place place (get_or text i 0) → is_content place (get_or text i 0) ≡ true
    → content_from place (drop i text) ≡ get_or text i 0 ∷ content_from next (drop (i + 1) text)
left-more text i place next lt e f = left-at text i place next lt e ∙ ap (λ t. if t then get_or text i 0 ∷ content_from next (drop (i + 1) text) else content_from next (drop (i + 1) text)) f

pub left-same : (text : List ℕ) (i : ℕ) (place next : Place) → i < length text → next ≡ next_place place (get_or text i 0) → is_content place (get_or text i 0) ≡ false
    → content_from place (drop i text) ≡ content_from next (drop (i + 1) text)
left-same text i place next lt e f = left-at text i place next lt e ∙ ap (λ t. if t then get_or text i 0 ∷ content_from next (drop (i + 1) text) else content_from next (drop (i + 1) text)) f

-- ---- a word and a name

both : (a b x y : Bool) → a ≡ true → b ≡ x → (a && b) ≡ x
both true b x y e f = f
both false b x y e f = cc

none_of : (a b : Bool) → a ≡ false → (a && b) ≡ false
none_of true b e = cc
none_of false b e = refl

-- an octet that is one of a name's, and then the others
pub named-more : (c first : ℕ) (cs rest name : List ℕ) → name ≡ first ∷ rest → eq_ignore_ascii_case c first ≡ true → str_eq_ignore_ascii_case (c ∷ cs) name ≡ str_eq_ignore_ascii_case cs rest
named-more c first cs rest name e f = ap (str_eq_ignore_ascii_case (c ∷ cs)) e ∙ both (eq_ignore_ascii_case c first) _ _ true f refl

pub named-other : (c first : ℕ) (cs rest name : List ℕ) → name ≡ first ∷ rest → eq_ignore_ascii_case c first ≡ false → str_eq_ignore_ascii_case (c ∷ cs) name ≡ false
named-other c first cs rest name e f = ap (str_eq_ignore_ascii_case (c ∷ cs)) e ∙ none_of (eq_ignore_ascii_case c first) _ f

-- a word that is at its end is the empty name
pub named-end : (name : List ℕ) → (length name == 0) ≡ str_eq_ignore_ascii_case [] name
named-end [] = refl
named-end (first ∷ name) = grind (arith, nat_tests)

-- what is left of a word at its end
pub left-end : (text : List ℕ) (i : ℕ) (place : Place) → length text ≤ i → content_from place (drop i text) ≡ []
left-end text i place h = ap (content_from place) (drop_past i text h)
