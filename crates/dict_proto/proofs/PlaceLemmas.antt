-- The words of a line, place by place.
use Rattle.std.proofs.Common.{◌≡◌, ◌≢◌, ℕ, ◌+◌, ◌-◌, ◌<◌, ◌≤◌, List, [], ◌∷◌, ◌++◌, Bool, true, false, not, ◌||◌, refl, sym, ap, ◌∙◌, subst, append-nil, add-one, length, take, drop, get_or, drop-cons}
use Rattle.std.specs.Prelude.{Option, None, Some, is_some, if◌then◌else◌, ◌==◌, ⊤}
use Rattle.std.specs.Option.{option_map}
use Rattle.std.specs.List.{position, AllByRecursion}
use Rattle.std.specs.Str.{IsUtf8}
use Rattle.std.proofs.lemmas.List.{take_rest}
use Rattle.dict_text.specs.Characters.{is_blank, is_control}
use Rattle.dict_proto.specs.Words.{is_quoting, is_quote_sign}
use Rattle.dict_proto.specs.LineWords.{Place, line_words, words_from, next_place, place_after, at_end, between, within, in_string, escaped, escaped_in, stuck, onto_first, end_before}
use Rattle.dict_proto.specs.Places.{is_content, ends_word, AreUtf8Words}
use Rattle.dict_proto.proofs.LineWordsLemmas.{line_words-blank, line_words-found, line_words-none, within-blank, drop_past, onto_all, onto_all-word}
use Rattle.dict_proto.proofs.EncodingLemmas.{words_from-stuck, onto_all-none}
use Rattle.dict_proto.proofs.WordsLemmas.{onto_all-append}

-- ---- places in a word

abbrev pub IsInside : Place → Type 0
IsInside between = ⊥
IsInside within = ⊤
IsInside (in_string quote) = ⊤
IsInside escaped = ⊤
IsInside (escaped_in quote) = ⊤
IsInside stuck = ⊤

after_inside : (a b d e : Bool) (c : ℕ) → a ≡ false → IsInside (if a then between else (if b then stuck else (if d then in_string c else (if e then escaped else within))))
after_inside true b d e c h = cc
after_inside false true d e c h = tt
after_inside false false true e c h = tt
after_inside false false false true c h = tt
after_inside false false false false c h = tt

place_after-inside : (c : ℕ) → is_blank c ≡ false → IsInside (place_after c)
place_after-inside c e = after_inside (is_blank c) (is_control c) (is_quote_sign c) (c == 92) c e

string_inside : (a b d : Bool) (quote : ℕ) → IsInside (if a then stuck else (if b then within else (if d then escaped_in quote else in_string quote)))
string_inside true b d quote = tt
string_inside false true d quote = tt
string_inside false false true quote = tt
string_inside false false false quote = tt

pair_inside : (a : Bool) (around : Place) → IsInside around → IsInside (if a then stuck else around)
pair_inside true around h = tt
pair_inside false around h = h

-- a word goes on at the next place, unless a blank ends it
pub next_place-inside : (place : Place) (c : ℕ) → IsInside place → ends_word place c ≡ false → IsInside (next_place place c)
next_place-inside between c h e = absurd h
next_place-inside within c h e = place_after-inside c e
next_place-inside (in_string quote) c h e = string_inside (is_control c) (c == quote) (c == 92) quote
next_place-inside escaped c h e = pair_inside (is_control c) within tt
next_place-inside (escaped_in quote) c h e = pair_inside (is_control c) (in_string quote) tt
next_place-inside stuck c h e = tt

-- ---- in a word there is a first word

abbrev pub HasFirst : Option (List (List ℕ)) → Type 0
HasFirst None = ⊤
HasFirst (Some []) = ⊥
HasFirst (Some (word ∷ words)) = ⊤

onto-first : (c : ℕ) (r : Option (List (List ℕ))) → HasFirst (onto_first c r)
onto-first c None = tt
onto-first c (Some []) = tt
onto-first c (Some (word ∷ words)) = tt

end-first : (r : Option (List (List ℕ))) → HasFirst (end_before r)
end-first None = tt
end-first (Some words) = tt

one_of_two : (a : Bool) (x y : Option (List (List ℕ))) → HasFirst x → HasFirst y → HasFirst (if a then x else y)
one_of_two true x y h k = h
one_of_two false x y h k = k

one_of_three : (a b : Bool) (x y z : Option (List (List ℕ))) → HasFirst x → (a ≡ false → HasFirst y) → HasFirst z → HasFirst (if a then x else (if b then y else z))
one_of_three true b x y z h k l = h
one_of_three false true x y z h k l = k refl
one_of_three false false x y z h k l = l

pub inside-first : (cs : List ℕ) (place : Place) → IsInside place → HasFirst (words_from place cs)
inside-first [] between h = absurd h
inside-first [] within h = tt
inside-first [] (in_string quote) h = tt
inside-first [] escaped h = tt
inside-first [] (escaped_in quote) h = tt
inside-first [] stuck h = tt
inside-first (c ∷ cs) between h = absurd h
inside-first (c ∷ cs) within h = one_of_three (is_blank c) (is_quoting c) _ _ _ (end-first _) (λ e. inside-first cs (place_after c) (place_after-inside c e)) (onto-first c _)
inside-first (c ∷ cs) (in_string quote) h = one_of_two ((c == quote) || (c == 92)) _ _ (inside-first cs (next_place (in_string quote) c) (string_inside (is_control c) (c == quote) (c == 92) quote)) (onto-first c _)
inside-first (c ∷ cs) escaped h = onto-first c _
inside-first (c ∷ cs) (escaped_in quote) h = onto-first c _
inside-first (c ∷ cs) stuck h = tt

-- ---- whether a line can be cut

some-onto : (c : ℕ) (r : Option (List (List ℕ))) → HasFirst r → is_some (onto_first c r) ≡ is_some r
some-onto c None h = refl
some-onto c (Some []) h = absurd h
some-onto c (Some (word ∷ words)) h = refl

some-end : (r : Option (List (List ℕ))) → is_some (end_before r) ≡ is_some r
some-end None = refl
some-end (Some words) = refl

same_of_two : (a : Bool) (x y : Option (List (List ℕ))) (some : Bool) → is_some x ≡ some → is_some y ≡ some → is_some (if a then x else y) ≡ some
same_of_two true x y some h k = h
same_of_two false x y some h k = k

same_of_three : (a b : Bool) (x y z : Option (List (List ℕ))) (some : Bool) → is_some x ≡ some → is_some y ≡ some → (a ≡ false → is_some z ≡ some) → is_some (if a then x else (if b then y else z)) ≡ some
same_of_three true b x y z some h k l = h
same_of_three false true x y z some h k l = k
same_of_three false false x y z some h k l = l refl

-- a line can be cut where what follows a character can be cut
pub cut-step : (place : Place) (c : ℕ) (cs : List ℕ) → is_some (words_from place (c ∷ cs)) ≡ is_some (words_from (next_place place c) cs)
cut-step between c cs = same_of_three (is_blank c) (is_quoting c) _ _ _ _ refl refl (λ e. some-onto c _ (inside-first cs (place_after c) (place_after-inside c e)))
cut-step within c cs = same_of_three (is_blank c) (is_quoting c) _ _ _ _ (some-end _) refl (λ e. some-onto c _ (inside-first cs (place_after c) (place_after-inside c e)))
cut-step (in_string quote) c cs = same_of_two ((c == quote) || (c == 92)) _ _ _ refl (some-onto c _ (inside-first cs (next_place (in_string quote) c) (string_inside (is_control c) (c == quote) (c == 92) quote)))
cut-step escaped c cs = some-onto c _ (inside-first cs (next_place escaped c) (pair_inside (is_control c) within tt))
cut-step (escaped_in quote) c cs = some-onto c _ (inside-first cs (next_place (escaped_in quote) c) (pair_inside (is_control c) (in_string quote) tt))
cut-step stuck c cs = ap is_some (sym (words_from-stuck cs))

-- ---- the content of a word

turned : (a : Bool) (x y : Option (List (List ℕ))) → (if a then x else y) ≡ (if not a then y else x)
turned true x y = refl
turned false x y = refl

unended : (a b : Bool) (x y z : Option (List (List ℕ))) → a ≡ false → (if a then x else (if b then y else z)) ≡ (if not b then z else y)
unended true b x y z e = cc
unended false true x y z e = refl
unended false false x y z e = refl

-- a character of a word is one of its content, or of its quoting
pub content-step : (place : Place) (c : ℕ) (cs : List ℕ) → IsInside place → ends_word place c ≡ false
    → words_from place (c ∷ cs) ≡ (if is_content place c then onto_first c (words_from (next_place place c) cs) else words_from (next_place place c) cs)
content-step between c cs h e = absurd h
content-step within c cs h e = unended (is_blank c) (is_quoting c) _ _ _ e
content-step (in_string quote) c cs h e = turned ((c == quote) || (c == 92)) _ _
content-step escaped c cs h e = refl
content-step (escaped_in quote) c cs h e = refl
content-step stuck c cs h e = sym (words_from-stuck cs)

chosen : (a : Bool) (x y : Option (List (List ℕ))) (b : Bool) → a ≡ b → (if a then x else y) ≡ (if b then x else y)
chosen a x y b e = ap (λ t. if t then x else y) e

pub content-more : (place : Place) (c : ℕ) (cs : List ℕ) → IsInside place → ends_word place c ≡ false → is_content place c ≡ true → words_from place (c ∷ cs) ≡ onto_first c (words_from (next_place place c) cs)
content-more place c cs h e f = content-step place c cs h e ∙ chosen _ _ _ true f

pub content-same : (place : Place) (c : ℕ) (cs : List ℕ) → IsInside place → ends_word place c ≡ false → is_content place c ≡ false → words_from place (c ∷ cs) ≡ words_from (next_place place c) cs
content-same place c cs h e f = content-step place c cs h e ∙ chosen _ _ _ false f

-- ---- the end of a word

onto_all-end : (content : List ℕ) (r : Option (List (List ℕ))) → onto_all content (end_before r) ≡ option_map (λ words. content ∷ words) r
onto_all-end content None = onto_all-none content
onto_all-end content (Some words) = onto_all-word content [] words ∙ ap (λ word. Some (word ∷ words)) (append-nil content)

blank_ends : (place : Place) (c : ℕ) (cs : List ℕ) → ends_word place c ≡ true → words_from place (c ∷ cs) ≡ end_before (line_words (c ∷ cs))
blank_ends between c cs e = cc
blank_ends within c cs e = within-blank c cs e ∙ ap end_before (sym (line_words-blank c cs e))
blank_ends (in_string quote) c cs e = cc
blank_ends escaped c cs e = cc
blank_ends (escaped_in quote) c cs e = cc
blank_ends stuck c cs e = cc

-- a blank ends a word with this content
pub word-blank : (place : Place) (c : ℕ) (cs content : List ℕ) → ends_word place c ≡ true → onto_all content (words_from place (c ∷ cs)) ≡ option_map (λ words. content ∷ words) (line_words (c ∷ cs))
word-blank place c cs content e = ap (onto_all content) (blank_ends place c cs e) ∙ onto_all-end content (line_words (c ∷ cs))

none-some : {X : Type 0} (content : List ℕ) → is_some (onto_all content None) ≡ true → X
none-some content e = let none : is_some (onto_all content None) ≡ false = ap is_some (onto_all-none content) in cc

-- the line's end ends a word, where the line can be cut
pub word-end : (place : Place) (content : List ℕ) → IsInside place → is_some (onto_all content (at_end place)) ≡ true → onto_all content (at_end place) ≡ option_map (λ words. content ∷ words) (line_words [])
word-end between content h e = absurd h
word-end within content h e = onto_all-end content (Some [])
word-end (in_string quote) content h e = none-some content e
word-end escaped content h e = none-some content e
word-end (escaped_in quote) content h e = none-some content e
word-end stuck content h e = none-some content e

-- ---- at an index of a line

at_index : (line : List ℕ) (i : ℕ) → i < length line → drop i line ≡ get_or line i 0 ∷ drop (i + 1) line
at_index line i lt = drop-cons line i 0 lt ∙ ap (λ n. get_or line i 0 ∷ drop n line) (sym (add-one i))

pub cut-at : (line : List ℕ) (i : ℕ) (place next : Place) → i < length line → next ≡ next_place place (get_or line i 0)
    → is_some (words_from place (drop i line)) ≡ is_some (words_from next (drop (i + 1) line))
cut-at line i place next lt e =
    ap (λ l. is_some (words_from place l)) (at_index line i lt) ∙ (cut-step place (get_or line i 0) (drop (i + 1) line) ∙ ap (λ p. is_some (words_from p (drop (i + 1) line))) (sym e))

pub more-at : (text : List ℕ) (i : ℕ) (place next : Place) (content longer : List ℕ) → i < length text → IsInside place → ends_word place (get_or text i 0) ≡ false
    → next ≡ next_place place (get_or text i 0) → is_content place (get_or text i 0) ≡ true → longer ≡ content ++ get_or text i 0 ∷ []
    → onto_all content (words_from place (drop i text)) ≡ onto_all longer (words_from next (drop (i + 1) text))
more-at text i place next content longer lt inside ends e f g =
    let c = get_or text i 0 in
    let after = drop (i + 1) text in
    ap (λ l. onto_all content (words_from place l)) (at_index text i lt)
    ∙ (ap (onto_all content) (content-more place c after inside ends f ∙ ap (λ p. onto_first c (words_from p after)) (sym e))
    ∙ (sym (onto_all-append content (c ∷ []) (words_from next after)) ∙ ap (λ l. onto_all l (words_from next after)) (sym g)))

pub same-at : (text : List ℕ) (i : ℕ) (place next : Place) (content : List ℕ) → i < length text → IsInside place → ends_word place (get_or text i 0) ≡ false
    → next ≡ next_place place (get_or text i 0) → is_content place (get_or text i 0) ≡ false
    → onto_all content (words_from place (drop i text)) ≡ onto_all content (words_from next (drop (i + 1) text))
same-at text i place next content lt inside ends e f =
    let c = get_or text i 0 in
    let after = drop (i + 1) text in
    ap (λ l. onto_all content (words_from place l)) (at_index text i lt)
    ∙ ap (onto_all content) (content-same place c after inside ends f ∙ ap (λ p. words_from p after) (sym e))

pub inside-at : (text : List ℕ) (i : ℕ) (place next : Place) → IsInside place → ends_word place (get_or text i 0) ≡ false → next ≡ next_place place (get_or text i 0) → IsInside next
inside-at text i place next inside ends e = subst IsInside (sym e) (next_place-inside place (get_or text i 0) inside ends)

pub blank-at : (text : List ℕ) (i : ℕ) (place : Place) (content : List ℕ) → i < length text → ends_word place (get_or text i 0) ≡ true
    → onto_all content (words_from place (drop i text)) ≡ option_map (λ words. content ∷ words) (line_words (take (length text - i) (drop i text)))
blank-at text i place content lt ends =
    ap (λ l. onto_all content (words_from place l)) (at_index text i lt)
    ∙ (word-blank place (get_or text i 0) (drop (i + 1) text) content ends
    ∙ ap (λ l. option_map (λ words. content ∷ words) (line_words l)) (sym (at_index text i lt) ∙ sym (take_rest text i)))

past_end : (text : List ℕ) (i : ℕ) → length text ≤ i → drop i text ≡ []
past_end text i h = drop_past i text h

pub end-at : (text : List ℕ) (i : ℕ) (place : Place) (content : List ℕ) → length text ≤ i → IsInside place → words_from within text ≡ onto_all content (words_from place (drop i text))
    → is_some (words_from within text) ≡ true → words_from within text ≡ option_map (λ words. content ∷ words) (line_words [])
end-at text i place content h inside read some =
    let at : words_from within text ≡ onto_all content (at_end place) = read ∙ ap (λ l. onto_all content (words_from place l)) (past_end text i h) in
    at ∙ word-end place content inside (ap is_some (sym at) ∙ some)

-- ---- whether a line has a word

some_index : (o : Option ℕ) → is_some o ≡ true → (i : ℕ) × (o ≡ Some i)
some_index None e = cc
some_index (Some i) e = (i, refl)

no_index : (o : Option ℕ) → is_some o ≡ false → o ≡ None
no_index None e = refl
no_index (Some i) e = cc

pub no-word : (line : List ℕ) → is_some (position (λ octet. not (is_blank octet)) line) ≡ false → line_words line ≡ Some []
no-word line e = line_words-none line (no_index _ e)

pub some-word : (line : List ℕ) → is_some (position (λ octet. not (is_blank octet)) line) ≡ true → (words : List (List ℕ)) → line_words line ≡ Some words → words ≢ []
some-word line e words f none =
    let (i, at) = some_index _ e in
    subst HasFirst (sym (line_words-found line i at) ∙ (f ∙ ap Some none)) (inside-first (drop i line) within tt)

-- ---- words that are texts

pub texts-some : (r : Option (List (List ℕ))) → AreUtf8Words r → is_some r ≡ true
texts-some None h = absurd h
texts-some (Some words) h = refl

pub texts-first : (word : List ℕ) (r : Option (List (List ℕ))) → AreUtf8Words (option_map (λ words. word ∷ words) r) → IsUtf8 word × AreUtf8Words r
texts-first word None h = absurd h
texts-first word (Some words) h = (h.0, h.1)

-- ---- the first word of a line

pub found-at : (line : List ℕ) (i : ℕ) → position (λ octet. not (is_blank octet)) line ≡ Some i → line_words line ≡ words_from within (take (length line - i) (drop i line))
found-at line i e = line_words-found line i e ∙ ap (words_from within) (sym (take_rest line i))

-- it is a text, and the others are texts
pub first-text : (line word rest : List ℕ) (i : ℕ) → position (λ octet. not (is_blank octet)) line ≡ Some i → AreUtf8Words (line_words line)
    → words_from within (take (length line - i) (drop i line)) ≡ option_map (λ words. word ∷ words) (line_words rest) → IsUtf8 word × AreUtf8Words (line_words rest)
first-text line word rest i e texts is = texts-first word (line_words rest) (subst AreUtf8Words (found-at line i e ∙ is) texts)

-- ---- a first word, and the others

pub after-word : (r rest : Option (List (List ℕ))) (word : List ℕ) (words : List (List ℕ)) → r ≡ option_map (λ ws. word ∷ ws) rest → r ≡ Some words
    → (more : List (List ℕ)) × (rest ≡ Some more) × (word ∷ more ≡ words)
after-word r None word words e f = cc
after-word r (Some more) word words e f = (more, refl, cc)

pub some-texts : (r : Option (List (List ℕ))) → is_some r ≡ true → ((words : List (List ℕ)) → r ≡ Some words → AllByRecursion IsUtf8 words) → AreUtf8Words r
some-texts None e h = cc
some-texts (Some words) e h = h words refl

pub none-known : (r : Option (List (List ℕ))) → is_some r ≡ false → r ≡ None
none-known None e = refl
none-known (Some words) e = cc
