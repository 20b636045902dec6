-- What has been written, character by character, is the words of the characters that have come.
use Rattle.std.proofs.Common.{◌≡◌, ◌≢◌, ℕ, ◌≤◌, Bool, true, false, not, List, [], ◌∷◌, ◌++◌, length, map, ◌==◌, refl, ap, ap₂, sym, ◌∙◌, arith, append_assoc, length-append}
use Rattle.std.specs.List.{filter, join_with_byte}
use Rattle.std.specs.Char.{encode_utf8}
use Rattle.std.specs.Str.{encode_utf8_all}
use Rattle.std.proofs.lemmas.Bool.{cond-true, eqb-true, ne_eqb}
use Rattle.std.proofs.lemmas.List.{map-append, append-nil, nil_from_length}
use Rattle.std.proofs.lemmas.List.Elements.{filter-append}
use Rattle.std.proofs.lemmas.Str.{encodes-append, length-le-encodes}
use Rattle.dict_text.specs.Characters.{is_blank}
use Rattle.dict_match.specs.Words.{words_between_blanks}
use Rattle.dict_match.proofs.SplitLemmas.{onto_last, onto_last-append, slice_split-push_yes, slice_split-push_no}
use Rattle.dict_match.proofs.JoinLemmas.{join-push, join-longer}
use Rattle.dict_match.proofs.FoldLemmas.{is_word, no_words}
use Rattle.dict_match.specs.Joined.{AreJoinedSoFar}

pub joined_none : AreJoinedSoFar [] [] true
joined_none = record { before = []; last = []; pieces = refl; at_end = refl; written = refl }

pub joined_all : (cs bytes : List ℕ) (between : Bool) → AreJoinedSoFar cs bytes between → bytes ≡ encode_utf8_all (join_with_byte 32 (words_between_blanks cs))
joined_all cs bytes between h = h.written ∙ ap (λ ps. encode_utf8_all (join_with_byte 32 (filter is_word ps))) (sym h.pieces)

-- the words of these pieces, the last of which is empty
words-before : (before : List (List ℕ)) → filter is_word (before ++ [] ∷ []) ≡ filter is_word before
words-before before = filter-append is_word before ([] ∷ []) ∙ append-nil (filter is_word before)

-- the words of these pieces, the last of which is a word
words-and : (before : List (List ℕ)) (last : List ℕ) → (length last == 0) ≡ false → filter is_word (before ++ last ∷ []) ≡ filter is_word before ++ last ∷ []
words-and before last solid =
    filter-append is_word before (last ∷ [])
    ∙ ap (λ ps. filter is_word before ++ ps) (cond-true (is_word last) (last ∷ []) [] (ap not solid))

solid-push : (piece : List ℕ) (c : ℕ) → (length (piece ++ c ∷ []) == 0) ≡ false
solid-push piece c = ne_eqb (length (piece ++ c ∷ [])) 0 (λ none. absurd (omega (arith, length-append piece (c ∷ []))))

empty-from : (piece : List ℕ) → true ≡ (length piece == 0) → piece ≡ []
empty-from piece e = nil_from_length piece (eqb-true _ _ (sym e))

-- a blank
pub joined_blank : (cs bytes : List ℕ) (between : Bool) (c : ℕ) → is_blank c ≡ true → AreJoinedSoFar cs bytes between → AreJoinedSoFar (cs ++ c ∷ []) bytes true
joined_blank cs bytes between c blank h = record {
  before = h.before ++ h.last ∷ [];
  last = [];
  pieces = slice_split-push_yes is_blank cs c blank ∙ ap (λ ps. ps ++ [] ∷ []) h.pieces;
  at_end = refl;
  written = h.written ∙ ap (λ ws. encode_utf8_all (join_with_byte 32 ws)) (sym (words-before (h.before ++ h.last ∷ [])));
}

-- a character of a word, where all the bytes are those of the words with it
joined_solid : (cs bytes all : List ℕ) (between : Bool) (c : ℕ) → is_blank c ≡ false → (h : AreJoinedSoFar cs bytes between)
    → all ≡ encode_utf8_all (join_with_byte 32 (filter is_word h.before ++ (h.last ++ c ∷ []) ∷ [])) → AreJoinedSoFar (cs ++ c ∷ []) all false
joined_solid cs bytes all between c solid h written = record {
  before = h.before;
  last = h.last ++ c ∷ [];
  pieces = slice_split-push_no is_blank cs c solid ∙ ap (onto_last c) h.pieces ∙ onto_last-append c h.before h.last;
  at_end = sym (solid-push h.last c);
  written = written ∙ sym (ap (λ ws. encode_utf8_all (join_with_byte 32 ws)) (words-and h.before (h.last ++ c ∷ []) (solid-push h.last c)));
}

encodes-push : (cs : List ℕ) (c : ℕ) → encode_utf8_all (cs ++ c ∷ []) ≡ encode_utf8_all cs ++ encode_utf8 c
encodes-push cs c = encodes-append cs (c ∷ []) ∙ ap (λ bs. encode_utf8_all cs ++ bs) (append-nil (encode_utf8 c))

-- what is written where the last piece is empty
written-before : (cs bytes : List ℕ) (h : AreJoinedSoFar cs bytes true) → bytes ≡ encode_utf8_all (join_with_byte 32 (filter is_word h.before))
written-before cs bytes h =
    h.written
    ∙ ap (λ ws. encode_utf8_all (join_with_byte 32 ws)) (ap (λ l. filter is_word (h.before ++ l ∷ [])) (empty-from h.last h.at_end) ∙ words-before h.before)

-- the first character of the first word
pub joined_first : (cs bytes : List ℕ) (c : ℕ) → is_blank c ≡ false → length bytes ≡ 0 → AreJoinedSoFar cs bytes true → AreJoinedSoFar (cs ++ c ∷ []) (bytes ++ encode_utf8 c) false
joined_first cs bytes c solid empty h =
    let last : h.last ≡ [] = empty-from h.last h.at_end in
    let short : length (join_with_byte 32 (filter is_word h.before)) ≤ length (encode_utf8_all (join_with_byte 32 (filter is_word h.before))) =
    length-le-encodes (join_with_byte 32 (filter is_word h.before)) in
    let bytes_are : bytes ≡ encode_utf8_all (join_with_byte 32 (filter is_word h.before)) = written-before cs bytes h in
    let same : length bytes ≡ length (encode_utf8_all (join_with_byte 32 (filter is_word h.before))) = ap length bytes_are in
    let none : filter is_word h.before ≡ [] = no_words h.before (omega arith) in
    let nothing : bytes ≡ [] = bytes_are ∙ ap (λ ws. encode_utf8_all (join_with_byte 32 ws)) none in
    joined_solid cs bytes _ true c solid h
    (ap (λ bs. bs ++ encode_utf8 c) nothing ∙ sym (append-nil (encode_utf8 c))
    ∙ sym (ap₂ (λ (ws : List (List ℕ)) (l : List ℕ). encode_utf8_all (join_with_byte 32 (ws ++ (l ++ c ∷ []) ∷ []))) none last))

-- a space and the first character of a further word
written-word : (words : List (List ℕ)) (d : ℕ) → words ≢ [] → (encode_utf8_all (join_with_byte 32 words) ++ encode_utf8 32) ++ encode_utf8 d ≡ encode_utf8_all (join_with_byte 32 (words ++ (d ∷ []) ∷ []))
written-word [] d some = absurd (some refl)
written-word (first ∷ rest) d some =
    append_assoc (encode_utf8_all (join_with_byte 32 (first ∷ rest))) (encode_utf8 32) (encode_utf8 d)
    ∙ ap (λ bs. encode_utf8_all (join_with_byte 32 (first ∷ rest)) ++ (encode_utf8 32 ++ bs)) (sym (append-nil (encode_utf8 d)))
    ∙ sym (encodes-append (join_with_byte 32 (first ∷ rest)) (32 ∷ d ∷ []))
    ∙ ap encode_utf8_all (sym (join-push 32 first rest (d ∷ [])))

-- the first character of a further word
pub joined_word : (cs bytes : List ℕ) (c : ℕ) → is_blank c ≡ false → (length bytes ≡ 0 → ⊥) → AreJoinedSoFar cs bytes true → AreJoinedSoFar (cs ++ c ∷ []) ((bytes ++ encode_utf8 32) ++ encode_utf8 c) false
joined_word cs bytes c solid some h =
    let bytes_are : bytes ≡ encode_utf8_all (join_with_byte 32 (filter is_word h.before)) = written-before cs bytes h in
    joined_solid cs bytes _ true c solid h
    (ap (λ bs. (bs ++ encode_utf8 32) ++ encode_utf8 c) bytes_are
    ∙ written-word (filter is_word h.before) c (λ none. some (ap length (bytes_are ∙ ap (λ ws. encode_utf8_all (join_with_byte 32 ws)) none)))
    ∙ sym (ap (λ l. encode_utf8_all (join_with_byte 32 (filter is_word h.before ++ (l ++ c ∷ []) ∷ []))) (empty-from h.last h.at_end)))

-- a further character of a word
pub joined_letter : (cs bytes : List ℕ) (c : ℕ) → is_blank c ≡ false → AreJoinedSoFar cs bytes false → AreJoinedSoFar (cs ++ c ∷ []) (bytes ++ encode_utf8 c) false
joined_letter cs bytes c solid h =
    joined_solid cs bytes _ false c solid h
    (ap (λ bs. bs ++ encode_utf8 c) (h.written ∙ ap (λ ws. encode_utf8_all (join_with_byte 32 ws)) (words-and h.before h.last (sym h.at_end)))
    ∙ sym (encodes-push (join_with_byte 32 (filter is_word h.before ++ h.last ∷ [])) c)
    ∙ ap encode_utf8_all (sym (join-longer 32 (filter is_word h.before) h.last (c ∷ []))))

-- one more character whose image is kept
pub kept-push : (f : ℕ → ℕ) (k : ℕ → Bool) (cs : List ℕ) (c : ℕ) → k (f c) ≡ true → filter k (map f (cs ++ c ∷ [])) ≡ filter k (map f cs) ++ f c ∷ []
kept-push f k cs c kept =
    ap (filter k) (map-append f cs (c ∷ [])) ∙ filter-append k (map f cs) (f c ∷ [])
    ∙ ap (λ ds. filter k (map f cs) ++ ds) (cond-true (k (f c)) (f c ∷ []) [] kept)
