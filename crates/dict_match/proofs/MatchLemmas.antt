-- Words that stand in a list of words.
use Rattle.std.proofs.Common.{◌≡◌, ◌≢◌, ℕ, zero, suc, ◌+◌, ◌-◌, ◌≤◌, List, [], ◌∷◌, ◌++◌, length, take, drop, ap, sym, ◌∙◌, arith, length-append, length-drop, append_assoc}
use Rattle.std.proofs.lemmas.List.{append-nil, nil_from_length, take-append-drop, append_cancel_left, drop_all}
use Rattle.std.proofs.lemmas.List.Prefix.{end_rest}
use Rattle.dict_match.specs.Matching.{HasWords, BeginsWithWords, EndsWithWords}

-- as far as the words of a query were compared with those of a key, they are the same
pub record AgreeSoFar (key query key_rest query_rest : List (List ℕ)) : Type 0 where
  pub same : List (List ℕ)
  pub key_is : key ≡ same ++ key_rest
  pub query_is : query ≡ same ++ query_rest

pub agree_more : (key query key_rest query_rest : List (List ℕ)) (word : List ℕ) → AgreeSoFar key query (word ∷ key_rest) (word ∷ query_rest)
    → AgreeSoFar key query key_rest query_rest
agree_more key query key_rest query_rest word h = record {
  same = h.same ++ word ∷ [];
  key_is = h.key_is ∙ sym (append_assoc h.same (word ∷ []) key_rest);
  query_is = h.query_is ∙ sym (append_assoc h.same (word ∷ []) query_rest);
}

-- the next words differ
pub agree_other : (key query key_rest query_rest : List (List ℕ)) (other word : List ℕ) → AgreeSoFar key query (other ∷ key_rest) (word ∷ query_rest)
    → other ≢ word → BeginsWithWords key query → ⊥
agree_other key query key_rest query_rest other word h apart begins =
    let e = append_cancel_left h.same (other ∷ key_rest) ((word ∷ query_rest) ++ begins.0)
    (sym h.key_is ∙ begins.1 ∙ ap (λ ws. ws ++ begins.0) h.query_is ∙ append_assoc h.same (word ∷ query_rest) begins.0) in
    let same : other ≡ word = cc in
    apart same

pub has_more : (word : List ℕ) (words run : List (List ℕ)) → HasWords words run → HasWords (word ∷ words) run
has_more word words run h = (word ∷ h.0, h.1, ap (λ ws. word ∷ ws) h.2)

pub has_rest : (word : List ℕ) (words run : List (List ℕ)) → (BeginsWithWords (word ∷ words) run → ⊥) → HasWords (word ∷ words) run → HasWords words run
has_rest word words run apart ([], b, e) = absurd (apart (b, e))
has_rest word words run apart (x ∷ a, b, e) = (a, b, cc)

pub has_none : (run : List (List ℕ)) → (BeginsWithWords [] run → ⊥) → HasWords [] run → ⊥
has_none run apart ([], b, e) = apart (b, e)
has_none run apart (x ∷ a, b, e) = cc

pub has_here : (words run : List (List ℕ)) → BeginsWithWords words run → HasWords words run
has_here words run h = ([], h.0, h.1)

-- the run begins what is left of the words once as many are left as it has
pub ends_from : (words run : List (List ℕ)) → length run ≤ length words → BeginsWithWords (drop (length words - length run) words) run
    → EndsWithWords words run
ends_from words run fits h =
    let n : ℕ = length words - length run in
    let size : length (drop n words) ≡ length words - n = length-drop n words in
    let sizes : length (drop n words) ≡ length run + length h.0 = ap length h.1 ∙ length-append run h.0 in
    let over : h.0 ≡ [] = nil_from_length h.0 (omega arith) in (
      take n words,
      sym (take-append-drop n words) ∙ ap (λ ws. take n words ++ ws) (h.1 ∙ ap (λ b. run ++ b) over ∙ append-nil run),
    )

pub ends_to : (words run : List (List ℕ)) → EndsWithWords words run
    → (length run ≤ length words) × BeginsWithWords (drop (length words - length run) words) run
ends_to words run h =
    let sizes : length words ≡ length h.0 + length run = ap length h.1 ∙ length-append h.0 run in
    (omega arith, ([], end_rest words run h.0 h.1 ∙ sym (append-nil run)))

-- where no words are left, taking more away changes nothing
pub drop_past : (words : List (List ℕ)) (i n : ℕ) → drop i words ≡ [] → i ≤ n → drop n words ≡ []
drop_past words i n none le =
    let size : length (drop i words) ≡ length words - i = length-drop i words in
    let zero_left : length (drop i words) ≡ 0 = ap length none in
    drop_all n words (omega arith)

pub drop_next : (words : List (List ℕ)) (i : ℕ) (word : List ℕ) (rest : List (List ℕ)) → drop i words ≡ word ∷ rest → drop (i + 1) words ≡ rest
drop_next [] zero word rest e = cc
drop_next [] (suc i) word rest e = cc
drop_next (w ∷ words) zero word rest e = cc
drop_next (w ∷ words) (suc i) word rest e = let more : suc i + 1 ≡ suc (i + 1) = omega arith in ap (λ n. drop n (w ∷ words)) more ∙ drop_next words i word rest e
