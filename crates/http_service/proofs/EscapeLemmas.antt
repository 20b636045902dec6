-- A string's inside, up to the first octet that needs an escape.
use Rattle.std.proofs.Common.{◌≡◌, ℕ, suc, ◌<◌, ◌≤◌, List, [], ◌∷◌, ◌++◌, Bool, true, false, ◌||◌, ◌==◌, nat_lt, arith, length, take, drop, get_or, refl, sym, ap, ◌∙◌, append-nil, append_assoc, subst, codes, decimal}
use Rattle.std.specs.Prelude.{Some, None, Result}
use Rattle.std.specs.List.{position, position_or_len}
use Rattle.json.specs.Print.{escape, escape_byte, quoted}
use Rattle.dict_proto.specs.Streams.{Stream, Puts, PutsAll, PutsFront}
use Rattle.dict_proto.proofs.PutLemmas.{puts_after, front_after, front_longer}
use Rattle.dict_catalogue.specs.Effects.{KeptReply}
use Rattle.dict_catalogue.specs.declared.reply.Verb.{Verb}
use Rattle.dict_catalogue.specs.declared.reply.Verb.TheVariants.{Install, Rollback, Retire, Virtual, Place}
use Rattle.http_service.specs.Texts.{kept_text, needs_escape, number_or_null_text, verb_text}
use Rattle.std.proofs.lemmas.Bool.Decides.{nat_tests}
use Rattle.dict_text.proofs.PositionLemmas.{here, later, position_is, position_none}

-- an octet that needs no escape stands for itself
none_of : (x y z : Bool) → ((x || y) || z) ≡ false → (x ≡ false) × (y ≡ false) × (z ≡ false)
none_of false false false e = (refl, refl, refl)
none_of false false true e = absurd (cc e)
none_of false true z e = absurd (cc e)
none_of true y z e = absurd (cc e)

above : (c k : ℕ) → k < 32 → nat_lt c 32 ≡ false → (c == k) ≡ false
above c k lt e = grind (arith, nat_tests, lt, e)

stands : (c : ℕ) → needs_escape c ≡ false → escape_byte c ≡ c ∷ []
unfolding escape_byte
stands c e =
    let (quote, backslash, control) = none_of (c == 34) (c == 92) (nat_lt c 32) e in
    rw (quote, backslash, control, above c 8 (omega arith) control, above c 12 (omega arith) control, above c 10 (omega arith) control, above c 13 (omega arith) control, above c 9 (omega arith) control) refl

-- the text up to n, the octet there with its escape, and what follows
split_at : List ℕ → ℕ → List ℕ
split_at text n = take n text ++ (escape_byte (get_or text n 0) ++ escape (drop (suc n) text))

to_first : (text : List ℕ) → position_or_len needs_escape text < length text → escape text ≡ split_at text (position_or_len needs_escape text)
unfolding split_at
to_first [] lt = absurd (omega arith)
to_first (c ∷ text) lt = by_test (to_first text) (needs_escape c) refl
  where
    by_test : (position_or_len needs_escape text < length text → escape text ≡ split_at text (position_or_len needs_escape text)) → (test : Bool) → needs_escape c ≡ test
        → escape (c ∷ text) ≡ split_at (c ∷ text) (position_or_len needs_escape (c ∷ text))
    by_test more true e = ap (split_at (c ∷ text)) (sym (here needs_escape c text e))
    by_test more false e =
        let further : position_or_len needs_escape text < length text = let n = later needs_escape c text e in omega (arith, lt, n) in
        ap (λ l. l ++ escape text) (stands c e) ∙ (ap (λ l. c ∷ l) (more further) ∙ ap (split_at (c ∷ text)) (sym (later needs_escape c text e)))

without : (text : List ℕ) → length text ≤ position_or_len needs_escape text → escape text ≡ text
without [] h = refl
without (c ∷ text) h = by_test (without text) (needs_escape c) refl
  where
    by_test : (length text ≤ position_or_len needs_escape text → escape text ≡ text) → (test : Bool) → needs_escape c ≡ test → escape (c ∷ text) ≡ c ∷ text
    by_test more true e = absurd (let n = here needs_escape c text e in omega (arith, h, n))
    by_test more false e =
        let further : length text ≤ position_or_len needs_escape text = let n = later needs_escape c text e in omega (arith, h, n) in
        ap (λ l. l ++ escape text) (stands c e) ∙ ap (λ l. c ∷ l) (more further)

-- up to the first octet that needs an escape
pub escape_some : (text : List ℕ) (i : ℕ) → position needs_escape text ≡ Some i → escape text ≡ take i text ++ (escape_byte (get_or text i 0) ++ escape (drop (suc i) text))
unfolding split_at
escape_some text i e =
    let (is, lt) = position_is needs_escape text i e in
    to_first text lt ∙ ap (split_at text) (sym is)

-- where there is none, the text stays
pub escape_none : (text : List ℕ) → position needs_escape text ≡ None → escape text ≡ text
escape_none text e = without text (position_none needs_escape text e)

-- what was put, one more piece, and what is left
pub one_more : (text done rest front back piece as_put : List ℕ) → text ≡ done ++ rest → rest ≡ front ++ (piece ++ back) → as_put ≡ piece → text ≡ (done ++ (front ++ (as_put ++ []))) ++ back
one_more text done rest front back piece as_put e f p =
    e ∙ (ap (λ l. done ++ l) (f ∙ ap (λ l. front ++ (l ++ back)) (sym p)
    ∙ (ap (λ l. front ++ (l ++ back)) (sym (append-nil as_put)) ∙ sym (append_assoc front (as_put ++ []) back)))
    ∙ sym (append_assoc done (front ++ (as_put ++ [])) back))

-- a front of the text was put
pub broken : (a b c : Stream) (text done piece more : List ℕ) → text ≡ (done ++ piece) ++ more → PutsAll a b done → PutsFront b c piece → PutsFront a c text
broken a b c text done piece more e h k = subst (PutsFront a c) (sym e) (front_longer a c (done ++ piece) more (front_after a b c done piece h k))

-- what was left of the text was put
pub whole : {T E : Type 0} (r : Result T E) (a b c : Stream) (text done rest : List ℕ) → text ≡ done ++ rest → PutsAll a b done → Puts r b c rest → Puts r a c text
whole r a b c text done rest e h k = subst (Puts r a c) (sym e) (puts_after r a b c done rest h k)

-- what is told of a verb
abbrev pub verb_part : Verb → List ℕ
verb_part verb = codes ",\"verb\":\"" ++ (verb_text verb ++ (codes "\"}" ++ []))

verb_quoted : (verb : Verb) → codes ",\"verb\":" ++ (quoted (verb_text verb) ++ codes "}") ≡ verb_part verb
unfolding escape_byte
verb_quoted Install = refl
verb_quoted Rollback = refl
verb_quoted Retire = refl
verb_quoted Virtual = refl
verb_quoted Place = refl

-- a reply's text, in the parts that are put
pub kept_parts : (kept : KeptReply) → kept_text kept ≡ (codes "{\"edition\":" ++ number_or_null_text kept.edition)
    ++ ((codes ",\"name\":" ++ quoted kept.name) ++ ((codes ",\"number\":" ++ decimal kept.number) ++ verb_part kept.verb))
kept_parts kept =
    ap (λ l. codes "{\"edition\":" ++ (number_or_null_text kept.edition ++ (codes ",\"name\":" ++ (quoted kept.name ++ (codes ",\"number\":" ++ (decimal kept.number ++ l)))))) (verb_quoted kept.verb)
    ∙ (ap (λ l. codes "{\"edition\":" ++ (number_or_null_text kept.edition ++ (codes ",\"name\":" ++ (quoted kept.name ++ l)))) (sym (append_assoc (codes ",\"number\":") (decimal kept.number) (verb_part kept.verb)))
    ∙ (ap (λ l. codes "{\"edition\":" ++ (number_or_null_text kept.edition ++ l)) (sym (append_assoc (codes ",\"name\":") (quoted kept.name) ((codes ",\"number\":" ++ decimal kept.number) ++ verb_part kept.verb)))
    ∙ sym (append_assoc (codes "{\"edition\":") (number_or_null_text kept.edition) _)))

module _ (kept : KeptReply) where
  abbrev behind_name : List ℕ
  behind_name = (codes ",\"number\":" ++ decimal kept.number) ++ verb_part kept.verb

  abbrev behind_edition : List ℕ
  behind_edition = (codes ",\"name\":" ++ quoted kept.name) ++ behind_name

  pub after_edition : (a b : Stream) → PutsFront a b (codes "{\"edition\":" ++ number_or_null_text kept.edition) → PutsFront a b (kept_text kept)
  after_edition a b h = subst (PutsFront a b) (sym (kept_parts kept)) (front_longer a b _ behind_edition h)

  pub after_name : (a b c : Stream) → PutsAll a b (codes "{\"edition\":" ++ number_or_null_text kept.edition) → PutsFront b c (codes ",\"name\":" ++ quoted kept.name) → PutsFront a c (kept_text kept)
  after_name a b c h k = subst (PutsFront a c) (sym (kept_parts kept)) (front_after a b c _ behind_edition h (front_longer b c _ behind_name k))

  pub after_number : (a b c d : Stream) → PutsAll a b (codes "{\"edition\":" ++ number_or_null_text kept.edition) → PutsAll b c (codes ",\"name\":" ++ quoted kept.name)
      → PutsFront c d (codes ",\"number\":" ++ decimal kept.number) → PutsFront a d (kept_text kept)
  after_number a b c d h k l = subst (PutsFront a d) (sym (kept_parts kept)) (front_after a b d _ behind_edition h (front_after b c d _ behind_name k (front_longer c d _ (verb_part kept.verb) l)))

  pub after_verb : {T E : Type 0} (r : Result T E) (a b c d e : Stream) → PutsAll a b (codes "{\"edition\":" ++ number_or_null_text kept.edition) → PutsAll b c (codes ",\"name\":" ++ quoted kept.name)
      → PutsAll c d (codes ",\"number\":" ++ decimal kept.number) → Puts r d e (verb_part kept.verb) → Puts r a e (kept_text kept)
  after_verb r a b c d e h k l p = subst (Puts r a e) (sym (kept_parts kept)) (puts_after r a b e _ behind_edition h (puts_after r b c e _ behind_name k (puts_after r c d e _ (verb_part kept.verb) l p)))
