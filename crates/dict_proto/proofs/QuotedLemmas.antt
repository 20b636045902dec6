-- A text with backslashes, up to the first octet that needs one.
use Rattle.std.proofs.Common.{◌≡◌, ℕ, suc, ◌<◌, ◌≤◌, List, [], ◌∷◌, ◌++◌, Bool, true, false, arith, length, take, drop, get_or, refl, sym, ap, ◌∙◌}
use Rattle.std.specs.Prelude.{Some, None}
use Rattle.std.specs.List.{flat_map, position, position_or_len}
use Rattle.dict_proto.specs.Text.{escaped, needs_backslash}
use Rattle.dict_text.proofs.PositionLemmas.{here, later, position_is, position_none}

-- the text up to n, the octet there with a backslash, and what follows
split_at : List ℕ → ℕ → List ℕ
split_at text n = take n text ++ (92 ∷ get_or text n 0 ∷ flat_map escaped (drop (suc n) text))

escaped-needed : (c : ℕ) → needs_backslash c ≡ true → escaped c ≡ 92 ∷ c ∷ []
escaped-needed c e = rw e refl

escaped-other : (c : ℕ) → needs_backslash c ≡ false → escaped c ≡ c ∷ []
escaped-other c e = rw e refl

to_first : (text : List ℕ) → position_or_len needs_backslash text < length text → flat_map escaped text ≡ split_at text (position_or_len needs_backslash text)
unfolding split_at
to_first [] lt = absurd (omega arith)
to_first (c ∷ text) lt = by_test (to_first text) (needs_backslash c) refl
  where
    by_test : (position_or_len needs_backslash text < length text → flat_map escaped text ≡ split_at text (position_or_len needs_backslash text)) → (test : Bool) → needs_backslash c ≡ test
        → flat_map escaped (c ∷ text) ≡ split_at (c ∷ text) (position_or_len needs_backslash (c ∷ text))
    by_test more true e = ap (λ l. l ++ flat_map escaped text) (escaped-needed c e) ∙ ap (split_at (c ∷ text)) (sym (here needs_backslash c text e))
    by_test more false e =
        let further : position_or_len needs_backslash text < length text = let n = later needs_backslash c text e in omega (arith, lt, n) in
        ap (λ l. l ++ flat_map escaped text) (escaped-other c e) ∙ (ap (λ l. c ∷ l) (more further) ∙ ap (split_at (c ∷ text)) (sym (later needs_backslash c text e)))

without : (text : List ℕ) → length text ≤ position_or_len needs_backslash text → flat_map escaped text ≡ text
without [] h = refl
without (c ∷ text) h = by_test (without text) (needs_backslash c) refl
  where
    by_test : (length text ≤ position_or_len needs_backslash text → flat_map escaped text ≡ text) → (test : Bool) → needs_backslash c ≡ test → flat_map escaped (c ∷ text) ≡ c ∷ text
    by_test more true e = absurd (let n = here needs_backslash c text e in omega (arith, h, n))
    by_test more false e =
        let further : length text ≤ position_or_len needs_backslash text = let n = later needs_backslash c text e in omega (arith, h, n) in
        ap (λ l. l ++ flat_map escaped text) (escaped-other c e) ∙ ap (λ l. c ∷ l) (more further)

-- up to the first octet that needs a backslash
pub flat_map-escaped_some : (text : List ℕ) (i : ℕ) → position needs_backslash text ≡ Some i → flat_map escaped text ≡ take i text ++ (92 ∷ get_or text i 0 ∷ flat_map escaped (drop (suc i) text))
unfolding split_at
flat_map-escaped_some text i e =
    let (is, lt) = position_is needs_backslash text i e in
    to_first text lt ∙ ap (split_at text) (sym is)

-- where there is none, the text stays
pub flat_map-escaped_none : (text : List ℕ) → position needs_backslash text ≡ None → flat_map escaped text ≡ text
flat_map-escaped_none text e = without text (position_none needs_backslash text e)
