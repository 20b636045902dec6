-- One line more among those that are gathered.
use Rattle.std.proofs.Common.{◌≡◌, ◌≢◌, ℕ, zero, suc, ◌≤◌, List, [], ◌∷◌, ◌++◌, refl, sym, ap, ◌∙◌, subst, arith, cond, ◌⊎◌, Bool, true, false, inl, inr}
use Rattle.std.proofs.lemmas.Bool.Decides.{not_from_Decides}
use Rattle.std.proofs.lemmas.Slice.Eq.{bytes_eq-Decides}
use Rattle.std.specs.Prelude.{nat_eq, not, map, find, Option, Some, None, ◌||◌, codes, take}
use Rattle.std.specs.List.{AllZip, AllByRecursion, starts_with, list_any}
use Rattle.std.specs.Option.{option_map}
use Rattle.std.specs.Str.{bytes_eq}
use Rattle.dict_match.specs.Key.{reserved_key_of}
use Rattle.dict_index.specs.Line.{Line, IsLine, body_in}
use Rattle.dict_index.specs.Reserved.{is_reserved, is_known_reserved, text_under, short_key, info_key}
use Rattle.dict_index.specs.Tests.{NoneHasKey}
use Rattle.dict_index.specs.Meaning.{entry_lines}
use Rattle.dict_index.proofs.LineLemmas.{if_says}

pub said_push : (lines : List (List ℕ)) (said : List Line) (line : List ℕ) (s : Line) → AllZip IsLine lines said → IsLine line s → AllZip IsLine (lines ++ line ∷ []) (said ++ s ∷ [])
said_push [] [] line s h l = (l, tt)
said_push [] (x ∷ said) line s h l = absurd h
said_push (x ∷ lines) [] line s h l = absurd h
said_push (x ∷ lines) (y ∷ said) line s h l = (h.0, said_push lines said line s h.1 l)

pub map_push : {X Y : Type 0} (f : X → Y) (xs : List X) (x : X) → map f (xs ++ x ∷ []) ≡ map f xs ++ f x ∷ []
map_push f [] x = refl
map_push f (y ∷ xs) x = ap (λ l. f y ∷ l) (map_push f xs x)

-- a line that makes an entry is the last of those that do; one that doesn't changes nothing
pub entry_lines_push : (said : List Line) (s : Line) (b : Bool) → is_reserved (reserved_key_of s.headword) ≡ b → entry_lines (said ++ s ∷ []) ≡ cond b (entry_lines said) (entry_lines said ++ s ∷ [])
entry_lines_push [] s true e = rw e refl
entry_lines_push [] s false e = rw e refl
entry_lines_push (x ∷ said) s b e = by_first (is_reserved (reserved_key_of x.headword)) b (entry_lines said) s (entry_lines (said ++ s ∷ [])) (entry_lines_push said s b e)
  where
    by_first : (t b : Bool) (before : List Line) (s : Line) (after : List Line) → after ≡ cond b before (before ++ s ∷ []) →
        cond (not t) (x ∷ after) after ≡ cond b (cond (not t) (x ∷ before) before) (cond (not t) (x ∷ before) before ++ s ∷ [])
    by_first true b before s after h = h
    by_first false true before s after h = ap (λ l. x ∷ l) h
    by_first false false before s after h = ap (λ l. x ∷ l) h

-- what is under a key, with a line more
pub under_push : (key text : List ℕ) (said : List Line) (s : Line) → bytes_eq (reserved_key_of s.headword) key ≡ false → text_under key text (said ++ s ∷ []) ≡ text_under key text said
under_push key text [] s e = rw e refl
under_push key text (x ∷ said) s e = by_first (bytes_eq (reserved_key_of x.headword) key) _ _ (under_push key text said s e)
  where
    by_first : (t : Bool) (a b : Option Line) → option_map (body_in text) a ≡ option_map (body_in text) b → option_map (body_in text) (cond t (Some x) a) ≡ option_map (body_in text) (cond t (Some x) b)
    by_first true a b h = refl
    by_first false a b h = h

pub under_first : (key text : List ℕ) (said : List Line) (s : Line) → text_under key text said ≡ None → bytes_eq (reserved_key_of s.headword) key ≡ true → text_under key text (said ++ s ∷ []) ≡ Some (body_in text s)
under_first key text [] s none e = rw e refl
under_first key text (x ∷ said) s none e = by_first (bytes_eq (reserved_key_of x.headword) key) (find (λ said. bytes_eq (reserved_key_of said.headword) key) said) _ none (λ h. under_first key text said s h e)
  where
    by_first : (t : Bool) (a b : Option Line) → option_map (body_in text) (cond t (Some x) a) ≡ None → (option_map (body_in text) a ≡ None → option_map (body_in text) b ≡ Some (body_in text s))
        → option_map (body_in text) (cond t (Some x) b) ≡ Some (body_in text s)
    by_first true a b h k = absurd (let no : Some (body_in text x) ≡ None = h in cc)
    by_first false a b h k = k h

-- no line has the key where nothing is under it, and some line has it where something is
pub none_has_key : (key text : List ℕ) (lines : List (List ℕ)) (said : List Line) → AllZip IsLine lines said → text_under key text said ≡ None → NoneHasKey lines key
none_has_key key text [] [] h none = tt
none_has_key key text [] (s ∷ said) h none = absurd h
none_has_key key text (l ∷ lines) [] h none = absurd h
none_has_key key text (l ∷ lines) (s ∷ said) h none = by_first (λ k. none_has_key key text lines said h.1 k) (bytes_eq (reserved_key_of s.headword) key) refl none
  where
    by_first : (text_under key text said ≡ None → NoneHasKey lines key) → (t : Bool) → bytes_eq (reserved_key_of s.headword) key ≡ t
        → option_map (body_in text) (cond t (Some s) (find (λ said. bytes_eq (reserved_key_of said.headword) key) said)) ≡ None → NoneHasKey (l ∷ lines) key
    by_first later true e k = absurd (let no : Some (body_in text s) ≡ None = k in cc)
    by_first later false e k = (if_says l s (λ said. reserved_key_of said.headword ≢ key) h.0 (not_from_Decides _ (bytes_eq-Decides (reserved_key_of s.headword) key) e), later k)

-- where a line has the key, something is under it
pub some_has_key : (key text : List ℕ) (lines : List (List ℕ)) (said : List Line) → AllZip IsLine lines said → NoneHasKey lines key → text_under key text said ≡ None
some_has_key key text [] [] h none = refl
some_has_key key text [] (s ∷ said) h none = absurd h
some_has_key key text (l ∷ lines) [] h none = absurd h
some_has_key key text (l ∷ lines) (s ∷ said) h none = by_first (bytes_eq (reserved_key_of s.headword) key) refl (some_has_key key text lines said h.1 none.1)
  where
    by_first : (t : Bool) → bytes_eq (reserved_key_of s.headword) key ≡ t → text_under key text said ≡ None → option_map (body_in text) (cond t (Some s) (find (λ said. bytes_eq (reserved_key_of said.headword) key) said)) ≡ None
    by_first true e k = absurd (none.0 s h.0 ((bytes_eq-Decides (reserved_key_of s.headword) key).0 e))
    by_first false e k = k

or_cases : (a b : Bool) → (a || b) ≡ true → (a ≡ true) ⊎ (b ≡ true)
or_cases true b e = inl refl
or_cases false b e = inr e

-- a key that is one of these, each of which is reserved
among_reserved : (key : List ℕ) (names : List (List ℕ)) → AllByRecursion (λ name. is_reserved name ≡ true) names → list_any (bytes_eq key) names ≡ true → is_reserved key ≡ true
among_reserved key [] h e = absurd (let no : false ≡ true = e in cc)
among_reserved key (name ∷ names) h e = elim (or_cases (bytes_eq key name) (list_any (bytes_eq key) names) e) [
  | inl here ↦ subst (λ k. is_reserved k ≡ true) (sym ((bytes_eq-Decides key name).0 here)) h.0
  | inr later ↦ among_reserved key names h.1 later
]

take_of_take : (m n : ℕ) (xs : List ℕ) → m ≤ n → take m (take n xs) ≡ take m xs
take_of_take zero n xs le = refl
take_of_take (suc m) zero xs le = absurd (omega arith)
take_of_take (suc m) (suc n) [] le = refl
take_of_take (suc m) (suc n) (x ∷ xs) le = ap (λ l. x ∷ l) (take_of_take m n xs (omega arith))

-- a known reserved key is reserved
pub known_is_reserved : (key : List ℕ) → is_known_reserved key ≡ true → is_reserved key ≡ true
known_is_reserved key e = elim (or_cases (list_any (bytes_eq key) (short_key ∷ info_key ∷ codes "00databaseurl" ∷ codes "00databaseutf8" ∷ codes "00databasealphabet" ∷ [])) (starts_with nat_eq key (codes "00databasedictfmt")) e) [
  | inl named ↦ among_reserved key (short_key ∷ info_key ∷ codes "00databaseurl" ∷ codes "00databaseutf8" ∷ codes "00databasealphabet" ∷ []) (refl, (refl, (refl, (refl, (refl, tt))))) named
  | inr format ↦
      let front : codes "00databasedictfmt" ≡ take 17 key = (bytes_eq-Decides (codes "00databasedictfmt") (take 17 key)).0 format in
      let shorter : take 10 key ≡ take 10 (take 17 key) = sym (take_of_take 10 17 key (omega arith)) in
      subst (λ l. bytes_eq (codes "00database") l ≡ true) (sym (shorter ∙ ap (take 10) (sym front))) refl
]
