-- The values of the headers of one name, header by header.
use Rattle.std.proofs.Common.{◌≡◌, ◌<◌, ◌+◌, ◌++◌, ℕ, suc, Bool, true, false, if◌then◌else◌, List, [], ◌∷◌, length, map, take, get_or, refl, sym, ap, ◌∙◌, subst, arith}
use Rattle.std.proofs.lemmas.List.{take_more, map-append}
use Rattle.std.proofs.Common.{Bor}
use Rattle.std.specs.Char.{to_ascii_lowercase}
use Rattle.std.specs.Str.{str_eq_ignore_ascii_case, str_to_ascii_lowercase}
use Rattle.std.proofs.lemmas.Slice.Eq.{bytes_eq-Decides}
use Rattle.http_request.specs.declared.kinds.Values.{Values}
use Rattle.http_request.specs.declared.kinds.Values.TheVariants.{Absent, One, Several}
use Rattle.http_request.specs.Fields.{Header, values_of, AreValues}

-- the values of one header
abbrev pub own : List ℕ → Header → List (List ℕ)
own name h = values_of name (h ∷ [])

more : (b : Bool) (v : List ℕ) (vs ws : List (List ℕ)) → (if b then v ∷ (vs ++ ws) else (vs ++ ws)) ≡ (if b then v ∷ vs else vs) ++ ws
more true v vs ws = refl
more false v vs ws = refl

pub values-append : (name : List ℕ) (hs gs : List Header) → values_of name (hs ++ gs) ≡ values_of name hs ++ values_of name gs
values-append name [] gs = refl
values-append name (h ∷ hs) gs = rw (values-append name hs gs) (more (str_eq_ignore_ascii_case h.0 name) h.1 (values_of name hs) (values_of name gs))

pub values_more : {X : Type 0} (name : List ℕ) (f : X → Header) (xs : List X) (i : ℕ) (d : X) → i < length xs
    → values_of name (map f (take (i + 1) xs)) ≡ values_of name (map f (take i xs)) ++ own name (f (get_or xs i d))
values_more name f xs i d h =
    ap (λ t. values_of name (map f t)) (take_more xs i d h)
    ∙ (ap (values_of name) (map-append f (take i xs) (get_or xs i d ∷ [])) ∙ values-append name (map f (take i xs)) (f (get_or xs i d) ∷ []))

-- ---- one header

lower_same : (name : List ℕ) (h : Header) (b : Bool) → str_eq_ignore_ascii_case h.0 name ≡ b → own name h ≡ (if b then h.1 ∷ [] else [])
lower_same name h b e = ap (λ t. if t then h.1 ∷ [] else []) e

pub own_same : (name : List ℕ) (h : Header) → map to_ascii_lowercase h.0 ≡ map to_ascii_lowercase name → own name h ≡ h.1 ∷ []
own_same name h e = lower_same name h true ((bytes_eq-Decides (str_to_ascii_lowercase h.0) (str_to_ascii_lowercase name)).1 e)

not_true : (b : Bool) → (b ≡ true → ⊥) → b ≡ false
not_true true h = absurd (h refl)
not_true false h = refl

pub own_other : (name : List ℕ) (h : Header) → (map to_ascii_lowercase h.0 ≡ map to_ascii_lowercase name → ⊥) → own name h ≡ []
own_other name h differs = lower_same name h false (not_true _ (λ t. differs ((bytes_eq-Decides (str_to_ascii_lowercase h.0) (str_to_ascii_lowercase name)).0 t)))

-- ---- the values after one more header

append_nil : {X : Type 0} (xs : List X) → xs ++ [] ≡ xs
append_nil [] = refl
append_nil (x ∷ xs) = ap (λ t. x ∷ t) (append_nil xs)

longer : (vs : List (List ℕ)) (v : List ℕ) → length (vs ++ v ∷ []) ≡ suc (length vs)
longer [] v = refl
longer (w ∷ vs) v = ap suc (longer vs v)

pub values_other : (found : Values) (vs ws own : List (List ℕ)) → AreValues found vs → own ≡ [] → ws ≡ vs ++ own → AreValues found ws
values_other found vs ws own is none e = subst (AreValues found) (sym (append_nil vs) ∙ (ap (λ t. vs ++ t) (sym none) ∙ sym e)) is

pub values_first : (value : Bor (List ℕ)) (vs ws own : List (List ℕ)) → AreValues Absent vs → own ≡ value.now ∷ [] → ws ≡ vs ++ own → AreValues (One value) ws
values_first value vs ws own is one e = e ∙ (ap (λ t. t ++ own) is ∙ one)

pub values_next : (vs ws own : List (List ℕ)) (v : List ℕ) → 0 < length vs → own ≡ v ∷ [] → ws ≡ vs ++ own → AreValues Several ws
values_next vs ws own v some one e = omega (arith, some, ap length e, ap (λ t. length (vs ++ t)) one, longer vs v)

pub one_some : (value : List ℕ) (vs : List (List ℕ)) → vs ≡ value ∷ [] → 0 < length vs
one_some value vs e = omega (arith, ap length e)
