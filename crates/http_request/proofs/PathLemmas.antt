-- The paths that the rows of the router find, and their names.
use Rattle.std.proofs.Common.{rules, ◌≡◌, ◌≢◌, ◌<◌, ◌-◌, ◌++◌, ◌==◌, ◌&&◌, ◌⊎◌, inl, inr, ℕ, suc, Bool, true, false, ltb, nat_eq, List, [], ◌∷◌, length, drop, get_or, Option, Some, None, option_map, codes, refl, sym, ap}
use Rattle.std.proofs.Common.{◌∙◌, subst, arith, lit<, Fits, w8}
use Rattle.std.proofs.Math.Facts.{Fits-lt-pow}
use Rattle.std.specs.List.{AllByRecursion, ends_with}
use Rattle.std.specs.Cmp.Lexicographic.{pointwise}
use Rattle.std.proofs.lemmas.List.{append_cancel_left, append_cancel_right}
use Rattle.matchit.specs.Rows.{param_token}
use Rattle.matchit.specs.Seek.{has_slash, first, seek, step, param_step, cuts}
use Rattle.http_request.specs.declared.route_kinds.Route.{Route}
use Rattle.http_request.specs.declared.route_kinds.Route.TheVariants.{Databases, Database, Rollback, Place, Virtual}
use Rattle.http_request.specs.Paths.{HasNoSlash, HasName, IsPath, before, path_after}
use Rattle.http_request.specs.Rows.{rows, with_name}
use Rattle.http_request.proofs.SeekLemmas.{Key, TheRows, not_eq, equal_or_not, none_at, by_octet, are_octets, word_back, word_on, IsOctet, passes, passes_all, slash_or_none, segment_whole, segment_front, no_slash, has_one, by_param}

-- ---- the rows, part by part

abbrev place_key : Key
place_key = (with_name (codes "/databases/") (codes "/place") 12 Place).1

abbrev rollback_key : Key
rollback_key = (with_name (codes "/databases/") (codes "/rollback") 12 Rollback).1

abbrev database_key : Key
database_key = (with_name (codes "/databases/") [] 12 Database).1

abbrev databases_key : Key
databases_key = record { pattern = codes "/databases"; text = codes "/databases"; names = []; value = Databases }

abbrev virtual_key : Key
virtual_key = (with_name (codes "/virtual/") [] 10 Virtual).1

-- what follows a name and its slash
abbrev ends : TheRows
ends = (codes "place", place_key) ∷ (codes "rollback", rollback_key) ∷ []

-- what follows a name
abbrev after_name : TheRows
after_name = (codes "/place", place_key) ∷ (codes "/rollback", rollback_key) ∷ ([], database_key) ∷ []

-- what follows `/databases/`
abbrev names : TheRows
names = (param_token ∷ codes "/place", place_key) ∷ (param_token ∷ codes "/rollback", rollback_key) ∷ (param_token ∷ [], database_key) ∷ []

-- what follows `/databases`
abbrev listed : TheRows
listed = (47 ∷ param_token ∷ codes "/place", place_key) ∷ (47 ∷ param_token ∷ codes "/rollback", rollback_key) ∷ (47 ∷ param_token ∷ [], database_key) ∷ ([], databases_key) ∷ []

-- what follows `/virtual/`
abbrev virtuals : TheRows
virtuals = (param_token ∷ [], virtual_key) ∷ []

-- what follows the first slash
abbrev tops : TheRows
tops =
    (codes "databases/" ++ param_token ∷ codes "/place", place_key)
    ∷ (codes "databases/" ++ param_token ∷ codes "/rollback", rollback_key)
    ∷ (codes "databases/" ++ param_token ∷ [], database_key)
    ∷ (codes "databases", databases_key)
    ∷ (codes "virtual/" ++ param_token ∷ [], virtual_key) ∷ []

-- ---- after a name and its slash

some_none : {k : Key} → None ≡ Some k → ⊥
some_none h = cc h

some_is : {j k : Key} → Some j ≡ Some k → j ≡ k
some_is h = cc h

-- the one row that is left, at its end
at_end : (j : Key) (path : List ℕ) (k : Key) → seek 0 (([], j) ∷ []) path ≡ Some k → (path ≡ []) × (j ≡ k)
unfolding seek
at_end j [] k h = (refl, some_is h)
at_end j (b ∷ path) k h = absurd (some_none (sym (by_octet (([], j) ∷ []) b path refl refl ∙ none_at path 0) ∙ h))

abbrev Ends : List ℕ → Key → Type 0
Ends path k = ((path ≡ codes "place") × (place_key ≡ k)) ⊎ ((path ≡ codes "rollback") × (rollback_key ≡ k))

place_end : (path : List ℕ) (k : Key) → seek 0 ((codes "lace", place_key) ∷ []) path ≡ Some k → (path ≡ codes "lace") × (place_key ≡ k)
place_end path k h =
    let a = word_back (codes "lace") (([], place_key) ∷ []) path k (are_octets (codes "lace") refl) h in
    let b = at_end place_key a.0 k a.2 in
    (a.1 ∙ ap (λ t. codes "lace" ++ t) b.0, b.1)

rollback_end : (path : List ℕ) (k : Key) → seek 0 ((codes "ollback", rollback_key) ∷ []) path ≡ Some k → (path ≡ codes "ollback") × (rollback_key ≡ k)
rollback_end path k h =
    let a = word_back (codes "ollback") (([], rollback_key) ∷ []) path k (are_octets (codes "ollback") refl) h in
    let b = at_end rollback_key a.0 k a.2 in
    (a.1 ∙ ap (λ t. codes "ollback" ++ t) b.0, b.1)

ends_back : (path : List ℕ) (k : Key) → seek 0 ends path ≡ Some k → Ends path k
unfolding seek
ends_back [] k h = absurd (some_none h)
ends_back (b ∷ path) k h = at_p (equal_or_not 112 b) (equal_or_not 114 b)
  where
    found : seek 0 (step b ends) path ≡ Some k
    found = sym (by_octet ends b path refl refl) ∙ h

    at_p : (112 ≡ b) ⊎ ((112 == b) ≡ false) → (114 ≡ b) ⊎ ((114 == b) ≡ false) → Ends (b ∷ path) k
    at_p (inl e) other =
        let a = place_end path k (subst (λ y. seek 0 (step y ends) path ≡ Some k) (sym e) found) in
        inl (ap (λ y. y ∷ path) (sym e) ∙ ap (λ t. 112 ∷ t) a.0, a.1)
    at_p (inr p) (inl e) =
        let a = rollback_end path k (subst (λ y. seek 0 (step y ends) path ≡ Some k) (sym e) found) in
        inr (ap (λ y. y ∷ path) (sym e) ∙ ap (λ t. 114 ∷ t) a.0, a.1)
    at_p (inr p) (inr r) =
        let none : step b ends ≡ [] = rw (p, r) refl in
        absurd (some_none (sym (ap (λ t. seek 0 t path) none ∙ none_at path 0) ∙ found))

-- ---- a name

both_false : (p q : Bool) → q ≡ false → (p && q) ≡ false
both_false true q h = h
both_false false q h = refl

last_of : (name : List ℕ) (b : ℕ) → drop (length name) (name ++ b ∷ []) ≡ b ∷ []
last_of [] b = refl
last_of (x ∷ name) b = last_of name b

longer : (name : List ℕ) (b : ℕ) → length (name ++ b ∷ []) ≡ suc (length name)
longer [] b = refl
longer (x ∷ name) b = ap suc (longer name b)

-- the octets but the last one, and the last one
split_last : (b : ℕ) (name : List ℕ) → (front : List ℕ) × (last : ℕ) × (b ∷ name ≡ front ++ last ∷ [])
split_last b [] = ([], b, refl)
split_last b (c ∷ name) = let s = split_last c name in (b ∷ s.0, s.1, ap (λ t. b ∷ t) s.2)

last_no_slash : (front : List ℕ) (last : ℕ) → HasNoSlash (front ++ last ∷ []) → last ≢ 47
last_no_slash [] last h = h.0
last_no_slash (x ∷ front) last h = last_no_slash front last h.1

minus_one : (n : ℕ) → suc n - 1 ≡ n
minus_one n = omega arith

-- a name doesn't end with a slash
no_slash_at_end : (b : ℕ) (name : List ℕ) → HasNoSlash (b ∷ name) → ends_with nat_eq (b ∷ name) (47 ∷ []) ≡ false
no_slash_at_end b name h =
    let s = split_last b name in
    let differs : s.1 ≢ 47 = last_no_slash s.0 s.1 (subst HasNoSlash s.2 h) in
    let d : drop (length (s.0 ++ s.1 ∷ []) - 1) (s.0 ++ s.1 ∷ []) ≡ s.1 ∷ [] =
    ap (λ n. drop (n - 1) (s.0 ++ s.1 ∷ [])) (longer s.0 s.1) ∙ (ap (λ n. drop n (s.0 ++ s.1 ∷ [])) (minus_one (length s.0)) ∙ last_of s.0 s.1) in
    let e : drop (length (b ∷ name) - 1) (b ∷ name) ≡ s.1 ∷ [] = subst (λ t. drop (length t - 1) t ≡ s.1 ∷ []) (sym s.2) d in
    subst (λ t. pointwise nat_eq (47 ∷ []) t ≡ false) (sym e) (ap (λ t. t && true) (not_eq 47 s.1 (λ q. differs (sym q))))

no_cut : (b : ℕ) (name : List ℕ) → HasNoSlash (b ∷ name) → cuts (b ∷ name) (47 ∷ []) ≡ false
no_cut b name h = both_false (ltb 1 (suc (length name))) _ (no_slash_at_end b name h)

-- a name at the end of the path
takes_all : (b : ℕ) (name : List ℕ) → HasNoSlash (b ∷ name) → param_step after_name (b ∷ name) ≡ (suc (length name), after_name)
unfolding param_step
takes_all b name h =
    rw (not_eq b 47 h.0, segment_whole name h.1, no_cut b name h) (rw (no_slash name h.1) refl)

-- a name with a slash after it
slash_at_end : (name : List ℕ) → ends_with nat_eq (name ++ 47 ∷ []) (47 ∷ []) ≡ true
slash_at_end name =
    let d : drop (length (name ++ 47 ∷ []) - 1) (name ++ 47 ∷ []) ≡ 47 ∷ [] =
    ap (λ n. drop (n - 1) (name ++ 47 ∷ [])) (longer name 47) ∙ (ap (λ n. drop n (name ++ 47 ∷ [])) (minus_one (length name)) ∙ last_of name 47) in
    subst (λ t. pointwise nat_eq (47 ∷ []) t ≡ true) (sym d) refl

and_true : (p q : Bool) → p ≡ true → q ≡ true → (p && q) ≡ true
and_true p q a b = cc (a, b)

two : (n : ℕ) → ltb 1 (suc (suc n)) ≡ true
two n = search rules

cut : (b : ℕ) (name : List ℕ) → cuts (b ∷ (name ++ 47 ∷ [])) (47 ∷ []) ≡ true
cut b name = and_true _ _ (subst (λ n. ltb 1 (suc n) ≡ true) (sym (longer name 47)) (two (length name))) (slash_at_end (b ∷ name))

takes : (b : ℕ) (name rest : List ℕ) → HasNoSlash (b ∷ name) → param_step after_name (b ∷ (name ++ 47 ∷ rest)) ≡ (suc (length name), (47 ∷ codes "place", place_key) ∷ (47 ∷ codes "rollback", rollback_key) ∷ [])
unfolding param_step
takes b name rest h = rw (not_eq b 47 h.0, segment_front name rest h.1, cut b name) (rw (longer name 47, minus_one (suc (length name))) refl)

no_octet : (b : ℕ) → b < 256 → step b names ≡ []
no_octet b small = rw (not_eq 256 b (λ e. omega (arith, small, e))) refl

-- ---- what follows `/databases/`

by_name : (b : ℕ) (path : List ℕ) → b < 256 → seek 0 names (b ∷ path) ≡ seek ((param_step after_name (b ∷ path)).0 - 1) (param_step after_name (b ∷ path)).1 path
by_name b path small = by_param names b path (no_octet b small) refl

names_plain : (b : ℕ) (name : List ℕ) → b < 256 → HasNoSlash (b ∷ name) → seek 0 names (b ∷ name) ≡ Some database_key
names_plain b name small h =
    by_name b name small
    ∙ (ap (λ (p : ℕ × TheRows). seek (p.0 - 1) p.1 name) (takes_all b name h)
    ∙ (ap (λ n. seek n after_name name) (minus_one (length name)) ∙ passes_all name after_name))

names_more : (b : ℕ) (name rest : List ℕ) → b < 256 → HasNoSlash (b ∷ name) → seek 0 names (b ∷ (name ++ 47 ∷ rest)) ≡ seek 0 ends rest
names_more b name rest small h =
    let slashed : TheRows = (47 ∷ codes "place", place_key) ∷ (47 ∷ codes "rollback", rollback_key) ∷ [] in
    by_name b (name ++ 47 ∷ rest) small
    ∙ (ap (λ (p : ℕ × TheRows). seek (p.0 - 1) p.1 (name ++ 47 ∷ rest)) (takes b name rest h)
    ∙ (ap (λ n. seek n slashed (name ++ 47 ∷ rest)) (minus_one (length name))
    ∙ (passes name (47 ∷ rest) slashed ∙ word_on (47 ∷ []) ends rest (are_octets (47 ∷ []) refl))))

names_bare : (rest : List ℕ) → seek 0 names (47 ∷ rest) ≡ None
unfolding param_step
names_bare rest = by_name 47 rest (lit< tt) ∙ none_at rest 0

-- ---- what is found has the form

rest_octets : (w rest : List ℕ) → AllByRecursion IsOctet (w ++ rest) → AllByRecursion IsOctet rest
rest_octets [] rest h = h
rest_octets (x ∷ w) rest h = rest_octets w rest h.1

-- a path that is found has the form of its row
abbrev pub Found : List ℕ → Key → Type 0
Found path k = (name : List ℕ) × IsPath path k.value name

key_found : (path : List ℕ) (j k : Key) → j ≡ k → Found path j → Found path k
key_found path j k e f = subst (Found path) e f

path_found : (path other : List ℕ) (k : Key) → path ≡ other → Found other k → Found path k
path_found path other k e f = subst (λ t. Found t k) (sym e) f

append_nil : (xs : List ℕ) → xs ++ [] ≡ xs
append_nil [] = refl
append_nil (x ∷ xs) = ap (λ t. x ∷ t) (append_nil xs)

with_end : (name rest : List ℕ) (k : Key) → 0 < length name → HasNoSlash name → Ends rest k → Found (codes "/databases/" ++ (name ++ 47 ∷ rest)) k
with_end name rest k some none (inl e) =
    path_found _ (codes "/databases/" ++ (name ++ codes "/place")) k (ap (λ t. codes "/databases/" ++ (name ++ 47 ∷ t)) e.0)
    (key_found _ place_key k e.1 (name, record { is = refl; named = (some, none) }))
with_end name rest k some none (inr e) =
    path_found _ (codes "/databases/" ++ (name ++ codes "/rollback")) k (ap (λ t. codes "/databases/" ++ (name ++ 47 ∷ t)) e.0)
    (key_found _ rollback_key k e.1 (name, record { is = refl; named = (some, none) }))

positive : (n : ℕ) → 0 < suc n
positive n = omega arith

names_back : (path : List ℕ) (k : Key) → AllByRecursion IsOctet path → seek 0 names path ≡ Some k → Found (codes "/databases/" ++ path) k
unfolding seek
names_back [] k small h = absurd (some_none h)
names_back (b ∷ path) k small h = by_slash (slash_or_none (b ∷ path))
  where
    by_slash : HasNoSlash (b ∷ path) ⊎ ((name : List ℕ) × (rest : List ℕ) × (b ∷ path ≡ name ++ 47 ∷ rest) × HasNoSlash name) → Found (codes "/databases/" ++ b ∷ path) k
    by_slash (inl none) =
        key_found _ database_key k (some_is (sym (names_plain b path small.0 none) ∙ h))
        (b ∷ path, record { is = ap (λ t. codes "/databases/" ++ t) (sym (append_nil (b ∷ path))); named = (positive (length path), none) })
    by_slash (inr ([], rest, e, none)) = absurd (some_none (sym (names_bare rest) ∙ (ap (λ t. seek 0 names t) (sym e) ∙ h)))
    by_slash (inr (c ∷ name, rest, e, none)) =
        let octet : c < 256 = (subst (AllByRecursion IsOctet) e small).0 in
        let found : seek 0 ends rest ≡ Some k = sym (names_more c name rest octet none) ∙ (ap (λ t. seek 0 names t) (sym e) ∙ h) in
        path_found _ (codes "/databases/" ++ (c ∷ name ++ 47 ∷ rest)) k (ap (λ t. codes "/databases/" ++ t) e)
        (with_end (c ∷ name) rest k (positive (length name)) none (ends_back rest k found))

listed_back : (path : List ℕ) (k : Key) → AllByRecursion IsOctet path → seek 0 listed path ≡ Some k → Found (codes "/databases" ++ path) k
unfolding seek
listed_back [] k small h = key_found _ databases_key k (some_is h) ([], record { is = refl; named = refl })
listed_back (b ∷ path) k small h = at_slash (equal_or_not 47 b)
  where
    found : seek 0 (step b listed) path ≡ Some k
    found = sym (by_octet listed b path refl refl) ∙ h

    at_slash : (47 ≡ b) ⊎ ((47 == b) ≡ false) → Found (codes "/databases" ++ b ∷ path) k
    at_slash (inl e) =
        path_found _ (codes "/databases/" ++ path) k (ap (λ y. codes "/databases" ++ y ∷ path) (sym e))
        (names_back path k small.1 (subst (λ y. seek 0 (step y listed) path ≡ Some k) (sym e) found))
    at_slash (inr e) =
        let none : step b listed ≡ [] = rw e refl in
        absurd (some_none (sym (ap (λ t. seek 0 t path) none ∙ none_at path 0) ∙ found))

-- ---- what follows `/virtual/`

virtual_plain : (b : ℕ) (name : List ℕ) → b < 256 → HasNoSlash (b ∷ name) → seek 0 virtuals (b ∷ name) ≡ Some virtual_key
unfolding param_step
virtual_plain b name small h =
    by_param virtuals b name (rw (not_eq 256 b (λ e. omega (arith, small, e))) refl) refl
    ∙ (rw (not_eq b 47 h.0, no_slash name h.1) (ap (λ n. seek n (([], virtual_key) ∷ []) name) (minus_one (length name)) ∙ passes_all name (([], virtual_key) ∷ [])))

virtual_slash : (b : ℕ) (path : List ℕ) → b < 256 → has_slash (b ∷ path) ≡ true → seek 0 virtuals (b ∷ path) ≡ None
unfolding param_step
virtual_slash b path small h =
    by_param virtuals b path (rw (not_eq 256 b (λ e. omega (arith, small, e))) refl) refl
    ∙ (rw h (none_at path 0))

virtual_back : (path : List ℕ) (k : Key) → AllByRecursion IsOctet path → seek 0 virtuals path ≡ Some k → Found (codes "/virtual/" ++ path) k
unfolding seek
virtual_back [] k small h = absurd (some_none h)
virtual_back (b ∷ path) k small h = by_slash (slash_or_none (b ∷ path))
  where
    by_slash : HasNoSlash (b ∷ path) ⊎ ((name : List ℕ) × (rest : List ℕ) × (b ∷ path ≡ name ++ 47 ∷ rest) × HasNoSlash name) → Found (codes "/virtual/" ++ b ∷ path) k
    by_slash (inl none) =
        key_found _ virtual_key k (some_is (sym (virtual_plain b path small.0 none) ∙ h))
        (b ∷ path, record { is = ap (λ t. codes "/virtual/" ++ t) (sym (append_nil (b ∷ path))); named = (positive (length path), none) })
    by_slash (inr (name, rest, e, none)) =
        let slash : has_slash (b ∷ path) ≡ true = ap has_slash e ∙ has_one name rest none in
        absurd (some_none (sym (virtual_slash b path small.0 slash) ∙ h))

-- ---- all rows

tops_back : (path : List ℕ) (k : Key) → AllByRecursion IsOctet path → seek 0 tops path ≡ Some k → Found (47 ∷ path) k
unfolding seek
tops_back [] k small h = absurd (some_none h)
tops_back (b ∷ path) k small h = at_first (equal_or_not 100 b) (equal_or_not 118 b)
  where
    found : seek 0 (step b tops) path ≡ Some k
    found = sym (by_octet tops b path refl refl) ∙ h

    at_first : (100 ≡ b) ⊎ ((100 == b) ≡ false) → (118 ≡ b) ⊎ ((118 == b) ≡ false) → Found (47 ∷ b ∷ path) k
    at_first (inl e) other =
        let a = word_back (codes "atabases") listed path k (are_octets (codes "atabases") refl) (subst (λ y. seek 0 (step y tops) path ≡ Some k) (sym e) found) in
        path_found _ (codes "/databases" ++ a.0) k (ap (λ y. 47 ∷ y ∷ path) (sym e) ∙ ap (λ t. 47 ∷ 100 ∷ t) a.1)
        (listed_back a.0 k (rest_octets (codes "atabases") a.0 (subst (AllByRecursion IsOctet) a.1 small.1)) a.2)
    at_first (inr d) (inl e) =
        let a = word_back (codes "irtual/") virtuals path k (are_octets (codes "irtual/") refl) (subst (λ y. seek 0 (step y tops) path ≡ Some k) (sym e) found) in
        path_found _ (codes "/virtual/" ++ a.0) k (ap (λ y. 47 ∷ y ∷ path) (sym e) ∙ ap (λ t. 47 ∷ 118 ∷ t) a.1)
        (virtual_back a.0 k (rest_octets (codes "irtual/") a.0 (subst (AllByRecursion IsOctet) a.1 small.1)) a.2)
    at_first (inr d) (inr v) =
        let none : step b tops ≡ [] = rw (d, v) refl in
        absurd (some_none (sym (ap (λ t. seek 0 t path) none ∙ none_at path 0) ∙ found))

-- what is found has the form of its row
pub found_is : (path : List ℕ) (k : Key) → AllByRecursion IsOctet path → first rows path ≡ Some k → Found path k
found_is path k small h =
    let a = word_back (47 ∷ []) tops path k (are_octets (47 ∷ []) refl) h in
    path_found _ (47 ∷ a.0) k a.1 (tops_back a.0 k (rest_octets (47 ∷ []) a.0 (subst (AllByRecursion IsOctet) a.1 small)) a.2)

-- ---- what has the form is found

databases_on : (p : List ℕ) → first rows (codes "/databases/" ++ p) ≡ seek 0 names p
databases_on p =
    word_on (47 ∷ []) tops (codes "databases/" ++ p) (are_octets (47 ∷ []) refl)
    ∙ (by_octet tops 100 (codes "atabases/" ++ p) refl refl
    ∙ (word_on (codes "atabases") listed (47 ∷ p) (are_octets (codes "atabases") refl)
    ∙ by_octet listed 47 p refl refl))

virtual_on : (p : List ℕ) → first rows (codes "/virtual/" ++ p) ≡ seek 0 virtuals p
virtual_on p =
    word_on (47 ∷ []) tops (codes "virtual/" ++ p) (are_octets (47 ∷ []) refl)
    ∙ (by_octet tops 118 (codes "irtual/" ++ p) refl refl
    ∙ word_on (codes "irtual/") virtuals p (are_octets (codes "irtual/") refl))

list_on : first rows (codes "/databases") ≡ Some databases_key
unfolding seek param_step
list_on = refl

place_on : seek 0 ends (codes "place") ≡ Some place_key
unfolding seek param_step
place_on = refl

rollback_on : seek 0 ends (codes "rollback") ≡ Some rollback_key
unfolding seek param_step
rollback_on = refl

abbrev value_at : List ℕ → Option Route
value_at path = option_map (λ (row : Key). row.value) (first rows path)

value_is : (path : List ℕ) (k : Key) → first rows path ≡ Some k → value_at path ≡ Some k.value
value_is path k h = ap (option_map (λ (row : Key). row.value)) h

found_at : (path : List ℕ) (route : Route) (name : List ℕ) → AllByRecursion IsOctet path → path ≡ before route ++ (name ++ path_after route) → HasName route name → value_at path ≡ Some route
found_at path Databases name small is named = ap value_at (is ∙ ap (λ t. codes "/databases" ++ (t ++ [])) named) ∙ value_is (codes "/databases") databases_key list_on
found_at path Database [] small is named = absurd (omega (arith, named.0))
found_at path Database (b ∷ name) small is named =
    let e : path ≡ codes "/databases/" ++ b ∷ name = is ∙ ap (λ t. codes "/databases/" ++ t) (append_nil (b ∷ name)) in
    let octet : b < 256 = (rest_octets (codes "/databases/") (b ∷ name) (subst (AllByRecursion IsOctet) e small)).0 in
    ap value_at e ∙ value_is _ database_key (databases_on (b ∷ name) ∙ names_plain b name octet named.1)
found_at path Rollback [] small is named = absurd (omega (arith, named.0))
found_at path Rollback (b ∷ name) small is named =
    let octet : b < 256 = (rest_octets (codes "/databases/") (b ∷ name ++ codes "/rollback") (subst (AllByRecursion IsOctet) is small)).0 in
    ap value_at is ∙ value_is _ rollback_key (databases_on (b ∷ name ++ codes "/rollback") ∙ (names_more b name (codes "rollback") octet named.1 ∙ rollback_on))
found_at path Place [] small is named = absurd (omega (arith, named.0))
found_at path Place (b ∷ name) small is named =
    let octet : b < 256 = (rest_octets (codes "/databases/") (b ∷ name ++ codes "/place") (subst (AllByRecursion IsOctet) is small)).0 in
    ap value_at is ∙ value_is _ place_key (databases_on (b ∷ name ++ codes "/place") ∙ (names_more b name (codes "place") octet named.1 ∙ place_on))
found_at path Virtual [] small is named = absurd (omega (arith, named.0))
found_at path Virtual (b ∷ name) small is named =
    let e : path ≡ codes "/virtual/" ++ b ∷ name = is ∙ ap (λ t. codes "/virtual/" ++ t) (append_nil (b ∷ name)) in
    let octet : b < 256 = (rest_octets (codes "/virtual/") (b ∷ name) (subst (AllByRecursion IsOctet) e small)).0 in
    ap value_at e ∙ value_is _ virtual_key (virtual_on (b ∷ name) ∙ virtual_plain b name octet named.1)

-- where nothing is found, the path has none of the forms
pub not_found : (path : List ℕ) (route : Route) (name : List ℕ) → AllByRecursion IsOctet path → first rows path ≡ None → IsPath path route name → ⊥
not_found path route name small h is = cc (sym (found_at path route name small is.is is.named) ∙ ap (option_map (λ (row : Key). row.value)) h)

-- ---- octets of a text

pub octets_of : (xs : List ℕ) → ((i : ℕ) → Fits w8 (get_or xs i 0)) → AllByRecursion IsOctet xs
octets_of [] h = tt
octets_of (x ∷ xs) h = (Fits-lt-pow (h 0), octets_of xs (λ i. h (suc i)))

pub same_rest : (pre rest other path : List ℕ) → path ≡ pre ++ rest → path ≡ pre ++ other → rest ≡ other
same_rest pre rest other path a b = append_cancel_left pre rest other (sym a ∙ b)

pub same_front : (front other suf rest : List ℕ) → rest ≡ front ++ suf → rest ≡ other ++ suf → front ≡ other
same_front front other suf rest a b = append_cancel_right front other suf (sym a ∙ b)
