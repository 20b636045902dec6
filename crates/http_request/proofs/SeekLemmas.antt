-- What `matchit` finds for rows of this crate's shapes.
use Rattle.std.proofs.Common.{rules, ◌≡◌, ◌≢◌, ◌<◌, ◌-◌, ◌++◌, ◌==◌, ◌&&◌, ◌⊎◌, inl, inr, ℕ, zero, suc, Bool, true, false, cond, nat_lt, List, [], ◌∷◌, length, Option, Some, None, refl, sym, ap, ◌∙◌, subst, arith}
use Rattle.std.specs.List.{AllByRecursion, list_all}
use Rattle.matchit.specs.Rows.{RowsOf, param_token, catch_all_token}
use Rattle.matchit.specs.Router.{RouteOf}
use Rattle.matchit.specs.Seek.{segment, has_slash, seek, step, own, or_else, param_step}
use Rattle.http_request.specs.declared.route_kinds.Route.{Route}
use Rattle.http_request.specs.Paths.{HasNoSlash}

abbrev pub Key : Type 0
Key = RouteOf Route

abbrev pub TheRows : Type 0
TheRows = RowsOf Key

or_none : (x : Option Key) → or_else x None ≡ x
or_none None = refl
or_none (Some k) = refl

neither : (x y : Option Key) → x ≡ None → y ≡ None → or_else x (or_else y None) ≡ None
neither x y p q = ap (λ t. or_else t (or_else y None)) p ∙ (ap (λ t. or_else t None) q)

-- ---- tests of numbers

pub eq_refl : (a : ℕ) → (a == a) ≡ true
eq_refl a = search rules

pub not_eq : (a b : ℕ) → (a ≡ b → ⊥) → (a == b) ≡ false
not_eq a b h = search rules

same_if : (a b : ℕ) → (a == b) ≡ true → a ≡ b
same_if a b h = search rules

-- two numbers are equal, or the test tells them apart
pub equal_or_not : (a b : ℕ) → (a ≡ b) ⊎ ((a == b) ≡ false)
equal_or_not a b = decide (a == b) refl
  where
    decide : (t : Bool) → (a == b) ≡ t → (a ≡ b) ⊎ ((a == b) ≡ false)
    decide true h = inl (same_if a b h)
    decide false h = inr h

-- ---- no rows

none_after : (path : List ℕ) → ((k : ℕ) → seek {K = Key} k [] path ≡ None) → (s : Bool) (n : ℕ) → (seek ((cond {A = ℕ × TheRows} s (0, []) (n, [])).0 - 1) (cond {A = ℕ × TheRows} s (0, []) (n, [])).1 path) ≡ None
none_after path h true n = h 0
none_after path h false n = h (n - 1)

pub none_at : (path : List ℕ) (k : ℕ) → seek {K = Key} k [] path ≡ None
unfolding seek param_step
none_at [] k = refl
none_at (b ∷ path) (suc k) = none_at path k
none_at (b ∷ path) zero = neither _ _ (none_at path zero) (none_after path (none_at path) (has_slash (b ∷ path)) (length (b ∷ path)))

-- ---- rows that all go on by an octet

-- where no row goes on with a parameter, an octet goes on with the rows that have it
pub by_octet : (rs : TheRows) (b : ℕ) (path : List ℕ) → step param_token rs ≡ [] → step catch_all_token rs ≡ [] → seek 0 rs (b ∷ path) ≡ seek 0 (step b rs) path
unfolding seek param_step
by_octet rs b path no_param no_rest =
    rw (no_param, no_rest)
    (ap (λ y. or_else (seek 0 (step b rs) path) (or_else y None)) (none_after path (none_at path) (has_slash (b ∷ path)) (length (b ∷ path)))
    ∙ or_none (seek 0 (step b rs) path))

-- an octet in front of each row
abbrev pub prefixed : ℕ → TheRows → TheRows
prefixed x [] = []
prefixed x ((t, key) ∷ rs) = (x ∷ t, key) ∷ prefixed x rs

pub step_same : (x : ℕ) (rs : TheRows) → step x (prefixed x rs) ≡ rs
step_same x [] = refl
step_same x ((t, key) ∷ rs) = rw (eq_refl x, step_same x rs) refl

pub step_other : (x b : ℕ) (rs : TheRows) → (x == b) ≡ false → step b (prefixed x rs) ≡ []
step_other x b [] h = refl
step_other x b ((t, key) ∷ rs) h = rw h (step_other x b rs h)

own_prefixed : (x : ℕ) (rs : TheRows) → own (prefixed x rs) ≡ None
own_prefixed x [] = refl
own_prefixed x ((t, key) ∷ rs) = own_prefixed x rs

-- a token of a pattern that is an octet
abbrev pub IsOctet : ℕ → Type 0
IsOctet x = x < 256

pub prefixed_octet : (x : ℕ) (rs : TheRows) (b : ℕ) (path : List ℕ) → IsOctet x → seek 0 (prefixed x rs) (b ∷ path) ≡ seek 0 (step b (prefixed x rs)) path
prefixed_octet x rs b path small =
    by_octet (prefixed x rs) b path
    (step_other x param_token rs (not_eq x 256 (λ e. omega (arith, small, e))))
    (step_other x catch_all_token rs (not_eq x 257 (λ e. omega (arith, small, e))))

some_none : {k : Key} → None ≡ Some k → ⊥
some_none h = cc h

-- what is found by rows with an octet in front begins with it
pub octet_back : (x : ℕ) (rs : TheRows) (path : List ℕ) (k : Key) → IsOctet x → seek 0 (prefixed x rs) path ≡ Some k → (rest : List ℕ) × (path ≡ x ∷ rest) × (seek 0 rs rest ≡ Some k)
unfolding seek
octet_back x rs [] k small h = absurd (some_none (sym (own_prefixed x rs) ∙ h))
octet_back x rs (b ∷ path) k small h = by_cases (equal_or_not x b)
  where
    found : seek 0 (step b (prefixed x rs)) path ≡ Some k
    found = sym (prefixed_octet x rs b path small) ∙ h

    by_cases : (x ≡ b) ⊎ ((x == b) ≡ false) → (rest : List ℕ) × (b ∷ path ≡ x ∷ rest) × (seek 0 rs rest ≡ Some k)
    by_cases (inl e) = (path, ap (λ y. y ∷ path) (sym e), subst (λ t. seek 0 t path ≡ Some k) (subst (λ y. step y (prefixed x rs) ≡ rs) e (step_same x rs)) found)
    by_cases (inr e) = absurd (some_none (sym (ap (λ t. seek 0 t path) (step_other x b rs e) ∙ none_at path 0) ∙ found))

both_true : (p q : Bool) → (p && q) ≡ true → (p ≡ true) × (q ≡ true)
both_true true q h = (refl, h)
both_true false q h = absurd (cc h)

less_if : (a b : ℕ) → nat_lt a b ≡ true → a < b
less_if a b h = search rules

-- a test that computes
pub are_octets : (w : List ℕ) → list_all (λ x. nat_lt x 256) w ≡ true → AllByRecursion IsOctet w
are_octets [] h = tt
are_octets (x ∷ w) h =
    let b = both_true (nat_lt x 256) (list_all (λ y. nat_lt y 256) w) h in
    (less_if x 256 b.0, are_octets w b.1)

-- octets in front of each row
abbrev pub prefixed_all : List ℕ → TheRows → TheRows
prefixed_all [] rs = rs
prefixed_all (x ∷ w) rs = prefixed x (prefixed_all w rs)

pub word_back : (w : List ℕ) (rs : TheRows) (path : List ℕ) (k : Key) → AllByRecursion IsOctet w → seek 0 (prefixed_all w rs) path ≡ Some k → (rest : List ℕ) × (path ≡ w ++ rest) × (seek 0 rs rest ≡ Some k)
word_back [] rs path k small h = (path, refl, h)
word_back (x ∷ w) rs path k small h =
    let a = octet_back x (prefixed_all w rs) path k small.0 h in
    let b = word_back w rs a.0 k small.1 a.2 in
    (b.0, a.1 ∙ ap (λ t. x ∷ t) b.1, b.2)

-- and the other way
pub word_on : (w : List ℕ) (rs : TheRows) (path : List ℕ) → AllByRecursion IsOctet w → seek 0 (prefixed_all w rs) (w ++ path) ≡ seek 0 rs path
word_on [] rs path small = refl
word_on (x ∷ w) rs path small =
    prefixed_octet x (prefixed_all w rs) x (w ++ path) small.0
    ∙ (ap (λ t. seek 0 t (w ++ path)) (step_same x (prefixed_all w rs)) ∙ word_on w rs path small.1)

-- ---- a parameter

pub passes : (name rest : List ℕ) (rs : TheRows) → seek (length name) rs (name ++ rest) ≡ seek 0 rs rest
unfolding seek
passes [] rest rs = refl
passes (b ∷ name) rest rs = passes name rest rs

pub passes_all : (name : List ℕ) (rs : TheRows) → seek (length name) rs name ≡ own rs
unfolding seek
passes_all [] rs = refl
passes_all (b ∷ name) rs = passes_all name rs

-- a path has no slash, or a name and then a slash
pub slash_or_none : (path : List ℕ) → HasNoSlash path ⊎ ((name : List ℕ) × (rest : List ℕ) × (path ≡ name ++ 47 ∷ rest) × HasNoSlash name)
slash_or_none [] = inl tt
slash_or_none (b ∷ path) = by_octets (equal_or_not b 47) (slash_or_none path)
  where
    differs : (b == 47) ≡ false → b ≢ 47
    differs h e = cc (sym h ∙ (ap (λ y. y == 47) e))

    by_octets : (b ≡ 47) ⊎ ((b == 47) ≡ false) → HasNoSlash path ⊎ ((name : List ℕ) × (rest : List ℕ) × (path ≡ name ++ 47 ∷ rest) × HasNoSlash name)
        → HasNoSlash (b ∷ path) ⊎ ((name : List ℕ) × (rest : List ℕ) × (b ∷ path ≡ name ++ 47 ∷ rest) × HasNoSlash name)
    by_octets (inl e) later = inr ([], path, ap (λ y. y ∷ path) e, tt)
    by_octets (inr h) (inl none) = inl (differs h, none)
    by_octets (inr h) (inr some) = inr (b ∷ some.0, some.1, ap (λ t. b ∷ t) some.2, (differs h, some.3))

pub segment_whole : (name : List ℕ) → HasNoSlash name → segment name ≡ name
segment_whole [] h = refl
segment_whole (b ∷ name) h = rw (not_eq b 47 h.0) (ap (λ t. b ∷ t) (segment_whole name h.1))

pub segment_front : (name rest : List ℕ) → HasNoSlash name → segment (name ++ 47 ∷ rest) ≡ name ++ 47 ∷ []
segment_front [] rest h = refl
segment_front (b ∷ name) rest h = rw (not_eq b 47 h.0) (ap (λ t. b ∷ t) (segment_front name rest h.1))

pub no_slash : (name : List ℕ) → HasNoSlash name → has_slash name ≡ false
no_slash [] h = refl
no_slash (b ∷ name) h = rw (not_eq b 47 h.0) (no_slash name h.1)

pub has_one : (name rest : List ℕ) → HasNoSlash name → has_slash (name ++ 47 ∷ rest) ≡ true
has_one [] rest h = refl
has_one (b ∷ name) rest h = rw (not_eq b 47 h.0) (has_one name rest h.1)

-- a parameter takes an octet first
pub by_param : (rs : TheRows) (b : ℕ) (path : List ℕ) → step b rs ≡ [] → step catch_all_token rs ≡ []
    → seek 0 rs (b ∷ path) ≡ seek ((param_step (step param_token rs) (b ∷ path)).0 - 1) (param_step (step param_token rs) (b ∷ path)).1 path
unfolding seek
by_param rs b path no_octet no_rest =
    rw (no_octet, no_rest, none_at path 0) (or_none _)
