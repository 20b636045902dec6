-- A path has one form at most.
use Rattle.std.proofs.Common.{◌≡◌, ◌++◌, ℕ, List, [], ◌∷◌, get_or, codes, refl, sym, ap, ◌∙◌, subst, arith}
use Rattle.std.proofs.lemmas.List.{append_cancel_left, append_cancel_right}
use Rattle.http_request.specs.declared.route_kinds.Route.{Route}
use Rattle.http_request.specs.declared.route_kinds.Route.TheVariants.{Databases, Database, Rollback, Place, Virtual}
use Rattle.http_request.specs.Paths.{HasNoSlash, HasName, IsPath, before, path_after}

append_nil : (xs : List ℕ) → xs ++ [] ≡ xs
append_nil [] = refl
append_nil (x ∷ xs) = ap (λ t. x ∷ t) (append_nil xs)

-- octets without a slash don't have one
no_slash_in : (s t rest : List ℕ) → HasNoSlash s → s ≡ t ++ 47 ∷ rest → ⊥
no_slash_in [] [] rest h e = cc e
no_slash_in [] (y ∷ t) rest h e = cc e
no_slash_in (x ∷ s) [] rest h e = let f : x ≡ 47 = cc e in h.0 f
no_slash_in (x ∷ s) (y ∷ t) rest h e = let f : s ≡ t ++ 47 ∷ rest = cc e in no_slash_in s t rest h.1 f

-- what stands after the first slash
one_slash : (s t a b : List ℕ) → HasNoSlash s → HasNoSlash t → s ++ 47 ∷ a ≡ t ++ 47 ∷ b → a ≡ b
one_slash [] [] a b h g e = cc e
one_slash [] (y ∷ t) a b h g e = let f : 47 ≡ y = cc e in absurd (g.0 (sym f))
one_slash (x ∷ s) [] a b h g e = let f : x ≡ 47 = cc e in absurd (h.0 f)
one_slash (x ∷ s) (y ∷ t) a b h g e = let f : s ++ 47 ∷ a ≡ t ++ 47 ∷ b = cc e in one_slash s t a b h.1 g.1 f

tail_of : (s t : List ℕ) → codes "/databases/" ++ s ≡ codes "/databases/" ++ t → s ≡ t
tail_of s t e = append_cancel_left (codes "/databases/") s t e

-- `d` is no `v`, in the octet after the first
at_one : {s t : List ℕ} → 47 ∷ 100 ∷ s ≡ 47 ∷ 118 ∷ t → ⊥
at_one e = let f : 100 ≡ 118 = ap (λ l. get_or l 1 0) e in omega (arith, f)

-- `r` is no `p`
at_none : codes "rollback" ≡ codes "place" → ⊥
at_none e = let f : 114 ≡ 112 = ap (λ l. get_or l 0 0) e in omega (arith, f)

-- the path of the list has no second slash
longer_not : {t : List ℕ} → codes "/databases" ≡ codes "/databases/" ++ t → ⊥
longer_not e = let f : 0 ≡ 47 = ap (λ l. get_or l 10 0) e in omega (arith, f)

route_of : (a b : Route) (s t : List ℕ) → HasName a s → HasName b t → before a ++ (s ++ path_after a) ≡ before b ++ (t ++ path_after b) → a ≡ b
route_of Databases Databases s t p q e = refl
route_of Databases Database s t p q e = absurd (longer_not (ap (λ x. codes "/databases" ++ (x ++ [])) (sym p) ∙ e))
route_of Databases Rollback s t p q e = absurd (longer_not (ap (λ x. codes "/databases" ++ (x ++ [])) (sym p) ∙ e))
route_of Databases Place s t p q e = absurd (longer_not (ap (λ x. codes "/databases" ++ (x ++ [])) (sym p) ∙ e))
route_of Databases Virtual s t p q e = absurd (at_one e)
route_of Database Databases s t p q e = absurd (longer_not (sym (e ∙ ap (λ x. codes "/databases" ++ (x ++ [])) q)))
route_of Database Database s t p q e = refl
route_of Database Rollback s t p q e = absurd (no_slash_in s t (codes "rollback") p.1 (sym (append_nil s) ∙ tail_of (s ++ []) (t ++ codes "/rollback") e))
route_of Database Place s t p q e = absurd (no_slash_in s t (codes "place") p.1 (sym (append_nil s) ∙ tail_of (s ++ []) (t ++ codes "/place") e))
route_of Database Virtual s t p q e = absurd (at_one e)
route_of Rollback Databases s t p q e = absurd (longer_not (sym (e ∙ ap (λ x. codes "/databases" ++ (x ++ [])) q)))
route_of Rollback Database s t p q e = absurd (no_slash_in t s (codes "rollback") q.1 (sym (tail_of (s ++ codes "/rollback") (t ++ []) e ∙ append_nil t)))
route_of Rollback Rollback s t p q e = refl
route_of Rollback Place s t p q e = absurd (at_none (one_slash s t (codes "rollback") (codes "place") p.1 q.1 (tail_of (s ++ codes "/rollback") (t ++ codes "/place") e)))
route_of Rollback Virtual s t p q e = absurd (at_one e)
route_of Place Databases s t p q e = absurd (longer_not (sym (e ∙ ap (λ x. codes "/databases" ++ (x ++ [])) q)))
route_of Place Database s t p q e = absurd (no_slash_in t s (codes "place") q.1 (sym (tail_of (s ++ codes "/place") (t ++ []) e ∙ append_nil t)))
route_of Place Rollback s t p q e = absurd (at_none (sym (one_slash s t (codes "place") (codes "rollback") p.1 q.1 (tail_of (s ++ codes "/place") (t ++ codes "/rollback") e))))
route_of Place Place s t p q e = refl
route_of Place Virtual s t p q e = absurd (at_one e)
route_of Virtual Databases s t p q e = absurd (at_one (sym e))
route_of Virtual Database s t p q e = absurd (at_one (sym e))
route_of Virtual Rollback s t p q e = absurd (at_one (sym e))
route_of Virtual Place s t p q e = absurd (at_one (sym e))
route_of Virtual Virtual s t p q e = refl

pub one_route : (path : List ℕ) (a b : Route) (s t : List ℕ) → IsPath path a s → IsPath path b t → a ≡ b
one_route path a b s t p q = route_of a b s t p.named q.named (sym p.is ∙ q.is)

pub one_name : (path : List ℕ) (a b : Route) (s t : List ℕ) → IsPath path a s → IsPath path b t → s ≡ t
one_name path a b s t p q =
    let r : path ≡ before b ++ (s ++ path_after b) = subst (λ x. path ≡ before x ++ (s ++ path_after x)) (one_route path a b s t p q) p.is in
    append_cancel_right s t (path_after b) (append_cancel_left (before b) (s ++ path_after b) (t ++ path_after b) (sym r ∙ q.is))
