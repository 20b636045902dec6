-- Texts, each once, as one more comes.
use Rattle.std.proofs.Common.{◌≡◌, ℕ, List, [], ◌∷◌, ◌++◌, refl, ap, ◌∙◌, cond, not, ◌||◌, Bool, true, false, bytes_eq, append-nil}
use Rattle.std.specs.Prelude.{filter}
use Rattle.std.specs.List.{list_any}
use Rattle.std.proofs.lemmas.List.Elements.{filter-append}
use Rattle.dict_index.specs.Found.{distinct}

-- those that differ from x
abbrev without : List ℕ → List (List ℕ) → List (List ℕ)
without x texts = filter (λ other. not (bytes_eq other x)) texts

-- one more text, behind a first one
behind : (x t : List ℕ) (kept more : List (List ℕ)) (same among : Bool) → bytes_eq t x ≡ same → more ≡ cond among kept (kept ++ t ∷ [])
    → x ∷ without x more ≡ cond (same || among) (x ∷ without x kept) ((x ∷ without x kept) ++ t ∷ [])
behind x t kept more true true e is = ap (λ ws. x ∷ without x ws) is
behind x t kept more false true e is = ap (λ ws. x ∷ without x ws) is
behind x t kept more true false e is =
    ap (λ ws. x ∷ without x ws) is ∙ ap (λ ws. x ∷ ws) (filter-append (λ other. not (bytes_eq other x)) kept (t ∷ []) ∙ (ap (λ b. without x kept ++ cond (not b) (t ∷ []) []) e ∙ append-nil (without x kept)))
behind x t kept more false false e is =
    ap (λ ws. x ∷ without x ws) is ∙ ap (λ ws. x ∷ ws) (filter-append (λ other. not (bytes_eq other x)) kept (t ∷ []) ∙ ap (λ b. without x kept ++ cond (not b) (t ∷ []) []) e)

pub distinct_more : (texts : List (List ℕ)) (text : List ℕ) → distinct (texts ++ text ∷ []) ≡ cond (list_any (bytes_eq text) texts) (distinct texts) (distinct texts ++ text ∷ [])
distinct_more [] text = refl
distinct_more (x ∷ texts) text = behind x text (distinct texts) (distinct (texts ++ text ∷ [])) (bytes_eq text x) (list_any (bytes_eq text) texts) refl (distinct_more texts text)

-- the texts of a front, each once, are a front of those of all
pub distinct_front : (xs ys : List (List ℕ)) → (rest : List (List ℕ)) × (distinct (xs ++ ys) ≡ distinct xs ++ rest)
distinct_front [] ys = (distinct ys, refl)
distinct_front (x ∷ xs) ys =
    let (rest, e) = distinct_front xs ys in
    (without x rest, ap (λ ws. x ∷ without x ws) e ∙ ap (λ ws. x ∷ ws) (filter-append (λ other. not (bytes_eq other x)) (distinct xs) rest))
