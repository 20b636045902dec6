-- Pieces joined by one element, with more at the end.
use Rattle.std.proofs.Common.{◌≡◌, ◌≤◌, ℕ, List, [], ◌∷◌, ◌++◌, length, refl, ap, sym, ◌∙◌, append_assoc, arith, length-append}
use Rattle.std.specs.List.{join_with_byte}

-- one more piece
pub join-push : (c : ℕ) (first : List ℕ) (rest : List (List ℕ)) (piece : List ℕ)
    → join_with_byte c ((first ∷ rest) ++ piece ∷ []) ≡ join_with_byte c (first ∷ rest) ++ c ∷ piece
join-push c first [] piece = refl
join-push c first (next ∷ rest) piece =
    ap (λ bs. first ++ c ∷ bs) (join-push c next rest piece)
    ∙ sym (append_assoc first (c ∷ join_with_byte c (next ∷ rest)) (c ∷ piece))

-- a longer last piece
pub join-longer : (c : ℕ) (before : List (List ℕ)) (last more : List ℕ)
    → join_with_byte c (before ++ (last ++ more) ∷ []) ≡ join_with_byte c (before ++ last ∷ []) ++ more
join-longer c [] last more = refl
join-longer c (first ∷ []) last more = sym (append_assoc first (c ∷ last) more)
join-longer c (first ∷ next ∷ before) last more =
    ap (λ bs. first ++ c ∷ bs) (join-longer c (next ∷ before) last more)
    ∙ sym (append_assoc first (c ∷ join_with_byte c ((next ∷ before) ++ last ∷ [])) more)

-- the first piece is no longer than all of them together
pub length-first-join : (c : ℕ) (first : List ℕ) (rest : List (List ℕ)) → length first ≤ length (join_with_byte c (first ∷ rest))
length-first-join c first [] = omega arith
length-first-join c first (next ∷ rest) = omega (arith, length-append first (c ∷ join_with_byte c (next ∷ rest)))
