-- Less is left.
use Rattle.std.proofs.Common.{◌≡◌, inl, inr, ℕ, ◌+◌, List, [], ◌∷◌, ◌++◌, refl, sym, ap, subst, ◌∙◌}
use Rattle.std.specs.Prelude.{Bool, true, false, IsTrue, Option, Some, None, Result, Ok, Err, length}
use Rattle.std.proofs.lemmas.List.{length-append}
use Rattle.dict_desk.specs.declared.fault.Fault.{Fault}
use Rattle.store_commands.specs.Left.{IsLess, filing_left}
use Rattle.store_commands.specs.declared.filing.Filing.{Filing}
use Rattle.store_desk.specs.Left.{ComingState, both_left, coming_left}

-- lists of one length, with lists of one length behind them
as_long : (xs ys after before : List ℕ) → length xs ≡ length ys → length after ≡ length before → length (xs ++ after) ≡ length (ys ++ before)
as_long xs ys after before front behind =
    length-append xs after ∙ ap (λ (n : ℕ). n + length after) front ∙ ap (λ (n : ℕ). length ys + n) behind ∙ sym (length-append ys before)

-- what stands at the head decides
pub less_front : (xs ys after before : List ℕ) → length after ≡ length before → IsLess xs ys → IsLess (xs ++ after) (ys ++ before)
less_front [] ys after before same less = absurd less
less_front (x ∷ xs) [] after before same less = absurd less
less_front (x ∷ xs) (y ∷ ys) after before same (inl less) = inl (less.0, as_long xs ys after before less.1 same)
less_front (x ∷ xs) (y ∷ ys) after before same (inr less) = inr (less.0, less_front xs ys after before same less.1)

-- and where the head is the same, what stands behind it
pub less_behind : (xs after before : List ℕ) → IsLess after before → IsLess (xs ++ after) (xs ++ before)
less_behind [] after before less = less
less_behind (x ∷ xs) after before less = inr (refl, less_behind xs after before less)

four_left : (coming : Option ComingState) → length (coming_left coming) ≡ 4
four_left None = refl
four_left (Some coming) = refl

-- of what is filed the same count is told always
pub coming_as_long : (new old : Option ComingState) → length (coming_left new) ≡ length (coming_left old)
coming_as_long new old = four_left new ∙ sym (four_left old)

-- a part of the index was made
pub made_left : (old new : ComingState) → new.filing ≡ old.filing → IsLess (both_left new.index) (both_left old.index) → IsLess (coming_left (Some new)) (coming_left (Some old))
made_left old new same less =
    subst (λ (filing : Filing). IsLess (filing_left filing ++ both_left new.index) (filing_left old.filing ++ both_left old.index)) (sym same)
    (less_behind (filing_left old.filing) (both_left new.index) (both_left old.index) less)

-- what a call told, where it didn't fail
abbrev pub said : Result Bool Fault → Bool
said (Ok more) = more
said (Err fault) = false

pub said_true : (result : Result Bool Fault) → result ≡ Ok true → IsTrue (said result)
said_true result is = ap said is
