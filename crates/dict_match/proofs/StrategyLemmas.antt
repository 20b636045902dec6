-- The list of the strategies, and their names.
use Rattle.std.proofs.Common.{◌≡◌, ◌↔◌, ℕ, zero, suc, List, [], ◌∷◌, refl, ap, sym, ◌∙◌, subst, cond, bytes_eq, Bool, true, false}
use Rattle.std.proofs.lemmas.Slice.Eq.{bytes_eq-Decides}
use Rattle.std.specs.Prelude.{Option, Some, None, find, slice_get}
use Rattle.dict_match.specs.declared.strategy.Strategy.{Strategy}
use Rattle.dict_match.specs.declared.strategy.Strategy.TheVariants.{Exact, Prefix, Suffix, Substring, Word, First, Last}
use Rattle.dict_match.specs.StrategyText.{strategies, strategy_name, strategy_named, AreEachOnce}

-- the place of a strategy in the list
place_of : Strategy → ℕ
place_of Exact = 0
place_of Prefix = 1
place_of Suffix = 2
place_of Substring = 3
place_of Word = 4
place_of First = 5
place_of Last = 6

at_place : (s : Strategy) → slice_get strategies (place_of s) ≡ Some s
unfolding place_of
at_place Exact = refl
at_place _ = refl

one_place : (n : ℕ) (s : Strategy) → slice_get strategies n ≡ Some s → n ≡ place_of s
unfolding place_of
one_place zero s e = ap place_of (let same : Exact ≡ s = cc in same)
one_place (suc zero) s e = ap place_of (let same : Prefix ≡ s = cc in same)
one_place (suc (suc zero)) s e = ap place_of (let same : Suffix ≡ s = cc in same)
one_place (suc (suc (suc zero))) s e = ap place_of (let same : Substring ≡ s = cc in same)
one_place (suc (suc (suc (suc zero)))) s e = ap place_of (let same : Word ≡ s = cc in same)
one_place (suc (suc (suc (suc (suc zero))))) s e = ap place_of (let same : First ≡ s = cc in same)
one_place (suc (suc (suc (suc (suc (suc zero)))))) s e = ap place_of (let same : Last ≡ s = cc in same)
one_place (suc (suc (suc (suc (suc (suc (suc n))))))) s e = absurd (let none : let o : Option Strategy = None in o ≡ Some s = e in cc)

pub each_once : AreEachOnce strategies
each_once s = (place_of s, λ n. (one_place n s, λ e. subst (λ m. slice_get strategies m ≡ Some s) (sym e) (at_place s)))

-- each strategy has its own name
pub named_itself : (s : Strategy) → strategy_named (strategy_name s) ≡ Some s
unfolding strategy_name
named_itself Exact = refl
named_itself _ = refl

-- what is found by its name has it
found_has_name : (name : List ℕ) (ss : List Strategy) (s : Strategy) → find (λ t. bytes_eq name (strategy_name t)) ss ≡ Some s → name ≡ strategy_name s
found_has_name name [] s e = absurd (cc)
found_has_name name (t ∷ ss) s e = by_first (bytes_eq name (strategy_name t)) refl e (found_has_name name ss s)
  where
    by_first : (b : Bool) → bytes_eq name (strategy_name t) ≡ b → cond b (Some t) (find (λ u. bytes_eq name (strategy_name u)) ss) ≡ Some s
        → (find (λ u. bytes_eq name (strategy_name u)) ss ≡ Some s → name ≡ strategy_name s) → name ≡ strategy_name s
    by_first true h k later = let same : t ≡ s = cc in (bytes_eq-Decides name (strategy_name t)).0 h ∙ ap strategy_name same
    by_first false h k later = later k

-- what is found by a name is the strategy that has it
pub named_only : (name : List ℕ) (r : Option Strategy) → r ≡ strategy_named name → (s : Strategy) → (r ≡ Some s) ↔ (name ≡ strategy_name s)
named_only name r is s = ((λ e. found_has_name name strategies s (sym is ∙ e)), (λ e. is ∙ (ap strategy_named e ∙ named_itself s)))

-- a name that is one strategy's is no other's
pub one_name : (name : List ℕ) (s t : Strategy) → name ≡ strategy_name s → (Some s ≡ Some t) ↔ (name ≡ strategy_name t)
one_name name s t is = ((λ e. let same : s ≡ t = cc in is ∙ ap strategy_name same), (λ e. sym (named_itself s) ∙ (ap strategy_named (sym is ∙ e) ∙ named_itself t)))
