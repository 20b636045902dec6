-- What the rows of the headers of a number say of their infos.
use Rattle.std.proofs.Common.{◌≡◌, List, [], ◌∷◌, map, Ok, Err, Result, IfOk, refl, ap, sym, subst, ◌∙◌, String, Vec, string_bytes}
use Rattle.std.specs.List.Sorted.{IsPermutation}
use Rattle.std.specs.declared.alloc.Global.{Global}
use Rattle.std.proofs.lemmas.List.Sorted.{IsPermutation-map}
use Rattle.sqlite.specs.declared.types.Value.{Value}
use Rattle.sqlite.specs.declared.types.Value.TheVariants.{Text as Words}
use Rattle.sqlite.specs.Order.{Row, column}
use Rattle.sqlite.specs.State.{State, IsUnchanged}
use Rattle.store_sql.specs.declared.records.ReadError.{ReadError}
use Rattle.store_sql.specs.Infos.{informed}

twice : {X Y Z : Type 0} (f : X → Y) (g : Y → Z) (xs : List X) → map g (map f xs) ≡ map (λ x. g (f x)) xs
twice f g [] = refl
twice f g (x ∷ xs) = ap (λ ys. g (f x) ∷ ys) (twice f g xs)

pub told : (headers rows : List Row) → IsPermutation (map informed headers) rows → (old new : State) → IsUnchanged old new → (result : Result (Vec (String Global) Global) ReadError)
    → IfOk result (λ all. map (λ r. column r 0) rows ≡ map (λ info. Words (string_bytes info)) all.items)
    → IfOk result (λ all. IsPermutation (map (λ r. column r 4) headers) (map Words (map string_bytes all.items)) × IsUnchanged old new)
told headers rows same old new unchanged (Err e) h = tt
told headers rows same old new unchanged (Ok all) h =
    let firsts : IsPermutation (map (λ r. column r 0) (map informed headers)) (map (λ r. column r 0) rows) = IsPermutation-map (λ (r : Row). column r 0) (map informed headers) rows same in
    let left : IsPermutation (map (λ r. column r 4) headers) (map (λ r. column r 0) rows) = subst (λ (l : List Value). IsPermutation l (map (λ r. column r 0) rows)) (twice informed (λ (r : Row). column r 0) headers) firsts in
    (subst (IsPermutation (map (λ (r : Row). column r 4) headers)) (h ∙ sym (twice string_bytes Words all.items)) left, unchanged)
