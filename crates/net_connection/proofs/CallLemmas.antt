-- Calls, one after the other.
use Rattle.std.proofs.Common.{◌≡◌, ◌∙◌, List, [], ◌++◌, sym, ap, append_assoc, append-nil}
use Rattle.std.specs.Prelude.{Option, Some, None}
use Rattle.net_outlet.specs.OutletCalls.{Call, MakesCalls}

-- none was made
pub makes_none : (a : Option (List Call)) → MakesCalls a a []
makes_none None = tt
makes_none (Some before) = ap Some (sym (append-nil before))

pub makes_joined : (a b c : Option (List Call)) (first then : List Call) → MakesCalls a b first → MakesCalls b c then → MakesCalls a c (first ++ then)
makes_joined None b c first then made more = tt
makes_joined (Some before) None c first then made more = cc
makes_joined (Some before) (Some between) c first then made more =
    let was : between ≡ before ++ first = cc in
    more ∙ ap (λ (l : List Call). Some (l ++ then)) was ∙ ap Some (append_assoc before first then)
