-- How many entries and rows were taken.
use Rattle.std.proofs.Common.{◌≡◌, ℕ, ◌+◌, ◌-◌, ◌≤◌, ◌^◌, List, refl, sym, arith}
use Rattle.std.specs.Prelude.{Option, Some, None, Result, Ok, Err, Vec, option_map}
use Rattle.std.specs.declared.alloc.Global.{Global}
use Rattle.dict_desk.specs.declared.fault.Fault.{Fault}
use Rattle.dict_desk.specs.declared.lookup.End.{End}
use Rattle.dict_desk.specs.declared.lookup.End.TheVariants.{All}
use Rattle.store_holdings.specs.Taken.{more_taken, LooksAt}

pub none_more : (taken : ℕ) → taken ≤ 2 ^ 64 - 1 → taken ≡ more_taken taken 0
none_more taken few = omega (arith, few)

-- some more, and then some
pub more_more : (old mid new first second : ℕ) → mid ≡ more_taken old first → new ≡ more_taken mid second → new ≡ more_taken old (first + second)
more_more old mid new first second a b = omega (arith, a, b)

-- what was read before, and then looked at
pub more_all : (old mid new looked count read : ℕ) → mid ≡ more_taken old read → looked ≡ count → new ≡ more_taken mid looked → new ≡ more_taken old (count + read)
more_all old mid new looked count read first second third = omega (arith, first, second, third)

-- some were read, and more were looked at than were found
pub looks_more : (old mid new looked few read : ℕ) → mid ≡ more_taken old read → few ≤ looked → new ≡ more_taken mid looked → LooksAt old new few
looks_more old mid new looked few read first le second = omega (arith, first, le, second)

-- how a lookup ended that didn't fail
abbrev pub end_of : Result End Fault → End
end_of (Ok end) = end
end_of (Err fault) = All

-- what is kept is none where none was told
pub none_kept : (told : Option (Vec ℕ Global)) (found : Option (List ℕ)) → ((text : Vec ℕ Global) → told ≡ Some text → ⊥) → option_map (λ (text : Vec ℕ Global). text.items) told ≡ found → found ≡ None
none_kept None found apart is = sym is
none_kept (Some text) found apart is = absurd (apart text refl)
