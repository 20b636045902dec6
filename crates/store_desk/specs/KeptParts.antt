-- What a desk keeps in memory for lookups besides its indexes.
use Rattle.std.specs.Prelude.{◌≡◌, ℕ, true, List, [], Result, Ok, Err}
use Rattle.dict_catalogue.specs.Tests.{Holdings}
use Rattle.dict_desk.specs.declared.fault.Fault.{Fault}
use Rattle.store_holdings.specs.CutTexts.{AreOfInstalls}
use Rattle.store_holdings.specs.KeptTexts.{PartNumbers}
use Rattle.store_desk.specs.Desk.{has_failed}
use Rattle.store_desk.specs.declared.last.LastCall.{LastCall}
use Rattle.store_desk.specs.declared.last.LastCall.TheVariants.{Fine, Failed, Closed}

-- the parts of texts that are kept after a call that ended so
abbrev pub texts_after : LastCall → List (PartNumbers × List ℕ) → List (PartNumbers × List ℕ)
texts_after Fine texts = texts
texts_after Failed texts = []
texts_after Closed texts = []

-- and behind what was prepared
abbrev pub texts_behind : {T : Type 0} → Result T Fault → List (PartNumbers × List ℕ) → List (PartNumbers × List ℕ)
texts_behind (Ok value) texts = texts
texts_behind (Err fault) texts = []

-- Each part is kept under the number of an edition that an install has made, and none behind a fault from 40 on.
pub record KeepsTexts (last : LastCall) (summary : Holdings (List ℕ)) (texts : List (PartNumbers × List ℕ)) : Type 0 where
  pub made : AreOfInstalls summary.installs texts
  pub none : has_failed last ≡ true → texts ≡ []
