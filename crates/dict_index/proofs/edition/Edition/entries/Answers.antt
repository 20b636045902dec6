use Rattle.std.proofs.Common.{map, ap, subst}
use Rattle.std.specs.List.{AllByRecursion}
use Rattle.dict_index.specs.Edition.{ReadEdition}
use Rattle.dict_index.specs.Views.{line_of, LiesIn}
use Rattle.dict_index.proofs.WellFormedLemmas.{intervals_within}
use Rattle.dict_index.proofs.edition.Edition.entries.Goals as goal

pub returns-clause-within : goal.returns-clause-within
returns-clause-within c =
    subst (λ (r : ReadEdition). AllByRecursion (LiesIn r.text) c.as_slice.result.now) c.self.view_is (intervals_within c.self.invariant.2.0 _ c.self.invariant.2.1 c.as_slice.result.now (ap (map line_of) c.as_slice.ensures.value))
