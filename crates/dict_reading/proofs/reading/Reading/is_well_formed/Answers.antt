use Rattle.std.proofs.Common.{subst}
use Rattle.dict_index.specs.Edition.{ReadEdition, edition_of}
use Rattle.dict_index.specs.WellFormed.{IsWellFormedEdition}
use Rattle.dict_index.proofs.WellFormedLemmas.{well_formed}
use Rattle.dict_reading.proofs.reading.Reading.is_well_formed.Goals as goal

pub returns : goal.returns
returns c = subst (λ (r : ReadEdition). IsWellFormedEdition (edition_of r)) c.self.view_is (well_formed c.self.inside.index.now c.self.inside.text.now _ c.self.invariant.1)
