use Rattle.dict_index.proofs.WellFormedLemmas.{text_few}
use Rattle.dict_index.proofs.edition.Edition.text.Goals as goal

pub returns-clause-few : goal.returns-clause-few
returns-clause-few c = text_few c.self.invariant.2.0 _ c.self.invariant.2.1
