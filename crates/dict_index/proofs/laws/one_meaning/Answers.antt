use Rattle.dict_index.proofs.LawLemmas as laws
use Rattle.dict_index.proofs.ChoiceLemmas as choice
use Rattle.dict_index.proofs.laws.one_meaning.Goals as goal

pub returns-clause-some : goal.returns-clause-some
returns-clause-some c = choice.some_meaning

pub returns-clause-not_both : goal.returns-clause-not_both
returns-clause-not_both c = laws.not_both

pub returns-clause-one_reading : goal.returns-clause-one_reading
returns-clause-one_reading c = laws.one_reading

pub returns-clause-one_fault : goal.returns-clause-one_fault
returns-clause-one_fault c = laws.one_fault
