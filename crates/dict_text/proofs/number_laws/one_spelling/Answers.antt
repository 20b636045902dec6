use Rattle.dict_text.proofs.NumberLemmas.{one_number, one_text}
use Rattle.dict_text.proofs.number_laws.one_spelling.Goals as goal

pub returns-clause-numbers : goal.returns-clause-numbers
returns-clause-numbers c = one_number

pub returns-clause-texts : goal.returns-clause-texts
returns-clause-texts c = one_text
