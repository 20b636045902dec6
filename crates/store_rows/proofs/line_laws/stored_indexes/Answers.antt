use Rattle.store_rows.proofs.IndexLemmas.{lines_of_index, says_one_list, goes_on, pushed, one_more, no_more}
use Rattle.store_rows.proofs.line_laws.stored_indexes.Goals as goal

pub returns-clause-lines : goal.returns-clause-lines
returns-clause-lines c = lines_of_index

pub returns-clause-says_one : goal.returns-clause-says_one
returns-clause-says_one c = says_one_list

pub returns-clause-goes_on : goal.returns-clause-goes_on
returns-clause-goes_on c = goes_on

pub returns-clause-pushed : goal.returns-clause-pushed
returns-clause-pushed c = pushed

pub returns-clause-one_more : goal.returns-clause-one_more
returns-clause-one_more c = one_more

pub returns-clause-no_more : goal.returns-clause-no_more
returns-clause-no_more c = no_more
