use Rattle.std.proofs.Common.{ap}
use Rattle.std.specs.Prelude.{length}
use Rattle.store_search.proofs.EditionLemmas.{rows_are, headword_rows_are, headwords_are, count_is}
use Rattle.store_search.proofs.laws.edition_laws.Goals as goal

pub returns-clause-rows : goal.returns-clause-rows
returns-clause-rows c = rows_are

pub returns-clause-headwords : goal.returns-clause-headwords
returns-clause-headwords c = headword_rows_are

pub returns-clause-entries_counted : goal.returns-clause-entries_counted
returns-clause-entries_counted c = count_is

pub returns-clause-headwords_counted : goal.returns-clause-headwords_counted
returns-clause-headwords_counted c = λ strategy query reading. ap length (headwords_are strategy query reading)
