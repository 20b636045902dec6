use Rattle.store_tables.specs.Records as spec
use Rattle.store_rows.specs.Order.{is_of}
use Rattle.store_rows.proofs.SelectionLemmas.{editions_more, entries_more, filter_whole}
use Rattle.store_rows.proofs.laws.records_by_number.Goals as goal

pub returns-clause-editions : goal.returns-clause-editions
returns-clause-editions c = editions_more

pub returns-clause-entries : goal.returns-clause-entries
returns-clause-entries c = entries_more

pub returns-clause-all_editions : goal.returns-clause-all_editions
returns-clause-all_editions c = λ numbers all h. filter_whole (λ (row : spec.EditionRecord). is_of numbers row.number) all h

pub returns-clause-all_entries : goal.returns-clause-all_entries
returns-clause-all_entries c = λ numbers all h. filter_whole (λ (row : spec.EntryRecord). is_of numbers row.edition) all h
