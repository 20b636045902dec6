use Rattle.store_rows.proofs.SpellingLemmas.{spelled}
use Rattle.store_rows.proofs.StoredLemmas.{is_line, only_stored, says_one, no_newline, of_entries}
use Rattle.std.proofs.Common.{refl}
use Rattle.store_rows.specs.Stored.{stored_line}
use Rattle.store_rows.proofs.line_laws.stored_lines.Goals as goal

pub returns-clause-spelled : goal.returns-clause-spelled
returns-clause-spelled c = spelled

pub returns-clause-is_line : goal.returns-clause-is_line
returns-clause-is_line c said storable = is_line (stored_line said) said storable refl

pub returns-clause-only : goal.returns-clause-only
returns-clause-only c = only_stored

pub returns-clause-says_one : goal.returns-clause-says_one
returns-clause-says_one c = says_one

pub returns-clause-no_newline : goal.returns-clause-no_newline
returns-clause-no_newline c = no_newline

pub returns-clause-of_entries : goal.returns-clause-of_entries
returns-clause-of_entries c = of_entries
