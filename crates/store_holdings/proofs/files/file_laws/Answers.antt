use Rattle.store_holdings.proofs.TellLemmas.{index_under, text_under, file_told, storable, parts_held}
use Rattle.store_holdings.proofs.files.file_laws.Goals as goal

pub returns-clause-index : goal.returns-clause-index
returns-clause-index c = index_under

pub returns-clause-text : goal.returns-clause-text
returns-clause-text c = text_under

pub returns-clause-one : goal.returns-clause-one
returns-clause-one c = file_told

pub returns-clause-storable : goal.returns-clause-storable
returns-clause-storable c = storable

pub returns-clause-held : goal.returns-clause-held
returns-clause-held c = parts_held
