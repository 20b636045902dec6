use Rattle.dict_index.proofs.MeaningLemmas.{whole_fault}
use Rattle.dict_reading.proofs.reader.EditionReader.begin.Goals as goal

pub returns-in-Some-clause-refused : goal.returns-in-Some-clause-refused
returns-in-Some-clause-refused c = whole_fault c.in-Some.refusal c.args.index.now c.args.text.now c.in-Some.ensures
