use Rattle.dict_proto.proofs.WordsLemmas.{line_words-AreWords, AreWords-unique}
use Rattle.dict_proto.proofs.CutLemmas.{AreWords-line_words}
use Rattle.dict_proto.proofs.line_laws.one_reading.Goals as goal

pub returns-clause-computed : goal.returns-clause-computed
returns-clause-computed c line words h = line_words-AreWords words line h

pub returns-clause-found : goal.returns-clause-found
returns-clause-found c = AreWords-line_words

pub returns-clause-only : goal.returns-clause-only
returns-clause-only c = AreWords-unique
