use Rattle.dict_match.proofs.WordLaws.{length-words_between_blanks}
use Rattle.dict_match.proofs.word.words.Goals as goal

pub returns-clause-len : goal.returns-clause-len
returns-clause-len c = length-words_between_blanks c.args.bytes.now
