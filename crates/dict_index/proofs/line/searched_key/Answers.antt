use Rattle.std.proofs.Common.{sym, ◌∙◌}
use Rattle.dict_match.proofs.AsciiLaws.{key_of-ascii}
use Rattle.dict_index.proofs.line.searched_key.Goals as goal

pub returns-then-is_ascii : goal.returns-then-is_ascii
returns-then-is_ascii c = c.requires ∙ sym (key_of-ascii c.args.headword.now c.if-is_ascii.ensures.cases)
