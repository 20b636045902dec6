use Rattle.std.proofs.Common.{sym, ap, ◌∙◌}
use Rattle.std.specs.Prelude.{is_some}
use Rattle.dict_proto.proofs.PlaceLemmas.{no-word, some-word}
use Rattle.dict_proto.proofs.words.has_word.Goals as goal

pub returns-clause-none : goal.returns-clause-none
returns-clause-none c e = no-word c.args.line.now (ap is_some (sym c.first_word_octet.ensures) ∙ (sym c.is_some.ensures ∙ e))

pub returns-clause-some : goal.returns-clause-some
returns-clause-some c e = some-word c.args.line.now (ap is_some (sym c.first_word_octet.ensures) ∙ (sym c.is_some.ensures ∙ e))
