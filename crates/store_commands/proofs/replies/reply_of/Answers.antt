use Rattle.store_commands.proofs.KeptLemmas.{none_of}
use Rattle.store_commands.proofs.replies.reply_of.Goals as goal

pub returns-in_default-clause-none : goal.returns-in_default-clause-none
returns-in_default-clause-none c = none_of c.parts_of.result c.args.row.now c.in_default.not-Some c.parts_of.ensures.none
