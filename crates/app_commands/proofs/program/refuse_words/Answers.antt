use Rattle.std.proofs.Common.{refl}
use Rattle.app_commands.proofs.program.refuse_words.Goals as goal

pub returns-clause-not_text : goal.returns-clause-not_text
returns-clause-not_text g c other =
    (refl, (c.put.result, rw c.as_bytes.ensures.value at c.put.ensures.put))
