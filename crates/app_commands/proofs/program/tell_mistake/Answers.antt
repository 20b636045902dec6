use Rattle.std.proofs.Common.{refl, inl}
use Rattle.app_commands.proofs.program.tell_mistake.Goals as goal

pub returns : goal.returns
returns g c = inl (refl, (_, (c.put.result, c.put.ensures.put)))
