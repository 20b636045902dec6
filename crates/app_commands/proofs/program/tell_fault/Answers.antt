use Rattle.app_commands.proofs.program.tell_fault.Goals as goal

pub returns : goal.returns
returns g c = (c.status.ensures, (c.put_line.result, c.put_line.ensures))
