use Rattle.std.proofs.Common.{refl}
use Rattle.dict_catalogue.specs.Views.{command_meant}
use Rattle.dict_desk.specs.Expected.{of_command}
use Rattle.http_service.proofs.foreseeing.expect_command.Goals as goal

pub returns-clause-foreseen : goal.returns-clause-foreseen
returns-clause-foreseen g c = λ taken. record { asked = of_command (command_meant c.args.command.now); asks = refl; told = c.expect.ensures.told }
