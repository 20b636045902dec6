-- What a list of commands means, each under the id of its request.
use Rattle.std.specs.Prelude.{ℕ, List, map}
use Rattle.std.specs.Borrow.{Bor}
use Rattle.dict_catalogue.specs.Steps.{CommandRequest}
use Rattle.dict_catalogue.specs.Views.{command_meant}
use Rattle.dict_catalogue.specs.declared.commands.Command.{Command}

abbrev pub request_meant : (Bor (List ℕ) × Command) → CommandRequest
request_meant one = record { id = one.0.now; command = command_meant one.1 }

abbrev pub requests_meant : List (Bor (List ℕ) × Command) → List CommandRequest
requests_meant requests = map request_meant requests
