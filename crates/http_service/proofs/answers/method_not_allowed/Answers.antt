use Rattle.std.proofs.Common.{sym, ap, ◌∙◌}
use Rattle.http_service.specs.Answers.{response_text, not_allowed}
use Rattle.http_service.proofs.TextLemmas.{databases_is, database_is, rollback_is, place_is, virtual_is}
use Rattle.http_service.proofs.answers.method_not_allowed.Goals as goal

pub returns-in-Databases : goal.returns-in-Databases
returns-in-Databases c = databases_is ∙ ap (λ r. response_text (not_allowed r)) (sym c.in-Databases.is)

pub returns-in-Database : goal.returns-in-Database
returns-in-Database c = database_is ∙ ap (λ r. response_text (not_allowed r)) (sym c.in-Database.is)

pub returns-in-Rollback : goal.returns-in-Rollback
returns-in-Rollback c = rollback_is ∙ ap (λ r. response_text (not_allowed r)) (sym c.in-Rollback.is)

pub returns-in-Place : goal.returns-in-Place
returns-in-Place c = place_is ∙ ap (λ r. response_text (not_allowed r)) (sym c.in-Place.is)

pub returns-in-Virtual : goal.returns-in-Virtual
returns-in-Virtual c = virtual_is ∙ ap (λ r. response_text (not_allowed r)) (sym c.in-Virtual.is)
