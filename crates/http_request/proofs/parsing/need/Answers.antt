use Rattle.http_request.proofs.LawLemmas.{one}
use Rattle.http_request.proofs.parsing.need.Goals as goal

pub returns-in-More-clause-only : goal.returns-in-More-clause-only
returns-in-More-clause-only c other given = one _ other _ given c.in-More.ensures.0

pub returns-in-Whole-clause-only : goal.returns-in-Whole-clause-only
returns-in-Whole-clause-only c other given = one _ other _ given c.in-Whole.ensures.0

pub returns-in-Refused-clause-only : goal.returns-in-Refused-clause-only
returns-in-Refused-clause-only c other given = one _ other _ given c.in-Refused.ensures
