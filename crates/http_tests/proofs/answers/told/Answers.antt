use Rattle.std.proofs.Common.{sym}
use Rattle.http_tests.proofs.answers.told.Goals as goal

pub respond-answer-requires : goal.respond-answer-requires
respond-answer-requires g c = record { whole = λ given. c.in_default.not-More (sym (c.need.ensures.only _ given)) }
