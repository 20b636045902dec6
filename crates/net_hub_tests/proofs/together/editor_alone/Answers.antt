use Rattle.std.proofs.Common.{sym}
use Rattle.net_hub_tests.proofs.together.editor_alone.Goals as goal

pub respond-requires : goal.respond-requires
respond-requires g c = record { whole = λ given. c.in_default.not-More (sym (c.need.ensures.only _ given)) }
