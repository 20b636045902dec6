use Rattle.std.proofs.Common.{sym, ◌∙◌}
use Rattle.std.proofs.lemmas.Result.{IfOk-weaker}
use Rattle.dict_match.proofs.AsciiLaws.{key_of-ascii}
use Rattle.dict_match.proofs.key.key_of.Goals as goal

pub returns-then-is_ascii : goal.returns-then-is_ascii
returns-then-is_ascii c =
    IfOk-weaker c.reserved_key_of.result _ _ (λ key e. e ∙ sym (key_of-ascii c.args.text.now c.if-is_ascii.ensures.cases)) c.reserved_key_of.ensures
