use Rattle.std.proofs.Common.{◌≡◌, subst, false}
use Rattle.std.specs.Prelude.{IfOk}
use Rattle.std.proofs.lemmas.Result.{IfOk-weaker}
use Rattle.clap.specs.Walk.{rule_of}
use Rattle.app_words.specs.Line.{Reads}
use Rattle.app_words.proofs.WordLineLemmas.{adds_arg}
use Rattle.app_words.proofs.line.with_arg.Goals as goal

pub returns : goal.returns
returns c = λ app rule start is local.
    let old = subst (λ r. IfOk r (Reads app)) c.in_ok-parts.ensures.0 start in
    let arg = subst (λ r. IfOk r (λ a. (rule_of a ≡ rule) × (a.global ≡ false))) c.in_ok-parts.ensures.1 (is, local) in
    IfOk-weaker c.arg.result _ _ (λ new adds. adds_arg _ _ _ _ _ old arg.0 arg.1 adds) c.arg.ensures
