use Rattle.std.proofs.Common.{subst}
use Rattle.std.specs.Prelude.{IfOk}
use Rattle.std.proofs.lemmas.Result.{IfOk-weaker}
use Rattle.app_words.specs.Line.{Reads}
use Rattle.app_words.proofs.WordLineLemmas.{adds_subcommand}
use Rattle.app_words.proofs.line.with_command.Goals as goal

pub returns : goal.returns
returns c = λ app sub start started.
    let old = subst (λ r. IfOk r (Reads app)) c.in_ok-parts.ensures.0 start in
    let added = subst (λ r. IfOk r (Reads sub)) c.in_ok-parts.ensures.1 started in
    IfOk-weaker c.subcommand.result _ _ (λ new adds. adds_subcommand _ _ _ _ _ old added adds) c.subcommand.ensures
