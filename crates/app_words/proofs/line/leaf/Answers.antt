use Rattle.std.proofs.Common.{◌∙◌, arith}
use Rattle.std.proofs.lemmas.Result.{IfOk-weaker}
use Rattle.app_words.proofs.WordLineLemmas.{leaf_more}
use Rattle.app_words.proofs.line.leaf.Goals as goal

pub loop-id-preserved : goal.loop-id-preserved
loop-id-preserved c =
    IfOk-weaker c.with_arg-line.result _ _
    (λ new reads. (reads.0 ∙ leaf_more (λ one. one.0.now) c.args.name.now c.args.words.now c.loop-id.id-index _ (omega arith), reads.1))
    (c.with_arg-line.ensures _ _ c.loop-id.invariant c.word.ensures.rule c.word.ensures.local)
