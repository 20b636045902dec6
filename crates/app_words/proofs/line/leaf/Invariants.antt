use Rattle.std.proofs.Common.{map, take}
use Rattle.std.specs.Prelude.{IfOk}
use Rattle.app_words.specs.Line.{Reads, alone, leaf}
use Rattle.app_words.proofs.line.leaf.Given as goal

abbrev pub invariant-loop-id : goal.invariant-loop-id
invariant-loop-id l = IfOk l.line (Reads (alone (leaf l.name (map (λ one. one.0.now) (take l.id-index l.words)))))
