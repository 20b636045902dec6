use Rattle.std.proofs.Common.{◌≡◌, ℕ, List, ◌++◌}
use Rattle.std.specs.List.{flat_map}
use Rattle.dict_text.specs.Lines.{text_lines}
use Rattle.dict_proto.specs.Gathering.{Joins}
use Rattle.dict_proto.specs.Text.{sent_line}
use Rattle.dict_proto.proofs.text.add_lines.Given as goal

abbrev pub invariant-loop-line : goal.invariant-loop-line
invariant-loop-line g l = (done : List (List ℕ)) × (text_lines l.fn.text ≡ done ++ l.line-iterator) × Joins (g.K.Sink.stream l.fn.sink) (g.K.Sink.stream l.sink) l.fn.gathered.octets.items l.gathered.octets.items (flat_map sent_line done)
