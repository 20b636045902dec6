use Rattle.std.proofs.Common.{take}
use Rattle.std.specs.List.{AllByRecursion}
use Rattle.dict_index.specs.Tests.{IsTextOctet}
use Rattle.dict_index.proofs.line.text_of.Given as goal

abbrev pub invariant-loop-octet : goal.invariant-loop-octet
invariant-loop-octet l = AllByRecursion IsTextOctet (take l.octet-index l.octets)
