use Rattle.std.proofs.Common.{map, take}
use Rattle.store_fixtures.specs.Asked.{AreReadOf}
use Rattle.store_fixtures.proofs.AskedLemmas.{octets_of}
use Rattle.store_fixtures.proofs.asked.read_editions.Given as goal

abbrev pub invariant-loop-index : goal.invariant-loop-index
invariant-loop-index l = AreReadOf (map octets_of (take l.index-index l.index-items)) l.all.items
