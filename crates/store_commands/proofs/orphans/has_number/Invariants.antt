-- none of the items so far has it
use Rattle.std.proofs.Common.{take}
use Rattle.std.specs.List.{AllByRecursion}
use Rattle.store_commands.proofs.TakingLemmas.{HasNotNumber}
use Rattle.store_commands.proofs.orphans.has_number.Given as goal

abbrev pub invariant-loop-item : goal.invariant-loop-item
invariant-loop-item l = AllByRecursion (HasNotNumber l.number) (take l.item-index l.items)
