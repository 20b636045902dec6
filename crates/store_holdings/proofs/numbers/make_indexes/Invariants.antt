use Rattle.std.proofs.Common.{◌≡◌}
use Rattle.store_holdings.proofs.numbers.make_indexes.Given as goal

abbrev pub invariant-loop-item : goal.invariant-loop-item
invariant-loop-item l = record { same : l.indexes ≡ l.initial.indexes }
