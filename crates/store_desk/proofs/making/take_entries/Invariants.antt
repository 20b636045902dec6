-- the entries so far
use Rattle.std.proofs.Common.{◌≡◌, map, take}
use Rattle.store_search.specs.Entries.{entry_of}
use Rattle.store_desk.proofs.making.take_entries.Given as goal

abbrev pub invariant-loop-place : goal.invariant-loop-place
invariant-loop-place l = l.builder ≡ map entry_of (take l.place l.reading.lines)
