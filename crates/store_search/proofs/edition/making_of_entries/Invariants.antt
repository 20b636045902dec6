-- the entries so far
use Rattle.std.proofs.Common.{◌≡◌, take, map}
use Rattle.dict_index.specs.Views.{line_of}
use Rattle.dict_index.specs.declared.entry.Entry.{Entry}
use Rattle.store_search.specs.Entries.{entry_of}
use Rattle.store_search.proofs.edition.making_of_entries.Given as goal

abbrev pub invariant-loop-entry : goal.invariant-loop-entry
invariant-loop-entry l = l.builder ≡ map (λ (entry : Entry). entry_of (line_of entry)) (take l.entry-index l.entries)
