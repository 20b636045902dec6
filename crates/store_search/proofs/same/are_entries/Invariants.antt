use Rattle.std.proofs.Common.{◌≡◌, take, map}
use Rattle.dict_index.specs.Views.{line_of}
use Rattle.store_search.specs.Entries.{entry_of}
use Rattle.store_search.proofs.same.are_entries.Given as goal

-- those so far are the same
abbrev pub invariant-loop-place : goal.invariant-loop-place
invariant-loop-place l = take l.place l.entries ≡ take l.place (map entry_of (map line_of l.others))
