-- The lines of an index, one behind the other.
use Rattle.std.proofs.Common.{ℕ, ◌≤◌, List, [], ◌∷◌, length, map, arith}
use Rattle.std.specs.List.{AllByRecursion}
use Rattle.dict_index.specs.Edition.{entry_in}
use Rattle.dict_index.specs.Limits.{most_octets}
use Rattle.dict_index.specs.Views.{line_of, LiesIn}
use Rattle.dict_index.specs.WellFormed.{IsWellFormedEntry}
use Rattle.dict_index.specs.declared.entry.Entry.{Entry}
use Rattle.store_rows.specs.Stored.{IsStorable}
use Rattle.store_rows.proofs.StoredLemmas.{of_entries}

-- each entry of an edition has one
pub storable_lines : (text : List ℕ) (entries : List Entry) → length text ≤ most_octets → AllByRecursion IsWellFormedEntry (map (entry_in text) (map line_of entries)) → AllByRecursion (LiesIn text) entries
    → AllByRecursion (λ entry. IsStorable (line_of entry)) entries
storable_lines text [] few lawful lies = tt
storable_lines text (e ∷ es) few lawful lies = (of_entries text (line_of e) (omega (arith, few)) lies.0 lawful.0, storable_lines text es few lawful.1 lies.1)
