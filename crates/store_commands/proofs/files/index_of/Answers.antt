use Rattle.std.proofs.Common.{◌≤◌, length, map, subst, sym}
use Rattle.std.specs.List.{AllByRecursion}
use Rattle.dict_index.specs.Edition.{entry_in}
use Rattle.dict_index.specs.Limits.{most_octets}
use Rattle.dict_index.specs.WellFormed.{IsWellFormedEntry}
use Rattle.store_commands.proofs.LineLemmas.{storable_lines}
use Rattle.store_commands.proofs.files.index_of.Goals as goal

pub lines_of-requires : goal.lines_of-requires
lines_of-requires c =
    let text = c.args.edition.now.text in
    let few : length text ≤ most_octets = rw c.text-text.ensures.value at c.text-text.ensures.few in
    storable_lines text c.entries.result.now few (subst (λ l. AllByRecursion IsWellFormedEntry (map (entry_in text) l)) (sym c.entries.ensures.lines) c.is_well_formed.ensures.entries) c.entries.ensures.within
