use Rattle.std.proofs.Common.{◌≡◌, take, map}
use Rattle.std.specs.List.{AllByRecursion}
use Rattle.dict_desk.specs.PlainEntries.{owned_line_of, IsKeyedByHeadword, AreLinked}
use Rattle.dict_index.specs.Views.{line_of as line_read}
use Rattle.dict_desk.proofs.PlaceLemmas.{HasPlaces}
use Rattle.dict_desk.proofs.entries.owned_entries.Given as goal

abbrev pub invariant-loop-entry : goal.invariant-loop-entry
invariant-loop-entry l = record {
  lines : map owned_line_of l.owned.items ≡ map line_read (take l.entry-index l.entries);
  keys : AllByRecursion IsKeyedByHeadword l.owned.items;
  links : AreLinked l.owned.items;
  places : HasPlaces l.places l.owned.items;
}
