-- the elements so far don't settle it
use Rattle.std.proofs.Common.{◌≡◌, drop}
use Rattle.std.specs.Prelude.{map}
use Rattle.std.specs.List.{list_all}
use Rattle.dict_catalogue.specs.Items.{names_regular}
use Rattle.dict_catalogue.specs.Views.{item_shown, texts_shown}
use Rattle.store_rows.proofs.lawful.are_regular.Given as goal

abbrev pub invariant-loop-name : goal.invariant-loop-name
invariant-loop-name l = list_all (names_regular (map item_shown l.items)) (texts_shown l.names) ≡ list_all (names_regular (map item_shown l.items)) (texts_shown (drop l.name-index l.names))
