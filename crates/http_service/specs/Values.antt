-- The texts of refusals and of the list as values of `serde_json`.
use Rattle.std.specs.Prelude.{ℕ, List, map, option_map, Option, Some, None, codes}
use Rattle.serde_json.specs.Data.{Data, object, no_members, member, number, unsigned, null, string, array}
use Rattle.serde_json.specs.View.{items_of}
use Rattle.dict_catalogue.specs.Items.{Item, regular, virtual}
use Rattle.dict_catalogue.specs.Refusals.{command_refusal_number, command_refusal_name}
use Rattle.dict_catalogue.specs.declared.fault.CommandRefusal.{CommandRefusal}
use Rattle.dict_index.specs.Refusals.{refusal_number as edition_refusal_number, refusal_name as edition_refusal_name}
use Rattle.dict_index.specs.declared.fault.EditionRefusal as editions

abbrev pub maybe_number : Option ℕ → Data
maybe_number (Some n) = number (unsigned n)
maybe_number None = null

abbrev pub texts_value : List (List ℕ) → Data
texts_value texts = array (items_of (map string texts))

abbrev pub refused_command_value : CommandRefusal → Data
refused_command_value refusal =
    object (member (codes "reason") (string (command_refusal_name refusal)) (member (codes "refusal") (number (unsigned (command_refusal_number refusal))) no_members))

abbrev pub refused_edition_value : editions.EditionRefusal → Option ℕ → Data
refused_edition_value refusal line =
    object (member (codes "fault") (number (unsigned (edition_refusal_number refusal)))
    (member (codes "line") (maybe_number line) (member (codes "reason") (string (edition_refusal_name refusal)) no_members)))

abbrev pub item_value : Item (List ℕ) → Data
item_value (regular name current former) =
    object (member (codes "current") (number (unsigned current.number))
    (member (codes "former") (maybe_number (option_map (λ edition. edition.number) former))
    (member (codes "kind") (string (codes "regular")) (member (codes "name") (string name)
    (member (codes "title") (string current.content) no_members)))))
item_value (virtual name title members) =
    object (member (codes "kind") (string (codes "virtual")) (member (codes "members") (texts_value members)
    (member (codes "name") (string name) (member (codes "title") (string title) no_members))))
