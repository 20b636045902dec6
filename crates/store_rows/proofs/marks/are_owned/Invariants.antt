-- the members so far don't settle it
use Rattle.std.proofs.Common.{◌≡◌, drop}
use Rattle.std.specs.Prelude.{map}
use Rattle.std.specs.List.{list_all}
use Rattle.dict_catalogue.specs.Items.{is_known}
use Rattle.dict_catalogue.specs.Views.{item_shown}
use Rattle.store_rows.specs.Given.{members_given}
use Rattle.store_rows.proofs.marks.are_owned.Given as goal

abbrev pub invariant-loop-member : goal.invariant-loop-member
invariant-loop-member l = list_all (λ row. is_known (map item_shown l.items) row.owner) (members_given l.members) ≡ list_all (λ row. is_known (map item_shown l.items) row.owner) (members_given (drop l.member-index l.members))
