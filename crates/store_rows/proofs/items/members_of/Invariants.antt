-- the members so far
use Rattle.std.proofs.Common.{◌≡◌, take}
use Rattle.dict_catalogue.specs.Views.{texts_shown}
use Rattle.store_rows.specs.Tables.{members_of_owner}
use Rattle.store_rows.specs.Written.{numbered, member_record}
use Rattle.store_rows.specs.Given.{members_given}
use Rattle.store_rows.proofs.items.members_of.Given as goal

abbrev pub invariant-loop-row : goal.invariant-loop-row
invariant-loop-row l = members_of_owner l.owner (members_given (take l.row-index l.rows)) ≡ numbered (member_record l.owner) 0 (texts_shown l.members.items)
