-- the members so far pass
use Rattle.std.proofs.Common.{◌≡◌, [], take, drop}
use Rattle.std.specs.Prelude.{map}
use Rattle.dict_catalogue.specs.Tests.{first_failing, member_tests}
use Rattle.dict_catalogue.specs.Views.{item_shown, names_shown}
use Rattle.dict_catalogue.proofs.refusing.member_refusal.Given as goal

abbrev pub invariant-loop-index : goal.invariant-loop-index
invariant-loop-index l = first_failing (member_tests (map item_shown l.items) [] (names_shown l.members)) ≡ first_failing (member_tests (map item_shown l.items) (names_shown (take l.index l.members)) (names_shown (drop l.index l.members)))
