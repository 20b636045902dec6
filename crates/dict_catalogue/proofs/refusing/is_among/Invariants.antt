-- the names so far are others
use Rattle.std.proofs.Common.{◌≡◌, drop}
use Rattle.dict_catalogue.specs.Items.{is_among}
use Rattle.dict_catalogue.specs.Views.{names_shown}
use Rattle.dict_catalogue.proofs.refusing.is_among.Given as goal

abbrev pub invariant-loop-one : goal.invariant-loop-one
invariant-loop-one l = is_among (names_shown l.names) l.name ≡ is_among (names_shown (drop l.one-index l.names)) l.name
