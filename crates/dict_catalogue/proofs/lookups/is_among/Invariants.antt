-- the names so far are others
use Rattle.std.proofs.Common.{◌≡◌, drop}
use Rattle.dict_catalogue.specs.Items.{is_among}
use Rattle.dict_catalogue.specs.Views.{texts_shown}
use Rattle.dict_catalogue.proofs.lookups.is_among.Given as goal

abbrev pub invariant-loop-one : goal.invariant-loop-one
invariant-loop-one l = is_among (texts_shown l.names) l.name ≡ is_among (texts_shown (drop l.one-index l.names)) l.name
