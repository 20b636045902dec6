-- the elements so far don't settle it
use Rattle.std.proofs.Common.{◌≡◌, drop}
use Rattle.dict_catalogue.specs.Views.{texts_shown}
use Rattle.store_rows.specs.Tests.{has_once}
use Rattle.store_rows.proofs.lawful.has_once.Given as goal

abbrev pub invariant-loop-index : goal.invariant-loop-index
invariant-loop-index l = has_once (texts_shown l.texts) ≡ has_once (texts_shown (drop l.index l.texts))
