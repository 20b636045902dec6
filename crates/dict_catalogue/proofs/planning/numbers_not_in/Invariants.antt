-- those so far that are not after
use Rattle.std.proofs.Common.{◌≡◌, take}
use Rattle.std.specs.Prelude.{filter, not, ◌==◌}
use Rattle.std.specs.List.{list_any}
use Rattle.dict_catalogue.proofs.planning.numbers_not_in.Given as goal

abbrev pub invariant-loop-number : goal.invariant-loop-number
invariant-loop-number l = l.gone.items ≡ filter (λ number. not (list_any (λ one. one == number) l.after)) (take l.number-index l.before)
