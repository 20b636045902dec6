use Rattle.std.proofs.Common.{◌≡◌, map, take, string_bytes}
use Rattle.sqlite.specs.declared.types.Value.TheVariants.{Text as Words}
use Rattle.sqlite.specs.Order.{column}
use Rattle.store_sql.proofs.infos.infos_in.Given as goal

abbrev pub invariant-loop-row : goal.invariant-loop-row
invariant-loop-row l = map (λ info. Words (string_bytes info)) l.all.items ≡ map (λ r. column r 0) (take l.row-index l.rows)
