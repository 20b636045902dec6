use Rattle.std.proofs.lemmas.Result.{err_from_is_err_and}
use Rattle.store_tables.specs.Typed.{owned_item}
use Rattle.store_rows.proofs.ItemLemmas.{former_told}
use Rattle.store_rows.proofs.items.regular_of.Goals as goal

pub returns-in_err-former-clause-damaged : goal.returns-in_err-former-clause-damaged
returns-in_err-former-clause-damaged c =
    let p = err_from_is_err_and c.from_residual-in_err-former.result c.from_residual-in_err-former.ensures.1 in
    rw (p.1, p.2) (former_told _ c.args.place (owned_item c.args.row.now) c.in_err-former.ensures.below)
