use Rattle.std.proofs.Common.{arith, codes}
use Rattle.sqlite.specs.State.{HasCleanDisk}
use Rattle.sqlite.specs.Held.{state}
use Rattle.store_tables.proofs.Callers.{still_has, apart_added}
use Rattle.store_sql.specs.HeaderTable.{header}
use Rattle.store_sql_tests.proofs.CommitLemmas.{at_ok}
use Rattle.store_sql_tests.proofs.headers.put.Goals as goal

pub returns : goal.returns
returns g c clean open' =
    let old = state g.S.Store (g.T.OpenTransaction.held c.args.tx.now) in
    let new = state g.S.Store (g.T.OpenTransaction.held c.insert_header.new.tx) in
    let start : HasCleanDisk old = omega (arith, c.insert_header.ensures.survives.clean, clean) in
    let added = at_ok _ _ _ c.expect.ensures (c.insert_header.ensures.added clean) in
    let had = c.requires start added.1.was_open in
    record { has = still_has header old.now new.now added.0.schema had.has; apart = apart_added (codes "edition") _ old.now new.now added.0 had.apart }
