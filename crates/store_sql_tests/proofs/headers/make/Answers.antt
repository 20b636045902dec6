use Rattle.std.proofs.Common.{◌≡◌, arith, rules, subst, sym}
use Rattle.sqlite.specs.State.{HasCleanDisk}
use Rattle.sqlite.specs.Held.{state}
use Rattle.store_tables.specs.Effects.{HasApartRowids, rows_of}
use Rattle.store_sql_tests.proofs.CommitLemmas.{after_commit, apart_made, at_ok}
use Rattle.store_sql.specs.HeaderTable.{header}
use Rattle.store_sql_tests.proofs.headers.make.Goals as goal

pub returns : goal.returns
returns g c clean =
    let name = (header 0).name in
    let end = c.commit.new.tx.0 in
    let same : end ≡ c.conn-1.given.0 = search rules in
    let late : HasCleanDisk (state g.S.Store end) = subst (λ h. HasCleanDisk (state g.S.Store h)) (sym same) clean in
    let early : HasCleanDisk (state g.S.Store c.create_header_table.new.tx.conn.now) = omega (arith, c.commit.ensures.survives.clean, late) in
    let made = at_ok _ _ _ c.expect.ensures (c.create_header_table.ensures.made early) in
    let apart = after_commit name c.commit.result _ _ (c.commit.ensures.committed late) (apart_made (header 0) _ _ made.0) in
    subst (λ h. HasApartRowids (rows_of name (state g.S.Store h).now)) same (at_ok _ _ _ c.expect-2.ensures apart)
