use Rattle.std.proofs.Common.{[], true, refl, arith}
use Rattle.std.specs.Prelude.{IsTrue}
use Rattle.sqlite.specs.Held.{state}
use Rattle.sqlite.specs.State.{State}
use Rattle.store_tables.specs.Tables.{mark}
use Rattle.store_sql.proofs.ReadTexts.{read_mark, reads_mark}
use Rattle.store_sql.proofs.ListingLemmas.{CanRead, lists_whole, selects_where, reads_nothing_else}
use Rattle.store_sql.proofs.ReadFaults.{nothing, takes_mark, list_fails}
use Rattle.store_sql.specs.Reads.{select_mark}
use Rattle.store_opening.specs.Marks.{HasMarkTable}
use Rattle.store_opening.proofs.TableLemmas.{selects_mark}
use Rattle.store_opening.proofs.mark_records.mark_rows.Goals as goal

-- the table can be read where the connection is open
has_mark : (old : State) → (IsTrue old.is_open → HasMarkTable old.now.schema) → IsTrue old.is_open → CanRead mark old.now
has_mark old has open' =
    let own = has open' in
    let it = selects_mark old.now.schema own in
    (it.0, own.tree, it.1)

pub returns-clause-listed : goal.returns-clause-listed
returns-clause-listed g c clean =
    let old = state g.S.Store c.args.conn.now in
    let new = state g.S.Store c.query_all.new.self in
    lists_whole _ _ old new c.query_all.result
    (selects_where select_mark read_mark mark _ _ _ _ _ _ _ _ reads_mark (λ tree. refl) [] (λ _. true) (λ tree row. refl) old new c.query_all.result
    (has_mark old (c.requires (omega (arith, c.query_all.ensures.survives.clean)))) (c.query_all.ensures.ok clean))

pub returns-clause-failed : goal.returns-clause-failed
returns-clause-failed g c clean =
    let old = state g.S.Store c.args.conn.now in
    let new = state g.S.Store c.query_all.new.self in
    list_fails select_mark read_mark mark _ _ _ _ _ _ _ _ reads_mark nothing takes_mark tt old new (has_mark old (c.requires (omega (arith, c.query_all.ensures.survives.clean)))) c.query_all.result (c.query_all.ensures.err clean)

pub returns-clause-survives : goal.returns-clause-survives
returns-clause-survives g c =
    reads_nothing_else select_mark read_mark mark _ _ _ _ _ _ _ _ reads_mark (λ tree. refl) [] (λ _. true) (λ tree row. refl) (state g.S.Store c.args.conn.now) (state g.S.Store c.query_all.new.self) c.query_all.ensures.survives
