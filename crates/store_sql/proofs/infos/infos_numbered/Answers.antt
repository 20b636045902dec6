use Rattle.std.proofs.Common.{ℤ, map, subst, IsPermutation}
use Rattle.std.proofs.lemmas.Int.{to_z-of_z}
use mir.Syntax.{w64}
use Rattle.sqlite.specs.Held.{state}
use Rattle.store_sql.proofs.StreamLemmas.{fails_to_read_into}
use Rattle.store_sql.specs.Infos.{informed, info_columns, headers_with}
use Rattle.store_sql.proofs.InfoLemmas.{told}
use Rattle.store_sql.proofs.infos.infos_numbered.Goals as goal

pub returns-clause-selected : goal.returns-clause-selected
returns-clause-selected g c clean =
    let rows = c.in_ok-rows.rows.items in
    let it = c.in_ok-rows.ensures.selected clean in
    let same = subst (λ (n : ℤ). IsPermutation (map informed (headers_with n (state g.S.Store c.args.conn.now).now)) rows) (to_z-of_z w64 c.args.number c.ranges.number) it.0 in
    told (headers_with c.args.number (state g.S.Store c.args.conn.now).now) rows same (state g.S.Store c.args.conn.now) (state g.S.Store c.info_rows.new.conn) it.1 c.infos_in.result (rw c.deref.ensures.value at c.infos_in.ensures.read)

pub returns-clause-failed : goal.returns-clause-failed
returns-clause-failed g c clean =
    let rows = c.in_ok-rows.rows.items in
    let it = c.in_ok-rows.ensures.selected clean in
    let same = subst (λ (n : ℤ). IsPermutation (map informed (headers_with n (state g.S.Store c.args.conn.now).now)) rows) (to_z-of_z w64 c.args.number c.ranges.number) it.0 in
    fails_to_read_into info_columns (map informed (headers_with c.args.number (state g.S.Store c.args.conn.now).now)) rows (state g.S.Store c.args.conn.now) (state g.S.Store c.info_rows.new.conn) c.infos_in.result same it.1
    (rw c.deref.ensures.value at c.infos_in.ensures.refused)
