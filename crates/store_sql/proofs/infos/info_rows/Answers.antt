use Rattle.std.proofs.Common.{arith}
use Rattle.sqlite.specs.Held.{state}
use Rattle.store_sql.proofs.NumberLemmas.{bound_int}
use Rattle.store_sql.proofs.InfoTexts.{informs, fails_to_inform, informs_alone}
use Rattle.store_sql.proofs.infos.info_rows.Goals as goal

pub returns-clause-selected : goal.returns-clause-selected
returns-clause-selected g c clean =
    informs c.args.number (state g.S.Store c.args.conn.now) (state g.S.Store c.query_all.new.self) (c.requires (omega (arith, c.query_all.ensures.survives.clean))) c.query_all.result
    (rw (bound_int _ c.args.number c.ranges.number c.params-to_sql.ensures) at (c.query_all.ensures.ok clean))

pub returns-clause-failed : goal.returns-clause-failed
returns-clause-failed g c clean =
    fails_to_inform c.args.number (state g.S.Store c.args.conn.now) (state g.S.Store c.query_all.new.self) (c.requires (omega (arith, c.query_all.ensures.survives.clean))) c.query_all.result
    (rw (bound_int _ c.args.number c.ranges.number c.params-to_sql.ensures) at (c.query_all.ensures.err clean))

pub returns-clause-survives : goal.returns-clause-survives
returns-clause-survives g c =
    informs_alone c.args.number (state g.S.Store c.args.conn.now) (state g.S.Store c.query_all.new.self)
    (rw (bound_int _ c.args.number c.ranges.number c.params-to_sql.ensures) at c.query_all.ensures.survives)
