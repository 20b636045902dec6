use Rattle.sqlite.specs.Held.{state}
use Rattle.store_sql.proofs.StreamLemmas.{passed_on}
use Rattle.store_scans.proofs.CensusLemmas.{parts_whole, parts_read, parts_wrong}
use Rattle.store_scans.proofs.editions.test_parts.Goals as goal

pub returns-in_err-take_parts-clause-damaged : goal.returns-in_err-take_parts-clause-damaged
returns-in_err-take_parts-clause-damaged g c clean =
    passed_on _ _ c.from_residual.result c.from_residual.ensures.1
    (λ is readable apart. parts_wrong (state g.S.Store c.args.conn.now).now (record { numbers = c.args.numbers; may_have_orphans = c.args.may_have_orphans; rowids = c.new.result; orphans = c.new-2.result }) c.new.ensures readable apart
    (c.in_err-take_parts.ensures.damaged clean is))

pub returns-clause-whole : goal.returns-clause-whole
returns-clause-whole g c clean =
    parts_whole (state g.S.Store c.args.conn.now).now (record { numbers = c.args.numbers; may_have_orphans = c.args.may_have_orphans; rowids = c.new.result; orphans = c.new-2.result }) c.new.ensures c.take_parts.new.census
    (c.in_ok-take_parts.ensures.whole clean)

pub returns-clause-parts : goal.returns-clause-parts
returns-clause-parts g c clean =
    parts_read (state g.S.Store c.args.conn.now).now (record { numbers = c.args.numbers; may_have_orphans = c.args.may_have_orphans; rowids = c.new.result; orphans = c.new-2.result }) c.new.ensures c.take_parts.new.census
    (c.in_ok-take_parts.ensures.whole clean)
