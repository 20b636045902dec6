use Rattle.sqlite.specs.Held.{state}
use Rattle.store_desk.proofs.adopting.is_whole.Goals as goal

pub returns-clause-whole : goal.returns-clause-whole
returns-clause-whole g c = λ live.
    let s = state g.S.Store c.args.conn.now in
    let sound = c.schema-schema.ensures.live live in
    record { now = λ M left. c.one_is_held.ensures.over s.now M sound.0 left; committed = λ M left. c.one_is_held.ensures.over s.committed M sound.1 left }
