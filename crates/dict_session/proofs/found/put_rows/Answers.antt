use Rattle.std.proofs.Common.{subst, sym}
use Rattle.std.specs.List.{flat_map}
use Rattle.dict_session.specs.Ending.{Delivers}
use Rattle.dict_desk.specs.Shown.{rows_given}
use Rattle.dict_session.specs.Rows.{row_octets}
use Rattle.dict_session.proofs.found.put_rows.Goals as goal

pub returns-clause-value : goal.returns-clause-value
returns-clause-value g c = λ trusted M edition shown has.
    let octets = flat_map (row_octets c.args.query.now.what c.args.heading.now.name.bytes c.args.heading.now.title.bytes) (rows_given c.args.query.now.what c.args.query.now.strategy c.args.query.now.key edition) in
    subst (λ (k : g.row.K.Denot). Delivers (g.L.Lookup.has_failed c.deliver.new.desk) c.deliver.result (g.K.Sink.stream c.args.sink.now) (g.K.Sink.stream k) octets)
    (sym (c.sink-1.given.1 (sym c.deliver.ensures.same_reference))) (c.deliver.ensures.value trusted M edition shown has)
