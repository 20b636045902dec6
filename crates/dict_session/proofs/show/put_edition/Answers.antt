use Rattle.std.proofs.Common.{subst, sym, true, ◌++◌}
use Rattle.dict_proto.specs.Replies.{info_heading_octets, info_text_octets, done_octets}
use Rattle.dict_session.specs.Answers.{one_row}
use Rattle.dict_session.specs.Ending.{PutsAnswer}
use Rattle.dict_session.proofs.show.put_edition.Goals as goal

pub returns-clause-value : goal.returns-clause-value
returns-clause-value g c = λ trusted M edition shown has.
    subst (λ (k : g.row.K.Denot). PutsAnswer (g.L.Lookup.has_failed c.put_row.new.desk) c.put_row.result (g.K.Sink.stream c.args.sink.now) (g.K.Sink.stream k) (info_heading_octets ++ (info_text_octets edition.info ++ done_octets))
    one_row true)
    (sym (c.sink-1.given.1 (sym c.put_row.ensures.same_reference))) (c.put_row.ensures.value trusted M edition shown has)
