use Rattle.std.proofs.Common.{ap, subst, sym}
use Rattle.std.specs.Prelude.{Option, slice_get}
use Rattle.std.specs.List.{flat_map}
use Rattle.dict_proto.specs.Streams.{PutsAll}
use Rattle.dict_proto.proofs.PutLemmas.{puts_none}
use Rattle.dict_catalogue.specs.Steps.{summary_of}
use Rattle.dict_session.specs.Places.{IsHeading}
use Rattle.dict_session.specs.Ending.{Delivers}
use Rattle.dict_session.specs.Rows.{octets_in}
use Rattle.dict_session.specs.declared.asked.Heading.{Heading}
use Rattle.dict_session.proofs.FoundLemmas.{rows_here, nothing_here}
use Rattle.dict_session.proofs.found.put_at.Goals as goal

pub returns-in-Ok-Some-clause-value : goal.returns-in-Ok-Some-clause-value
returns-in-Ok-Some-clause-value g c = λ trusted M shown.
    rows_here M c.args.place c.args.query.now c.in-Ok-Some.heading (Delivers (g.L.Lookup.has_failed c.put_rows.new.desk) c.put_rows.result (g.K.Sink.stream c.args.sink.now) (g.K.Sink.stream c.put_rows.new.sink))
    (g.met.L.Lookup.well_formed c.args.desk.now M shown)
    (subst (λ (h : Option Heading). IsHeading h (slice_get (summary_of M).items c.args.place)) c.in-Ok-Some.field-0-is (c.in-Ok-Some.ensures.value M shown)) (λ edition has. c.put_rows.ensures.value trusted M edition shown has)

pub returns-in-Ok-None-clause-value : goal.returns-in-Ok-None-clause-value
returns-in-Ok-None-clause-value g c = λ trusted M shown.
    subst (PutsAll (g.K.Sink.stream c.args.sink.now) (g.K.Sink.stream c.args.sink.now)) (sym (ap (flat_map (octets_in c.args.query.now)) (nothing_here M c.args.place
    (subst (λ (h : Option Heading). IsHeading h (slice_get (summary_of M).items c.args.place)) c.in-Ok-None.field-0-is (c.in-Ok-None.ensures.value M shown)))))
    (puts_none (g.K.Sink.stream c.args.sink.now))
