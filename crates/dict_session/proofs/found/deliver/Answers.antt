use Rattle.std.proofs.Common.{ap, ◌∙◌, subst, sym, Ok}
use Rattle.std.specs.List.{flat_map}
use Rattle.std.proofs.lemmas.List.Concat.{flat_map-append}
use Rattle.dict_session.specs.Ending.{PutsPart}
use Rattle.dict_session.specs.Rows.{row_octets}
use Rattle.dict_session.proofs.PartLemmas.{part_of}
use Rattle.dict_session.proofs.found.deliver.Goals as goal

pub returns-in-Ok-All-clause-value : goal.returns-in-Ok-All-clause-value
returns-in-Ok-All-clause-value g c = λ trusted M edition shown has. ((c.in-Ok-All.ensures.value trusted M edition shown has).all (ap Ok c.in-Ok-All.field-0-is)).0

pub returns-in-Ok-All-clause-same_reference : goal.returns-in-Ok-All-clause-same_reference
returns-in-Ok-All-clause-same_reference g c = let (rows, handed) = c.in-Ok-All.ensures.handed in (handed.all (ap Ok c.in-Ok-All.field-0-is)).1

pub returns-in-Ok-Stopped-clause-value : goal.returns-in-Ok-Stopped-clause-value
returns-in-Ok-Stopped-clause-value g c = λ trusted M edition shown has. ((c.in-Ok-Stopped.ensures.value trusted M edition shown has).stopped (ap Ok c.in-Ok-Stopped.field-0-is)).0

pub returns-in-Ok-Stopped-clause-same_reference : goal.returns-in-Ok-Stopped-clause-same_reference
returns-in-Ok-Stopped-clause-same_reference g c = let (rows, handed) = c.in-Ok-Stopped.ensures.handed in (handed.stopped (ap Ok c.in-Ok-Stopped.field-0-is)).1

pub returns-in-Err-clause-value : goal.returns-in-Err-clause-value
returns-in-Err-clause-value g c = λ trusted M edition shown has.
    let f = row_octets c.args.rows.now.what c.args.rows.now.heading.now.name.bytes c.args.rows.now.heading.now.title.bytes in
    let (front, rest, parts, taken) = (c.in-Err.ensures.value trusted M edition shown has).failed in (
      c.in-Err.ensures.failed,
      subst (PutsPart (g.K.Sink.stream c.args.rows.now.sink.now) (g.K.Sink.stream c.hand_out.new.sink.sink.now)) (sym (flat_map-append f front rest) ∙ sym (ap (flat_map f) parts))
          (part_of (g.K.Sink.stream c.args.rows.now.sink.now) (g.K.Sink.stream c.hand_out.new.sink.sink.now) (flat_map f front) (flat_map f rest) taken.0),
    )

pub returns-in-Err-clause-same_reference : goal.returns-in-Err-clause-same_reference
returns-in-Err-clause-same_reference g c = let (rows, handed) = c.in-Err.ensures.handed in let (front, rest, parts, taken) = handed.failed in taken.1
