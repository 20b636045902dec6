use Rattle.std.proofs.Common.{List, ℕ, true, false, ◌++◌, sym, ap, ◌∙◌, subst, inl, Ok}
use Rattle.std.specs.Prelude.{◌||◌}
use Rattle.std.specs.List.{flat_map}
use Rattle.dict_proto.specs.Streams.{PutsFront}
use Rattle.dict_proto.proofs.PutLemmas.{front_longer}
use Rattle.dict_index.specs.Found.{info_rows}
use Rattle.dict_proto.specs.Replies.{info_heading_octets, info_text_octets, done_octets}
use Rattle.dict_session.specs.Answers.{no_rows, one_row}
use Rattle.dict_session.specs.Ending.{PutsAnswer}
use Rattle.dict_session.specs.Rows.{info_row, has_some}
use Rattle.dict_session.proofs.ShowLemmas.{row_is, part_of_row, none_begun, whole_after, none_before, lookup_failed}
use Rattle.dict_session.proofs.show.put_row.Goals as goal

pub returns-in-Ok-All-clause-value : goal.returns-in-Ok-All-clause-value
returns-in-Ok-All-clause-value g c = λ trusted M edition shown has.
    let failed = g.L.Lookup.has_failed c.info.new.self in
    let taken = (c.in-Ok-All.ensures.value trusted M edition shown has).all (ap Ok c.in-Ok-All.field-0-is) in
    subst (λ (answer : List ℕ). PutsAnswer failed c.put_whole.result (g.K.Sink.stream c.args.row.now.sink.now) (g.K.Sink.stream c.put_whole.new.sink) answer one_row true) (row_is edition)
    (whole_after one_row failed c.put_whole.result (g.K.Sink.stream c.args.row.now.sink.now) (g.K.Sink.stream c.info.new.sink.sink.now) (g.K.Sink.stream c.put_whole.new.sink) (flat_map info_row (info_rows edition)) done_octets
    taken.0 (c.put_whole.ensures failed no_rows false))

pub returns-in-Ok-All-clause-same_reference : goal.returns-in-Ok-All-clause-same_reference
returns-in-Ok-All-clause-same_reference g c = let (rows, handed) = c.in-Ok-All.ensures.handed in (handed.all (ap Ok c.in-Ok-All.field-0-is)).1

pub returns-in-Ok-Stopped-clause-value : goal.returns-in-Ok-Stopped-clause-value
returns-in-Ok-Stopped-clause-value g c = λ trusted M edition shown has.
    let stopped = (c.in-Ok-Stopped.ensures.value trusted M edition shown has).stopped (ap Ok c.in-Ok-Stopped.field-0-is) in
    inl (subst (PutsFront (g.K.Sink.stream c.args.row.now.sink.now) (g.K.Sink.stream c.info.new.sink.sink.now)) (row_is edition)
    (front_longer (g.K.Sink.stream c.args.row.now.sink.now) (g.K.Sink.stream c.info.new.sink.sink.now) (flat_map info_row (info_rows edition)) done_octets stopped.0))

pub returns-in-Ok-Stopped-clause-same_reference : goal.returns-in-Ok-Stopped-clause-same_reference
returns-in-Ok-Stopped-clause-same_reference g c = let (rows, handed) = c.in-Ok-Stopped.ensures.handed in (handed.stopped (ap Ok c.in-Ok-Stopped.field-0-is)).1

pub returns-then-row-clause-value : goal.returns-then-row-clause-value
returns-then-row-clause-value g c = λ trusted M edition shown has.
    let (front, rest, parts, taken) = (c.in-Err.ensures.value trusted M edition shown has).failed in (
      c.in-Err.ensures.keeps.failed ∙ lookup_failed c.in-Err.field-0 c.in-Err.ensures.keeps.kinds,
      part_of_row (g.K.Sink.stream c.args.row.now.sink.now) (g.K.Sink.stream c.info.new.sink.sink.now) edition front rest
          (sym c.if-row.true ∙ (taken.2 ∙ ap (λ b. b || has_some front) c.requires)) parts taken.0,
    )

pub returns-then-row-clause-same_reference : goal.returns-then-row-clause-same_reference
returns-then-row-clause-same_reference g c = let (rows, handed) = c.in-Err.ensures.handed in let (front, rest, parts, taken) = handed.failed in taken.1

pub returns-else-row-clause-value : goal.returns-else-row-clause-value
returns-else-row-clause-value g c = λ trusted M edition shown has.
    let failed = g.L.Lookup.has_failed c.info.new.self in
    let answer = info_heading_octets ++ (info_text_octets edition.info ++ done_octets) in
    let (front, rest, parts, taken) = (c.in-Err.ensures.value trusted M edition shown has).failed in
    none_before failed c.put_unavailable.result (g.K.Sink.stream c.args.row.now.sink.now) (g.K.Sink.stream c.info.new.sink.sink.now) (g.K.Sink.stream c.put_unavailable.new.sink) answer one_row true
    (none_begun (g.K.Sink.stream c.args.row.now.sink.now) (g.K.Sink.stream c.info.new.sink.sink.now) front (sym c.if-row.false ∙ (taken.2 ∙ ap (λ b. b || has_some front) c.requires)) taken.0)
    (c.put_unavailable.ensures answer failed one_row)

pub returns-else-row-clause-same_reference : goal.returns-else-row-clause-same_reference
returns-else-row-clause-same_reference g c = let (rows, handed) = c.in-Err.ensures.handed in let (front, rest, parts, taken) = handed.failed in taken.1
