use Rattle.std.proofs.Common.{List, ℕ, ◌++◌, true, false, subst, append_assoc}
use Rattle.std.specs.List.{flat_map}
use Rattle.dict_proto.specs.Streams.{PutsAll}
use Rattle.dict_proto.proofs.PutLemmas.{all_after}
use Rattle.dict_session.specs.Answers.{no_rows, counted_rows}
use Rattle.dict_session.specs.Ending.{Breaks, PutsAnswer}
use Rattle.dict_session.specs.Rows.{count_octets, end_octets, octets_at_place}
use Rattle.dict_session.proofs.PartLemmas.{breaks_answer}
use Rattle.dict_session.proofs.FoundLemmas.{count_some, end_some}
use Rattle.dict_session.proofs.ShowLemmas.{whole_after}
use Rattle.dict_session.proofs.found.put_counted.Goals as goal

pub returns-in-Err-put_places-clause-value : goal.returns-in-Err-put_places-clause-value
returns-in-Err-put_places-clause-value g c = λ trusted M shown.
    let failed = g.L.Lookup.has_failed c.put_places.new.desk in
    let query = c.args.query.now in
    let f = octets_at_place query M.items in
    let rows = flat_map f c.args.counted.now.places.items in
    breaks_answer query.what c.args.counted.now.count failed c.in-Err-put_places.fault (g.K.Sink.stream c.args.sink.now) (g.K.Sink.stream c.put_count.new.sink) (g.K.Sink.stream c.put_places.new.sink) rows (end_octets query.what)
    (count_some query.what c.args.counted.now.count) (end_some query.what) c.in-Ok.ensures
    (subst (λ (l : List ℕ). Breaks failed c.in-Err-put_places.fault (g.K.Sink.stream c.put_count.new.sink) (g.K.Sink.stream c.put_places.new.sink) (flat_map f l)) c.as_slice.ensures.value (c.in-Err-put_places.ensures.value trusted M shown))

pub returns-clause-value : goal.returns-clause-value
returns-clause-value g c = λ trusted M shown.
    let failed = g.L.Lookup.has_failed c.put_places.new.desk in
    let query = c.args.query.now in
    let f = octets_at_place query M.items in
    let count = count_octets query.what c.args.counted.now.count in
    let rows = flat_map f c.args.counted.now.places.items in
    let before = subst (λ (l : List ℕ). PutsAll (g.K.Sink.stream c.put_count.new.sink) (g.K.Sink.stream c.put_places.new.sink) (flat_map f l)) c.as_slice.ensures.value (c.in-Ok-put_places.ensures.value trusted M shown) in
    subst (λ (l : List ℕ). PutsAnswer failed c.whole.result (g.K.Sink.stream c.args.sink.now) (g.K.Sink.stream c.put_end.new.sink) l (counted_rows c.args.query.now.what) true) (append_assoc count rows (end_octets query.what))
    (whole_after (counted_rows query.what) failed c.whole.result (g.K.Sink.stream c.args.sink.now) (g.K.Sink.stream c.put_places.new.sink) (g.K.Sink.stream c.put_end.new.sink) (count ++ rows) (end_octets query.what)
    (all_after (g.K.Sink.stream c.args.sink.now) (g.K.Sink.stream c.put_count.new.sink) (g.K.Sink.stream c.put_places.new.sink) count rows c.in-Ok.ensures before)
    (c.whole.ensures (g.K.Sink.stream c.put_places.new.sink) (g.K.Sink.stream c.put_end.new.sink) (end_octets query.what) failed no_rows false c.put_end.ensures))
