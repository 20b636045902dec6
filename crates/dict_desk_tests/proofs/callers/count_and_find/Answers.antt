use Rattle.std.proofs.Common.{sym, subst, ap, ◌∙◌}
use Rattle.std.specs.Prelude.{map}
use Rattle.std.proofs.lemmas.List.{nil_from_length}
use Rattle.dict_index.specs.Found.{found, found_rows, row_of}
use Rattle.dict_desk.proofs.HandingLemmas.{hands_all}
use Rattle.dict_desk_tests.proofs.callers.count_and_find.Goals as goal

pub returns-then-count-eq0-clause-value : goal.returns-then-count-eq0-clause-value
returns-then-count-eq0-clause-value g c = λ trusted M edition shown has.
    hands_all g.T.RowSink.takes g.T.RowSink.stops c.args.sink.now c.args.sink.now (found_rows c.args.strategy c.args.query.now edition) (subst (λ rows. g.T.RowSink.takes c.args.sink.now rows c.args.sink.now)
    (sym (ap (map row_of) (nil_from_length (found c.args.strategy c.args.query.now edition) (sym (c.in_ok-count.ensures.value trusted M edition shown has) ∙ c.if-count-eq0.true))))
    (g.met.T.RowSink.none c.args.sink.now))

pub returns-clause-value : goal.returns-clause-value
returns-clause-value g c = λ trusted M edition shown has.
    c.find.ensures.value trusted M edition (c.count.ensures.keeps.shows (c.find.ensures.keeps.trust trusted) M shown) has
