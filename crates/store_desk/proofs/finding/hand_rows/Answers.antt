use Rattle.std.proofs.Common.{sym, subst}
use Rattle.std.specs.Prelude.{Result, OnOk}
use Rattle.dict_desk.specs.Handing.{Hands}
use Rattle.dict_desk.specs.Shown.{count_of, rows_given}
use Rattle.dict_desk.specs.declared.fault.Fault.{Fault}
use Rattle.dict_desk.specs.declared.lookup.End.{End}
use Rattle.dict_desk.specs.declared.lookup.What.{What}
use Rattle.dict_desk.specs.declared.lookup.What.TheVariants.{Entries}
use Rattle.store_holdings.specs.Taken.{LooksAt}
use Rattle.store_holdings.proofs.AskLemmas.{keeps_none, reads_none}
use Rattle.store_desk.proofs.finding.hand_rows.Goals as goal

pub returns-in-Entries-clause-value : goal.returns-in-Entries-clause-value
returns-in-Entries-clause-value g c = λ clean index edition text stands cuts are held.
    subst (λ (what : What). Hands g.T.RowSink.takes g.T.RowSink.stops c.args.sink.now c.find_under.new.sink (rows_given what c.args.strategy c.args.query.now edition) c.find_under.result)
    (sym c.in-Entries.is) (c.find_under.ensures.value clean index edition text stands cuts are held)

pub returns-in-Headwords-clause-value : goal.returns-in-Headwords-clause-value
returns-in-Headwords-clause-value g c = λ clean index edition text stands cuts are held.
    subst (λ (what : What). Hands g.T.RowSink.takes g.T.RowSink.stops c.args.sink.now c.heads_under.new.sink (rows_given what c.args.strategy c.args.query.now edition) c.heads_under.result)
    (sym c.in-Headwords.is) (c.heads_under.ensures.value index edition stands (text, cuts))

pub returns-in-Headwords-clause-looks : goal.returns-in-Headwords-clause-looks
returns-in-Headwords-clause-looks g c = λ index edition stands is all.
    subst (λ (r : Result End Fault). OnOk r (LooksAt c.args.rows_taken.now c.heads_under.new.rows_taken (count_of Entries c.args.strategy c.args.query.now edition))) all
    (c.heads_under.ensures.looks index edition stands is)

pub returns-in-Headwords-clause-reads : goal.returns-in-Headwords-clause-reads
returns-in-Headwords-clause-reads g c = reads_none c.args.number c.args.conn.now c.heads_under.result c.heads_under.ensures.kinds

pub returns-in-Headwords-clause-keeps : goal.returns-in-Headwords-clause-keeps
returns-in-Headwords-clause-keeps g c = keeps_none
