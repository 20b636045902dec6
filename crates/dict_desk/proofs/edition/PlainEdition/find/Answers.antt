use Rattle.std.proofs.Common.{sym, subst}
use Rattle.dict_desk.specs.Shown.{rows_given}
use Rattle.dict_desk.specs.declared.lookup.What.{What}
use Rattle.dict_desk.proofs.edition.PlainEdition.find.Goals as goal

pub returns-in-Entries-clause-all : goal.returns-in-Entries-clause-all
returns-in-Entries-clause-all g c = λ e.
    subst (λ (what : What). g.T.RowSink.takes c.args.sink.now (rows_given what c.args.strategy c.args.query.now c.args.self.now.content) c.find_entries.new.sink) (sym c.in-Entries.is) (c.find_entries.ensures.all e)

pub returns-in-Entries-clause-stopped : goal.returns-in-Entries-clause-stopped
returns-in-Entries-clause-stopped g c = λ e.
    subst (λ (what : What). g.T.RowSink.stops c.args.sink.now (rows_given what c.args.strategy c.args.query.now c.args.self.now.content) c.find_entries.new.sink) (sym c.in-Entries.is) (c.find_entries.ensures.stopped e)

pub returns-in-Headwords-clause-all : goal.returns-in-Headwords-clause-all
returns-in-Headwords-clause-all g c = λ e.
    subst (λ (what : What). g.T.RowSink.takes c.args.sink.now (rows_given what c.args.strategy c.args.query.now c.args.self.now.content) c.find_headwords.new.sink) (sym c.in-Headwords.is)
    (c.find_headwords.ensures.all e)

pub returns-in-Headwords-clause-stopped : goal.returns-in-Headwords-clause-stopped
returns-in-Headwords-clause-stopped g c = λ e.
    subst (λ (what : What). g.T.RowSink.stops c.args.sink.now (rows_given what c.args.strategy c.args.query.now c.args.self.now.content) c.find_headwords.new.sink) (sym c.in-Headwords.is)
    (c.find_headwords.ensures.stopped e)
