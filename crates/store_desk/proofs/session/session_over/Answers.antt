use Rattle.std.proofs.Common.{◌≡◌, false, ap, subst}
use Rattle.dict_catalogue.specs.Steps.{Catalogue}
use Rattle.dict_proto.specs.Streams.{change}
use Rattle.dict_session.specs.Through.{EndsThrough}
use Rattle.store_desk.specs.Desk.{Shows, is_closed}
use Rattle.store_desk.specs.Over.{EndsOver, condition_by}
use Rattle.store_desk.proofs.OverLemmas.{beside_after, leaves_after}
use Rattle.store_desk.proofs.session.session_over.Goals as goal

pub returns-clause-ran : goal.returns-clause-ran
returns-clause-ran g c = λ clean.
    let opened = c.run-end.ensures.desk.trust clean in
    let is = c.in-Ok.ensures.adopted.shows opened in
    let unclosed : is_closed c.in-Ok.desk.last ≡ false = ap is_closed c.in-Ok.ensures.adopted.fine in
    let spoken : (M : Catalogue) → Shows g.S.Store c.in-Ok.desk M → EndsOver g.S.Store c.run-end.new.desk c.args.host.now c.args.number c.run-end.result (change g.R.Source.stream c.args.reader.now c.run-end.new.reader)
    (change g.K.Sink.stream c.args.writer.now c.run-end.new.writer) M = λ M shown. record {
      ended = c.run-end.ensures.answers clean M shown;
      through = subst (λ b. EndsThrough M c.args.host.now c.args.number b (condition_by c.run-end.new.desk.last) c.run-end.result (change g.R.Source.stream c.args.reader.now c.run-end.new.reader)
          (change g.K.Sink.stream c.args.writer.now c.run-end.new.writer)) unclosed (c.run-end.ensures.through clean M shown);
      shown = c.run-end.ensures.desk.shows clean M shown;
    } in
    record {
      catalogue = is.0;
      held = (c.in-Ok.ensures.adopted.same opened is.0).1 is.1.holds;
      over = λ M held. spoken M (c.in-Ok.ensures.held opened M held);
      left = λ M left. spoken M (c.in-Ok.ensures.left opened M left);
    }

pub returns-clause-memory : goal.returns-clause-memory
returns-clause-memory g c = λ is. let both = c.run-end.ensures.memory is in (ap g.R.Source.stream both.0, ap g.K.Sink.stream both.1)

pub returns-clause-leaves : goal.returns-clause-leaves
returns-clause-leaves g c = λ ms before. c.run-end.ensures.desk.leaves ms
    (leaves_after g.S.Store c.args.connection c.in-Ok.desk.conn c.is_whole.ensures.live (g.met.S.Store.stays c.args.connection.store) c.in-Ok.ensures.adopted.migrated ms before)

pub returns-clause-beside : goal.returns-clause-beside
returns-clause-beside g c = λ db keeps. c.run-end.ensures.desk.beside db (c.in-Ok.ensures.adopted.keeps db keeps)

pub returns-in-Err-clause-leaves_unopened : goal.returns-in-Err-clause-leaves_unopened
returns-in-Err-clause-leaves_unopened g c = λ ms before. leaves_after g.S.Store c.args.connection c.in-Err.left.0 c.is_whole.ensures.live (g.met.S.Store.stays c.args.connection.store) c.in-Err.ensures.rejected.crash ms before

pub returns-in-Err-clause-beside_unopened : goal.returns-in-Err-clause-beside_unopened
returns-in-Err-clause-beside_unopened g c = λ db keeps. beside_after g.S.Store c.args.connection c.in-Err.left.0 c.is_whole.ensures.live (g.met.S.Store.stays c.args.connection.store) db keeps c.in-Err.ensures.rejected.beside
