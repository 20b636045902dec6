use Rattle.std.proofs.Common.{◌∙◌, sym}
use Rattle.net_connection.proofs.TurnLemmas.{departs_failed, departs_whole, failed_is, well_isnt}
use Rattle.net_connection.proofs.connection.Connection.linger.Goals as goal

pub returns-then-has_failed : goal.returns-then-has_failed
returns-then-has_failed g c =
    departs_failed g.T.Transport.taken g.T.Transport.coming g.T.Transport.made c.args.self.now c.send-sent.new.self c.send-sent.result
    (failed_is c.send-sent.result (sym c.has_failed.ensures ∙ c.if-has_failed.true)) c.send-sent.ensures

pub returns : goal.returns
returns g c =
    departs_whole g.T.Transport.taken g.T.Transport.coming g.T.Transport.made c.args.self.now c.send-sent.new.self c.finish-has_finished.new.self c.drop_received-has_dropped.new.self c.send-sent.result
    c.finish-has_finished.result c.drop_received-has_dropped.result c.has_departed.result
    (well_isnt c.send-sent.result (sym c.has_failed.ensures ∙ c.if-has_failed.false)) c.send-sent.ensures c.finish-has_finished.ensures c.drop_received-has_dropped.ensures c.has_departed.ensures
