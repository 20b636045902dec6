use Rattle.std.proofs.Common.{◌∙◌, refl, sym}
use Rattle.net_connection.proofs.TurnLemmas.{sends_none, sends_once}
use Rattle.net_connection.proofs.connection.Connection.send.Goals as goal

pub returns-then-is_empty : goal.returns-then-is_empty
returns-then-is_empty g c = sends_none g.T.Transport.taken g.T.Transport.coming g.T.Transport.made c.args.self.now (sym c.is_empty.ensures ∙ c.if-is_empty.true)

pub returns : goal.returns
returns g c =
    rw c.sent_by.ensures
    (sends_once g.T.Transport.taken g.T.Transport.coming g.T.Transport.made _ _ c.send.result refl refl refl refl refl c.send.ensures.failures c.send.ensures.refused (sym c.is_empty.ensures ∙ c.if-is_empty.false)
    c.send.ensures.sends c.send.ensures.coming c.send.ensures.made)
