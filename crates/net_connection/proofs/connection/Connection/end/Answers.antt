use Rattle.std.proofs.Common.{refl}
use Rattle.net_connection.proofs.CauseLemmas.{caused_by}
use Rattle.net_connection.proofs.LeadLemmas.{led_as}
use Rattle.net_connection.proofs.TurnLemmas.{hands_ended}
use Rattle.net_connection.proofs.connection.Connection.end.Goals as goal

pub returns-clause-led : goal.returns-clause-led
returns-clause-led g c = led_as c.deliver.ensures.led (λ events told.
    let both = hands_ended c.args.self.now _ c.deliver.result events refl refl refl refl refl told.0 in
    (both.0, both.1, caused_by _ _ _ events told.1, told.2))
