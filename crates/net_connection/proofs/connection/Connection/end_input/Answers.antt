use Rattle.std.proofs.Common.{◌∙◌, ap, refl}
use Rattle.net_connection.specs.Stages.{parted}
use Rattle.net_connection.proofs.LeadLemmas.{led_as}
use Rattle.net_connection.proofs.TurnLemmas.{hands_parted}
use Rattle.net_connection.proofs.connection.Connection.end_input.Goals as goal

pub returns-clause-led : goal.returns-clause-led
returns-clause-led g c = led_as c.end.ensures.led (λ events ended.
    let both = hands_parted c.args.self.now c.end.new.self _ events refl refl refl refl refl (c.parted-self.ensures ∙ ap parted c.is_empty.ensures) (ended.0, ended.1) in
    (both.0, both.1, record { failures = ended.2.failures; stands = ended.2.stands }, ended.3))
