use Rattle.std.proofs.Common.{◌∙◌, ◌++◌, ◌∷◌, [], ap}
use Rattle.net_driver.proofs.SettleLemmas.{latest_more}
use Rattle.net_driver.proofs.connections.Connections.keep.Goals as goal

pub returns-clause-departing : goal.returns-clause-departing
returns-clause-departing g c = c.push_reserved.ensures.items ∙ ap (λ l. l ++ c.args.one ∷ []) c.make_room.ensures.departing ∙ latest_more 127 c.args.self.now.departing.items c.args.one
