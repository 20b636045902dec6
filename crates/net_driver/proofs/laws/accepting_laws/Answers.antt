use Rattle.std.proofs.Common.{refl}
use Rattle.net_driver.specs.declared.listening.Listening.TheVariants.{Ready}
use Rattle.net_driver.proofs.CountLemmas.{by_accepting}
use Rattle.net_driver.proofs.laws.accepting_laws.Goals as goal

pub returns-clause-most : goal.returns-clause-most
returns-clause-most g c =
    let old = c.args.old.now in
    let new = c.args.new.now in
    λ kind before after calls events taken. (by_accepting g.S.Opening.refuses kind before after old.hub new.hub old.connections new.connections calls events taken).0

pub returns-clause-whole : goal.returns-clause-whole
returns-clause-whole g c =
    let old = c.args.old.now in
    let new = c.args.new.now in
    λ kind before calls events taken. (by_accepting g.S.Opening.refuses kind before Ready old.hub new.hub old.connections new.connections calls events taken).1 refl
