use Rattle.std.proofs.Common.{◌≡◌, ◌∙◌, ◌++◌, sym, ap, subst, arith}
use Rattle.std.specs.Prelude.{take, length}
use Rattle.std.proofs.lemmas.Grind.{common_steps}
use Rattle.std.proofs.lemmas.List.{take_at}
use Rattle.http_service.specs.Foreseeing.{AsksForCommand}
use Rattle.net_hub.proofs.incoming.Incoming.asks_change.Goals as goal

pub returns-clause-octets : goal.returns-clause-octets
returns-clause-octets c =
    let whole : c.extend_from_slice.new.self.items ≡ c.args.self.now.octets.items ++ c.args.piece.now
    = grind (arith, common_steps, c.extend_from_slice.ensures.items, c.extend_from_slice.ensures.succeeds, c.args.self.now.room, c.requires) in
    let count : length c.args.self.now.octets.items ≡ c.len-held.result = omega (arith, c.len-held.ensures, c.args.self.now.octets.ok.0) in
    c.truncate.ensures.items ∙ (ap (λ l. take c.len-held.result l) whole ∙ take_at c.args.self.now.octets.items c.args.piece.now c.len-held.result count)

pub returns-clause-yes : goal.returns-clause-yes
returns-clause-yes c = λ is.
    let whole : c.extend_from_slice.new.self.items ≡ c.args.self.now.octets.items ++ c.args.piece.now
    = grind (arith, common_steps, c.extend_from_slice.ensures.items, c.extend_from_slice.ensures.succeeds, c.args.self.now.room, c.requires) in
    subst AsksForCommand (c.deref.ensures.value ∙ whole) (c.asks_change-asks_change.ensures.yes is)

pub returns-clause-no : goal.returns-clause-no
returns-clause-no c = λ isnt asks.
    let whole : c.extend_from_slice.new.self.items ≡ c.args.self.now.octets.items ++ c.args.piece.now
    = grind (arith, common_steps, c.extend_from_slice.ensures.items, c.extend_from_slice.ensures.succeeds, c.args.self.now.room, c.requires) in
    c.asks_change-asks_change.ensures.no isnt (subst AsksForCommand (sym (c.deref.ensures.value ∙ whole)) asks)
