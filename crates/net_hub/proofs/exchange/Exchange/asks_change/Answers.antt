use Rattle.std.proofs.Common.{◌≡◌, ◌∙◌, ◌++◌, ℕ, List, sym, subst}
use Rattle.http_service.specs.Foreseeing.{AsksForCommand}
use Rattle.net_hub.specs.Lines.{HoldsExchange, IsEditor, IsReader}
use Rattle.net_hub.specs.declared.kind.Kind.TheVariants.{Dict, Http}
use Rattle.net_hub.proofs.ExchangeLemmas.{editor_same}
use Rattle.net_hub.proofs.exchange.Exchange.asks_change.Goals as goal

pub returns-in-Editor-clause-holds : goal.returns-in-Editor-clause-holds
returns-in-Editor-clause-holds c = λ host id held holds.
    let h : IsEditor c.in-Editor.incoming held = subst (λ line. HoldsExchange host id line held) c.in-Editor.is holds in
    editor_same c.in-Editor.incoming c.asks_change.new.self held c.asks_change.ensures.octets c.asks_change.ensures.awaited h

pub returns-in-Editor-clause-yes : goal.returns-in-Editor-clause-yes
returns-in-Editor-clause-yes c = λ is host id held holds.
    let h : IsEditor c.in-Editor.incoming held = subst (λ line. HoldsExchange host id line held) c.in-Editor.is holds in
    record { kind = h.kind; asks = subst (λ (o : List ℕ). AsksForCommand (o ++ c.args.piece.now)) h.octets_held (c.asks_change.ensures.yes is) }

pub returns-in-Editor-clause-no : goal.returns-in-Editor-clause-no
returns-in-Editor-clause-no c = λ isnt host id held holds makes.
    let h : IsEditor c.in-Editor.incoming held = subst (λ line. HoldsExchange host id line held) c.in-Editor.is holds in
    c.asks_change.ensures.no isnt (subst (λ (o : List ℕ). AsksForCommand (o ++ c.args.piece.now)) (sym h.octets_held) makes.asks)

pub returns-in-Reader-clause-no : goal.returns-in-Reader-clause-no
returns-in-Reader-clause-no c = λ isnt host id held holds makes.
    let h : IsReader host id c.in-Reader.field-0 held = subst (λ line. HoldsExchange host id line held) c.in-Reader.is holds in
    let never : Dict ≡ Http = sym h.kind ∙ makes.kind in cc
