use Rattle.std.proofs.Common.{◌++◌, ℕ, List, subst}
use Rattle.http_service.specs.Foreseeing.{IsToldAnew, IsToldOver, AsksAnewForChange, AsksForChange}
use Rattle.net_hub.specs.Lines.{HoldsExchange, IsEditor}
use Rattle.net_hub.proofs.ExchangeLemmas.{editor_same}
use Rattle.net_hub.proofs.exchange.Exchange.foresee.Goals as goal

pub returns-in-Editor-clause-holds : goal.returns-in-Editor-clause-holds
returns-in-Editor-clause-holds g c = λ host id held holds.
    let h : IsEditor c.in-Editor.incoming held = subst (λ line. HoldsExchange host id line held) c.in-Editor.is holds in
    editor_same c.in-Editor.incoming c.foresee.new.self held c.foresee.ensures.octets c.foresee.ensures.awaited h

pub returns-in-Editor-clause-foreseen : goal.returns-in-Editor-clause-foreseen
returns-in-Editor-clause-foreseen g c = λ taken host id held holds.
    let h : IsEditor c.in-Editor.incoming held = subst (λ line. HoldsExchange host id line held) c.in-Editor.is holds in
    record {
      kind = h.kind;
      told = subst (λ (o : List ℕ). IsToldOver
          (IsToldAnew g.K.Lookup.shows g.K.Lookup.leaves_one_of g.K.Lookup.keeps_beside g.K.Lookup.is_trusted g.K.Lookup.has_failed g.K.Lookup.is_closed g.K.Preparer.expects)
          (AsksForChange (o ++ c.args.piece.now)) c.args.desk.now c.foresee.new.desk) h.octets_held (c.foresee.ensures.foreseen taken);
    }

pub returns-in-Editor-clause-anew : goal.returns-in-Editor-clause-anew
returns-in-Editor-clause-anew g c = λ taken trusted M shown host id held holds.
    let h : IsEditor c.in-Editor.incoming held = subst (λ line. HoldsExchange host id line held) c.in-Editor.is holds in
    record {
      kind = h.kind;
      told = subst (λ (o : List ℕ). IsToldOver
          (IsToldAnew g.K.Lookup.shows g.K.Lookup.leaves_one_of g.K.Lookup.keeps_beside g.K.Lookup.is_trusted g.K.Lookup.has_failed g.K.Lookup.is_closed g.K.Preparer.expects)
          (AsksAnewForChange M (o ++ c.args.piece.now)) c.args.desk.now c.foresee.new.desk) h.octets_held (c.foresee.ensures.anew taken trusted M shown);
    }
