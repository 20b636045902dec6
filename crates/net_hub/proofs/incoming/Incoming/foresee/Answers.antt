use Rattle.std.proofs.Common.{◌≡◌, ◌∙◌, ◌++◌, ap, subst, arith}
use Rattle.std.specs.Prelude.{take, length}
use Rattle.std.proofs.lemmas.Grind.{common_steps}
use Rattle.std.proofs.lemmas.List.{take_at}
use Rattle.http_service.specs.Foreseeing.{IsToldAnew, IsToldOver, AsksAnewForChange, AsksForChange}
use Rattle.net_hub.proofs.incoming.Incoming.foresee.Goals as goal

pub returns-clause-octets : goal.returns-clause-octets
returns-clause-octets g c =
    let whole : c.extend_from_slice-grown.new.self.items ≡ c.args.self.now.octets.items ++ c.args.piece.now
    = grind (arith, common_steps, c.extend_from_slice-grown.ensures.items, c.is_err.ensures.value, c.if-is_err.false) in
    let count : length c.args.self.now.octets.items ≡ c.len-held.result = omega (arith, c.len-held.ensures, c.args.self.now.octets.ok.0) in
    c.truncate.ensures.items ∙ (ap (λ l. take c.len-held.result l) whole ∙ take_at c.args.self.now.octets.items c.args.piece.now c.len-held.result count)

pub returns-clause-foreseen : goal.returns-clause-foreseen
returns-clause-foreseen g c = λ taken.
    let whole : c.extend_from_slice-grown.new.self.items ≡ c.args.self.now.octets.items ++ c.args.piece.now
    = grind (arith, common_steps, c.extend_from_slice-grown.ensures.items, c.is_err.ensures.value, c.if-is_err.false) in
    subst (λ o. IsToldOver
    (IsToldAnew g.K.Lookup.shows g.K.Lookup.leaves_one_of g.K.Lookup.keeps_beside g.K.Lookup.is_trusted g.K.Lookup.has_failed g.K.Lookup.is_closed g.K.Preparer.expects)
    (AsksForChange o) c.args.desk.now c.foresee-is_foreseen.new.desk) (c.deref.ensures.value ∙ whole) (c.foresee-is_foreseen.ensures.foreseen taken)

pub returns-clause-anew : goal.returns-clause-anew
returns-clause-anew g c = λ taken trusted M shown.
    let whole : c.extend_from_slice-grown.new.self.items ≡ c.args.self.now.octets.items ++ c.args.piece.now
    = grind (arith, common_steps, c.extend_from_slice-grown.ensures.items, c.is_err.ensures.value, c.if-is_err.false) in
    subst (λ o. IsToldOver
    (IsToldAnew g.K.Lookup.shows g.K.Lookup.leaves_one_of g.K.Lookup.keeps_beside g.K.Lookup.is_trusted g.K.Lookup.has_failed g.K.Lookup.is_closed g.K.Preparer.expects)
    (AsksAnewForChange M o) c.args.desk.now c.foresee-is_foreseen.new.desk) (c.deref.ensures.value ∙ whole) (c.foresee-is_foreseen.ensures.anew taken trusted M shown)
