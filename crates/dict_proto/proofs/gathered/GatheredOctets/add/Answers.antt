use Rattle.std.proofs.Common.{◌≡◌, ◌∙◌, ap, false, subst}
use Rattle.std.specs.Prelude.{Result, Ok, Err, OnErr, is_ok}
use Rattle.dict_proto.specs.Streams.{PutsAll}
use Rattle.dict_proto.proofs.GatheringLemmas.{gathers_through}
use Rattle.dict_proto.proofs.gathered.GatheredOctets.add.Goals as goal

at_err : {T E P : Type 0} (r : Result T E) → false ≡ is_ok r → OnErr r P → P
at_err (Ok t) e h = cc
at_err (Err d) e h = h

pub returns : goal.returns
returns g c =
    let kept : c.try_extend_from_slice.new.self.items ≡ c.args.self.now.octets.items = ap (λ v. v.items) (at_err c.try_extend_from_slice.result c.if-is_ok.ensures.value c.try_extend_from_slice.ensures.err) in
    let none : c.try_extend_from_slice-2.new.self.items ≡ c.put.new.self.octets.items = ap (λ v. v.items) (at_err c.try_extend_from_slice-2.result c.if-is_ok-2.ensures.value c.try_extend_from_slice-2.ensures.err) in
    gathers_through c.put-2.result _ _ _ c.args.self.now.octets.items c.try_extend_from_slice-2.new.self.items c.args.octets.now (subst (PutsAll _ _) kept c.in_ok-put.ensures.put) (none ∙ c.in_ok-put.ensures.none_left) c.put-2.ensures.put
