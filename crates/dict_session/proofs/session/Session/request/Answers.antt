use Rattle.std.proofs.Common.{◌≡◌, ◌<◌, ◌-◌, length, sym, subst, arith}
use Rattle.std.proofs.lemmas.List.{length-take-le}
use Rattle.std.specs.Prelude.{MatchBool}
use Rattle.dict_proto.proofs.MeaningLemmas.{meaning-overlong}
use Rattle.dict_session.proofs.session.Session.request.Goals as goal

pub returns-then-self : goal.returns-then-self
returns-then-self c rest h =
    let long : 6144 < length rest = subst (λ b. MatchBool b (6144 < length rest) (c.args.self.now.held.items ≡ rest)) c.if-self.true h.octets in
    sym (meaning-overlong _ (omega (arith, length-take-le (length rest - 1) rest (omega arith))))
