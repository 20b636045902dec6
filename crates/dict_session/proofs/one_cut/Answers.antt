use Rattle.std.proofs.Common.{ap, sym}
use Rattle.dict_session.proofs.LineLemmas.{cut_are, cut_is, cut_append}
use Rattle.dict_session.proofs.one_cut.Goals as goal

pub returns-clause-found : goal.returns-clause-found
returns-clause-found c b = cut_are b

pub returns-clause-only : goal.returns-clause-only
returns-clause-only c b ls rest h = let e = sym (cut_is b ls rest h) in (ap (λ x. x.lines) e, ap (λ x. x.rest) e)

pub returns-clause-pieces : goal.returns-clause-pieces
returns-clause-pieces c front piece = ap (λ x. x.lines) (cut_append front piece)
