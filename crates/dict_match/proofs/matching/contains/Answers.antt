use Rattle.std.proofs.Common.{sym, subst, arith}
use Rattle.std.proofs.lemmas.Bool.{false≢true, leb-true}
use Rattle.dict_match.specs.Matching.{StandsIn}
use Rattle.dict_match.proofs.HitLemmas.{stands_found, stands_fits, stands_nowhere, stands_from}
use Rattle.dict_match.proofs.matching.contains.Goals as goal

pub returns-in_default : goal.returns-in_default
returns-in_default c =
    ((λ h. absurd (false≢true h)), (λ h. absurd (stands_nowhere c.args.query.now c.args.key.now c.requires c.in_default.ensures h)))

pub returns-then-query-rest : goal.returns-then-query-rest
returns-then-query-rest c =
    let found = stands_found c.args.query.now c.split_at.result.1.now c.find.result c.is_some.result c.find.ensures c.is_some.ensures in
    let from = stands_from c.args.query.now c.args.key.now c.in-Some.at c.requires c.in-Some.ensures.0 in (
      (λ h. from.0 (subst (StandsIn c.args.query.now) c.split_at.ensures.back (found.0 h))),
      (λ h. found.1 (subst (StandsIn c.args.query.now) (sym c.split_at.ensures.back) (from.1 h))),
    )

pub returns-else-query-rest : goal.returns-else-query-rest
returns-else-query-rest c =
    let from = stands_from c.args.query.now c.args.key.now c.in-Some.at c.requires c.in-Some.ensures.0 in (
      (λ h. let le = leb-true _ _ h in absurd (omega arith)),
      (λ h.
          let fits = stands_fits c.args.query.now c.split_at.result.1.now (subst (StandsIn c.args.query.now) (sym c.split_at.ensures.back) (from.1 h)) in
          absurd (omega arith)),
    )
