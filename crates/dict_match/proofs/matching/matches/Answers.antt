use Rattle.std.proofs.Common.{◌≡◌, ◌≢◌, [], length, ap, sym, ◌∙◌}
use Rattle.std.proofs.lemmas.Bool.{eqb-true, eqb-false, not_from_true, false≢true}
use Rattle.std.proofs.lemmas.List.{nil_from_length}
use Rattle.dict_match.proofs.DecideLemmas.{decided_hit}
use Rattle.dict_match.proofs.matching.matches.Goals as goal

pub returns-then-not-is_empty-clause-decided : goal.returns-then-not-is_empty-clause-decided
returns-then-not-is_empty-clause-decided c =
    let some : c.args.query.now ≢ [] = λ none. eqb-false _ 0 (sym c.is_empty.ensures ∙ c.if-not-is_empty.true) (ap length none) in
    decided_hit c.args.strategy c.args.query.now c.args.key.now c.fits.result ((λ h. (some, c.fits.ensures.0 h)), (λ h. c.fits.ensures.1 h.1))

pub returns-else-not-is_empty-clause-decided : goal.returns-else-not-is_empty-clause-decided
returns-else-not-is_empty-clause-decided c =
    let none : length c.args.query.now ≡ 0 = eqb-true _ 0 (sym c.is_empty.ensures ∙ c.if-not-is_empty.false) in
    not_from_true _ c.if-not-is_empty.false ∙ decided_hit c.args.strategy c.args.query.now c.args.key.now _ ((λ h. absurd (false≢true h)), (λ h. absurd (h.0 (nil_from_length c.args.query.now none))))
