use Rattle.std.proofs.Common.{◌∙◌, ap, sym, inr}
use Rattle.std.specs.Prelude.{option_map}
use Rattle.std.proofs.lemmas.Result.{err_from_is_err_and}
use Rattle.app_words.specs.Asked.{found_asked, task_shown}
use Rattle.app_words.proofs.WordLineLemmas.{fails_by, found_by}
use Rattle.app_words.proofs.reading.read_by.Goals as goal

pub returns-in_err-matches-clause-err : goal.returns-in_err-matches-clause-err
returns-in_err-matches-clause-err g c =
    let error = err_from_is_err_and c.from_residual.result c.from_residual.ensures.1 in
    rw (error.1, error.2) (fails_by _ _ _ c.requires.0 c.in_err-matches.ensures.kinds)

pub returns-in-Some-clause-ok : goal.returns-in-Some-clause-ok
returns-in-Some-clause-ok g c =
    let found = found_by _ _ _ _ c.requires.0 c.in_ok-matches.ensures.kinds c.in_ok-matches.ensures.ok.2 in
    (found.0, ap found_asked (sym found.1) ∙ (sym c.in_ok-asked.ensures ∙ ap (option_map task_shown) c.in-Some.is))

pub returns-in_ok-error-in-None-clause-err : goal.returns-in_ok-error-in-None-clause-err
returns-in_ok-error-in-None-clause-err g c =
    let found = found_by _ _ _ _ c.requires.0 c.in_ok-matches.ensures.kinds c.in_ok-matches.ensures.ok.2 in
    inr (inr (c.in_ok-error-in-None.ensures.kind, (found.0, ap found_asked (sym found.1) ∙ (sym c.in_ok-asked.ensures ∙ ap (option_map task_shown) c.in-None.is))))
