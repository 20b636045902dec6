use Rattle.std.proofs.Common.{refl}
use Rattle.std.proofs.lemmas.Bool.{both_ways, false≢true}
use Rattle.dict_match.specs.Words.{words_between_blanks}
use Rattle.dict_match.specs.Matching.{BeginsWithWords}
use Rattle.dict_match.proofs.MatchLemmas.{has_more, has_rest, has_none, has_here}
use Rattle.dict_match.proofs.matching.has_words.Goals as goal

pub loop-rest-preserved : goal.loop-rest-preserved
loop-rest-preserved c =
    let apart : BeginsWithWords (words_between_blanks c.loop-rest.rest.now) (words_between_blanks c.args.query.now) → ⊥ =
    λ begins. both_ways _ c.loop-rest-test.true (c.begins_with_words.ensures.1 begins) in
    let cut = c.in-Some.ensures in (
      (λ h. c.loop-rest.invariant.0 (rw cut (has_more _ _ _ h))),
      (λ h. has_rest c.in-Some.field-0-0.now _ _ (rw cut at apart) (rw cut at (c.loop-rest.invariant.1 h))),
    )

pub returns-in-None : goal.returns-in-None
returns-in-None c =
    let apart : BeginsWithWords (words_between_blanks c.loop-rest.rest.now) (words_between_blanks c.args.query.now) → ⊥ =
    λ begins. both_ways _ c.loop-rest-test.true (c.begins_with_words.ensures.1 begins) in
    let none = c.in-None.ensures in
    ((λ h. absurd (false≢true h)), (λ h. absurd (has_none _ (rw none at apart) (rw none at (c.loop-rest.invariant.1 h)))))

pub returns : goal.returns
returns c = ((λ _. c.loop-rest.invariant.0 (has_here _ _ (c.begins_with_words.ensures.0 c.loop-rest-test.false))), (λ _. refl))
