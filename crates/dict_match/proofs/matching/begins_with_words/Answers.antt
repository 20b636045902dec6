use Rattle.std.proofs.Common.{◌≡◌, ◌≢◌, ◌∷◌, true, false, sym, ◌∙◌, bytes_eq}
use Rattle.std.proofs.lemmas.Bool.{both_ways, false≢true, not-true, not-false}
use Rattle.std.proofs.lemmas.Slice.Eq.{bytes_eq-Decides}
use Rattle.dict_match.specs.Words.{words_between_blanks}
use Rattle.dict_match.proofs.MatchLemmas.{AgreeSoFar, agree_more, agree_other}
use Rattle.dict_match.proofs.matching.begins_with_words.Goals as goal

pub returns-then-ne : goal.returns-then-ne
returns-then-ne c =
    let differ : bytes_eq c.in-Some-next.found.now c.in-Some.word.now ≡ false = not-true _ (sym c.ne.ensures ∙ c.if-ne.true) in
    let apart : c.in-Some-next.found.now ≢ c.in-Some.word.now = λ e. both_ways _ differ ((bytes_eq-Decides _ _).1 e) in
    let so_far : AgreeSoFar (words_between_blanks c.args.key.now) (words_between_blanks c.args.query.now) (c.in-Some-next.found.now ∷ c.next-in-loop-word.new.self) (c.in-Some.word.now ∷ c.next.new.self) =
    rw c.in-Some-next.ensures.steps at (rw c.in-Some.ensures.steps at c.loop-word.invariant.2) in
    ((λ h. absurd (false≢true h)), (λ h. absurd (agree_other _ _ _ _ _ _ so_far apart h)))

pub loop-word-preserved : goal.loop-word-preserved
loop-word-preserved c =
    let equal : bytes_eq c.in-Some-next.found.now c.in-Some.word.now ≡ true = not-false _ (sym c.ne.ensures ∙ c.if-ne.false) in
    let same : c.in-Some-next.found.now ≡ c.in-Some.word.now = (bytes_eq-Decides _ _).0 equal in
    let so_far : AgreeSoFar (words_between_blanks c.args.key.now) (words_between_blanks c.args.query.now) (c.in-Some-next.found.now ∷ c.next-in-loop-word.new.self) (c.in-Some.word.now ∷ c.next.new.self) =
    rw c.in-Some-next.ensures.steps at (rw c.in-Some.ensures.steps at c.loop-word.invariant.2) in
    (tt, tt, agree_more _ _ _ _ _ (rw same at so_far))
