-- Whether something is looked up for an answer.
use Rattle.std.proofs.Common.{◌≡◌, ℕ, List, Bool, true, false, sym, ◌∙◌}
use Rattle.std.specs.Prelude.{Result, Ok, Err}
use Rattle.dict_proto.specs.Streams.{Stream}
use Rattle.dict_session.specs.Answers.{AnswerNeed}
use Rattle.dict_session.specs.Ending.{PutsAnswer}
use Rattle.dict_session.specs.Through.{LooksWhere}
use Rattle.dict_session.specs.declared.step.LineAnswer.{LineAnswer}
use Rattle.dict_session.specs.declared.step.LineAnswer.TheVariants.{Whole, Unavailable}
use Rattle.dict_session.specs.declared.step.PutFault.{PutFault}
use Rattle.dict_session.specs.declared.step.PutFault.TheVariants.{Sink, Desk}

never : (r : Result LineAnswer PutFault) (a b : Stream) (answer : List ℕ) (need : AnswerNeed) (may : Bool) → PutsAnswer false r a b answer need may → r ≡ Err Desk → ⊥
never (Ok Whole) a b answer need may put is = cc
never (Ok Unavailable) a b answer need may put is = cc
never (Err Sink) a b answer need may put is = cc
never (Err Desk) a b answer need may put is = let failed : false ≡ true = put.0 in cc

-- nothing was, and no desk failed
pub quiet : {S : Type 0} (looks : Bool) (r : Result LineAnswer PutFault) (old new : S) → new ≡ old → (a b : Stream) (answer : List ℕ) (need : AnswerNeed) (may : Bool) → PutsAnswer false r a b answer need may → LooksWhere looks r old new
quiet looks r old new same a b answer need may put = (λ none. same, λ broken. absurd (never r a b answer need may put broken))

-- it may be
pub loud : {S : Type 0} (looks : Bool) (r : Result LineAnswer PutFault) (old new : S) → looks ≡ true → LooksWhere looks r old new
loud looks r old new is = (λ none. absurd (let both : true ≡ false = sym is ∙ none in cc), λ broken. is)
