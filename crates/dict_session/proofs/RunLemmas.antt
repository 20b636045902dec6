-- What a run has written, from the greeting on.
use Rattle.std.proofs.Common.{◌≡◌, ℕ, ◌≤◌, List, ◌++◌, length, refl, true, false}
use Rattle.dict_proto.specs.Streams.{Stream, PutsAll}
use Rattle.dict_proto.proofs.PutLemmas.{all_after}
use Rattle.dict_proto.specs.Meaning.{Meaning}
use Rattle.dict_session.specs.Lines.{cut}
use Rattle.dict_session.specs.Desks.{Condition}
use Rattle.dict_session.specs.Ending.{Wrote}
use Rattle.dict_session.specs.Run.{HasAnswered, EndsInPiece, lines_in}
use Rattle.dict_session.specs.declared.step.Course.{Course}
use Rattle.dict_session.specs.declared.step.Course.TheVariants.{More}
use Rattle.dict_session.proofs.SpokenLemmas.{speaks_wider}

module _ (d : Meaning → List ℕ) (f : Condition) (greeting : List ℕ) (a m : Stream) (hello : PutsAll a m greeting) where
  -- the lines so far were answered
  pub answered : (b : Stream) (bs : List ℕ) → Wrote d f More m b (cut bs).lines → HasAnswered d f.closed greeting (record { old = a; new = b }) bs
  answered b bs (o, spoken, h) = (o, spoken, all_after a m b greeting o hello h)

  -- and then a piece ended it
  pub ended_in : (g : Condition) (later : f.closed ≡ true → g.closed ≡ true) (course : Course) (b c : Stream) (bs piece : List ℕ) → length piece ≤ 4096 → Wrote d f More m b (cut bs).lines
      → Wrote d g course b c (lines_in bs piece) → EndsInPiece d g greeting (record { old = a; new = c }) (bs ++ piece) course
  ended_in g later course b c bs piece few (o, spoken, h) wrote =
      (bs, piece, b, refl, few, (o, speaks_wider d f.closed g.closed later (cut bs).lines o false spoken, all_after a m b greeting o hello h), wrote)
