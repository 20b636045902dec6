use Rattle.std.proofs.Common.{◌≡◌, All, false, List, ℕ, ◌++◌, take}
use Rattle.dict_catalogue.specs.Steps.{Catalogue}
use Rattle.dict_session.specs.Desks.{condition, Stays}
use Rattle.dict_session.specs.Session.{HasUnfinished, IsSameSession, session_host}
use Rattle.dict_session.specs.Through.{LeavesThrough, looks_up}
use Rattle.dict_session.specs.Lines.{cut}
use Rattle.dict_proto.specs.Meaning.{meaning}
use Rattle.dict_session.specs.Answers.{answer_to}
use Rattle.dict_session.specs.declared.step.Course.TheVariants.{More}
use Rattle.dict_session.proofs.session.Session.read.Given as goal

abbrev pub invariant-loop-octet : goal.invariant-loop-octet
invariant-loop-octet g l = record {
  left : g.L.Lookup.is_trusted l.desk → (M : Catalogue) → g.L.Lookup.shows l.fn.desk M → (rest : List ℕ) → HasUnfinished l.fn.self rest
      → LeavesThrough (answer_to M (session_host l.fn.self)) (looks_up M) (g.L.Lookup.is_closed l.fn.desk) (condition g.L.Lookup.has_failed g.L.Lookup.is_closed l.desk) More l.self (g.K.Sink.stream l.fn.sink)
      (g.K.Sink.stream l.sink) (rest ++ take l.octet-index l.piece);
  quiet : g.L.Lookup.is_trusted l.desk → (M : Catalogue) → g.L.Lookup.shows l.fn.desk M → (rest : List ℕ) → HasUnfinished l.fn.self rest
      → All (λ line. looks_up M (meaning line) ≡ false) (cut (rest ++ take l.octet-index l.piece)).lines → l.desk ≡ l.fn.desk;
  desk : Stays g.L.Lookup.shows g.L.Lookup.leaves_one_of g.L.Lookup.keeps_beside g.L.Lookup.is_trusted g.L.Lookup.is_closed l.fn.desk l.desk;
  same : IsSameSession l.fn.self l.self;
}
