use Rattle.std.proofs.Common.{◌≡◌, ℕ, List, false, All, ap, [], ◌∷◌, ◌++◌, ◌-◌, length, take, sym, ◌∙◌, subst, eqb-true, eq-eqb, arith}
use Rattle.std.specs.Prelude.{slice_index}
use Rattle.std.proofs.lemmas.List.Elements.{All-head}
use Rattle.dict_session.specs.Session.{session_host}
use Rattle.dict_session.specs.Through.{LeavesThrough, looks_up}
use Rattle.dict_proto.specs.Meaning.{meaning}
use Rattle.dict_session.specs.Answers.{answer_to}
use Rattle.dict_session.specs.Lines.{Cut, HasNoLineEnd, cut}
use Rattle.dict_session.proofs.LineLemmas.{cut_is, ends_at, goes_on}
use Rattle.dict_session.proofs.ThroughLemmas.{through_line, through_held}
use Rattle.dict_session.specs.Desks.{condition}
use Rattle.dict_session.proofs.session.Session.take.Goals as goal
use Rattle.dict_session.proofs.session.Session.take.Goals.{else-octet-eq10-via-then-octet-eq10+else-self, else-octet-eq10-via-else-octet-eq10}

pub returns-then-self-clause-answers : goal.returns-then-self-clause-answers
returns-then-self-clause-answers g c = λ trusted M shown rest h.
    let last : slice_index rest (length rest - 1) ≡ 13 = eqb-true _ _ (sym h.last ∙ c.if-self.true) in
    let answer = answer_to M (session_host c.args.self.now) in
    let before = g.L.Lookup.is_closed c.args.desk.now in
    let desk = condition g.L.Lookup.has_failed g.L.Lookup.is_closed c.end_line.new.desk in
    subst (λ x. LeavesThrough answer (looks_up M) before desk c.end_line.result c.end_line.new.self (g.K.Sink.stream c.args.sink.now) (g.K.Sink.stream c.end_line.new.sink) (rest ++ x ∷ [])) (sym c.if-octet-eq10.true)
    (through_line answer (looks_up M) before desk c.end_line.result c.end_line.new.self (g.K.Sink.stream c.args.sink.now) (g.K.Sink.stream c.end_line.new.sink) (rest ++ 10 ∷ []) (take (length rest - 1) rest)
    (cut_is _ _ _ (ends_at rest h.unfinished last)) (c.end_line.ensures.answers trusted M shown rest h))

pub returns-then-self-clause-quiet : goal.returns-then-self-clause-quiet
returns-then-self-clause-quiet g c = λ trusted M shown rest h all.
    let last : slice_index rest (length rest - 1) ≡ 13 = eqb-true _ _ (sym h.last ∙ c.if-self.true) in
    let P : List ℕ → Type 0 = λ line. looks_up M (meaning line) ≡ false in
    let lines = ap (λ (x : Cut). x.lines) (cut_is _ _ _ (ends_at rest h.unfinished last)) in
    c.end_line.ensures.quiet M shown rest h
    (All-head P (take (length rest - 1) rest) [] (subst (λ (ls : List (List ℕ)). All P ls) lines (subst (λ x. All P (cut (rest ++ x ∷ [])).lines) c.if-octet-eq10.true all)))

pub returns-else-octet-eq10-clause-answers : goal.returns-else-octet-eq10-clause-answers
returns-else-octet-eq10-clause-answers g c = λ trusted M shown rest h.
    let no : HasNoLineEnd (rest ++ c.args.octet ∷ []) = goes_on rest c.args.octet h.unfinished (λ ten last. elim c.else-octet-eq10.branch [
      | else-octet-eq10-via-then-octet-eq10+else-self w ↦ cc (w.if-self.false, h.last, eq-eqb _ _ last)
      | else-octet-eq10-via-else-octet-eq10 w ↦ omega arith
    ]) in
    through_held (answer_to M (session_host c.args.self.now)) (looks_up M) (condition g.L.Lookup.has_failed g.L.Lookup.is_closed c.args.desk.now) c.hold.new.self (g.K.Sink.stream c.args.sink.now) _ no (c.hold.ensures.line rest h no)
