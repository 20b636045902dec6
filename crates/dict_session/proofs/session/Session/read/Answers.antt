use Rattle.std.proofs.Common.{◌≡◌, All, false, ℕ, ◌<◌, ◌+◌, List, [], ◌∷◌, ◌++◌, length, take, drop, get_or, sym, ap, ◌∙◌, subst, append_assoc, append-nil, arith, refl, take-append-drop}
use Rattle.std.proofs.lemmas.List.{take_more, take_all}
use Rattle.dict_session.specs.Session.{IsSameSession, session_host}
use Rattle.dict_session.specs.Through.{LeavesThrough, looks_up}
use Rattle.dict_proto.specs.Meaning.{meaning}
use Rattle.dict_session.specs.Answers.{answer_to}
use Rattle.dict_session.specs.Lines.{Cut, cut}
use Rattle.dict_session.specs.declared.session.Session.{Session}
use Rattle.dict_session.specs.declared.step.Course.TheVariants.{More}
use Rattle.dict_session.proofs.PartLemmas.{stays_same, stays_after}
use Rattle.dict_session.proofs.ThroughLemmas.{all_behind, all_front, through_more, through_ended, through_held}
use Rattle.dict_session.proofs.LineLemmas.{cut_append}
use Rattle.dict_session.specs.Desks.{condition}
use Rattle.dict_session.proofs.session.Session.read.Goals as goal

-- one more octet of the piece
longer : (rest piece : List ℕ) (i : ℕ) → i < length piece → (rest ++ take i piece) ++ get_or piece i 0 ∷ [] ≡ rest ++ take (i + 1) piece
longer rest piece i lt = append_assoc rest (take i piece) (get_or piece i 0 ∷ []) ∙ ap (λ l. rest ++ l) (sym (take_more piece i 0 lt))

whole_piece : (rest piece : List ℕ) (i : ℕ) → i < length piece → ((rest ++ take i piece) ++ get_or piece i 0 ∷ []) ++ drop (i + 1) piece ≡ rest ++ piece
whole_piece rest piece i lt =
    ap (λ l. l ++ drop (i + 1) piece) (longer rest piece i lt) ∙ (append_assoc rest (take (i + 1) piece) (drop (i + 1) piece) ∙ ap (λ l. rest ++ l) (take-append-drop (i + 1) piece))

same_after : (a b c : Session) → IsSameSession a b → IsSameSession b c → IsSameSession a c
same_after a b c h g = record { host = g.host ∙ h.host; connection = g.connection ∙ h.connection; room = g.room ∙ h.room }

-- what is said of lines that end in more octets is so of those before
front_lines : (P : List ℕ → Type 0) (p q : List ℕ) → All P (cut (p ++ q)).lines → All P (cut p).lines
front_lines P p q all = all_front P (cut p).lines (cut ((cut p).rest ++ q)).lines (subst (λ (x : Cut). All P x.lines) (cut_append p q) all)

behind_lines : (P : List ℕ → Type 0) (p q : List ℕ) → All P (cut (p ++ q)).lines → All P (cut ((cut p).rest ++ q)).lines
behind_lines P p q all = all_behind P (cut p).lines (cut ((cut p).rest ++ q)).lines (subst (λ (x : Cut). All P x.lines) (cut_append p q) all)

pub loop-octet-init : goal.loop-octet-init
loop-octet-init g c = record {
  left = λ trusted M shown rest h.
      subst (LeavesThrough (answer_to M (session_host c.args.self.now)) (looks_up M) (g.L.Lookup.is_closed c.args.desk.now) (condition g.L.Lookup.has_failed g.L.Lookup.is_closed c.args.desk.now) More c.args.self.now
      (g.K.Sink.stream c.args.sink.now) (g.K.Sink.stream c.args.sink.now)) (sym (append-nil rest))
      (through_held (answer_to M (session_host c.args.self.now)) (looks_up M) (condition g.L.Lookup.has_failed g.L.Lookup.is_closed c.args.desk.now) c.args.self.now (g.K.Sink.stream c.args.sink.now) rest h.unfinished h);
  quiet = λ trusted M shown rest h all. refl;
  desk = stays_same g.L.Lookup.shows g.L.Lookup.leaves_one_of g.L.Lookup.keeps_beside g.L.Lookup.is_trusted g.L.Lookup.is_closed c.args.desk.now;
  same = record { host = refl; connection = refl; room = refl };
}

pub loop-octet-preserved : goal.loop-octet-preserved
loop-octet-preserved g c =
    let i = c.loop-octet.octet-index in
    let piece = c.args.piece.now in
    let lt : i < length piece = omega arith in
    let fn_closed = g.L.Lookup.is_closed c.args.desk.now in
    record {
      left = λ trusted M shown rest h.
          (let earlier = c.in-More.ensures.desk.trust trusted in
          let before = c.loop-octet.invariant.left earlier M shown rest h in
          let answer = answer_to M (session_host c.args.self.now) in
          let mid = condition g.L.Lookup.has_failed g.L.Lookup.is_closed c.loop-octet.desk in
          let desk = condition g.L.Lookup.has_failed g.L.Lookup.is_closed c.take.new.desk in
          let one = subst (λ (host : List ℕ). LeavesThrough (answer_to M host) (looks_up M) mid.closed desk More c.take.new.self (g.K.Sink.stream c.loop-octet.sink) (g.K.Sink.stream c.take.new.sink)
          ((cut (rest ++ take i piece)).rest ++ get_or piece i 0 ∷ []))
          c.loop-octet.invariant.same.host (c.in-More.ensures.answers trusted M (c.loop-octet.invariant.desk.shows earlier M shown) (cut (rest ++ take i piece)).rest before.1) in
          subst (LeavesThrough answer (looks_up M) fn_closed desk More c.take.new.self (g.K.Sink.stream c.args.sink.now) (g.K.Sink.stream c.take.new.sink)) (longer rest piece i lt)
          (through_more answer (looks_up M) fn_closed mid desk More c.loop-octet.self c.take.new.self _ (g.K.Sink.stream c.loop-octet.sink) _ (rest ++ take i piece) (get_or piece i 0 ∷ []) before one));
      quiet = λ trusted M shown rest h all.
          (let earlier = c.in-More.ensures.desk.trust trusted in
          let before = c.loop-octet.invariant.left earlier M shown rest h in
          let P : List ℕ → Type 0 = λ line. looks_up M (meaning line) ≡ false in
          let read = subst (λ (l : List ℕ). All P (cut l).lines) (sym (longer rest piece i lt)) all in
          c.in-More.ensures.quiet trusted M (c.loop-octet.invariant.desk.shows earlier M shown) (cut (rest ++ take i piece)).rest before.1 (behind_lines P (rest ++ take i piece) (get_or piece i 0 ∷ []) read)
          ∙ c.loop-octet.invariant.quiet earlier M shown rest h (front_lines P (rest ++ take i piece) (get_or piece i 0 ∷ []) read));
      desk = stays_after g.L.Lookup.shows g.L.Lookup.leaves_one_of g.L.Lookup.keeps_beside g.L.Lookup.is_trusted g.L.Lookup.is_closed _ _ _ c.loop-octet.invariant.desk c.in-More.ensures.desk;
      same = same_after _ _ _ c.loop-octet.invariant.same c.in-More.ensures.same;
    }

pub returns-in_default : goal.returns-in_default
returns-in_default g c =
    let i = c.loop-octet.octet-index in
    let piece = c.args.piece.now in
    let lt : i < length piece = omega arith in
    let fn_closed = g.L.Lookup.is_closed c.args.desk.now in
    record {
      answers = λ trusted M shown rest h.
          (let earlier = c.take.ensures.desk.trust trusted in
          let before = c.loop-octet.invariant.left earlier M shown rest h in
          let read = (rest ++ take i piece) ++ get_or piece i 0 ∷ [] in
          let answer = answer_to M (session_host c.args.self.now) in
          let mid = condition g.L.Lookup.has_failed g.L.Lookup.is_closed c.loop-octet.desk in
          let desk = condition g.L.Lookup.has_failed g.L.Lookup.is_closed c.take.new.desk in
          let one = subst (λ (host : List ℕ). LeavesThrough (answer_to M host) (looks_up M) mid.closed desk c.take.result c.take.new.self (g.K.Sink.stream c.loop-octet.sink) (g.K.Sink.stream c.take.new.sink)
          ((cut (rest ++ take i piece)).rest ++ get_or piece i 0 ∷ []))
          c.loop-octet.invariant.same.host (c.take.ensures.answers trusted M (c.loop-octet.invariant.desk.shows earlier M shown) (cut (rest ++ take i piece)).rest before.1) in
          subst (LeavesThrough answer (looks_up M) fn_closed desk c.take.result c.take.new.self (g.K.Sink.stream c.args.sink.now) (g.K.Sink.stream c.take.new.sink)) (whole_piece rest piece i lt)
          (through_ended answer (looks_up M) fn_closed desk c.take.result c.take.new.self _ _ read (drop (i + 1) piece) c.in_default.not-More
          (through_more answer (looks_up M) fn_closed mid desk c.take.result c.loop-octet.self c.take.new.self _ (g.K.Sink.stream c.loop-octet.sink) _ (rest ++ take i piece) (get_or piece i 0 ∷ []) before one)));
      quiet = λ trusted M shown rest h all.
          (let earlier = c.take.ensures.desk.trust trusted in
          let before = c.loop-octet.invariant.left earlier M shown rest h in
          let P : List ℕ → Type 0 = λ line. looks_up M (meaning line) ≡ false in
          let read = front_lines P ((rest ++ take i piece) ++ get_or piece i 0 ∷ []) (drop (i + 1) piece) (subst (λ (l : List ℕ). All P (cut l).lines) (sym (whole_piece rest piece i lt)) all) in
          c.take.ensures.quiet trusted M (c.loop-octet.invariant.desk.shows earlier M shown) (cut (rest ++ take i piece)).rest before.1 (behind_lines P (rest ++ take i piece) (get_or piece i 0 ∷ []) read)
          ∙ c.loop-octet.invariant.quiet earlier M shown rest h (front_lines P (rest ++ take i piece) (get_or piece i 0 ∷ []) read));
      desk = stays_after g.L.Lookup.shows g.L.Lookup.leaves_one_of g.L.Lookup.keeps_beside g.L.Lookup.is_trusted g.L.Lookup.is_closed _ _ _ c.loop-octet.invariant.desk c.take.ensures.desk;
      same = same_after _ _ _ c.loop-octet.invariant.same c.take.ensures.same;
    }

pub returns-clause-answers : goal.returns-clause-answers
returns-clause-answers g c = λ trusted M shown rest h.
    let piece = c.args.piece.now in
    let whole : rest ++ take c.loop-octet.octet-index piece ≡ rest ++ piece = ap (λ l. rest ++ l) (take_all _ piece (omega arith)) in
    subst (LeavesThrough (answer_to M (session_host c.args.self.now)) (looks_up M) (g.L.Lookup.is_closed c.args.desk.now) (condition g.L.Lookup.has_failed g.L.Lookup.is_closed c.loop-octet.desk) More c.loop-octet.self
    (g.K.Sink.stream c.args.sink.now) (g.K.Sink.stream c.loop-octet.sink)) whole (c.loop-octet.invariant.left trusted M shown rest h)

pub returns-clause-quiet : goal.returns-clause-quiet
returns-clause-quiet g c = λ trusted M shown rest h all.
    let piece = c.args.piece.now in
    let whole : rest ++ take c.loop-octet.octet-index piece ≡ rest ++ piece = ap (λ l. rest ++ l) (take_all _ piece (omega arith)) in
    c.loop-octet.invariant.quiet trusted M shown rest h (subst (λ (l : List ℕ). All (λ line. looks_up M (meaning line) ≡ false) (cut l).lines) (sym whole) all)
