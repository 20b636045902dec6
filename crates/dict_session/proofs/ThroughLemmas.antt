-- What a session writes, by how its desk stood before each line: line after line, and call after call.
use Rattle.std.proofs.Common.{◌≡◌, ℕ, List, [], ◌∷◌, ◌++◌, Bool, true, false, refl, sym, ap, ◌∙◌, subst, append_assoc, append-nil, inl, inr, ◌⊎◌, cond}
use Rattle.std.specs.Prelude.{All, MatchBool, ◌||◌}
use Rattle.std.proofs.lemmas.List.Elements.{All-cons, All-head, All-nil, All-tail}
use Rattle.dict_proto.specs.Streams.{Stream}
use Rattle.dict_proto.proofs.PutLemmas.{puts_none, all_after, front_longer, front_after}
use Rattle.dict_proto.specs.Meaning.{Meaning, meaning}
use Rattle.dict_proto.specs.Replies.{unavailable_octets}
use Rattle.dict_session.specs.Lines.{cut, HasNoLineEnd}
use Rattle.dict_session.specs.Answers.{is_quit, may_be_unavailable}
use Rattle.dict_session.specs.Desks.{Condition}
use Rattle.dict_session.specs.Ending.{Wrote}
use Rattle.dict_session.specs.Session.{HasUnfinished, LeavesSession}
use Rattle.dict_session.specs.Spoken.{Speaks, answers, has_quit}
use Rattle.dict_session.specs.Through.{StandsOn, SpeaksThrough, BreaksThrough, WroteThrough, LeavesThrough, AnswersLine}
use Rattle.dict_session.specs.declared.session.Session.{Session}
use Rattle.dict_session.specs.declared.step.Course.{Course}
use Rattle.dict_session.specs.declared.step.Course.TheVariants.{More, Quit, SinkFailed, DeskFailed}
use Rattle.dict_session.proofs.LineLemmas.{cut_is, cut_append}
use Rattle.dict_session.proofs.SessionLemmas.{kept_ended}
use Rattle.dict_session.proofs.SpokenLemmas.{may_wider, speaks_wider}

-- what is so of the first lines and of those behind them
pub all_front : {X : Type 0} (P : X → Type 0) (xs ys : List X) → All P (xs ++ ys) → All P xs
all_front P [] ys all = All-nil P
all_front P (x ∷ xs) ys all = All-cons P x xs (All-head P x (xs ++ ys) all) (all_front P xs ys (All-tail P x (xs ++ ys) all))

pub all_behind : {X : Type 0} (P : X → Type 0) (xs ys : List X) → All P (xs ++ ys) → All P ys
all_behind P [] ys all = all
all_behind P (x ∷ xs) ys all = all_behind P xs ys (All-tail P x (xs ++ ys) all)

module _ (d : Meaning → List ℕ) (looks : Meaning → Bool) where
  -- a desk that is closed before the lines is closed behind them
  still_closed : (j k : Bool) (ls : List (List ℕ)) (o : List ℕ) (ended : Bool) → SpeaksThrough d looks j k ls o ended → j ≡ true → k ≡ true
  still_closed j k [] o ended h closed = h.2 ∙ closed
  still_closed j k (l ∷ ls) o ended (rest, next, stands, inl h) closed = by_quit (λ m. still_closed next k ls rest ended m (stands.0 closed)) (is_quit l) h.1
    where
      by_quit : (SpeaksThrough d looks next k ls rest ended → k ≡ true) → (q : Bool) → MatchBool q ((rest ≡ []) × (ended ≡ true) × (k ≡ next)) (SpeaksThrough d looks next k ls rest ended) → k ≡ true
      by_quit more true m = m.2 ∙ stands.0 closed
      by_quit more false m = more m
  still_closed j k (l ∷ ls) o ended (rest, next, stands, inr h) closed = still_closed next k ls rest ended h.2 (stands.0 closed)

  -- by how it stands behind the last line
  pub speaks_of : (j k : Bool) (ls : List (List ℕ)) (o : List ℕ) (ended : Bool) → SpeaksThrough d looks j k ls o ended → Speaks d k ls o ended
  speaks_of j k [] o ended h = (h.0, h.1)
  speaks_of j k (l ∷ ls) o ended (rest, next, stands, inl h) = (rest, inl (h.0, by_quit (λ m. speaks_of next k ls rest ended m) (is_quit l) h.1))
    where
      by_quit : (SpeaksThrough d looks next k ls rest ended → Speaks d k ls rest ended) → (q : Bool) → MatchBool q ((rest ≡ []) × (ended ≡ true) × (k ≡ next)) (SpeaksThrough d looks next k ls rest ended)
          → MatchBool q ((rest ≡ []) × (ended ≡ true)) (Speaks d k ls rest ended)
      by_quit more true m = (m.0, m.1)
      by_quit more false m = more m
  speaks_of j k (l ∷ ls) o ended (rest, next, stands, inr h) =
      (rest, inr (may_wider j k (λ closed. still_closed next k ls rest ended h.2 (stands.0 closed)) (meaning l) h.0, h.1, speaks_of next k ls rest ended h.2))

  -- lines of which no QUIT was answered, and then more
  through_append : (j m k : Bool) (ls ms : List (List ℕ)) (o p : List ℕ) (ended : Bool) → SpeaksThrough d looks j m ls o false → SpeaksThrough d looks m k ms p ended → SpeaksThrough d looks j k (ls ++ ms) (o ++ p) ended
  through_append j m k [] ms o p ended h g = subst (λ x. SpeaksThrough d looks j k ms (x ++ p) ended) (sym h.0) (subst (λ b. SpeaksThrough d looks b k ms p ended) h.2 g)
  through_append j m k (l ∷ ls) ms o p ended (rest, next, stands, inl h) g =
      (rest ++ p, next, stands, inl (ap (λ x. x ++ p) h.0 ∙ append_assoc (d (meaning l)) rest p, by_quit (λ it. through_append next m k ls ms rest p ended it g) (is_quit l) h.1))
    where
      by_quit : (SpeaksThrough d looks next m ls rest false → SpeaksThrough d looks next k (ls ++ ms) (rest ++ p) ended) → (q : Bool) → MatchBool q ((rest ≡ []) × (false ≡ true) × (m ≡ next)) (SpeaksThrough d looks next m ls rest false)
          → MatchBool q ((rest ++ p ≡ []) × (ended ≡ true) × (k ≡ next)) (SpeaksThrough d looks next k (ls ++ ms) (rest ++ p) ended)
      by_quit more true it = absurd (let e : false ≡ true = it.1 in cc)
      by_quit more false it = more it
  through_append j m k (l ∷ ls) ms o p ended (rest, next, stands, inr h) g =
      (rest ++ p, next, stands, inr (h.0, ap (λ x. x ++ p) h.1 ∙ append_assoc unavailable_octets rest p, through_append next m k ls ms rest p ended h.2 g))

  -- after a QUIT that was answered no line is
  through_end : (j k : Bool) (ls ms : List (List ℕ)) (o : List ℕ) → SpeaksThrough d looks j k ls o true → SpeaksThrough d looks j k (ls ++ ms) o true
  through_end j k [] ms o h = absurd (let e : true ≡ false = h.1 in cc)
  through_end j k (l ∷ ls) ms o (rest, next, stands, inl h) = (rest, next, stands, inl (h.0, by_quit (λ m. through_end next k ls ms rest m) (is_quit l) h.1))
    where
      by_quit : (SpeaksThrough d looks next k ls rest true → SpeaksThrough d looks next k (ls ++ ms) rest true) → (q : Bool) → MatchBool q ((rest ≡ []) × (true ≡ true) × (k ≡ next)) (SpeaksThrough d looks next k ls rest true)
          → MatchBool q ((rest ≡ []) × (true ≡ true) × (k ≡ next)) (SpeaksThrough d looks next k (ls ++ ms) rest true)
      by_quit more true m = m
      by_quit more false m = more m
  through_end j k (l ∷ ls) ms o (rest, next, stands, inr h) = (rest, next, stands, inr (h.0, h.1, through_end next k ls ms rest h.2))

  stands_same : (looked before : Bool) → StandsOn looked before before
  stands_same looked before = (λ closed. closed, λ none. refl)

  -- the answers themselves, over a desk that stays as it is
  through_answers : (k : Bool) (ls : List (List ℕ)) → SpeaksThrough d looks k k ls (answers d ls) (has_quit ls)
  through_answers k [] = (refl, refl, refl)
  through_answers k (l ∷ ls) = by_quit (is_quit l) (through_answers k ls)
    where
      by_quit : (q : Bool) → SpeaksThrough d looks k k ls (answers d ls) (has_quit ls) → (rest : List ℕ) × (next : Bool) × StandsOn (looks (meaning l)) k next
          × (((d (meaning l) ++ cond q [] (answers d ls) ≡ d (meaning l) ++ rest) × MatchBool q ((rest ≡ []) × ((q || has_quit ls) ≡ true) × (k ≡ next)) (SpeaksThrough d looks next k ls rest (q || has_quit ls)))
          ⊎ ((may_be_unavailable k (meaning l) ≡ true) × (d (meaning l) ++ cond q [] (answers d ls) ≡ unavailable_octets ++ rest) × SpeaksThrough d looks next k ls rest (q || has_quit ls)))
      by_quit true h = ([], k, stands_same (looks (meaning l)) k, inl (refl, (refl, refl, refl)))
      by_quit false h = (answers d ls, k, stands_same (looks (meaning l)) k, inl (refl, h))

  -- what answers lines goes on to answer more
  through_longer : (j k : Bool) (ls ms : List (List ℕ)) (o : List ℕ) (ended : Bool) → SpeaksThrough d looks j k ls o ended → (more : List ℕ) × (later : Bool) × SpeaksThrough d looks j k (ls ++ ms) (o ++ more) later
  through_longer j k ls ms o true h = ([], true, subst (λ x. SpeaksThrough d looks j k (ls ++ ms) x true) (sym (append-nil o)) (through_end j k ls ms o h))
  through_longer j k ls ms o false h = (answers d ms, has_quit ms, through_append j k k ls ms o (answers d ms) (has_quit ms) h (through_answers k ms))

  -- one line
  through_one : (j k : Bool) (l : List ℕ) (q : Bool) → StandsOn (looks (meaning l)) j k → is_quit l ≡ q → SpeaksThrough d looks j k (l ∷ []) (d (meaning l)) q
  through_one j k l true stands e = ([], k, stands, inl (sym (append-nil (d (meaning l))), rw e (refl, refl, refl)))
  through_one j k l false stands e = ([], k, stands, inl (sym (append-nil (d (meaning l))), rw e (refl, refl, refl)))

  through_unavailable : (j k : Bool) (l : List ℕ) → StandsOn (looks (meaning l)) j k → may_be_unavailable j (meaning l) ≡ true → SpeaksThrough d looks j k (l ∷ []) unavailable_octets false
  through_unavailable j k l stands may = ([], k, stands, inr (may, sym (append-nil unavailable_octets), (refl, refl, refl)))

  breaks_append : (j m k : Bool) (ls ms : List (List ℕ)) (o p : List ℕ) → SpeaksThrough d looks j m ls o false → BreaksThrough d looks m k ms p → BreaksThrough d looks j k (ls ++ ms) (o ++ p)
  breaks_append j m k ls ms o p h b = record {
    front = ls ++ b.front;
    line = b.line;
    others = b.others;
    said = o ++ b.said;
    part = b.part;
    at = b.at;
    are = ap (λ l. ls ++ l) b.are ∙ sym (append_assoc ls b.front (b.line ∷ b.others));
    spoken = through_append j m b.at ls b.front o b.said false h b.spoken;
    looked = b.looked;
    stands = b.stands;
    begins = b.begins;
    told = b.told;
    is = ap (λ l. o ++ l) b.is ∙ sym (append_assoc o b.said b.part);
  }

  breaks_end : (j k : Bool) (ls ms : List (List ℕ)) (o : List ℕ) → BreaksThrough d looks j k ls o → BreaksThrough d looks j k (ls ++ ms) o
  breaks_end j k ls ms o b = record {
    front = b.front;
    line = b.line;
    others = b.others ++ ms;
    said = b.said;
    part = b.part;
    at = b.at;
    are = ap (λ l. l ++ ms) b.are ∙ append_assoc b.front (b.line ∷ b.others) ms;
    spoken = b.spoken;
    looked = b.looked;
    stands = b.stands;
    begins = b.begins;
    told = b.told;
    is = b.is;
  }

  -- one line was answered
  wrote_line : (j : Bool) (f : Condition) (course : Course) (s : Session) (a b : Stream) (l : List ℕ) → AnswersLine d looks j f course s a b l → WroteThrough d looks j f course a b (l ∷ [])
  wrote_line j f More s a b l h = elim h.finishes [
    | inl whole ↦ (d (meaning l), through_one j f.closed l false h.stands whole.1, whole.0)
    | inr none ↦ (unavailable_octets, through_unavailable j f.closed l h.stands none.0, none.1)
  ]
  wrote_line j f Quit s a b l h = (d (meaning l), through_one j f.closed l true h.stands h.finishes.1, h.finishes.0)
  wrote_line j f SinkFailed s a b l h = elim h.finishes [
    | inl some ↦ (d (meaning l), is_quit l, through_one j f.closed l (is_quit l) h.stands refl, some)
    | inr none ↦ (unavailable_octets, false, through_unavailable j f.closed l h.stands none.0, none.1)
  ]
  wrote_line j f DeskFailed s a b l h =
      let (failed, (part, begins, told, put)) = h.finishes in (
        failed,
        (
          part,
          record {
            front = [];
            line = l;
            others = [];
            said = [];
            part = part;
            at = j;
            are = refl;
            spoken = (refl, refl, refl);
            looked = h.breaks refl;
            stands = h.stands.0;
            begins = begins;
            told = told;
            is = refl;
          },
          put,
        ),
      )

  pub through_line : (j : Bool) (f : Condition) (course : Course) (s : Session) (a b : Stream) (bs l : List ℕ) → cut bs ≡ record { lines = l ∷ []; rest = [] } → AnswersLine d looks j f course s a b l
      → LeavesThrough d looks j f course s a b bs
  through_line j f course s a b bs l e h = rw e (wrote_line j f course s a b l h, h.keeps)

  -- no line was ended
  pub through_held : (f : Condition) (s : Session) (a : Stream) (bs : List ℕ) → HasNoLineEnd bs → HasUnfinished s bs → LeavesThrough d looks f.closed f More s a a bs
  through_held f s a bs none held =
      let e = cut_is bs [] bs (record { whole = refl; each = tt; unfinished = none }) in
      rw e (([], (refl, refl, refl), puts_none a), held)

  -- lines that go on, and then more
  pub wrote_more : (j : Bool) (f g : Condition) (course : Course) (a b c : Stream) (ls ms : List (List ℕ)) → WroteThrough d looks j f More a b ls → WroteThrough d looks f.closed g course b c ms
      → WroteThrough d looks j g course a c (ls ++ ms)
  wrote_more j f g More a b c ls ms (o, spoken, h) (p, more, k) = (o ++ p, through_append j f.closed g.closed ls ms o p false spoken more, all_after a b c o p h k)
  wrote_more j f g Quit a b c ls ms (o, spoken, h) (p, more, k) = (o ++ p, through_append j f.closed g.closed ls ms o p true spoken more, all_after a b c o p h k)
  wrote_more j f g SinkFailed a b c ls ms (o, spoken, h) (p, ended, more, k) = (o ++ p, ended, through_append j f.closed g.closed ls ms o p ended spoken more, front_after a b c o p h k)
  wrote_more j f g DeskFailed a b c ls ms (o, spoken, h) (failed, (p, breaks, k)) = (failed, (o ++ p, breaks_append j f.closed g.closed ls ms o p spoken breaks, all_after a b c o p h k))

  pub through_more : (j : Bool) (f g : Condition) (course : Course) (s t : Session) (a b c : Stream) (p q : List ℕ) → LeavesThrough d looks j f More s a b p → LeavesThrough d looks f.closed g course t b c ((cut p).rest ++ q)
      → LeavesThrough d looks j g course t a c (p ++ q)
  through_more j f g course s t a b c p q h k = rw (cut_append p q) (wrote_more j f g course a b c (cut p).lines (cut ((cut p).rest ++ q)).lines h.0 k.0, k.1)

  -- after the end nothing is answered
  wrote_ended : (j : Bool) (f : Condition) (course : Course) (a b : Stream) (ls ms : List (List ℕ)) → (course ≡ More → ⊥) → WroteThrough d looks j f course a b ls → WroteThrough d looks j f course a b (ls ++ ms)
  wrote_ended j f More a b ls ms none h = absurd (none refl)
  wrote_ended j f Quit a b ls ms none (o, spoken, h) = (o, through_end j f.closed ls ms o spoken, h)
  wrote_ended j f SinkFailed a b ls ms none (o, ended, spoken, h) =
      let (more, later, longer) = through_longer j f.closed ls ms o ended spoken in
      (o ++ more, later, longer, front_longer a b o more h)
  wrote_ended j f DeskFailed a b ls ms none (failed, (o, breaks, h)) = (failed, (o, breaks_end j f.closed ls ms o breaks, h))

  pub through_ended : (j : Bool) (f : Condition) (course : Course) (s : Session) (a b : Stream) (p q : List ℕ) → (course ≡ More → ⊥) → LeavesThrough d looks j f course s a b p → LeavesThrough d looks j f course s a b (p ++ q)
  through_ended j f course s a b p q none h = rw (cut_append p q) (wrote_ended j f course a b (cut p).lines (cut ((cut p).rest ++ q)).lines none h.0, kept_ended course s _ _ none h.1)

  -- by how the desk stands behind the last line
  wrote_of : (j : Bool) (f : Condition) (course : Course) (a b : Stream) (ls : List (List ℕ)) → WroteThrough d looks j f course a b ls → Wrote d f course a b ls
  wrote_of j f More a b ls (o, spoken, h) = (o, speaks_of j f.closed ls o false spoken, h)
  wrote_of j f Quit a b ls (o, spoken, h) = (o, speaks_of j f.closed ls o true spoken, h)
  wrote_of j f SinkFailed a b ls (o, ended, spoken, h) = (o, ended, speaks_of j f.closed ls o ended spoken, h)
  wrote_of j f DeskFailed a b ls (failed, (o, breaks, h)) = (
    failed,
    (
      o,
      record {
        front = breaks.front;
        line = breaks.line;
        behind = breaks.others;
        said = breaks.said;
        part = breaks.part;
        are = breaks.are;
        spoken = speaks_wider d breaks.at f.closed breaks.stands breaks.front breaks.said false (speaks_of j breaks.at breaks.front breaks.said false breaks.spoken);
        begins = breaks.begins;
        behind_told = breaks.told;
        is = breaks.is;
      },
      h,
    ),
  )

  pub leaves_of : (j : Bool) (f : Condition) (course : Course) (s : Session) (a b : Stream) (bs : List ℕ) → LeavesThrough d looks j f course s a b bs → LeavesSession d f course s a b bs
  leaves_of j f course s a b bs h = (wrote_of j f course a b (cut bs).lines h.0, h.1)
