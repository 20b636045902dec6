-- Sessions one after the other.
use Rattle.std.proofs.Common.{◌≡◌, ℕ, List, [], ◌∷◌, ◌++◌, Bool, true, false, refl, sym, ap, ◌∙◌, subst, append_assoc, append-nil, inl, inr, ◌⊎◌, cond}
use Rattle.std.specs.Prelude.{MatchBool, ◌||◌, if◌then◌else◌}
use Rattle.dict_proto.specs.Replies.{unavailable_octets}
use Rattle.dict_proto.specs.Meaning.{Meaning, meaning, define, matching, show_databases, show_strategies, show_server, show_info, client, status, help, quit, not_recognized, illegal_parameters, not_implemented}
use Rattle.dict_session.specs.Lines.{cut}
use Rattle.dict_session.specs.Answers.{is_quit, may_be_unavailable}
use Rattle.dict_session.specs.Spoken.{Speaks, HasUnavailable, BreaksOff, answers, has_quit, session}

-- lines of which no QUIT was answered, and then more
pub speaks_append : (d : Meaning → List ℕ) (k : Bool) (ls ms : List (List ℕ)) (o p : List ℕ) (ended : Bool) → Speaks d k ls o false → Speaks d k ms p ended → Speaks d k (ls ++ ms) (o ++ p) ended
speaks_append d k [] ms o p ended h g = subst (λ x. Speaks d k ms (x ++ p) ended) (sym h.0) g
speaks_append d k (l ∷ ls) ms o p ended (rest, inl h) g = (rest ++ p, inl (ap (λ x. x ++ p) h.0 ∙ append_assoc (d (meaning l)) rest p, answered (λ m. speaks_append d k ls ms rest p ended m g) (is_quit l) h.1))
  where
    answered : (Speaks d k ls rest false → Speaks d k (ls ++ ms) (rest ++ p) ended) → (q : Bool) → MatchBool q ((rest ≡ []) × (false ≡ true)) (Speaks d k ls rest false)
        → MatchBool q ((rest ++ p ≡ []) × (ended ≡ true)) (Speaks d k (ls ++ ms) (rest ++ p) ended)
    answered next true m = absurd (let e : false ≡ true = m.1 in cc)
    answered next false m = next m
speaks_append d k (l ∷ ls) ms o p ended (rest, inr h) g = (rest ++ p, inr (h.0, ap (λ x. x ++ p) h.1 ∙ append_assoc unavailable_octets rest p, speaks_append d k ls ms rest p ended h.2 g))

-- after a QUIT that was answered no line is
pub speaks_end : (d : Meaning → List ℕ) (k : Bool) (ls ms : List (List ℕ)) (o : List ℕ) → Speaks d k ls o true → Speaks d k (ls ++ ms) o true
speaks_end d k [] ms o h = absurd (let e : true ≡ false = h.1 in cc)
speaks_end d k (l ∷ ls) ms o (rest, inl h) = (rest, inl (h.0, by_quit (λ m. speaks_end d k ls ms rest m) (is_quit l) h.1))
  where
    by_quit : (Speaks d k ls rest true → Speaks d k (ls ++ ms) rest true) → (q : Bool) → MatchBool q ((rest ≡ []) × (true ≡ true)) (Speaks d k ls rest true) → MatchBool q ((rest ≡ []) × (true ≡ true)) (Speaks d k (ls ++ ms) rest true)
    by_quit next true m = m
    by_quit next false m = next m
speaks_end d k (l ∷ ls) ms o (rest, inr h) = (rest, inr (h.0, h.1, speaks_end d k ls ms rest h.2))

-- the answers themselves
pub speaks_answers : (d : Meaning → List ℕ) (k : Bool) (ls : List (List ℕ)) → Speaks d k ls (answers d ls) (has_quit ls)
speaks_answers d k [] = (refl, refl)
speaks_answers d k (l ∷ ls) = by_quit (is_quit l) (speaks_answers d k ls)
  where
    by_quit : (q : Bool) → Speaks d k ls (answers d ls) (has_quit ls) → (rest : List ℕ) ×
        (((d (meaning l) ++ cond q [] (answers d ls) ≡ d (meaning l) ++ rest) × MatchBool q ((rest ≡ []) × ((q || has_quit ls) ≡ true)) (Speaks d k ls rest (q || has_quit ls)))
        ⊎ ((may_be_unavailable k (meaning l) ≡ true) × (d (meaning l) ++ cond q [] (answers d ls) ≡ unavailable_octets ++ rest) × Speaks d k ls rest (q || has_quit ls)))
    by_quit true h = ([], inl (refl, (refl, refl)))
    by_quit false h = (answers d ls, inl (refl, h))

-- what answers lines goes on to answer more
pub speaks_longer : (d : Meaning → List ℕ) (k : Bool) (ls ms : List (List ℕ)) (o : List ℕ) (ended : Bool) → Speaks d k ls o ended → (more : List ℕ) × (later : Bool) × Speaks d k (ls ++ ms) (o ++ more) later
speaks_longer d k ls ms o true h = ([], true, subst (λ x. Speaks d k (ls ++ ms) x true) (sym (append-nil o)) (speaks_end d k ls ms o h))
speaks_longer d k ls ms o false h = (answers d ms, has_quit ms, speaks_append d k ls ms o (answers d ms) (has_quit ms) h (speaks_answers d k ms))

-- one line
pub speaks_one : (d : Meaning → List ℕ) (k : Bool) (l : List ℕ) (q : Bool) → is_quit l ≡ q → Speaks d k (l ∷ []) (d (meaning l)) q
speaks_one d k l true e = ([], inl (sym (append-nil (d (meaning l))), rw e (refl, refl)))
speaks_one d k l false e = ([], inl (sym (append-nil (d (meaning l))), rw e (refl, refl)))

pub may_wider : (j k : Bool) → (j ≡ true → k ≡ true) → (asked : Meaning) → may_be_unavailable j asked ≡ true → may_be_unavailable k asked ≡ true
may_wider j k later (define name word) h = h
may_wider j k later (matching name strategy word) h = h
may_wider j k later show_databases h = later h
may_wider j k later show_strategies h = h
may_wider j k later show_server h = later h
may_wider j k later (show_info name) h = h
may_wider j k later client h = h
may_wider j k later status h = later h
may_wider j k later help h = h
may_wider j k later quit h = h
may_wider j k later not_recognized h = h
may_wider j k later illegal_parameters h = h
may_wider j k later not_implemented h = h

-- a desk that is closed later may have been open
pub speaks_wider : (d : Meaning → List ℕ) (j k : Bool) → (j ≡ true → k ≡ true) → (ls : List (List ℕ)) (o : List ℕ) (ended : Bool) → Speaks d j ls o ended → Speaks d k ls o ended
speaks_wider d j k later [] o ended h = h
speaks_wider d j k later (l ∷ ls) o ended (rest, inl h) = (rest, inl (h.0, by_quit (λ m. speaks_wider d j k later ls rest ended m) (is_quit l) h.1))
  where
    by_quit : (Speaks d j ls rest ended → Speaks d k ls rest ended) → (q : Bool) → MatchBool q ((rest ≡ []) × (ended ≡ true)) (Speaks d j ls rest ended) → MatchBool q ((rest ≡ []) × (ended ≡ true)) (Speaks d k ls rest ended)
    by_quit next true m = m
    by_quit next false m = next m
speaks_wider d j k later (l ∷ ls) o ended (rest, inr h) = (rest, inr (may_wider j k later (meaning l) h.0, h.1, speaks_wider d j k later ls rest ended h.2))

-- ---- what answers lines is the answers, or has the 420 line in it

Spoken : (Meaning → List ℕ) → Bool → List (List ℕ) → List ℕ → Bool → Type 0
Spoken d k ls o ended = ((o ≡ answers d ls) × (ended ≡ has_quit ls)) ⊎ HasUnavailable d k ls o

spoken_behind : (d : Meaning → List ℕ) (k : Bool) (l : List ℕ) (ls : List (List ℕ)) (o rest : List ℕ) (ended quit : Bool) → is_quit l ≡ quit → o ≡ d (meaning l) ++ rest
    → MatchBool quit ((rest ≡ []) × (ended ≡ true)) (Speaks d k ls rest ended) → (Speaks d k ls rest ended → Spoken d k ls rest ended) → Spoken d k (l ∷ ls) o ended
unfolding Spoken
spoken_behind d k l ls o rest ended true q is m cases = inl (
  is ∙ ap (λ r. d (meaning l) ++ r) (m.0 ∙ sym (ap (λ (v : Bool). if v then [] else answers d ls) q)),
  m.1 ∙ sym (ap (λ (v : Bool). v || has_quit ls) q),
)
spoken_behind d k l ls o rest ended false q is m cases = elim (cases m) [
  | inl all ↦ inl (
    is ∙ ap (λ r. d (meaning l) ++ r) (all.0 ∙ sym (ap (λ (v : Bool). if v then [] else answers d ls) q)),
    all.1 ∙ sym (ap (λ (v : Bool). v || has_quit ls) q),
  )
  | inr some ↦ inr (record {
    front = l ∷ some.front;
    line = some.line;
    behind = some.behind;
    rest = some.rest;
    are = ap (λ x. l ∷ x) some.are;
    no_quit = ap (λ (v : Bool). v || has_quit some.front) q ∙ some.no_quit;
    needs = some.needs;
    is = is ∙ (ap (λ r. d (meaning l) ++ r) some.is
        ∙ (sym (append_assoc (d (meaning l)) (answers d some.front) (unavailable_octets ++ some.rest))
        ∙ sym (ap (λ (v : Bool). (d (meaning l) ++ (if v then [] else answers d some.front)) ++ (unavailable_octets ++ some.rest)) q)));
  })
]

spoken : (d : Meaning → List ℕ) (k : Bool) (ls : List (List ℕ)) (o : List ℕ) (ended : Bool) → Speaks d k ls o ended → Spoken d k ls o ended
unfolding Spoken
spoken d k [] o ended speaks = inl speaks
spoken d k (l ∷ ls) o ended (rest, inl said) = spoken_behind d k l ls o rest ended (is_quit l) refl said.0 said.1 (λ behind. spoken d k ls rest ended behind)
spoken d k (l ∷ ls) o ended (rest, inr un) =
    inr (record { front = []; line = l; behind = ls; rest = rest; are = refl; no_quit = refl; needs = un.0; is = un.1 })

pub spoken_or : (d : Meaning → List ℕ) (k : Bool) (ls : List (List ℕ)) (o : List ℕ) (ended : Bool) → Speaks d k ls o ended → ((o ≡ answers d ls) × (ended ≡ has_quit ls)) ⊎ HasUnavailable d k ls o
unfolding Spoken
spoken_or = spoken

pub session_or : (d : Meaning → List ℕ) (k : Bool) (greeting octets o : List ℕ) (ended : Bool) → Speaks d k (cut octets).lines o ended → (greeting ++ o ≡ session d greeting octets) ⊎ HasUnavailable d k (cut octets).lines o
session_or d k greeting octets o ended speaks = elim (spoken_or d k (cut octets).lines o ended speaks) [
  | inl all ↦ inl (ap (λ l. greeting ++ l) all.0)
  | inr some ↦ inr some
]

-- ---- what was broken off

-- lines that go on, and then what was broken off
pub breaks_append : (d : Meaning → List ℕ) (k : Bool) (ls ms : List (List ℕ)) (o p : List ℕ) → Speaks d k ls o false → BreaksOff d k ms p → BreaksOff d k (ls ++ ms) (o ++ p)
breaks_append d k ls ms o p h b = record {
  front = ls ++ b.front;
  line = b.line;
  behind = b.behind;
  said = o ++ b.said;
  part = b.part;
  are = ap (λ l. ls ++ l) b.are ∙ sym (append_assoc ls b.front (b.line ∷ b.behind));
  spoken = speaks_append d k ls b.front o b.said false h b.spoken;
  begins = b.begins;
  behind_told = b.behind_told;
  is = ap (λ l. o ++ l) b.is ∙ sym (append_assoc o b.said b.part);
}

-- no line after it is answered
pub breaks_end : (d : Meaning → List ℕ) (k : Bool) (ls ms : List (List ℕ)) (o : List ℕ) → BreaksOff d k ls o → BreaksOff d k (ls ++ ms) o
breaks_end d k ls ms o b = record {
  front = b.front;
  line = b.line;
  behind = b.behind ++ ms;
  said = b.said;
  part = b.part;
  are = ap (λ l. l ++ ms) b.are ∙ append_assoc b.front (b.line ∷ b.behind) ms;
  spoken = b.spoken;
  begins = b.begins;
  behind_told = b.behind_told;
  is = b.is;
}

pub broken_front : (d : Meaning → List ℕ) (k : Bool) (ls : List (List ℕ)) (o : List ℕ) → BreaksOff d k ls o → (more : List ℕ) × (ended : Bool) × Speaks d k ls (o ++ more) ended
broken_front d k ls o b =
    let one = speaks_longer d k (b.line ∷ []) b.behind (d (meaning b.line)) (is_quit b.line) (speaks_one d k b.line (is_quit b.line) refl) in
    let all = speaks_append d k b.front (b.line ∷ b.behind) b.said (d (meaning b.line) ++ one.0) one.1 b.spoken one.2 in
    let same : b.said ++ (d (meaning b.line) ++ one.0) ≡ o ++ (b.begins.rest ++ one.0) =
    ap (λ l. b.said ++ (l ++ one.0)) b.begins.are ∙ (ap (λ l. b.said ++ l) (append_assoc b.part b.begins.rest one.0)
    ∙ (sym (append_assoc b.said b.part (b.begins.rest ++ one.0)) ∙ ap (λ l. l ++ (b.begins.rest ++ one.0)) (sym b.is))) in
    (b.begins.rest ++ one.0, one.1, subst (λ (l : List (List ℕ)). Speaks d k l (o ++ (b.begins.rest ++ one.0)) one.1) (sym b.are) (subst (λ (x : List ℕ). Speaks d k (b.front ++ b.line ∷ b.behind) x one.1) same all))
