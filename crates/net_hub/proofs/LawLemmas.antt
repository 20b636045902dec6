-- What events give where nothing fails, and that it is a function of what one connection sees.
use Rattle.std.proofs.Common.{◌≡◌, ◌==◌, ℕ, Bool, true, false, List, [], ◌∷◌, ◌++◌, refl, sym, ap, ◌∙◌, subst, inl, inr}
use Rattle.std.specs.Prelude.{◌⊎◌, Option, Some, None, map, if◌then◌else◌}
use Rattle.std.proofs.KnownBytes.{Appends-nil}
use Rattle.std.proofs.lemmas.Bool.{eqb-true}
use Rattle.dict_proto.specs.Streams.{Stream, HasFailed, PutsAll}
use Rattle.dict_catalogue.specs.Steps.{Catalogue}
use Rattle.dict_proto.specs.Meaning.{Meaning}
use Rattle.http_request.specs.Heads.{Needs}
use Rattle.http_request.specs.declared.kinds.Need.TheVariants.{More as NeedsMore}
use Rattle.http_service.specs.Answers.{unavailable_text}
use Rattle.http_service.specs.Responding.RespondsOrFails.{answered, unchanged, done, unknown}
use Rattle.http_service.specs.Responding.Responds.{ended as responded, failed as unresponded}
use Rattle.http_service.specs.Settling.{Settled, Settles}
use Rattle.dict_session.specs.Lines.{cut}
use Rattle.dict_session.specs.Answers.{answer_to}
use Rattle.dict_session.specs.Spoken.{Speaks, HasUnavailable, answers, has_quit}
use Rattle.net_hub.specs.Asking.{AnswersRequest}
use Rattle.net_hub.specs.Holding.{Holding}
use Rattle.net_hub.specs.Given.{Replies, Gets}
use Rattle.net_hub.specs.Events.{Happening, opened, came, ended, id_of, held_after, Serves}
use Rattle.net_hub.specs.Undisturbed.{Served, greeting, to_editor, IsServedOctets, IsServed, Lacks, IsDisturbed}
use Rattle.net_hub.specs.Runs.{State, Standing, Accepted, EventAt, event_asked, state_after, IsServedEvent, Leads, IsUndisturbed, HasDisturbance, GoWell, events_of, GotSame}
use Rattle.net_hub.specs.declared.kind.Kind.{Kind}
use Rattle.net_hub.specs.declared.kind.Kind.TheVariants.{Dict, Http}
use Rattle.net_hub.specs.declared.incoming.Out.{Out}
use Rattle.net_hub.specs.declared.incoming.Out.TheVariants.{More, Close}
use Rattle.dict_session.specs.Desks.{Condition}

-- what answers lines is the answers, or has the 420 line in it
IsLaw : Type 0
IsLaw = (answer : Meaning → List ℕ) (closed : Bool) (ls : List (List ℕ)) (o : List ℕ) (ended : Bool) → Speaks answer closed ls o ended
    → ((o ≡ answers answer ls) × (ended ≡ has_quit ls)) ⊎ HasUnavailable answer closed ls o

-- an answer as it is, and the octets, are what is served
Gave : List ℕ → Catalogue → Option Holding → Happening → Out → Catalogue → Stream → Stream → Type 0
Gave host before held what out after old new = (octets : List ℕ) × IsServed host before held what (record { out = out; octets = octets; catalogue = after }) × PutsAll old new octets

puts_nothing : (old new : Stream) → new ≡ old → PutsAll old new []
puts_nothing old new same = subst (λ at. PutsAll old at []) (sym same) (record { octets = Appends-nil old.octets; failures = refl })

served_as : (out out' : Out) (octets octets' : List ℕ) (M M' : Catalogue) → out ≡ out' → octets ≡ octets' → M ≡ M'
    → let a : Served = record { out = out; octets = octets; catalogue = M } in let b : Served = record { out = out'; octets = octets'; catalogue = M' } in a ≡ b
served_as out out' octets octets' M M' eo es em =
    ap (λ (x : Out). let s : Served = record { out = x; octets = octets; catalogue = M } in s) eo
    ∙ (ap (λ (x : List ℕ). let s : Served = record { out = out'; octets = x; catalogue = M } in s) es
    ∙ ap (λ (x : Catalogue). let s : Served = record { out = out'; octets = octets'; catalogue = x } in s) em)

-- the lines of a reader
replies_gave : IsLaw → (host : List ℕ) (desk : Condition) (before after : Catalogue) (octets : List ℕ) (out : Out) (old new : Stream) → before ≡ after
    → Replies (answer_to before host) desk (cut octets).lines out old new
    → ((put : List ℕ) × IsServedOctets host before Dict octets (record { out = out; octets = put; catalogue = after }) × PutsAll old new put)
    ⊎ (HasFailed old.failures new.failures ⊎ Lacks host desk before Dict octets out old new)
unfolding IsLaw
replies_gave law host desk before after octets More old new same replies = elim (law (answer_to before host) desk.closed (cut octets).lines replies.0 false replies.1) [
  | inl all ↦ inl (replies.0, served_as _ _ _ _ _ _ (ap (λ (v : Bool). if v then Close else More) all.1) all.0 (sym same), replies.2)
  | inr some ↦ inr (inr (inr (replies.0, some, replies.2)))
]
replies_gave law host desk before after octets Close old new same (inl (put, speaks, puts)) = elim (law (answer_to before host) desk.closed (cut octets).lines put true speaks) [
  | inl all ↦ inl (put, served_as _ _ _ _ _ _ (ap (λ (v : Bool). if v then Close else More) all.1) all.0 (sym same), puts)
  | inr some ↦ inr (inr (inr (put, some, puts)))
]
replies_gave law host desk before after octets Close old new same (inr (inl (put, has_ended, speaks, front))) = inr (inl front.failures)
replies_gave law host desk before after octets Close old new same (inr (inr (failed, broken))) = inr (inr (inl (refl, failed, broken)))

-- an editor's request
answers_gave : (host : List ℕ) (desk : Condition) (before after : Catalogue) (l k : List (Option Catalogue)) (octets : List ℕ) (old new : Stream)
    → AnswersRequest desk.closed (λ M. M ≡ after) (λ ms. ms ≡ l) (λ ms. ms ≡ k) before octets old new
    → ((put : List ℕ) × IsServedOctets host before Http octets (record { out = Close; octets = put; catalogue = after }) × PutsAll old new put)
    ⊎ (HasFailed old.failures new.failures ⊎ Lacks host desk before Http octets Close old new)
answers_gave host desk before after l k octets old new given =
    let unavailable : given.answer ≡ unavailable_text → PutsAll old new given.answer → PutsAll old new unavailable_text = λ e puts. subst (λ (o : List ℕ). PutsAll old new o) e puts in
    elim given.puts [
      | inl puts ↦ elim given.responds [
        | responded settled is (answered text shows leaves) ↦ inl (given.answer, inr (settled, is, served_as _ _ _ _ _ _ refl text (sym shows)), puts)
        | responded settled is (unchanged text shows leaves) ↦ inr (inr (refl, given.whole, unavailable text puts))
        | responded settled is (done text shows leaves) ↦ inr (inr (refl, given.whole, unavailable text puts))
        | responded settled is (unknown text shut shows leaves) ↦ inr (inr (refl, given.whole, unavailable text puts))
        | unresponded text shows leaves ↦ inr (inr (refl, given.whole, unavailable text puts))
      ]
      | inr front ↦ inr (inl front.failures)
    ]

-- octets of a connection of this kind
gets_gave : IsLaw → (host : List ℕ) (desk : Condition) (before after : Catalogue) (l k : List (Option Catalogue)) (kind : Kind) (octets : List ℕ) (out : Out) (old new : Stream)
    → Gets host desk (λ M. M ≡ after) (λ ms. ms ≡ l) (λ ms. ms ≡ k) before kind octets out old new
    → ((put : List ℕ) × IsServedOctets host before kind octets (record { out = out; octets = put; catalogue = after }) × PutsAll old new put)
    ⊎ (HasFailed old.failures new.failures ⊎ Lacks host desk before kind octets out old new)
gets_gave law host desk before after l k Dict octets out old new gets = replies_gave law host desk before after octets out old new gets.1.shows gets.0
gets_gave law host desk before after l k Http octets More old new gets =
    inl ([], inl (gets.0, served_as _ _ _ _ _ _ refl refl (sym gets.2.shows)), puts_nothing old new gets.1)
gets_gave law host desk before after l k Http octets Close old new gets = answers_gave host desk before after l k octets old new gets

serves_gave : IsLaw → (host : List ℕ) (desk : Condition) (before after : Catalogue) (l k : List (Option Catalogue)) (held : Option Holding) (what : Happening) (out : Out) (old new : Stream)
    → Serves host desk (λ M. M ≡ after) (λ ms. ms ≡ l) (λ ms. ms ≡ k) before held what out old new
    → Gave host before held what out after old new ⊎ IsDisturbed host desk before held what out old new
unfolding Gave
serves_gave law host desk before after l k held (opened id Dict) More old new serves =
    inl (greeting host id Dict, served_as _ _ _ _ _ _ refl refl (sym serves.1.shows), serves.0)
serves_gave law host desk before after l k held (opened id Dict) Close old new serves = inr (inl serves.0.failures)
serves_gave law host desk before after l k held (opened id Http) More old new serves =
    inl ([], served_as _ _ _ _ _ _ refl refl (sym serves.1.shows), puts_nothing old new serves.0)
serves_gave law host desk before after l k held (opened id Http) Close old new serves = absurd serves.0
serves_gave law host desk before after l k None (came id piece) out old new serves = absurd serves
serves_gave law host desk before after l k (Some held) (came id piece) out old new serves = gets_gave law host desk before after l k held.kind (held.octets ++ piece) out old new serves
serves_gave law host desk before after l k held (ended id) out old new serves =
    inl ([], served_as _ _ _ _ _ _ serves.no_close refl (sym serves.stays.shows), puts_nothing old new serves.nothing)

pub undisturbed_or : ((answer : Meaning → List ℕ) (closed : Bool) (ls : List (List ℕ)) (o : List ℕ) (ended : Bool) → Speaks answer closed ls o ended
    → ((o ≡ answers answer ls) × (ended ≡ has_quit ls)) ⊎ HasUnavailable answer closed ls o)
    → (state : State) (one : Accepted) → IsServedEvent state one → IsUndisturbed state one ⊎ HasDisturbance state one
unfolding Gave IsLaw
undisturbed_or law state one step = serves_gave law state.host one.desk one.before.catalogue one.after.catalogue one.before.leaves one.after.leaves (state.held (id_of one.what)) one.what one.out one.put.old one.put.new step.serves

-- octets that are served so are served in one way
one_of_octets : ((M : Catalogue) (x : List ℕ) (a b : Settled) → Settles M x a → Settles M x b → a ≡ b) → ((M : Catalogue) (x : List ℕ) (a : Settled) → Needs x NeedsMore → Settles M x a → ⊥)
    → (host : List ℕ) (M : Catalogue) (kind : Kind) (octets : List ℕ) (a b : Served) → IsServedOctets host M kind octets a → IsServedOctets host M kind octets b → a ≡ b
one_of_octets one none host M Dict octets a b x y = x ∙ sym y
one_of_octets one none host M Http octets a b (inl x) (inl y) = x.1 ∙ sym y.1
one_of_octets one none host M Http octets a b (inl x) (inr y) = absurd (none M octets y.0 x.0 y.1)
one_of_octets one none host M Http octets a b (inr x) (inl y) = absurd (none M octets x.0 y.0 x.1)
one_of_octets one none host M Http octets a b (inr x) (inr y) = x.2 ∙ (ap (λ s. to_editor s) (one M octets x.0 y.0 x.1 y.1) ∙ sym y.2)

pub one_of_served : ((M : Catalogue) (x : List ℕ) (a b : Settled) → Settles M x a → Settles M x b → a ≡ b) → ((M : Catalogue) (x : List ℕ) (a : Settled) → Needs x NeedsMore → Settles M x a → ⊥)
    → (host : List ℕ) (M : Catalogue) (held : Option Holding) (what : Happening) (a b : Served) → IsServed host M held what a → IsServed host M held what b → a ≡ b
one_of_served one none host M held (opened id kind) a b x y = x ∙ sym y
one_of_served one none host M None (came id piece) a b x y = absurd x
one_of_served one none host M (Some held) (came id piece) a b x y = one_of_octets one none host M held.kind (held.octets ++ piece) a b x y
one_of_served one none host M held (ended id) a b x y = x ∙ sym y

-- the events of one connection, each undisturbed, from what is held of it to what is held in the end
Alone : List ℕ → Option Holding → List Accepted → Option Holding → Type 0
Alone host held [] end = end ≡ held
Alone host held (one ∷ events) end = ((octets : List ℕ)
    × IsServed host one.before.catalogue held one.what (record { out = one.out; octets = octets; catalogue = one.after.catalogue })
    × PutsAll one.put.old one.put.new octets) × Alone host (held_after held one.what one.out) events end

-- an event of a run, where the others are alone
alone_with : (host : List ℕ) (held : ℕ → Option Holding) (id : ℕ) (one : Accepted) (events : List Accepted) (end : Option Holding) (own : Bool) → (id == id_of one.what) ≡ own
    → (id ≡ id_of one.what → (octets : List ℕ) × IsServed host one.before.catalogue (held (id_of one.what)) one.what (record { out = one.out; octets = octets; catalogue = one.after.catalogue }) × PutsAll one.put.old one.put.new octets)
    → Alone host (if own then held_after (held (id_of one.what)) one.what one.out else held id) events end
    → Alone host (held id) (if own then one ∷ events else events) end
unfolding Alone
alone_with host held id one events end true e gave rest =
    let same = eqb-true id (id_of one.what) e in
    subst (λ (i : ℕ). Alone host (held i) (one ∷ events) end) (sym same) (gave same, rest)
alone_with host held id one events end false e gave rest = rest

alone : (id : ℕ) (a a' : State) (p p' : Standing) (events : List Accepted) → Leads a p events a' p' → GoWell id a events → Alone a.host (a.held id) (events_of id events) (a'.held id)
unfolding Alone
alone id a a' p p' [] leads well = ap (λ s. s.held id) leads.0
alone id a a' p p' (one ∷ events) leads well =
    alone_with a.host a.held id one (events_of id events) (a'.held id) (id == id_of one.what) refl
    (λ same. well.0 (sym same))
    (alone id (state_after a one.what one.out) a' one.after p' events leads.2 well.1)

tail : List EventAt → List EventAt
tail [] = []
tail (x ∷ xs) = xs

head : EventAt → List EventAt → EventAt
head d [] = d
head d (x ∷ xs) = x

-- two connections that see the same
same_alone : ((host : List ℕ) (M : Catalogue) (held : Option Holding) (what : Happening) (a b : Served) → IsServed host M held what a → IsServed host M held what b → a ≡ b)
    → (host : List ℕ) (held end end' : Option Holding) (events others : List Accepted) → Alone host held events end → Alone host held others end'
    → map event_asked events ≡ map event_asked others → GotSame events others × (end ≡ end')
unfolding Alone tail head
same_alone one host held end end' [] [] x y e = (tt, x ∙ sym y)
same_alone one host held end end' [] (other ∷ others) x y e = cc e
same_alone one host held end end' (first ∷ events) [] x y e = cc e
same_alone one host held end end' (first ∷ events) (other ∷ others) x y e =
    let h : event_asked first ≡ event_asked other = ap (λ l. head (event_asked first) l) e in
    let what : first.what ≡ other.what = ap (λ s. s.what) h in
    let before : first.before.catalogue ≡ other.before.catalogue = ap (λ s. s.catalogue) h in
    let b : Served = record { out = other.out; octets = y.0.0; catalogue = other.after.catalogue } in
    let there = subst (λ (w : Happening). IsServed host first.before.catalogue held w b) (sym what) (subst (λ (M : Catalogue). IsServed host M held other.what b) (sym before) y.0.1) in
    let served = one host first.before.catalogue held first.what (record { out = first.out; octets = x.0.0; catalogue = first.after.catalogue }) b x.0.1 there in
    let out : first.out ≡ other.out = ap (λ s. s.out) served in
    let octets : x.0.0 ≡ y.0.0 = ap (λ s. s.octets) served in
    let after : first.after.catalogue ≡ other.after.catalogue = ap (λ s. s.catalogue) served in
    let rest = same_alone one host (held_after held first.what first.out) end end' events others x.1
    (subst (λ (w : Happening). Alone host (held_after held w first.out) others end') (sym what) (subst (λ (o : Out). Alone host (held_after held other.what o) others end') (sym out) y.1))
    (ap tail e) in
    ((out, (x.0.0, x.0.2, subst (λ (o : List ℕ). PutsAll other.put.old other.put.new o) (sym octets) y.0.2), after, rest.0), rest.1)

pub same_in_both : ((host : List ℕ) (M : Catalogue) (held : Option Holding) (what : Happening) (a b : Served) → IsServed host M held what a → IsServed host M held what b → a ≡ b)
    → (id : ℕ) (a b a' b' : State) (p q p' q' : Standing) (events others : List Accepted) → Leads a p events a' p' → Leads b q others b' q'
    → a.host ≡ b.host → a.held id ≡ b.held id → GoWell id a events → GoWell id b others
    → map event_asked (events_of id events) ≡ map event_asked (events_of id others) → GotSame (events_of id events) (events_of id others) × (a'.held id ≡ b'.held id)
same_in_both one id a b a' b' p q p' q' events others leads leads' host held well well' same =
    same_alone one a.host (a.held id) (a'.held id) (b'.held id) (events_of id events) (events_of id others)
    (alone id a a' p p' events leads well)
    (subst (λ (h : List ℕ). Alone h (a.held id) (events_of id others) (b'.held id)) (sym host)
    (subst (λ (o : Option Holding). Alone b.host o (events_of id others) (b'.held id)) (sym held)
    (alone id b b' q q' others leads' well'))) same
