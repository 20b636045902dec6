-- What a stop leaves behind events.
use Rattle.std.proofs.Common.{◌≡◌, ℕ, Bool, true, false, List, [], ◌∷◌, ◌++◌, refl, sym, ap, ◌∙◌, subst, inl, inr}
use Rattle.std.specs.Prelude.{◌⊎◌, Option, Some, None, MatchBool}
use Rattle.dict_proto.specs.Streams.{Stream}
use Rattle.dict_catalogue.specs.Steps.{Catalogue}
use Rattle.dict_desk.specs.Applying.{LeavesNoMore}
use Rattle.dict_session.specs.Desks.{Condition}
use Rattle.http_service.specs.Responding.{RespondsOrFails, Responds}
use Rattle.http_service.specs.Responding.RespondsOrFails.{answered, unchanged, done, unknown}
use Rattle.http_service.specs.Responding.Responds.{ended as responded, failed as unresponded}
use Rattle.http_service.specs.Settling.{Settled, Settles}
use Rattle.http_service.proofs.SettledLemmas.{settled_stays}
use Rattle.net_hub.specs.Durable.{LeavesWhatItShows, StayOpen, OneIsClosed}
use Rattle.net_hub.specs.Given.{Gets}
use Rattle.net_hub.specs.Events.{Happening, opened, came, ended, id_of, Serves}
use Rattle.net_hub.specs.Holding.{Holding}
use Rattle.net_hub.specs.Runs.{State, Standing, Accepted, state_after, Leads}
use Rattle.net_hub.specs.declared.kind.Kind.{Kind}
use Rattle.net_hub.specs.declared.kind.Kind.TheVariants.{Dict, Http}
use Rattle.net_hub.specs.declared.incoming.Out.{Out}
use Rattle.net_hub.specs.declared.incoming.Out.TheVariants.{More, Close}

alone : Catalogue → List (Option Catalogue)
alone M = Some M ∷ []

-- the catalogue that was left alone stays
stays_left : (before after : Catalogue) (l k : List (Option Catalogue)) → l ≡ alone before → before ≡ after → LeavesNoMore (λ ms. ms ≡ l) (λ ms. ms ≡ k) → k ≡ alone after
stays_left before after l k is same leaves = sym (leaves l refl) ∙ (is ∙ ap alone same)

-- a command acted, and left its catalogue alone, or none did
acts_left : (acts : Bool) (before at after : Catalogue) (l k : List (Option Catalogue)) → (acts ≡ false → at ≡ before) → l ≡ alone before → at ≡ after
    → MatchBool acts (alone at ≡ k) (LeavesNoMore (λ ms. ms ≡ l) (λ ms. ms ≡ k)) → k ≡ alone after
acts_left true before at after l k stays is same left = sym left ∙ ap alone same
acts_left false before at after l k stays is same left = stays_left before after l k is (sym (stays refl) ∙ same) left

ends_left : (closed : Bool) (before after : Catalogue) (l k : List (Option Catalogue)) (settled : Settled) (text : List ℕ) → (settled.acts ≡ false → settled.catalogue ≡ before) → closed ≡ false → l ≡ alone before
    → RespondsOrFails closed (λ M. M ≡ after) (λ ms. ms ≡ l) (λ ms. ms ≡ k) before settled text → k ≡ alone after
unfolding alone
ends_left closed before after l k settled text stays still is (answered e shows left) = acts_left settled.acts before settled.catalogue after l k stays is shows left
ends_left closed before after l k settled text stays still is (unchanged e shows left) = stays_left before after l k is shows left
ends_left closed before after l k settled text stays still is (done e shows left) = acts_left settled.acts before settled.catalogue after l k stays is shows left
ends_left closed before after l k settled text stays still is (unknown e shut shows left) = absurd (let never : true ≡ false = sym shut ∙ still in cc)

responds_left : (closed : Bool) (before after : Catalogue) (l k : List (Option Catalogue)) (octets text : List ℕ) → closed ≡ false → l ≡ alone before
    → Responds closed (λ M. M ≡ after) (λ ms. ms ≡ l) (λ ms. ms ≡ k) before (Settles before octets) text → k ≡ alone after
responds_left closed before after l k octets text still is (responded settled settles ends) =
    ends_left closed before after l k settled text (settled_stays before octets settled settles) still is ends
responds_left closed before after l k octets text still is (unresponded e shows left) = stays_left before after l k is shows left

gets_left : (host : List ℕ) (desk : Condition) (before after : Catalogue) (l k : List (Option Catalogue)) (kind : Kind) (octets : List ℕ) (out : Out) (old new : Stream) → desk.closed ≡ false → l ≡ alone before
    → Gets host desk (λ M. M ≡ after) (λ ms. ms ≡ l) (λ ms. ms ≡ k) before kind octets out old new → k ≡ alone after
gets_left host desk before after l k Dict octets out old new still is gets = stays_left before after l k is gets.1.shows gets.1.leaves
gets_left host desk before after l k Http octets More old new still is gets = stays_left before after l k is gets.2.shows gets.2.leaves
gets_left host desk before after l k Http octets Close old new still is gets = responds_left desk.closed before after l k octets gets.answer still is gets.responds

serves_left : (host : List ℕ) (desk : Condition) (before after : Catalogue) (l k : List (Option Catalogue)) (held : Option Holding) (what : Happening) (out : Out) (old new : Stream) → desk.closed ≡ false
    → l ≡ alone before → Serves host desk (λ M. M ≡ after) (λ ms. ms ≡ l) (λ ms. ms ≡ k) before held what out old new → k ≡ alone after
serves_left host desk before after l k held (opened id kind) out old new still is serves = stays_left before after l k is serves.1.shows serves.1.leaves
serves_left host desk before after l k None (came id piece) out old new still is serves = absurd serves
serves_left host desk before after l k (Some held) (came id piece) out old new still is serves = gets_left host desk before after l k held.kind (held.octets ++ piece) out old new still is serves
serves_left host desk before after l k held (ended id) out old new still is serves = stays_left before after l k is serves.stays.shows serves.stays.leaves

-- where events lead: to a standing of which a stop leaves what it shows, or the desk is closed behind one of them
pub left_or_closed : (state end : State) (stands ends : Standing) (events : List Accepted) → Leads state stands events end ends → LeavesWhatItShows stands → LeavesWhatItShows ends ⊎ OneIsClosed events
unfolding alone
left_or_closed state end stands ends [] leads is = inl (subst LeavesWhatItShows (sym leads.1) is)
left_or_closed state end stands ends (one ∷ events) leads is = elim (one.desk.closed) as (λ b. one.desk.closed ≡ b → LeavesWhatItShows ends ⊎ OneIsClosed (one ∷ events)) [
  | true ↦ λ shut. inr (inl shut)
  | false ↦ λ still. (
      let next : LeavesWhatItShows one.after = serves_left state.host one.desk one.before.catalogue one.after.catalogue one.before.leaves one.after.leaves (state.held (id_of one.what)) one.what one.out one.put.old one.put.new
      still (subst LeavesWhatItShows (sym leads.0) is) leads.1.serves in
      elim (left_or_closed (state_after state one.what one.out) end one.after ends events leads.2 next) [
        | inl left ↦ inl left
        | inr later ↦ inr (inr later)
      ])
] refl

-- the desk isn't closed behind any of them
none_is_closed : (events : List Accepted) → StayOpen events → OneIsClosed events → ⊥
none_is_closed [] still shut = shut
none_is_closed (one ∷ events) still (inl shut) = let never : true ≡ false = sym shut ∙ still.0 in cc
none_is_closed (one ∷ events) still (inr later) = none_is_closed events still.1 later

pub left_if_open : (state end : State) (stands ends : Standing) (events : List Accepted) → Leads state stands events end ends → LeavesWhatItShows stands → StayOpen events → LeavesWhatItShows ends
left_if_open state end stands ends events leads is still = elim (left_or_closed state end stands ends events leads is) [
  | inl left ↦ left
  | inr shut ↦ absurd (none_is_closed events still shut)
]
