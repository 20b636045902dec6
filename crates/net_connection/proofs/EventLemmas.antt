-- Lists of events, one behind the other.
use Rattle.std.proofs.Common.{◌≡◌, ◌≢◌, ◌==◌, ℕ, List, [], ◌∷◌, ◌++◌, refl, sym, ap, ◌∙◌, subst, append_assoc}
use Rattle.std.proofs.lemmas.Bool.{eq-eqb, ne_eqb}
use Rattle.std.proofs.lemmas.List.Elements.{filter-append}
use Rattle.net_hub.specs.Events.{id_of}
use Rattle.net_hub.specs.Runs.{Accepted, events_of}
use Rattle.net_connection.specs.Events.{ArePut, AreEventsOf}

pub put_joined : (es fs : List Accepted) (o p : List ℕ) → ArePut es o → ArePut fs p → ArePut (es ++ fs) (o ++ p)
put_joined [] fs o p none more = subst (λ (l : List ℕ). ArePut fs (l ++ p)) (sym none) more
put_joined (one ∷ es) fs o p (first, rest, is, are, whole) more =
    (first, rest ++ p, is, put_joined es fs rest p are more, ap (λ (l : List ℕ). l ++ p) whole ∙ append_assoc first rest p)

pub events_joined : (id : ℕ) (es fs : List Accepted) → events_of id (es ++ fs) ≡ events_of id es ++ events_of id fs
events_joined id es fs = filter-append (λ (one : Accepted). id == id_of one.what) es fs

-- a connection's own events are all of them
pub own_all : (id : ℕ) (es : List Accepted) → AreEventsOf id es → events_of id es ≡ es
own_all id [] own = refl
own_all id (one ∷ es) (is, rest) =
    let same = eq-eqb id (id_of one.what) (sym is) in
    rw same (ap (λ (l : List Accepted). one ∷ l) (own_all id es rest))

-- and none of another's
pub own_none : (id other : ℕ) (es : List Accepted) → AreEventsOf id es → id ≢ other → events_of other es ≡ []
own_none id other [] own apart = refl
own_none id other (one ∷ es) (is, rest) apart =
    let differs = ne_eqb other (id_of one.what) (λ same. apart (sym is ∙ sym same)) in
    rw differs (own_none id other es rest apart)
