-- What a piece does, by whether its connection is open.
use Rattle.std.proofs.Common.{◌≡◌, ◌++◌, ℕ, List, refl, sym, subst}
use Rattle.std.specs.Prelude.{Bool, Option, Some, None, Result, Ok, Err, IfErr, IfOk, OnErr}
use Rattle.dict_proto.specs.Streams.{Stream}
use Rattle.dict_catalogue.specs.Steps.{Catalogue}
use Rattle.net_hub.specs.Holding.{Holding, left_by}
use Rattle.net_hub.specs.Given.{Gets, GetsThrough, LookNothingUp}
use Rattle.net_hub.specs.Hubs.{HasHolding}
use Rattle.net_hub.specs.Events.{Happening, came, id_of, held_after, Serves, ServesThrough, IsQuiet}
use Rattle.net_hub.specs.declared.hub.Hub.{Hub}
use Rattle.net_hub.specs.declared.incoming.Out.{Out}
use Rattle.net_hub.specs.declared.fault.HubFault.{HubFault}
use Rattle.net_hub.specs.declared.fault.HubFault.TheVariants.{Memory, UnknownConnection}
use Rattle.net_hub.specs.Books.{IsRefusal}
use Rattle.dict_session.specs.Desks.{Condition}

-- what an opening is refused for
pub refusal_of : (test : Result (Unit {0}) HubFault) (result : Result Out HubFault) → ((fault : HubFault) → test ≡ Err fault → result ≡ Err fault) → (test ≡ Ok tt → IfErr result (λ fault. fault ≡ Memory))
    → IfErr result (λ fault. IsRefusal test fault)
refusal_of (Err fault) result tests memory = rw (tests fault refl) refl
refusal_of (Ok tt) result tests memory = memory refl

pub serves_piece : (host : List ℕ) (desk : Condition) (Shows : Catalogue → Type 0) (Before After : List (Option Catalogue) → Type 0) (before : Catalogue)
    (held : Option Holding) (what : Happening) (id : ℕ) (piece : List ℕ) (old new : Stream) (result : Result Out HubFault) → what ≡ came id piece
    → (held ≡ None → result ≡ Err UnknownConnection)
    → ((one : Holding) → held ≡ Some one → IfOk result (λ out. Gets host desk Shows Before After before one.kind (one.octets ++ piece) out old new))
    → IfOk result (λ out. Serves host desk Shows Before After before held what out old new)
serves_piece host desk Shows Before After before None what id piece old new result is unknown known =
    subst (λ r. IfOk r (λ out. Serves host desk Shows Before After before None what out old new)) (sym (unknown refl)) tt
serves_piece host desk Shows Before After before (Some held) what id piece old new result is unknown known =
    subst (λ w. IfOk result (λ out. Serves host desk Shows Before After before (Some held) w out old new)) (sym is) (known held refl)

pub own_piece : (hub : Hub) (held : Option Holding) (what : Happening) (id : ℕ) (piece : List ℕ) (result : Result Out HubFault) → what ≡ came id piece
    → (held ≡ None → result ≡ Err UnknownConnection)
    → ((one : Holding) → held ≡ Some one → IfOk result (λ out. HasHolding hub id (left_by one.kind (one.octets ++ piece) out)))
    → IfOk result (λ out. HasHolding hub (id_of what) (held_after held what out))
own_piece hub None what id piece result is unknown known =
    subst (λ r. IfOk r (λ out. HasHolding hub (id_of what) (held_after None what out))) (sym (unknown refl)) tt
own_piece hub (Some held) what id piece result is unknown known =
    subst (λ w. IfOk result (λ out. HasHolding hub (id_of w) (held_after (Some held) w out))) (sym is) (known held refl)

pub through_piece : (host : List ℕ) (catalogue : Catalogue) (before : Bool) (desk : Condition) (held : Option Holding) (what : Happening) (id : ℕ) (piece : List ℕ) (old new : Stream) (result : Result Out HubFault)
    → what ≡ came id piece → (held ≡ None → result ≡ Err UnknownConnection)
    → ((one : Holding) → held ≡ Some one → IfOk result (λ out. GetsThrough host catalogue before desk one.kind (one.octets ++ piece) out old new))
    → IfOk result (λ out. ServesThrough host catalogue before desk held what out old new)
through_piece host catalogue before desk None what id piece old new result is unknown known =
    subst (λ r. IfOk r (λ out. ServesThrough host catalogue before desk None what out old new)) (sym (unknown refl)) tt
through_piece host catalogue before desk (Some held) what id piece old new result is unknown known =
    subst (λ w. IfOk result (λ out. ServesThrough host catalogue before desk (Some held) w out old new)) (sym is) (known held refl)

-- what holds where the connection isn't open, and where it is and nothing is looked up
pub quiet_piece : {P : Type 0} (catalogue : Catalogue) (held : Option Holding) (what : Happening) (id : ℕ) (piece : List ℕ) (result : Result Out HubFault) → what ≡ came id piece
    → (held ≡ None → result ≡ Err UnknownConnection) → OnErr result P
    → ((one : Holding) → held ≡ Some one → LookNothingUp catalogue one.kind (one.octets ++ piece) → P)
    → IsQuiet catalogue held what → P
quiet_piece {P} catalogue None what id piece result is unknown refused known quiet = subst (λ r. OnErr r P) (unknown refl) refused
quiet_piece catalogue (Some held) what id piece result is unknown refused known quiet = known held refl (subst (λ w. IsQuiet catalogue (Some held) w) is quiet)
