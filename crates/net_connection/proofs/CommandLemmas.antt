-- What is handed to the hub behind another connection's command.
use Rattle.std.proofs.Common.{◌≡◌, ◌∙◌, ℕ, true, List, [], ◌∷◌, sym, ap, subst, inl, inr}
use Rattle.std.specs.Prelude.{Option}
use Rattle.net_hub.specs.Events.{Happening, opened, came, ended, id_of, is_of_editor}
use Rattle.net_hub.specs.Holding.{Holding}
use Rattle.net_hub.specs.Hubs.{HasHolding}
use Rattle.net_hub.specs.Runs.{Accepted}
use Rattle.net_hub.specs.declared.hub.Hub.{Hub}
use Rattle.net_hub.specs.declared.kind.Kind.{Kind}
use Rattle.net_connection.specs.Events.{AreEventsOf}
use Rattle.net_connection.specs.Foreseen.{AreNoCommands, IsNoCommand}
use Rattle.net_connection.specs.Handing.{held_in}
use Rattle.net_connection.specs.Ordering.{IsOnly}
use Rattle.net_connection.specs.Turns.{LeadsByAnswer}
use Rattle.net_connection.specs.declared.connection.Connection.{Connection}
use Rattle.net_connection.proofs.BackLemmas.{editor_piece}

-- one event at most, that makes no command whole
pub only_no_command : (hub : Hub) (what : Happening) (events : List Accepted) → IsNoCommand hub what → IsOnly what events → AreNoCommands hub events
only_no_command hub what [] isnt only = tt
only_no_command hub what (one ∷ []) isnt only = (subst (λ (w : Happening). IsNoCommand hub w) (sym only) isnt, tt)
only_no_command hub what (one ∷ other ∷ events) isnt only = absurd only

-- an editor's octets that make none whole, which were handed
pub answered_no_command : {T : Type 0} (refused : ℕ → Kind → Type 0) (hub : Hub) (a c : Connection T) (events : List Accepted) → is_of_editor a.held.kind ≡ true → IsNoCommand hub (came a.id (held_in a.held))
    → LeadsByAnswer refused (held_in a.held) a c events → AreNoCommands hub events
answered_no_command refused hub a c events editor isnt (inl (one, is, same, rest, led)) =
    let what : came a.id (held_in a.held) ≡ one.what = sym (same ∙ ap (λ (l : List ℕ). came a.id l) (editor_piece a.held.kind (held_in a.held) editor)) in
    subst (λ (l : List Accepted). AreNoCommands hub l) (sym is) (subst (λ (w : Happening). IsNoCommand hub w) what isnt, tt)
answered_no_command refused hub a c events editor isnt (inr (may, only, over)) = only_no_command hub (ended a.id) events tt only

no_command_over : (a b : Hub) (id : ℕ) → ((held : Option Holding) → HasHolding a id held → HasHolding b id held) → (what : Happening) → id_of what ≡ id → IsNoCommand b what → IsNoCommand a what
no_command_over a b id keeps (opened own kind) is isnt = tt
no_command_over a b id keeps (came own octets) is isnt = λ held has. isnt held (subst (λ (i : ℕ). HasHolding b i held) (sym is) (keeps held (subst (λ (i : ℕ). HasHolding a i held) is has)))
no_command_over a b id keeps (ended own) is isnt = tt

-- by a hub that has of the connection all that another has
pub no_commands_over : (a b : Hub) (id : ℕ) → ((held : Option Holding) → HasHolding a id held → HasHolding b id held) → (events : List Accepted) → AreEventsOf id events → AreNoCommands b events → AreNoCommands a events
no_commands_over a b id keeps [] own isnt = tt
no_commands_over a b id keeps (one ∷ events) (is, own) (isnt, rest) = (no_command_over a b id keeps one.what is isnt, no_commands_over a b id keeps events own rest)
