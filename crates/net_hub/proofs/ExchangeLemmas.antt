-- What a piece gives a reader or an editor.
use Rattle.std.proofs.Common.{◌≡◌, ◌∙◌, ℕ, List, refl, sym, ap, subst, inl, inr}
use Rattle.std.specs.Prelude.{Bool, Option, Result, Ok, Err, IfOk, OnErr}
use Rattle.dict_proto.specs.Streams.{Stream}
use Rattle.dict_proto.specs.Meaning.{Meaning}
use Rattle.dict_catalogue.specs.Steps.{Catalogue}
use Rattle.dict_session.specs.Ending.{Wrote, step_at}
use Rattle.dict_session.specs.declared.step.Course.{Course}
use Rattle.dict_session.specs.declared.step.Course.TheVariants as courses
use Rattle.dict_session.specs.declared.step.Step.TheVariants as steps
use Rattle.net_hub.specs.Asking.{Awaits, AnswersRequest, PutsUnavailable, IsAwaitedIn}
use Rattle.net_hub.specs.Holding.{Holding, left_by, unanswered}
use Rattle.net_hub.specs.Lines.{HoldsExchange, IsEditor, HoldsIfOpen}
use Rattle.net_hub.specs.declared.incoming.Incoming.{Incoming}
use Rattle.net_hub.specs.declared.exchange.Exchange.TheVariants.{Editor}
use Rattle.net_hub.specs.Given.{Replies, RepliesThrough, CatalogueStays, Gets, GetsThrough}
use Rattle.net_hub.specs.declared.kind.Kind.{Kind}
use Rattle.net_hub.specs.declared.kind.Kind.TheVariants.{Http}
use Rattle.net_hub.specs.declared.fault.HubFault.{HubFault}
use Rattle.net_hub.specs.declared.incoming.Out.{Out}
use Rattle.net_hub.specs.declared.incoming.Out.TheVariants.{More, Close}
use Rattle.dict_session.specs.Desks.{Condition}
use Rattle.dict_session.specs.Through.{WroteThrough}

-- what a session wrote are replies, and it goes on where the connection stays open
pub replies_from : (answer : Meaning → List ℕ) (desk : Condition) (lines : List (List ℕ)) (old new : Stream) (course : Course) (out : Out)
    → (out ≡ More → step_at course ≡ steps.More) → (step_at course ≡ steps.More → out ≡ More)
    → Wrote answer desk course old new lines → Replies answer desk lines out old new
replies_from answer desk lines old new courses.More More goes stays wrote = wrote
replies_from answer desk lines old new courses.More Close goes stays wrote = cc (stays refl)
replies_from answer desk lines old new courses.Quit More goes stays wrote = cc (goes refl)
replies_from answer desk lines old new courses.Quit Close goes stays wrote = inl wrote
replies_from answer desk lines old new courses.SinkFailed More goes stays wrote = cc (goes refl)
replies_from answer desk lines old new courses.SinkFailed Close goes stays wrote = inr (inl wrote)
replies_from answer desk lines old new courses.DeskFailed More goes stays wrote = cc (goes refl)
replies_from answer desk lines old new courses.DeskFailed Close goes stays wrote = inr (inr wrote)

-- the same by how the desk stood before each line
pub replies_through_from : (answer : Meaning → List ℕ) (looks : Meaning → Bool) (before : Bool) (desk : Condition) (lines : List (List ℕ)) (old new : Stream) (course : Course) (out : Out)
    → (out ≡ More → step_at course ≡ steps.More) → (step_at course ≡ steps.More → out ≡ More)
    → WroteThrough answer looks before desk course old new lines → RepliesThrough answer looks before desk lines out old new
replies_through_from answer looks before desk lines old new courses.More More goes stays wrote = wrote
replies_through_from answer looks before desk lines old new courses.More Close goes stays wrote = cc (stays refl)
replies_through_from answer looks before desk lines old new courses.Quit More goes stays wrote = cc (goes refl)
replies_through_from answer looks before desk lines old new courses.Quit Close goes stays wrote = inl wrote
replies_through_from answer looks before desk lines old new courses.SinkFailed More goes stays wrote = cc (goes refl)
replies_through_from answer looks before desk lines old new courses.SinkFailed Close goes stays wrote = inr (inl wrote)
replies_through_from answer looks before desk lines old new courses.DeskFailed More goes stays wrote = cc (goes refl)
replies_through_from answer looks before desk lines old new courses.DeskFailed Close goes stays wrote = inr (inr wrote)

-- the same of an editor's piece
pub through_editor : (host : List ℕ) (catalogue : Catalogue) (before : Bool) (desk : Condition) (kind : Kind) (octets : List ℕ) (old new : Stream) (result : Result Out HubFault)
    → kind ≡ Http → (result ≡ Ok Close → PutsUnavailable before catalogue octets old new) → IfOk result (λ out. GetsThrough host catalogue before desk kind octets out old new)
through_editor host catalogue before desk kind octets old new (Ok More) is shut = subst (λ one. GetsThrough host catalogue before desk one octets More old new) (sym is) tt
through_editor host catalogue before desk kind octets old new (Ok Close) is shut = subst (λ one. GetsThrough host catalogue before desk one octets Close old new) (sym is) (shut refl)
through_editor host catalogue before desk kind octets old new (Err fault) is shut = tt

-- an editor's piece is awaited further, or answered
pub asks_from : (host : List ℕ) (desk : Condition) (Shows : Catalogue → Type 0) (Before After : List (Option Catalogue) → Type 0) (before : Catalogue)
    (kind : Kind) (octets held : List ℕ) (old new : Stream) (result : Result Out HubFault)
    → kind ≡ Http
    → (result ≡ Ok More → Awaits octets held old new)
    → (result ≡ Ok More → CatalogueStays Shows Before After before)
    → (result ≡ Ok Close → AnswersRequest desk.closed Shows Before After before octets old new)
    → IfOk result (λ out. Gets host desk Shows Before After before kind octets out old new)
asks_from host desk Shows Before After before kind octets held old new (Ok More) is awaits stays answers =
    subst (λ one. Gets host desk Shows Before After before one octets More old new) (sym is) ((awaits refl).more, (awaits refl).nothing, stays refl)
asks_from host desk Shows Before After before kind octets held old new (Ok Close) is awaits stays answers =
    subst (λ one. Gets host desk Shows Before After before one octets Close old new) (sym is) (answers refl)
asks_from host desk Shows Before After before kind octets held old new (Err fault) is awaits stays answers = tt

-- what is left of an editor's request that is awaited further
pub left_from : (host : List ℕ) (id : ℕ) (kind : Kind) (octets : List ℕ) (new : Incoming) (result : Result Out HubFault) → kind ≡ Http → (result ≡ Ok More → new.octets.items ≡ octets)
    → IsAwaitedIn new.octets.items new.awaited → IfOk result (λ out. HoldsIfOpen host id (Editor new) (left_by kind octets out))
left_from host id kind octets new (Ok More) is held awaited = record { kind = is; octets_held = held refl ∙ sym (ap (λ (k : Kind). unanswered k octets) is); awaited = awaited }
left_from host id kind octets new (Ok Close) is held awaited = tt
left_from host id kind octets new (Err fault) is held awaited = tt

-- a piece that was refused
pub held_from : (old new : Incoming) (result : Result Out HubFault) → OnErr result (new.octets.items ≡ old.octets.items) → (IsAwaitedIn old.octets.items old.awaited → IsAwaitedIn new.octets.items new.awaited)
    → OnErr result ((host : List ℕ) (id : ℕ) (held : Holding) → HoldsExchange host id (Editor old) held → HoldsExchange host id (Editor new) held)
held_from old new (Ok out) same awaited = tt
held_from old new (Err fault) same awaited = λ host id held h. record { kind = h.kind; octets_held = same ∙ h.octets_held; awaited = awaited h.awaited }

-- an editor's connection of which the same is held
pub editor_same : (old new : Incoming) (held : Holding) → new.octets.items ≡ old.octets.items → new.awaited ≡ old.awaited → IsEditor old held → IsEditor new held
editor_same old new held same awaited h = record {
  kind = h.kind;
  octets_held = same ∙ h.octets_held;
  awaited = subst (λ (o : List ℕ). IsAwaitedIn o new.awaited) (sym same) (subst (λ (n : ℕ). IsAwaitedIn old.octets.items n) (sym awaited) h.awaited);
}
