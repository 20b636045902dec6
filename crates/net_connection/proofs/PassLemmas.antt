-- What an event put, told by its sendings, or that it put nothing.
use Rattle.std.proofs.Common.{◌≡◌, ℕ, Bool, true, false, List, [], ◌++◌, refl, sym, ap, ◌∙◌, subst, append-nil, drop, length, All}
use Rattle.std.specs.Prelude.{Option, Some, None}
use Rattle.std.specs.Io.KnownBytes.{Appends, Keeps}
use Rattle.std.proofs.KnownBytes.{Appends-nil, Keeps-refl}
use Rattle.net_connection.proofs.CallLemmas.{makes_none}
use Rattle.std.proofs.lemmas.List.{take-append-drop}
use Rattle.std.proofs.lemmas.List.Elements.{All-nil}
use Rattle.net_outlet.specs.OutletCalls.{Call, MakesCalls}
use Rattle.net_outlet.specs.Outlets.{HasTakenOctets, MakesSendings, is_sending, PassesOctets}

pub taken_as : (a b : Option (List ℕ)) (x : List ℕ) → HasTakenOctets a b x → Appends a b x
taken_as None b x has = tt
taken_as (Some before) b x has = rw (has before refl) refl

pub kept_as : (a b : Option (List ℕ)) → HasTakenOctets a b [] → Keeps a b
kept_as None b has = tt
kept_as (Some before) b has = rw (has before refl) (append-nil before)

-- which sendings were made
pub sendings_of : (a b : Option (List Call)) (few : Bool) → MakesSendings a b → (few ≡ true → b ≡ a) → (within : List Call) × All (λ call. is_sending call ≡ true) within × MakesCalls a b within × (few ≡ true → within ≡ [])
sendings_of None b few has lazy = ([], All-nil (λ call. is_sending call ≡ true), tt, λ is. refl)
sendings_of (Some before) b true has lazy = ([], All-nil (λ call. is_sending call ≡ true), lazy refl ∙ ap Some (sym (append-nil before)), λ is. refl)
sendings_of (Some before) None false has lazy = absurd ((has before refl).0 refl)
sendings_of (Some before) (Some after) false has lazy =
    let made = (has before refl).1 after refl in (
      drop (length before) after,
      made.1,
      ap Some (sym (take-append-drop (length before) after) ∙ ap (λ l. l ++ drop (length before) after) made.0),
      λ is. absurd (let never : false ≡ true = is in cc),
    )

-- nothing was put, and nothing was asked
pub passes_none : {T : Type 0} (taken coming : T → Option (List ℕ)) (made : T → Option (List Call)) (from to : T) (before after : List ℕ) → to ≡ from → after ≡ before → PassesOctets taken coming made from to before after []
passes_none taken coming made from to before after still same = record {
  sent = [];
  takes = subst (λ t. Appends (taken from) (taken t) []) (sym still) (Appends-nil (taken from));
  order = same ∙ sym (append-nil before);
  comes = subst (λ t. Keeps (coming from) (coming t)) (sym still) (Keeps-refl (coming from));
  within = [];
  sendings = All-nil (λ call. is_sending call ≡ true);
  calls = subst (λ t. MakesCalls (made from) (made t) []) (sym still) (makes_none (made from));
  lazy = λ few. (refl, refl);
}
