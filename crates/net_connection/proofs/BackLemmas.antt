-- Whether octets are held back.
use Rattle.std.proofs.Common.{◌≡◌, ◌<◌, ◌+◌, ℕ, Bool, true, false, not, List, [], length, refl, sym, ap, ◌∙◌, subst}
use Rattle.dict_desk.specs.declared.fault.Fault.{Fault}
use Rattle.dict_desk.specs.Expected.{Expected}
use Rattle.std.specs.Prelude.{◌&&◌, ◌==◌, ◌-◌, ◌^◌, min, Ok, Result, if◌then◌else◌}
use Rattle.net_hub.specs.Events.{is_of_editor}
use Rattle.net_hub.specs.declared.hub.Hub.{Hub}
use Rattle.net_hub.specs.declared.kind.Kind.{Kind}
use Rattle.net_hub.specs.declared.kind.Kind.TheVariants.{Dict, Http}
use Rattle.net_connection.specs.Foreseen.{AreCommand, AreToldOf, HoldsBackBy, HoldsStill}
use Rattle.net_connection.specs.Handing.{are_told, held_in, is_handed, is_held_back, turns_for, turns_held}
use Rattle.net_connection.specs.Pieces.{behind_piece, next_piece}
use Rattle.net_connection.specs.Stages.{is_open}
use Rattle.net_connection.specs.declared.held.Held.{Held}
use Rattle.net_connection.specs.declared.stage.Stage.{Stage}
use Rattle.net_connection.specs.declared.stage.Stage.TheVariants as stages

and_false : (b : Bool) → b && false ≡ false
and_false true = refl
and_false false = refl

and_true : (b : Bool) → b ≡ b && true
and_true true = refl
and_true false = refl

-- none of no octets
pub none_back : (held : Held) → held_in held ≡ [] → is_held_back held ≡ false
none_back held none = ap (λ (l : List ℕ). is_of_editor held.kind && not (length l == 0)) none ∙ and_false (is_of_editor held.kind)

-- none behind a piece that was handed
pub rest_back : (held : Held) (kind : Kind) (octets : List ℕ) → held.kind ≡ kind → held_in held ≡ behind_piece kind octets → is_held_back held ≡ false
rest_back held Dict octets same rest = ap (λ (k : Kind). is_of_editor k && not (is_handed held)) same
rest_back held Http octets same rest = none_back held rest

-- none of a reader, nor of whoever was read and not held back
pub reader_back : (old new : Held) → is_held_back old ≡ false → is_handed old ≡ false → new.kind ≡ old.kind → is_held_back new ≡ false
reader_back old new isnt some same =
    let reader : is_of_editor old.kind ≡ false = and_true (is_of_editor old.kind) ∙ ap (λ (b : Bool). is_of_editor old.kind && not b) (sym some) ∙ isnt in
    ap (λ (k : Kind). is_of_editor k && not (is_handed new)) same ∙ ap (λ (b : Bool). b && not (is_handed new)) reader

-- an editor's octets are one piece
pub editor_piece : (kind : Kind) (octets : List ℕ) → is_of_editor kind ≡ true → next_piece kind octets ≡ octets
editor_piece Dict octets is = cc
editor_piece Http octets is = refl

pub over_closed : {A : Type 0} (stage : Stage) → stage ≡ stages.Over → is_open stage ≡ true → A
over_closed stage over still = absurd (let never : true ≡ false = sym still ∙ ap is_open over in cc)

pub back_never : {A : Type 0} (back : Bool) → back ≡ false → back ≡ true → A
back_never back isnt is = absurd (let never : true ≡ false = sym is ∙ isnt in cc)

-- octets that are held of an editor, where some were held before, were held back
pub was_back : (old new : Held) → is_handed old ≡ false → new.kind ≡ old.kind → is_held_back new ≡ true → is_held_back old ≡ true
was_back old new some same back = by (is_held_back old) refl
  where
    by : (b : Bool) → is_held_back old ≡ b → is_held_back old ≡ true
    by true e = e
    by false e = back_never _ (reader_back old new e some same) back

-- octets that wait for another connection's command
pub waits_still : {K : Type 0} (foresees : K → Expected → K → Type 0) (prepares : K → Result Bool Fault → K → Type 0) (behind : Bool) (hub : Hub) (desk : K) (id : ℕ) (old new : Held) → behind ≡ true → is_held_back new ≡ true
    → held_in new ≡ held_in old
    → new.is_foreseen ≡ old.is_foreseen → new.turns_left ≡ old.turns_left → new.waited ≡ min (old.waited + 1) (2 ^ 64 - 1) → AreCommand hub id (held_in old)
    → HoldsStill foresees prepares behind old.is_foreseen old.turns_left old.waited hub desk desk id new
waits_still foresees prepares behind hub desk id old new is back held told left counted makes =
    subst (λ (b : Bool). HoldsStill foresees prepares b old.is_foreseen old.turns_left old.waited hub desk desk id new) (sym is) (record {
      by = (refl, subst (λ (l : List ℕ). AreCommand hub id l) (sym held) makes);
      left_over = ap (λ (b : Bool). turns_for (b && new.is_foreseen) new.turns_left) back ∙ ap (λ (b : Bool). turns_for b new.turns_left) told ∙ ap (λ (n : ℕ). turns_for old.is_foreseen n) left;
      counted = counted;
    })

-- the desk prepares what octets make whole, of which it was told before, or just now
pub prepares_on : {K : Type 0} (foresees : K → Expected → K → Type 0) (prepares : K → Result Bool Fault → K → Type 0) (behind : Bool) (hub : Hub) (old told new : K) (id : ℕ) (before between after : Held) → behind ≡ false
    → is_held_back after ≡ true
    → held_in after ≡ held_in between → between.waited ≡ before.waited → (before.is_foreseen ≡ true → (between ≡ before) × (told ≡ old))
    → (before.is_foreseen ≡ false → between.is_foreseen ≡ true → (between.turns_left ≡ 1_000_000) × AreToldOf foresees hub id (held_in between) old told)
    → between.is_foreseen ≡ true → after.is_foreseen ≡ true → after.turns_left < between.turns_left → after.waited ≡ min (between.waited + 1) (2 ^ 64 - 1) → prepares told (Ok true) new
    → HoldsStill foresees prepares behind before.is_foreseen before.turns_left before.waited hub old new id after
prepares_on {K} foresees prepares behind hub old told new id before between after isnt back held same was now foreseen still fewer counted prepared =
    subst (λ (b : Bool). HoldsStill foresees prepares b before.is_foreseen before.turns_left before.waited hub old new id after) (sym isnt) (record {
      by = by before.is_foreseen refl;
      left_over = subst (λ (n : ℕ). n < turns_for before.is_foreseen before.turns_left) (sym last) (left before.is_foreseen refl);
      counted = counted ∙ ap (λ (n : ℕ). min (n + 1) (2 ^ 64 - 1)) same;
    })
  where
    last : turns_for (are_told after) after.turns_left ≡ after.turns_left
    last = ap (λ (b : Bool). turns_for (b && after.is_foreseen) after.turns_left) back ∙ ap (λ (b : Bool). turns_for b after.turns_left) still

    by : (b : Bool) → before.is_foreseen ≡ b → HoldsBackBy foresees prepares false before.is_foreseen hub old new id (held_in after)
    by true is = subst (λ (b : Bool). HoldsBackBy foresees prepares false b hub old new id (held_in after)) (sym is) (subst (λ (k : K). prepares k (Ok true) new) (was is).1 prepared)
    by false is = subst (λ (b : Bool). HoldsBackBy foresees prepares false b hub old new id (held_in after)) (sym is)
        (told, subst (λ (l : List ℕ). AreToldOf foresees hub id l old told) (sym held) (now is foreseen).1, prepared)

    left : (b : Bool) → before.is_foreseen ≡ b → after.turns_left < turns_for before.is_foreseen before.turns_left
    left true is = subst (λ (b : Bool). after.turns_left < turns_for b before.turns_left) (sym is) (subst (λ (h : Held). after.turns_left < h.turns_left) (was is).0 fewer)
    left false is = subst (λ (b : Bool). after.turns_left < turns_for b before.turns_left) (sym is) (subst (λ (n : ℕ). after.turns_left < n) (now is foreseen).0 fewer)

-- the same of what was held before, where some was, and of none
pub still_held : {K : Type 0} (foresees : K → Expected → K → Type 0) (prepares : K → Result Bool Fault → K → Type 0) (behind : Bool) (hub : Hub) (old new : K) (id own : ℕ) (before was after : Held) → was ≡ before → id ≡ own
    → is_held_back was ≡ true
    → HoldsStill foresees prepares behind was.is_foreseen was.turns_left was.waited hub old new id after → HoldsStill foresees prepares behind (are_told before) before.turns_left (turns_held before) hub old new own after
still_held foresees prepares behind hub old new id own before was after same at back holds =
    subst (λ (i : ℕ). HoldsStill foresees prepares behind (are_told before) before.turns_left (turns_held before) hub old new i after) at
    (subst (λ (h : Held). HoldsStill foresees prepares behind (are_told h) h.turns_left (turns_held h) hub old new id after) same
    (subst (λ (b : Bool). HoldsStill foresees prepares behind (b && was.is_foreseen) was.turns_left (if b then was.waited else 0) hub old new id after) (sym back) holds))

pub begins_held : {K : Type 0} (foresees : K → Expected → K → Type 0) (prepares : K → Result Bool Fault → K → Type 0) (behind : Bool) (hub : Hub) (old new : K) (id own : ℕ) (before after : Held) → id ≡ own → is_held_back before ≡ false
    → HoldsStill foresees prepares behind false 0 0 hub old new id after → HoldsStill foresees prepares behind (are_told before) before.turns_left (turns_held before) hub old new own after
begins_held foresees prepares behind hub old new id own before after at none holds =
    subst (λ (i : ℕ). HoldsStill foresees prepares behind (are_told before) before.turns_left (turns_held before) hub old new i after) at
    (subst (λ (b : Bool). HoldsStill foresees prepares behind (b && before.is_foreseen) before.turns_left (if b then before.waited else 0) hub old new id after) (sym none)
    (first holds))
  where
    first : HoldsStill foresees prepares behind false 0 0 hub old new id after → HoldsStill foresees prepares behind false before.turns_left 0 hub old new id after
    first it = record { by = it.by; left_over = it.left_over; counted = it.counted }

-- the same of octets that were just read
pub filled_held : {K : Type 0} (foresees : K → Expected → K → Type 0) (prepares : K → Result Bool Fault → K → Type 0) (behind told : Bool) (left turns : ℕ) (hub : Hub) (old new : K) (id own : ℕ) (after : Held) → told ≡ false → turns
    ≡ 0 → id ≡ own
    → HoldsStill foresees prepares behind told left turns hub old new id after → HoldsStill foresees prepares behind false 0 0 hub old new own after
filled_held foresees prepares behind told left turns hub old new id own after isnt none at holds =
    subst (λ (i : ℕ). HoldsStill foresees prepares behind false 0 0 hub old new i after) at
    (subst (λ (n : ℕ). HoldsStill foresees prepares behind false 0 n hub old new id after) none
    (anew (subst (λ (b : Bool). HoldsStill foresees prepares behind b left turns hub old new id after) isnt holds)))
  where
    anew : HoldsStill foresees prepares behind false left turns hub old new id after → HoldsStill foresees prepares behind false 0 turns hub old new id after
    anew it = record { by = it.by; left_over = it.left_over; counted = it.counted }
