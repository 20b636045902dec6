-- What a stop may leave of commands that were applied one after another.
use Rattle.std.proofs.Common.{◌≡◌, ◌⊎◌, inl, inr, ℕ, zero, suc, ◌+◌, Bool, true, false, List, [], ◌∷◌, length, take, map, refl, sym, ap, subst, ◌∙◌, arith}
use Rattle.std.specs.Prelude.{◌||◌, Some, Contains, MatchBool, Result, Ok, Err, IfOk, IfErr}
use Rattle.std.proofs.lemmas.Bool.{true≢false}
use Rattle.std.proofs.Math.Seq.{take-length}
use Rattle.sqlite.specs.Tree.{Trees}
use Rattle.sqlite.specs.State.{HasCleanDisk}
use Rattle.sqlite.specs.Held.{state}
use Rattle.sqlite_trees.specs.declared.store.Store.{Ghosts}
use Rattle.dict_catalogue.specs.Steps.{Catalogue, CommandRequest, after, acts, step}
use Rattle.dict_catalogue.specs.declared.fault.CommandRefusal.{CommandRefusal}
use Rattle.dict_catalogue.specs.declared.reply.Kept.{Kept}
use Rattle.dict_catalogue.proofs.StepLemmas.{idle_leaves}
use Rattle.dict_desk.specs.AllApplied.{has_acted, LeftAfter, AllAnswered, HaltsAt, reply_shown, replies}
use Rattle.dict_desk.specs.Applying.{LeavesNoMore}
use Rattle.dict_desk.specs.declared.fault.Fault.{Fault}
use Rattle.dict_desk.specs.declared.fault.Fault.TheVariants as fault
use Rattle.dict_desk.specs.declared.keeper.Halted.{Halted}
use Rattle.store_holdings.specs.Holds.{IsLeft}
use Rattle.store_desk.specs.Desk.{DeskState, Shows, LeavesOneOf, StandsFor}
use Rattle.store_holdings.proofs.OneLemmas.{one_left}
use Rattle.store_desk.specs.Promise.{IsLeftAlone, HoldsFront, KeepsAlone, KeepsFront, KeepsAt}

-- commands of which none acts leave the catalogue

first_none : (a b : Bool) → (a || b) ≡ false → a ≡ false
first_none false b e = refl
first_none true b e = absurd (true≢false e)

second_none : (a b : Bool) → (a || b) ≡ false → b ≡ false
second_none false b e = e
second_none true b e = absurd (true≢false e)

none_acted : (M : Catalogue) (requests : List CommandRequest) → has_acted M requests ≡ false → after M requests ≡ M
none_acted M [] e = refl
none_acted M (request ∷ requests) e =
    let idle = first_none (acts M request.id request.command) (has_acted (step M request.id request.command).catalogue requests) e in
    none_acted (step M request.id request.command).catalogue requests (second_none (acts M request.id request.command) (has_acted (step M request.id request.command).catalogue requests) e)
    ∙ idle_leaves M request.id request.command idle

-- lists of one and of two

only : {X : Type 0} (one x : X) → Contains (one ∷ []) x → one ≡ x
only one x (zero, below, is) = is
only one x (suc k, below, is) = absurd (omega arith)

either : {X : Type 0} (one other x : X) → Contains (one ∷ other ∷ []) x → (one ≡ x) ⊎ (other ≡ x)
either one other x (zero, below, is) = inl is
either one other x (suc zero, below, is) = inr is
either one other x (suc (suc k), below, is) = absurd (omega arith)

module _ {S : Type 0} (g : Ghosts S) (old new : DeskState S) (M : Catalogue) (requests : List CommandRequest) (first : LeavesOneOf g old (Some M ∷ [])) where
  left_by : (front : List CommandRequest) (b : Bool) → has_acted M front ≡ b → MatchBool b (Some (after M front) ∷ [] ≡ Some (after M front) ∷ []) (LeavesOneOf g old (Some (after M front) ∷ []))
  left_by front true e = refl
  left_by front false e = subst (λ m. LeavesOneOf g old (Some m ∷ [])) (sym (none_acted M front e)) first

  pub left_after : (front : List CommandRequest) → LeftAfter (LeavesOneOf g old) M front (Some (after M front) ∷ [])
  left_after front = left_by front (has_acted M front) refl

  alone_left : (N : Catalogue) (trees : Trees) → IsLeft N trees → IsLeftAlone N trees
  alone_left N trees left = record { left = left; alone = λ other found. one_left trees other N found left }

  sole_left : (N : Catalogue) → LeavesOneOf g new (Some N ∷ []) → HasCleanDisk (state g new.conn) → (trees : Trees) → (state g new.conn).may_leave trees → IsLeft N trees
  sole_left N left clean trees may = let it = left clean trees may in subst (λ m. StandsFor m trees) (sym (only (Some N) it.0 it.1)) it.2

  two_left : (N P : Catalogue) → LeavesOneOf g new (Some N ∷ Some P ∷ []) → HasCleanDisk (state g new.conn) → (trees : Trees) → (state g new.conn).may_leave trees → IsLeft N trees ⊎ IsLeft P trees
  two_left N P left clean trees may = let it = left clean trees may in
      elim (either (Some N) (Some P) it.0 it.1) as (λ _. IsLeft N trees ⊎ IsLeft P trees) [
        | inl e ↦ inl (subst (λ m. StandsFor m trees) (sym e) it.2)
        | inr e ↦ inr (subst (λ m. StandsFor m trees) (sym e) it.2)
      ]

  so_many : (answered : ℕ) → LeavesOneOf g new (Some (after M (take answered requests)) ∷ []) → HasCleanDisk (state g new.conn) → (trees : Trees) → (state g new.conn).may_leave trees → HoldsFront M requests answered trees
  so_many answered left clean trees may = (answered, omega arith, omega arith, alone_left (after M (take answered requests)) trees (sole_left (after M (take answered requests)) left clean trees may))

  pub halts_keeps : (stand : ℕ) (fault : Fault) → HaltsAt (Shows g new) (LeavesOneOf g old) (LeavesOneOf g new) M requests stand fault → HasCleanDisk (state g new.conn) → (trees : Trees)
      → (state g new.conn).may_leave trees → HoldsFront M requests stand trees
  halts_keeps stand (fault.Refused refusal) h clean trees may = absurd h
  halts_keeps stand fault.Memory h clean trees may = so_many stand (h.left (Some (after M (take stand requests)) ∷ []) (left_after (take stand requests))) clean trees may
  halts_keeps stand fault.Disk h clean trees may =
      elim (two_left (after M (take (stand + 1) requests)) (after M (take stand requests)) (h.left (Some (after M (take stand requests)) ∷ []) (left_after (take stand requests))) clean trees may) as
      (λ _. HoldsFront M requests stand trees) [
        | inl more ↦ (stand + 1, omega arith, omega arith, alone_left (after M (take (stand + 1) requests)) trees more)
        | inr same ↦ (stand, omega arith, omega arith, alone_left (after M (take stand requests)) trees same)
      ]
  halts_keeps stand fault.Closed h clean trees may = so_many stand (h.left (Some (after M (take stand requests)) ∷ []) (left_after (take stand requests))) clean trees may
  halts_keeps stand fault.NotACatalogue h clean trees may = absurd h
  halts_keeps stand fault.Damaged h clean trees may = absurd h
  halts_keeps stand fault.NewerSchema h clean trees may = absurd h

  -- what is kept after so many of them
  so_far : (stand : ℕ) → Shows g new (after M (take stand requests)) → LeavesNoMore (LeftAfter (LeavesOneOf g old) M (take stand requests)) (LeavesOneOf g new) → KeepsAlone g new (after M (take stand requests))
  so_far stand shown left = record { shown = shown; alone = left (Some (after M (take stand requests)) ∷ []) (left_after (take stand requests)) }

  pub halts_at : (stand : ℕ) (fault : Fault) → HaltsAt (Shows g new) (LeavesOneOf g old) (LeavesOneOf g new) M requests stand fault → KeepsAt g new M requests stand fault
  halts_at stand (fault.Refused refusal) h = absurd h
  halts_at stand fault.Memory h = so_far stand h.shown h.left
  halts_at stand fault.Disk h = record { shown = h.shown; left = halts_keeps stand fault.Disk h }
  halts_at stand fault.Closed h = so_far stand h.shown h.left
  halts_at stand fault.NotACatalogue h = absurd h
  halts_at stand fault.Damaged h = absurd h
  halts_at stand fault.NewerSchema h = absurd h

  pub all_alone : (outcomes : List (Result Kept CommandRefusal)) → AllAnswered (Shows g new) (LeavesOneOf g old) (LeavesOneOf g new) M requests outcomes → KeepsAlone g new (after M requests)
  all_alone outcomes h = record { shown = h.shown; alone = h.left (Some (after M requests) ∷ []) (left_after requests) }

  pub all_keeps : (outcomes : List (Result Kept CommandRefusal)) (answered : ℕ) → answered ≡ length requests → AllAnswered (Shows g new) (LeavesOneOf g old) (LeavesOneOf g new) M requests outcomes
      → HasCleanDisk (state g new.conn) → (trees : Trees) → (state g new.conn).may_leave trees → HoldsFront M requests answered trees
  all_keeps outcomes answered is h clean trees may =
      let whole : take answered requests ≡ requests = ap (λ n. take n requests) is ∙ take-length requests in
      so_many answered (subst (λ front. LeavesOneOf g new (Some (after M front) ∷ [])) (sym whole) (all_alone outcomes h).alone) clean trees may

-- the same, of a call
module _ {S T : Type 0} (g : Ghosts S) (old new : DeskState S) (requests : List CommandRequest) (items : T → List (Result Kept CommandRefusal)) (size : T → ℕ) where
  abbrev Answers : Result T Halted → Type 0
  Answers result = HasCleanDisk (state g new.conn) → (M : Catalogue) → Shows g old M → IfOk result (λ value. AllAnswered (Shows g new) (LeavesOneOf g old) (LeavesOneOf g new) M requests (items value))

  pub call_halts : (result : Result T Halted) → (HasCleanDisk (state g new.conn) → (M : Catalogue) → Shows g old M
      → IfErr result (λ halted. HaltsAt (Shows g new) (LeavesOneOf g old) (LeavesOneOf g new) M requests halted.stand halted.fault))
      → IfErr result (λ halted. KeepsFront g old new requests halted.stand)
  call_halts (Ok value) h = tt
  call_halts (Err halted) h = λ M at clean trees may. halts_keeps g old new M requests at.alone halted.stand halted.fault (h clean M at.shown) clean trees may

  pub call_stands : (result : Result T Halted) → (HasCleanDisk (state g new.conn) → (M : Catalogue) → Shows g old M
      → IfErr result (λ halted. HaltsAt (Shows g new) (LeavesOneOf g old) (LeavesOneOf g new) M requests halted.stand halted.fault))
      → IfErr result (λ halted. HasCleanDisk (state g new.conn) → (M : Catalogue) → KeepsAlone g old M → KeepsAt g new M requests halted.stand halted.fault)
  call_stands (Ok value) h = tt
  call_stands (Err halted) h = λ clean M at. halts_at g old new M requests at.alone halted.stand halted.fault (h clean M at.shown)

  pub call_keeps : (result : Result T Halted) → IfOk result (λ value. size value ≡ length requests) → Answers result → IfOk result (λ value. KeepsFront g old new requests (size value))
  call_keeps (Ok value) is h = λ M at clean trees may. all_keeps g old new M requests at.alone (items value) (size value) is (h clean M at.shown) clean trees may
  call_keeps (Err halted) is h = tt

  pub call_tells : (result : Result T Halted) → Answers result → IfOk result (λ value. HasCleanDisk (state g new.conn) → (M : Catalogue) → KeepsAlone g old M → map reply_shown (items value) ≡ replies M requests)
  call_tells (Ok value) h = λ clean M at. (h clean M at.shown).told
  call_tells (Err halted) h = tt

  pub call_goes_on : (result : Result T Halted) → Answers result → IfOk result (λ value. HasCleanDisk (state g new.conn) → (M : Catalogue) → KeepsAlone g old M → KeepsAlone g new (after M requests))
  call_goes_on (Ok value) h = λ clean M at. all_alone g old new M requests at.alone (items value) (h clean M at.shown)
  call_goes_on (Err halted) h = tt

  -- as many as were asked for
  pub counted_meant : {R : Type 0} (asked : List R) (mean : R → CommandRequest) (result : Result T Halted) → requests ≡ map mean asked → length (map mean asked) ≡ length asked
      → IfOk result (λ value. size value ≡ length asked) → IfOk result (λ value. size value ≡ length requests)
  counted_meant asked mean (Ok value) is same h = h ∙ sym same ∙ ap length (sym is)
  counted_meant asked mean (Err halted) is same h = tt
