-- One text more that is run.
use Rattle.std.proofs.Common.{◌≡◌, inl, inr, ℕ, zero, suc, ◌+◌, ◌<◌, List, [], ◌∷◌, ◌++◌, length, take, get_or, refl, sym, subst, arith}
use Rattle.std.specs.Prelude.{Result, Ok, Err}
use Rattle.std.specs.Borrow.{Bor}
use Rattle.std.proofs.lemmas.List.{take_more}
use Rattle.sqlite.specs.Batch.{ExecutesAll}
use Rattle.sqlite.specs.Held.{Held}
use Rattle.sqlite.specs.declared.error.Error.{Error}
use Rattle.sqlite_trees.specs.declared.store.Store.{Ghosts}
use Rattle.store_fixtures.specs.Batched.{ExecutedInTurn}

-- each text was run whole, in this order
abbrev pub AllExecuted : {S : Type 0} → Ghosts S → List (Bor (List ℕ)) → Held S → Held S → Type 0
AllExecuted g [] old new = new ≡ old
AllExecuted {S} g (text ∷ texts) old new = (between : Held S) × ExecutesAll g text.now old between (Ok tt) × AllExecuted g texts between new

executed_behind : {S : Type 0} (g : Ghosts S) (front : List (Bor (List ℕ))) (one : Bor (List ℕ)) (old between new : Held S)
    → AllExecuted g front old between → ExecutesAll g one.now between new (Ok tt) → AllExecuted g (front ++ one ∷ []) old new
executed_behind g [] one old between new all last = (new, subst (λ h. ExecutesAll g one.now h new (Ok tt)) all last, refl)
executed_behind g (text ∷ front) one old between new all last = (all.0, all.1, executed_behind g front one all.0 between new all.2 last)

pub executed_one_more : {S : Type 0} (g : Ghosts S) (texts : List (Bor (List ℕ))) (i : ℕ) (other : Bor (List ℕ)) (old between new : Held S) (outcome : Result (Unit {0}) Error) → i < length texts → outcome ≡ Ok tt
    → ExecutesAll g (get_or texts i other).now between new outcome → AllExecuted g (take i texts) old between → AllExecuted g (take (i + 1) texts) old new
executed_one_more g texts i other old between new outcome below is last front =
    subst (λ all. AllExecuted g all old new) (sym (take_more texts i other below))
    (executed_behind g (take i texts) (get_or texts i other) old between new front (subst (λ r. ExecutesAll g (get_or texts i other).now between new r) is last))

pub executed_whole : {S : Type 0} (g : Ghosts S) (texts : List (Bor (List ℕ))) (old new : Held S) → AllExecuted g texts old new → ExecutedInTurn g texts old new (Ok tt)
executed_whole g [] old new all = (refl, all)
executed_whole g (text ∷ texts) old new all = inr (all.0, all.1, executed_whole g texts all.0 new all.2)

-- one of them failed, behind those that were run whole
executed_so_far : {S : Type 0} (g : Ghosts S) (texts : List (Bor (List ℕ))) (i : ℕ) (other : Bor (List ℕ)) (old between new : Held S) (error : Error) → i < length texts → AllExecuted g (take i texts) old between
    → ExecutesAll g (get_or texts i other).now between new (Err error) → ExecutedInTurn g texts old new (Err error)
executed_so_far g [] i other old between new error below front last = absurd (omega (arith, below))
executed_so_far g (text ∷ texts) zero other old between new error below front last = inl (error, refl, subst (λ h. ExecutesAll g text.now h new (Err error)) front last)
executed_so_far g (text ∷ texts) (suc i) other old between new error below front last =
    inr (front.0, front.1, executed_so_far g texts i other front.0 between new error (omega (arith, below)) front.2 last)

pub executed_stopped : {S : Type 0} (g : Ghosts S) (texts : List (Bor (List ℕ))) (i : ℕ) (other : Bor (List ℕ)) (old between new : Held S) (outcome : Result (Unit {0}) Error) (error : Error) → i < length texts
    → AllExecuted g (take i texts) old between → outcome ≡ Err error → ExecutesAll g (get_or texts i other).now between new outcome → ExecutedInTurn g texts old new (Err error)
executed_stopped g texts i other old between new outcome error below front is last =
    executed_so_far g texts i other old between new error below front (subst (λ r. ExecutesAll g (get_or texts i other).now between new r) is last)
