-- What is told after a statement and its commit.
use Rattle.std.proofs.Common.{◌≡◌, ℕ, false, Ok, Err, Result, IsTrue, OnOk, List, sym, subst}
use Rattle.sqlite.specs.Effect.{Database}
use Rattle.sqlite.specs.Table.{Table}
use Rattle.sqlite.specs.State.{State, Shows}
use Rattle.store_tables.specs.Creates.{IsMade}
use Rattle.store_tables.specs.Effects.{HasApartRowids, rows_of}
use Rattle.store_tables.proofs.Callers.{apart_none}

pub apart_made : (table : Table) (old new : Database) → IsMade table old new → HasApartRowids (rows_of table.name new)
apart_made table old new made = subst HasApartRowids (sym made.empty) apart_none

pub after_commit : {X E : Type 0} (name : List ℕ) (result : Result X E) (old new : State) → OnOk result (IsTrue old.in_transaction × Shows old new old.now old.now false) → HasApartRowids (rows_of name old.now)
    → OnOk result (HasApartRowids (rows_of name new.now))
after_commit name (Err e) old new h apart = tt
after_commit name (Ok x) old new h apart = subst (λ (d : Database). HasApartRowids (rows_of name d)) (sym h.1.now_is) apart

-- What is told of a call that gave a value.
pub at_ok : {X E : Type 0} (result : Result X E) (P : Type 0) (x : X) → result ≡ Ok x → OnOk result P → P
at_ok {X} {E} result P x same h = subst (λ (r : Result X E). OnOk r P) same h
