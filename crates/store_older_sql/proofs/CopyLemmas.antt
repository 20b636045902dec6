-- What a reading leaves committed, and the rows of a list about one of them.
use Rattle.std.proofs.Common.{◌≡◌, ◌++◌, ◌∙◌, ◌+◌, ◌<◌, ℕ, List, [], ◌∷◌, map, take, drop, length, get_or, refl, sym, ap, subst, inl, inr, arith, IsPermutation}
use Rattle.std.proofs.lemmas.List.{take_more, take-append-drop}
use Rattle.std.proofs.lemmas.List.Sorted.{IsPermutation-refl}
use Rattle.sqlite.specs.Order.{Row}
use Rattle.sqlite.specs.State.{State, KeepsCommit, Survives, IsUnchanged}
use Rattle.sqlite.specs.declared.error.Error.{Error}
use Rattle.store_sql.specs.Columns.{Content}
use Rattle.store_sql.specs.Reads.{FailsToList}
use Rattle.store_tables.specs.Effects.{FailsToRead}
use Rattle.store_sql.specs.declared.records.ReadError.{ReadError}
use Rattle.store_sql.specs.declared.records.ReadError.TheVariants.{NoRecord, Store}

pub keeps_none : (s : State) → KeepsCommit s s
keeps_none s = record { was_open = λ h. h; committed = λ _. refl }

pub none_more : (a : State) → Survives a a (λ _. ⊥)
none_more a = record { clean = omega arith; shield = λ h. h; counts = omega arith; limit = refl; closes = λ clean h. inl h; crash = λ clean db left. inl left }

-- ---- what a reading leaves committed

pub unchanged_keeps : (old new : State) → IsUnchanged old new → KeepsCommit old new
unchanged_keeps old new h = record { was_open = λ _. h.0.was_open; committed = λ _. h.0.committed_is }

read_keeps : (old new : State) (e : Error) → FailsToRead old new e → KeepsCommit old new
read_keeps old new e (inl fails) = record { was_open = fails.3.was_open; committed = λ open'. (fails.3.undone open').1 }
read_keeps old new e (inr limit) = unchanged_keeps old new limit.2

pub list_keeps : (columns : List Content) (rows : List Row) (old new : State) (e : ReadError) → FailsToList columns rows old new e → KeepsCommit old new
list_keeps columns rows old new NoRecord h = unchanged_keeps old new h.0
list_keeps columns rows old new (Store e) (inl h) = read_keeps old new e h
list_keeps columns rows old new (Store e) (inr h) = unchanged_keeps old new h.0

-- ---- lists

map_front : {X Y : Type 0} (f : X → Y) (xs ys : List X) → map f (xs ++ ys) ≡ map f xs ++ map f ys
map_front f [] ys = refl
map_front f (x ∷ xs) ys = ap (λ l. f x ∷ l) (map_front f xs ys)

behind : {X : Type 0} (xs : List X) (x : X) (ys : List X) → (xs ++ x ∷ []) ++ ys ≡ xs ++ x ∷ ys
behind [] x ys = refl
behind (y ∷ xs) x ys = ap (λ l. y ∷ l) (behind xs x ys)

-- a list is what stands before one of its elements, that element, and what stands behind it
pub split_at : {X : Type 0} (all : List X) (i : ℕ) (d : X) → i < length all → take i all ++ get_or all i d ∷ drop (i + 1) all ≡ all
split_at all i d within = sym (behind (take i all) (get_or all i d) (drop (i + 1) all)) ∙ ap (λ l. l ++ drop (i + 1) all) (sym (take_more all i d within)) ∙ take-append-drop (i + 1) all

-- so do the rows that its elements are
pub rows_at : {X : Type 0} (f : X → Row) (all : List X) (i : ℕ) (d : X) → i < length all → IsPermutation (map f (take i all) ++ f (get_or all i d) ∷ map f (drop (i + 1) all)) (map f all)
rows_at f all i d within =
    subst (IsPermutation (map f (take i all) ++ f (get_or all i d) ∷ map f (drop (i + 1) all))) (sym (map_front f (take i all) (get_or all i d ∷ drop (i + 1) all)) ∙ ap (map f) (split_at all i d within)) (IsPermutation-refl _)
