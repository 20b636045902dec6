-- Parts of one number that are taken out some at a time, and then the rest.
use Rattle.std.proofs.Common.{◌≡◌, ℕ, ◌+◌, ◌-◌, ◌^◌, ◌<◌, ◌≤◌, min, ◌&&◌, ℤ, pos, Bool, true, false, List, [], ◌∷◌, map, length, take, get_or, codes, filter, not, drop, refl, sym, ap, subst, ◌∙◌, ◌⊎◌, inl, inr, arith}
use Rattle.std.specs.List.{list_any}
use Rattle.std.specs.Ordering.{is_lt}
use Rattle.std.proofs.lemmas.List.Folds.{list_any_more}
use Rattle.sqlite.specs.Effect.{Database}
use Rattle.sqlite.specs.Order.{Row, column, value_cmp}
use Rattle.sqlite.specs.State.{HasCleanDisk, Survives}
use Rattle.sqlite.specs.Held.{Held, state}
use Rattle.sqlite.specs.declared.error.Error.{Error}
use Rattle.sqlite.specs.declared.types.Value.TheVariants.{Int}
use Rattle.sqlite_trees.specs.declared.store.Store.{Ghosts}
use Rattle.store_sql.specs.Deletes.{Removes, FailsToRemove}
use Rattle.store_tables.specs.Effects.{IsRemoved, count_in, equals_number, rows_of}
use Rattle.store_sql.specs.Statements.{Statement, remove}
use Rattle.store_sql.specs.PartRecords.{part_row}
use Rattle.store_sql.specs.ChosenParts.{is_of_file, is_part_from}
use Rattle.store_tables.specs.Records.{Part}
use Rattle.store_rows.specs.After.{is_gone}
use Rattle.store_rows.proofs.SelectionLemmas.{filter_filter}
use Rattle.store_holdings.specs.AllTables.{AllTables}
use Rattle.store_commands.specs.KeptRecords.{HasRecords, TurnsRecords}
use Rattle.store_commands.specs.Changes.{without_parts}
use Rattle.store_commands.specs.Orphans.{rows_left_under, with_parts_that}
use Rattle.store_commands.specs.Statements.{taking_of, taking_from, taking_parts}
use Rattle.store_commands.specs.Writes.{WroteStatements, FailsToWrite, CommitsNothing}
use Rattle.store_commands.proofs.GoneLemmas.{all_stay, neither, tested}
use Rattle.store_commands.proofs.LoopLemmas.{loop_wrote, loop_failed, mapped_at, mapped_grows}
use Rattle.store_commands.proofs.RowLemmas.{keeps_removed, next_column}
use Rattle.store_commands.proofs.TableLemmas.{parts_turned, parts_kept}
use Rattle.store_commands.proofs.WriteLemmas.{wrote_none, wrote_as, wrote_then, wrote_taken, wrote_removed, failed_one, failed_taken, failed_before, failed_after}

-- ---- some parts stay

cut_turned : (old new : Database) (test gone : Row → Bool) → ((row : Row) → test row ≡ gone (drop 1 row)) → IsRemoved (codes "dictcat_part") test old new → TurnsRecords (with_parts_that (λ r. not (gone (part_row r)))) old new
cut_turned old new test gone same removed = λ all it.
    parts_turned old new all it removed.schema (filter (λ r. not (gone (part_row r))) all.parts) removed.others
    (keeps_removed (codes "dictcat_part") part_row old new all.parts test gone same removed (parts_kept old all it))

cut_both : (p q t : Part → Bool) → ((r : Part) → (p r && q r) ≡ t r) → (all : AllTables) → with_parts_that q (with_parts_that p all) ≡ with_parts_that t all
cut_both p q t e all = ap (λ (l : List Part). record all { parts = l }) (filter_filter q p t e all.parts)

cut_none : (all : AllTables) → with_parts_that (λ r. not false) all ≡ all
cut_none all = ap (λ (l : List Part). record all { parts = l }) (all_stay all.parts)

-- ---- from a part on

-- a part's row, which has no rowid, is of this file of the edition, and of this part or a later one
abbrev pub is_late : ℕ → ℤ × ℤ → Row → Bool
is_late number bound row = (equals_number 0 (pos number) row && equals_number 1 bound.0 row) && not (is_lt (value_cmp (column row 2) (Int bound.1)))

late_is : (number : ℕ) (bound : ℤ × ℤ) (row : Row) → is_part_from (pos number) bound.0 bound.1 row ≡ is_late number bound (drop 1 row)
late_is number bound [] = refl
late_is number bound (v ∷ row) = refl

and_no : (a : Bool) → (a && false) ≡ false
and_no true = refl
and_no false = refl

never : {X : Type 0} (xs : List X) → list_any (λ (x : X). false) xs ≡ false
never [] = refl
never (x ∷ xs) = never xs

-- what stays behind the rest is what stays behind the last parts and isn't of the edition
none_left : {X : Type 0} (of_edition : Bool) (of_file is_behind : X → Bool) (xs : List X) → (not (list_any (λ x. (of_edition && of_file x) && is_behind x) xs) && not of_edition) ≡ not of_edition
none_left true of_file is_behind xs = and_no (not (list_any (λ x. (true && of_file x) && is_behind x) xs))
none_left false of_file is_behind xs = ap (λ b. not b && true) (never xs)

module _ {S : Type 0} (g : Ghosts S) (number : ℕ) where
  -- the parts behind these statements, and the statements
  abbrev pub behind : List (ℤ × ℤ) → AllTables → AllTables
  behind done = with_parts_that (λ r. not (list_any (λ bound. is_late number bound (part_row r)) done))

  abbrev pub last_ones : List (ℤ × ℤ) → List Statement
  last_ones done = map (taking_from number) done

  abbrev pub without_late : ℤ × ℤ → AllTables → AllTables
  without_late bound = with_parts_that (λ r. not (is_late number bound (part_row r)))

  abbrev pub without_rest : AllTables → AllTables
  without_rest = with_parts_that (λ r. not (equals_number 0 (pos number) (part_row r)))

  pub parts_none : (a : Held S) → WroteStatements g [] (behind []) a a
  parts_none a = wrote_as g [] (λ all. all) (behind []) a a (λ db all it. subst (λ (t : AllTables). HasRecords db t) (sym (cut_none all)) it) (wrote_none g a)

  -- one statement
  module _ (bound : ℤ × ℤ) (given file from : ℤ) (is : given ≡ pos number) (of : file ≡ bound.0) (at : from ≡ bound.1) (old new : Held S) (survives : Survives (state g old) (state g new) (λ _. ⊥)) where
    late_test : is_part_from given file from ≡ is_part_from (pos number) bound.0 bound.1
    late_test = λ i. is_part_from (is i) (of i) (at i)

    pub late_wrote : (HasCleanDisk (state g new) → Removes (codes "dictcat_part") (is_part_from given file from) (state g old) (state g new)) → WroteStatements g (taking_from number bound ∷ []) (without_late bound) old new
    late_wrote did =
        wrote_removed g (codes "dictcat_part") (is_part_from (pos number) bound.0 bound.1) old new survives (without_late bound)
        (λ a b gone. cut_turned a b (is_part_from (pos number) bound.0 bound.1) (is_late number bound) (late_is number bound) gone)
        (λ clean. subst (λ (test : Row → Bool). Removes (codes "dictcat_part") test (state g old) (state g new)) late_test (did clean))

    pub late_failed : (e : Error) → (HasCleanDisk (state g new) → FailsToRemove (codes "dictcat_part") (is_part_from given file from) (state g old) (state g new) e) → FailsToWrite g (taking_from number bound ∷ []) old new e
    late_failed e h =
        subst (λ (test : Row → Bool). FailsToWrite g (remove (codes "dictcat_part") test ∷ []) old new e) late_test (failed_one g (remove (codes "dictcat_part") (is_part_from given file from)) old new survives e h)

  -- all that are left
  module _ (given : ℤ) (is : given ≡ pos number) (old new : Held S) (survives : Survives (state g old) (state g new) (λ _. ⊥)) where
    pub rest_wrote : (HasCleanDisk (state g new) → Removes (codes "dictcat_part") (equals_number 1 given) (state g old) (state g new)) → WroteStatements g (taking_of (codes "dictcat_part") number ∷ []) without_rest old new
    rest_wrote did =
        wrote_taken g (codes "dictcat_part") (equals_number 1) given (pos number) is old new survives without_rest
        (λ a b gone. cut_turned a b (equals_number 1 (pos number)) (equals_number 0 (pos number)) (next_column 0 (pos number)) gone) did

    pub rest_failed : (e : Error) → (HasCleanDisk (state g new) → FailsToRemove (codes "dictcat_part") (equals_number 1 given) (state g old) (state g new) e) → FailsToWrite g (taking_of (codes "dictcat_part") number ∷ []) old new e
    rest_failed e h = failed_taken g (codes "dictcat_part") (equals_number 1) given (pos number) is old new survives e h

  -- one after others
  next_late : (db : Database) (xs : List (ℤ × ℤ)) (i : ℕ) (d : ℤ × ℤ) → i < length xs → (all : AllTables) → HasRecords db (without_late (get_or xs i d) (behind (take i xs) all)) → HasRecords db (behind (take (i + 1) xs) all)
  next_late db xs i d lt all it =
      subst (λ (t : AllTables). HasRecords db t)
      (cut_both (λ r. not (list_any (λ bound. is_late number bound (part_row r)) (take i xs))) (λ r. not (is_late number (get_or xs i d) (part_row r))) (λ r. not (list_any (λ bound. is_late number bound (part_row r)) (take (i + 1) xs)))
      (λ r. neither (list_any (λ bound. is_late number bound (part_row r)) (take i xs)) (is_late number (get_or xs i d) (part_row r)) ∙ ap not (sym (list_any_more (λ bound. is_late number bound (part_row r)) xs i d lt))) all) it

  module _ (xs : List (ℤ × ℤ)) (i : ℕ) (d : ℤ × ℤ) (lt : i < length xs) (old mid new : Held S) (so_far : WroteStatements g (last_ones (take i xs)) (behind (take i xs)) old mid) (spares : CommitsNothing g mid new) where
    pub parts_wrote : WroteStatements g (taking_from number (get_or xs i d) ∷ []) (without_late (get_or xs i d)) mid new → WroteStatements g (last_ones (take (i + 1) xs)) (behind (take (i + 1) xs)) old new
    parts_wrote h =
        loop_wrote g last_ones behind xs i (taking_from number (get_or xs i d) ∷ []) (without_late (get_or xs i d)) (mapped_at (taking_from number) xs i d lt) old mid new so_far spares
        (λ db all it. next_late db xs i d lt all it) h

    pub parts_failed : (e : Error) → FailsToWrite g (taking_from number (get_or xs i d) ∷ []) mid new e → FailsToWrite g (taking_parts number xs) old new e
    parts_failed e h =
        failed_before g (last_ones xs) (taking_of (codes "dictcat_part") number ∷ []) old new e
        (loop_failed g last_ones behind xs i (taking_from number (get_or xs i d) ∷ []) (without_late (get_or xs i d)) (mapped_at (taking_from number) xs i d lt) old mid new so_far spares (mapped_grows (taking_from number)) e h)

  -- the rest after all of them
  module _ (xs : List (ℤ × ℤ)) (given : ℤ) (is : given ≡ pos number) (old mid new : Held S) (so_far : WroteStatements g (last_ones xs) (behind xs) old mid) (survives : Survives (state g mid) (state g new) (λ _. ⊥))
      (spares : CommitsNothing g mid new) where
    all_taken : (db : Database) (all : AllTables) → HasRecords db (without_rest (behind xs all)) → HasRecords db (without_parts (number ∷ []) all)
    all_taken db all it =
        subst (λ (t : AllTables). HasRecords db t)
        (cut_both (λ r. not (list_any (λ bound. is_late number bound (part_row r)) xs)) (λ r. not (equals_number 0 (pos number) (part_row r))) (λ r. not (is_gone (number ∷ []) r.edition))
        (λ r. none_left (equals_number 0 (pos number) (part_row r)) (λ bound. equals_number 1 bound.0 (part_row r)) (λ bound. not (is_lt (value_cmp (column (part_row r) 2) (Int bound.1)))) xs
        ∙ tested (codes "dictcat_part") part_row (λ (p : Part). p.edition) (λ p. refl) number r) all) it

    pub all_wrote : (HasCleanDisk (state g new) → Removes (codes "dictcat_part") (equals_number 1 given) (state g mid) (state g new)) → WroteStatements g (taking_parts number xs) (without_parts (number ∷ [])) old new
    all_wrote did =
        wrote_as g (taking_parts number xs) (λ all. without_rest (behind xs all)) (without_parts (number ∷ [])) old new all_taken
        (wrote_then g (last_ones xs) (taking_of (codes "dictcat_part") number ∷ []) (behind xs) without_rest old mid new so_far (rest_wrote given is mid new survives did) spares)

    pub all_failed : (e : Error) → (HasCleanDisk (state g new) → FailsToRemove (codes "dictcat_part") (equals_number 1 given) (state g mid) (state g new) e) → FailsToWrite g (taking_parts number xs) old new e
    all_failed e h = failed_after g (last_ones xs) (taking_of (codes "dictcat_part") number ∷ []) (behind xs) old mid new e so_far spares (rest_failed given is mid new survives e h)

-- ---- how many are left

cases_of : (b : Bool) → (b ≡ true) ⊎ (b ≡ false)
cases_of true = inl refl
cases_of false = inr refl

-- of those that pass a test, those that pass a narrower one go
pub split_count : {X : Type 0} (p q : X → Bool) → ((x : X) → q x ≡ true → p x ≡ true) → (xs : List X) → length (filter p (filter (λ x. not (q x)) xs)) + length (filter q xs) ≡ length (filter p xs)
split_count p q narrow [] = refl
split_count p q narrow (x ∷ xs) =
    let rest = split_count p q narrow xs in
    elim (cases_of (q x)) [
      | inl goes ↦ (let passes = narrow x goes in rw (goes, passes) (omega (arith, rest)))
      | inr stays ↦ elim (cases_of (p x)) [
        | inl passes ↦ rw (stays, passes) (omega (arith, rest))
        | inr none ↦ rw (stays, none) rest
      ]
    ]

first_of : (a b : Bool) → (a && b) ≡ true → a ≡ true
first_of true b h = refl
first_of false b h = h

late_numbered : (number : ℕ) (bound : ℤ × ℤ) (row : Row) → is_part_from (pos number) bound.0 bound.1 row ≡ true → equals_number 1 (pos number) row ≡ true
late_numbered number bound row h = first_of (equals_number 1 (pos number) row) (equals_number 2 bound.0 row) (first_of (is_of_file (pos number) bound.0 row) (not (is_lt (value_cmp (column row 3) (Int bound.1)))) h)

-- as many fewer as a statement tells
pub late_fewer : (number : ℕ) (bound : ℤ × ℤ) (given file from : ℤ) → given ≡ pos number → file ≡ bound.0 → from ≡ bound.1 → (old new : Database) (count : ℕ) → IsRemoved (codes "dictcat_part") (is_part_from given file from) old new
    → count ≡ count_in (codes "dictcat_part") (is_part_from given file from) old → rows_left_under number new + count ≡ rows_left_under number old
late_fewer number bound given file from is of at old new count removed counted =
    let test : Row → Bool = is_part_from (pos number) bound.0 bound.1 in
    let same : is_part_from given file from ≡ test = λ i. is_part_from (is i) (of i) (at i) in
    let rows : rows_of (codes "dictcat_part") new ≡ filter (λ r. not (test r)) (rows_of (codes "dictcat_part") old) =
    removed.rows ∙ ap (λ (t : Row → Bool). filter (λ r. not (t r)) (rows_of (codes "dictcat_part") old)) same in
    let told : count ≡ length (filter test (rows_of (codes "dictcat_part") old)) = counted ∙ ap (λ (t : Row → Bool). length (filter t (rows_of (codes "dictcat_part") old))) same in
    ap (λ l. length (filter (equals_number 1 (pos number)) l) + count) rows ∙ ap (λ n. length (filter (equals_number 1 (pos number)) (filter (λ r. not (test r)) (rows_of (codes "dictcat_part") old))) + n) told
    ∙ split_count (equals_number 1 (pos number)) test (late_numbered number bound) (rows_of (codes "dictcat_part") old)

-- and so over several
pub sum_fewer : (all taken sum before mid new : ℕ) → sum ≡ min (all + taken) (2 ^ 64 - 1) → new + taken ≡ mid → mid + all ≤ before → new + sum ≤ before
sum_fewer all taken sum before mid new is one so_far = omega (arith, is, one, so_far)
