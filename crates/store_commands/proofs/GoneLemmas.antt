-- Editions that are taken out by their numbers.
use Rattle.std.proofs.Common.{◌≡◌, ℕ, ◌+◌, ◌<◌, ◌&&◌, ◌||◌, ℤ, pos, Bool, true, false, List, [], ◌∷◌, ◌++◌, length, take, get_or, codes, filter, not, refl, sym, ap, subst, ◌∙◌, arith, append-nil}
use Rattle.std.specs.Prelude.{flat_map}
use Rattle.std.proofs.lemmas.Grind.{flat_map-append}
use Rattle.std.proofs.lemmas.Int.{to_z_pos}
use Rattle.std.proofs.lemmas.List.{take_more}
use Rattle.std.proofs.lemmas.List.Folds.{list_any-append}
use mir.Syntax.{w64}
use mir.Val.{to_z}
use Rattle.sqlite.specs.Effect.{Database}
use Rattle.sqlite.specs.Order.{Row, column}
use Rattle.sqlite.specs.declared.types.Value.{Value}
use Rattle.sqlite.specs.declared.types.Value.TheVariants.{Int}
use Rattle.store_tables.specs.Effects.{IsRemoved, equals_number, same_value}
use Rattle.store_tables.specs.Records.{EditionRecord, EntryRecord}
use Rattle.store_rows.specs.Tables.{same_number}
use Rattle.store_rows.specs.After.{is_gone}
use Rattle.store_rows.proofs.SelectionLemmas.{filter_filter, filter_alike}
use Rattle.store_holdings.specs.AllTables.{AllTables}
use Rattle.store_sql.specs.Readings.{Keeps}
use Rattle.store_commands.specs.KeptRecords.{HasRecords, FitsColumn, TurnsRecords}
use Rattle.store_commands.specs.Changes.{without_editions}
use Rattle.store_commands.specs.Statements.{taking}
use Rattle.store_commands.proofs.LoopLemmas.{Grows}
use Rattle.store_commands.proofs.RowLemmas.{keeps_removed, next_column, compared_values}
use Rattle.store_commands.proofs.TableLemmas.{edition_row, editions_turned, editions_kept, other_entries}

-- a number that can be held is handed on as it is
pub handed : (n : ℕ) → FitsColumn n → to_z w64 n ≡ pos n
handed n h = to_z_pos w64 n (let b : n < 9223372036854775808 = omega (arith, h) in b)

or_none : (b : Bool) → (b || false) ≡ b
or_none true = refl
or_none false = refl

pub neither : (a b : Bool) → (not a && not b) ≡ not (a || b)
neither true b = refl
neither false b = refl

one_gone : (n : ℕ) (z : ℤ) → not (same_value (Int z) (Int (pos n))) ≡ not (is_gone (n ∷ []) z)
one_gone n z = ap not (compared_values (pos n) z ∙ sym (or_none (same_number (pos n) z)))

-- ---- the records of one number, from a table whose first column it is

module _ {R : Type 0} (name : List ℕ) (encode : R → Row) (number : R → ℤ) (first : (r : R) → column (encode r) 0 ≡ Int (number r)) where
  pub tested : (n : ℕ) (r : R) → not (equals_number 0 (pos n) (encode r)) ≡ not (is_gone (n ∷ []) (number r))
  tested n r = ap (λ (v : Value). not (same_value v (Int (pos n)))) (first r) ∙ one_gone n (number r)

  keeps_gone : (old new : Database) (n : ℕ) (records : List R) → IsRemoved name (equals_number 1 (pos n)) old new → Keeps name encode old records → Keeps name encode new (filter (λ r. not (is_gone (n ∷ []) (number r))) records)
  keeps_gone old new n records gone k =
      subst (λ l. Keeps name encode new l) (filter_alike (λ r. not (equals_number 0 (pos n) (encode r))) (λ r. not (is_gone (n ∷ []) (number r))) (tested n) records)
      (keeps_removed name encode old new records (equals_number 1 (pos n)) (equals_number 0 (pos n)) (next_column 0 (pos n)) gone k)

-- the record goes, and the entries that no table keeps
abbrev pub without_record : ℕ → AllTables → AllTables
without_record n all = record all { editions = filter (λ row. not (is_gone (n ∷ []) row.number)) all.editions; entries = filter (λ row. not (is_gone (n ∷ []) row.edition)) all.entries }

pub record_gone : (n : ℕ) (old new : Database) → IsRemoved (codes "edition") (equals_number 1 (pos n)) old new → TurnsRecords (without_record n) old new
record_gone n old new gone = λ all it.
    let rest : List EditionRecord = filter (λ row. not (is_gone (n ∷ []) row.number)) all.editions in
    let both = editions_turned old new all it gone.schema rest gone.others (keeps_gone (codes "edition") edition_row (λ (r : EditionRecord). r.number) (λ r. refl) old new n all.editions gone (editions_kept old all it)) in
    (other_entries new (record all { editions = rest }) both.0 (filter (λ row. not (is_gone (n ∷ []) row.edition)) all.entries), both.1)

-- ---- one number after another

gone_more : (gone : List ℕ) (n : ℕ) (z : ℤ) → (not (is_gone gone z) && not (is_gone (n ∷ []) z)) ≡ not (is_gone (gone ++ n ∷ []) z)
gone_more gone n z = neither (is_gone gone z) (is_gone (n ∷ []) z) ∙ sym (ap not (list_any-append (λ one. same_number (pos one) z) gone (n ∷ [])))

pub all_stay : {X : Type 0} (xs : List X) → filter (λ (x : X). not false) xs ≡ xs
all_stay [] = refl
all_stay (x ∷ xs) = ap (λ l. x ∷ l) (all_stay xs)

pub none_gone : (db : Database) (all : AllTables) → HasRecords db all → HasRecords db (without_editions [] all)
none_gone db all it = subst (λ (t : AllTables). HasRecords db t) (λ i. record all { editions = sym (all_stay all.editions) i; entries = sym (all_stay all.entries) i }) it

module _ {R : Type 0} (some : List ℕ) (n : ℕ) (number : R → ℤ) where
  both_gone : (rows : List R) → filter (λ row. not (is_gone (n ∷ []) (number row))) (filter (λ row. not (is_gone some (number row))) rows) ≡ filter (λ row. not (is_gone (some ++ n ∷ []) (number row))) rows
  both_gone rows = filter_filter (λ row. not (is_gone (n ∷ []) (number row))) (λ row. not (is_gone some (number row))) (λ row. not (is_gone (some ++ n ∷ []) (number row))) (λ row. gone_more some n (number row)) rows

pub next_gone : (db : Database) (gone : List ℕ) (i : ℕ) → i < length gone → (all : AllTables) → HasRecords db (without_editions (get_or gone i 0 ∷ []) (without_editions (take i gone) all)) → HasRecords db
    (without_editions (take (i + 1) gone) all)
next_gone db gone i lt all it =
    let n : ℕ = get_or gone i 0 in
    let some : List ℕ = take i gone in
    let more : HasRecords db (without_editions (some ++ n ∷ []) all) = subst (λ (t : AllTables). HasRecords db t) (λ k. record all {
      editions = both_gone some n (λ (row : EditionRecord). row.number) all.editions k;
      entries = both_gone some n (λ (row : EntryRecord). row.edition) all.entries k;
    }) it in
    subst (λ l. HasRecords db (without_editions l all)) (sym (take_more gone i 0 lt)) more

-- the statements that take them out
pub taken_next : (gone : List ℕ) (i : ℕ) → i < length gone → flat_map taking (take i gone) ++ taking (get_or gone i 0) ≡ flat_map taking (take (i + 1) gone)
taken_next gone i lt = sym (ap (flat_map taking) (take_more gone i 0 lt) ∙ flat_map-append taking (take i gone) (get_or gone i 0 ∷ []) ∙ ap (λ l. flat_map taking (take i gone) ++ l) (append-nil (taking (get_or gone i 0))))

pub taken_grows : Grows (flat_map taking)
taken_grows front back = (flat_map taking back, flat_map-append taking front back)
