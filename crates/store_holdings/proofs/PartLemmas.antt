-- The parts of texts that are read out of a database.
use Rattle.std.proofs.Common.{◌≡◌, ℕ, zero, suc, ◌+◌, ◌-◌, ◌<◌, ◌≤◌, ◌^◌, ◌==◌, inl, inr, Bool, true, false, cond, List, [], ◌∷◌, length, map, filter, drop, codes, get_or, refl, ap, sym, subst, ◌∙◌, arith}
use Rattle.std.specs.Prelude.{ℤ, pos, Vec, IsPermutation}
use Rattle.std.specs.List.{AllByRecursion}
use Rattle.std.specs.declared.alloc.Global.{Global}
use Rattle.std.proofs.lemmas.Bool.{cases_lt, eqb-true}
use Rattle.std.proofs.lemmas.Int.{to_z-of_z}
use Rattle.std.proofs.lemmas.List.{get_or_past}
use Rattle.std.proofs.lemmas.List.Sorted.{IsPermutation-map, IsPermutation-trans}
use mir.Val.{to_z, of_z}
use mir.Syntax.{w64}
use Rattle.sqlite.specs.Order.{Row, column}
use Rattle.sqlite.specs.Effect.{Database}
use Rattle.sqlite.specs.State.{State}
use Rattle.sqlite.specs.declared.types.Value.TheVariants.{Int}
use Rattle.dict_text.proofs.AllLemmas.{all_filter}
use Rattle.store_tables.specs.Records.{Part}
use Rattle.store_sql.specs.Columns.{HasColumns}
use Rattle.store_tables.specs.Effects.{rows_of, equals_number, same_value}
use Rattle.store_sql.specs.Reads.{IsSelection, FailsToList}
use Rattle.store_sql.specs.declared.records.ReadError.{ReadError}
use Rattle.store_sql.specs.ChosenParts.{is_of_file, is_numbered}
use Rattle.store_sql.specs.PartRecords.{part_row, part_columns, owned_part, stored_part}
use Rattle.store_sql.specs.declared.part_records.StoredPart.{StoredPart}
use Rattle.store_rows.specs.Parts.{parts_of}
use Rattle.store_rows.specs.Tables.{same_number}
use Rattle.store_rows.specs.Written.{numbered}
use Rattle.store_rows.proofs.OrderLemmas.{all_same, same_from, one_once}
use Rattle.store_rows.proofs.SelectionLemmas.{filter_filter}
use Rattle.store_rows.proofs.TakenLemmas.{nat_itself}
use Rattle.store_rows.specs.FileParts.{part_at, file_parts}
use Rattle.store_holdings.specs.HeldTexts.{HoldsText}
use Rattle.store_holdings.specs.Searches.{IsEditionReadable}
use Rattle.store_holdings.proofs.ReadingLemmas.{map_twice}
use Rattle.store_holdings.proofs.RowLemmas.{column_behind, rows_tested, same_int}

-- ---- of numbered parts, the one of a number

-- the element at a place, alone; none where there is none
abbrev one_at : ℕ → List (List ℕ) → List (List ℕ)
one_at k [] = []
one_at zero (o ∷ os) = o ∷ []
one_at (suc k) (o ∷ os) = one_at k os

one_within : (k : ℕ) (os : List (List ℕ)) → k < length os → one_at k os ≡ get_or os k [] ∷ []
one_within k [] below = absurd (omega arith)
one_within zero (o ∷ os) below = refl
one_within (suc k) (o ∷ os) below = one_within k os (omega arith)

one_past : (k : ℕ) (os : List (List ℕ)) → length os ≤ k → one_at k os ≡ []
one_past k [] past = refl
one_past zero (o ∷ os) past = absurd (omega arith)
one_past (suc k) (o ∷ os) past = one_past k os (omega arith)

differs_by : (m n : ℕ) (b : Bool) → (m == n) ≡ b → (m ≡ n → ⊥) → (m == n) ≡ false
differs_by m n true e apart = absurd (apart (eqb-true m n e))
differs_by m n false e apart = e

differs : (m n : ℕ) → (m ≡ n → ⊥) → (m == n) ≡ false
differs m n apart = differs_by m n (m == n) refl apart

module _ (edition file : ℤ) (n : ℕ) where
  abbrev is_it : Part → Bool
  is_it p = same_number p.number (pos n)

  none_after : (from : ℕ) (os : List (List ℕ)) → n < from → filter is_it (numbered (part_at edition file) from os) ≡ []
  none_after from [] later = refl
  none_after from (o ∷ os) later =
      let rest = filter is_it (numbered (part_at edition file) (from + 1) os) in
      let none : rest ≡ [] = none_after (from + 1) os (omega arith) in
      let apart : (from == n) ≡ false = differs from n (λ same. omega arith) in
      ap (λ b. cond b (part_at edition file from o ∷ rest) rest) apart ∙ none

  the_part : (from k : ℕ) (os : List (List ℕ)) → n ≡ from + k → filter is_it (numbered (part_at edition file) from os) ≡ map (part_at edition file n) (one_at k os)
  the_part from k [] at = refl
  the_part from zero (o ∷ os) at =
      let rest = filter is_it (numbered (part_at edition file) (from + 1) os) in
      let none : rest ≡ [] = none_after (from + 1) os (omega arith) in
      let same : from ≡ n = omega arith in
      ap (λ b. cond b (part_at edition file from o ∷ rest) rest) (nat_itself from n same) ∙ (λ i. part_at edition file (same i) o ∷ none i)
  the_part from (suc k) (o ∷ os) at =
      let rest = filter is_it (numbered (part_at edition file) (from + 1) os) in
      let apart : (from == n) ≡ false = differs from n (λ same. omega arith) in
      ap (λ b. cond b (part_at edition file from o ∷ rest) rest) apart ∙ the_part (from + 1) k os (omega arith)

-- ---- the rows of a part

-- whether a row without its rowid is that of the part of this number
abbrev behind_test : ℕ → Row → Bool
behind_test n row = same_value (column row 2) (Int (pos n))

row_test : (n : ℕ) (p : Part) → behind_test n (part_row p) ≡ same_number p.number (pos n)
row_test n p = same_int p.number (pos n)

rowid_test : (n : ℕ) (row : Row) → behind_test n (drop 1 row) ≡ equals_number 3 (pos n) row
rowid_test n row = ap (λ v. same_value v (Int (pos n))) (sym (column_behind row 2 (drop 1 row) refl))

abbrev row_read : StoredPart → Row
row_read s = part_row (owned_part s.part)

module _ (db : Database) (number : ℕ) (text : List ℕ) (holds : HoldsText db number text) (n : ℕ) (items : List StoredPart)
    (read : IsSelection (codes "dictcat_part") (is_numbered (pos number) (pos 1) (pos n)) (3 ∷ []) db (map stored_part items)) where
  -- the rows that were read are those of the part of this number
  rows_are : IsPermutation (map part_row (map (part_at (pos number) (pos 1) n) (one_at n (parts_of text)))) (map row_read items)
  rows_are =
      let rows = rows_of (codes "dictcat_part") db in
      let of_file = filter (is_of_file (pos number) (pos 1)) rows in
      let of_number = filter (is_numbered (pos number) (pos 1) (pos n)) rows in
      let first : IsPermutation (map part_row (map (part_at (pos number) (pos 1) n) (one_at n (parts_of text)))) (map (drop 1) of_number) =
      subst (λ (l : List Part). IsPermutation (map part_row l) (map (drop 1) of_number)) (the_part (pos number) (pos 1) n 0 n (parts_of text) (omega arith))
      (subst (λ (l : List Row). IsPermutation (map part_row (filter (λ (p : Part). same_number p.number (pos n)) (file_parts (pos number) (pos 1) text))) (map (drop 1) l))
      (filter_filter (equals_number 3 (pos n)) (is_of_file (pos number) (pos 1)) (is_numbered (pos number) (pos 1) (pos n)) (λ row. refl) rows)
      (rows_tested part_row (λ (p : Part). same_number p.number (pos n)) (behind_test n) (equals_number 3 (pos n)) (row_test n) (rowid_test n) (file_parts (pos number) (pos 1) text) of_file holds.rows)) in
      let second : IsPermutation (map (drop 1) of_number) (map row_read items) =
      subst (λ (l : List Row). IsPermutation (map (drop 1) of_number) l) (map_twice stored_part (drop 1) items) (IsPermutation-map (drop 1) of_number (map stored_part items) read.same) in
      IsPermutation-trans (map part_row (map (part_at (pos number) (pos 1) n) (one_at n (parts_of text)))) (map (drop 1) of_number) (map row_read items) first second

  -- there is one, where the text has the part
  pub one_read : n < length (parts_of text) → (s : StoredPart) × (items ≡ s ∷ []) × (s.part.octets.items ≡ get_or (parts_of text) n [])
  one_read below =
      let octets = get_or (parts_of text) n [] in
      let it : Row = part_row (part_at (pos number) (pos 1) n octets) in
      let rows : IsPermutation (it ∷ []) (map row_read items) =
      subst (λ (l : List (List ℕ)). IsPermutation (map part_row (map (part_at (pos number) (pos 1) n) l)) (map row_read items)) (one_within n (parts_of text) below) rows_are in
      the_one items octets (one_once it (map row_read items) (same_from (it ∷ []) (map row_read items) rows))
    where
      the_one : (given : List StoredPart) (octets : List ℕ) → map row_read given ≡ part_row (part_at (pos number) (pos 1) n octets) ∷ [] → (s : StoredPart) × (given ≡ s ∷ []) × (s.part.octets.items ≡ octets)
      the_one [] octets e = absurd (cc)
      the_one (s ∷ []) octets e = (s, refl, let same : part_row (owned_part s.part) ∷ [] ≡ part_row (part_at (pos number) (pos 1) n octets) ∷ [] = e in cc)
      the_one (s ∷ t ∷ given) octets e = absurd (cc)

  -- and none, where it hasn't
  pub none_read : length (parts_of text) ≤ n → items ≡ []
  none_read past =
      let rows : IsPermutation [] (map row_read items) =
      subst (λ (l : List (List ℕ)). IsPermutation (map part_row (map (part_at (pos number) (pos 1) n) l)) (map row_read items)) (one_past n (parts_of text) past) rows_are in
      no_row items (all_same (λ (_ : Row). ⊥) [] (map row_read items) rows tt)
    where
      no_row : (given : List StoredPart) → AllByRecursion (λ (_ : Row). ⊥) (map row_read given) → given ≡ []
      no_row [] h = refl
      no_row (s ∷ given) h = absurd h.0

  -- the octets of the last of them are that part of the text
  pub octets_told : (told : Vec ℕ Global) → (items ≡ [] → told.items ≡ []) → ((d : StoredPart) → 0 < length items → told.items ≡ (get_or items (length items - 1) d).part.octets.items) → told.items ≡ get_or (parts_of text) n []
  octets_told told none last = elim (cases_lt n (length (parts_of text))) [
    | inl below ↦
        let one = one_read below in
        let first : told.items ≡ one.0.part.octets.items =
        subst (λ (l : List StoredPart). 0 < length l → told.items ≡ (get_or l (length l - 1) one.0).part.octets.items) one.1 (last one.0) (let some : 0 < 1 = omega arith in some) in
        first ∙ one.2
    | inr past ↦ none (none_read past) ∙ sym (get_or_past (parts_of text) n [] past)
  ]

-- ---- numbers in columns

-- the number of a part, as a column has it
pub part_back : (n : ℕ) (z : ℤ) → n < 2 ^ 63 → z ≡ pos n → to_z w64 (of_z w64 z) ≡ pos n
part_back n z few is = ap (λ (z : ℤ). to_z w64 (of_z w64 z)) is ∙ to_z-of_z w64 (pos n) (record { sfits = omega (arith, few) })

-- what is selected by numbers that are these
pub selected_as : (db : Database) (rows : List Row) (edition file part : ℤ) (number n : ℕ) → edition ≡ pos number → file ≡ pos 1 → part ≡ pos n → IsSelection (codes "dictcat_part") (is_numbered edition file part) (3 ∷ []) db rows
    → IsSelection (codes "dictcat_part") (is_numbered (pos number) (pos 1) (pos n)) (3 ∷ []) db rows
selected_as db rows edition file part number n e f p read =
    subst (λ (z : ℤ). IsSelection (codes "dictcat_part") (is_numbered (pos number) (pos 1) z) (3 ∷ []) db rows) p
    (subst (λ (z : ℤ). IsSelection (codes "dictcat_part") (is_numbered (pos number) z part) (3 ∷ []) db rows) f
    (subst (λ (z : ℤ). IsSelection (codes "dictcat_part") (is_numbered z file part) (3 ∷ []) db rows) e read))

pub failed_as : (edition file part : ℤ) (number n : ℕ) → edition ≡ pos number → file ≡ pos 1 → part ≡ pos n → (old new : State) (error : ReadError)
    → FailsToList part_columns (filter (is_numbered edition file part) (rows_of (codes "dictcat_part") old.now)) old new error
    → FailsToList part_columns (filter (is_numbered (pos number) (pos 1) (pos n)) (rows_of (codes "dictcat_part") old.now)) old new error
failed_as edition file part number n e f p old new error h =
    subst (λ (z : ℤ). FailsToList part_columns (filter (is_numbered (pos number) (pos 1) z) (rows_of (codes "dictcat_part") old.now)) old new error) p
    (subst (λ (z : ℤ). FailsToList part_columns (filter (is_numbered (pos number) z part) (rows_of (codes "dictcat_part") old.now)) old new error) f
    (subst (λ (z : ℤ). FailsToList part_columns (filter (is_numbered z file part) (rows_of (codes "dictcat_part") old.now)) old new error) e h))

-- the rows of a part can be read where those of the text can
pub part_readable : (number n : ℕ) (db : Database) → IsEditionReadable db number → AllByRecursion (HasColumns part_columns) (filter (is_numbered (pos number) (pos 1) (pos n)) (rows_of (codes "dictcat_part") db))
part_readable number n db h =
    let rows = rows_of (codes "dictcat_part") db in
    let of_file = filter (is_of_file (pos number) (pos 1)) rows in
    subst (AllByRecursion (HasColumns part_columns)) (filter_filter (equals_number 3 (pos n)) (is_of_file (pos number) (pos 1)) (is_numbered (pos number) (pos 1) (pos n)) (λ row. refl) rows)
    (all_filter (HasColumns part_columns) (equals_number 3 (pos n)) of_file h.parts)
