-- The header that a database holds under a number.
use Rattle.std.proofs.Common.{◌≡◌, ℕ, ◌<◌, ◌≤◌, Bool, true, false, cond, leb, List, [], ◌∷◌, length, map, drop, get_or, refl, ap, sym, subst, ◌∙◌, arith}
use Rattle.std.specs.Prelude.{ℤ, pos, Option, Some, None, String, string_bytes, option_map, ◌-◌, IsPermutation}
use Rattle.std.specs.List.{AllByRecursion}
use Rattle.std.specs.declared.alloc.Global.{Global}
use Rattle.std.proofs.lemmas.Bool.{leb-true, le-leb}
use Rattle.std.proofs.lemmas.Int.{to_z-of_z}
use mir.Val.{to_z, of_z}
use mir.Syntax.{w64}
use Rattle.sqlite.specs.Order.{Row, column}
use Rattle.sqlite.specs.Effect.{Database}
use Rattle.sqlite.specs.declared.types.Value.{Value}
use Rattle.sqlite.specs.declared.types.Value.TheVariants.{Text as Letters}
use Rattle.dict_text.proofs.AllLemmas.{all_map}
use Rattle.store_tables.specs.Records.{header_of}
use Rattle.store_sql.specs.Columns.{HasColumns}
use Rattle.store_sql.specs.Infos.{headers_with, informed, info_columns}
use Rattle.store_sql.specs.HeaderRecords.{header_row, header_columns}
use Rattle.dict_index.specs.Edition.{ReadEdition}
use Rattle.store_rows.specs.Written.{edition_record}
use Rattle.store_rows.proofs.OrderLemmas.{same_from, one_once}
use Rattle.store_holdings.specs.Searches.{HoldsOne, number_in_column}
use Rattle.store_holdings.proofs.RowLemmas.{column_behind}

-- ---- a number in a column

few_by : (number : ℕ) (b : Bool) → leb number 9223372036854775807 ≡ b → cond b number 0 ≤ 9223372036854775807
few_by number true e = leb-true number 9223372036854775807 e
few_by number false e = omega arith

-- what is read back from it is the number that was put there
pub at_column : (number : ℕ) → to_z w64 (of_z w64 (pos (number_in_column number))) ≡ pos (number_in_column number)
at_column number = to_z-of_z w64 (pos (number_in_column number)) (record { sfits = let few : number_in_column number ≤ 9223372036854775807 = few_by number (leb number 9223372036854775807) refl in omega (arith, few) })

pub column_is : (number : ℕ) → number ≤ 9223372036854775807 → number_in_column number ≡ number
column_is number few = ap (λ b. cond b number 0) (le-leb number 9223372036854775807 few)

pub column_back : (number : ℕ) (z : ℤ) → z ≡ pos (number_in_column number) → to_z w64 (of_z w64 z) ≡ pos (number_in_column number)
column_back number z is = ap (λ (z : ℤ). to_z w64 (of_z w64 z)) is ∙ at_column number

-- ---- the info

infos_behind : (rows : List Row) → map (λ (r : Row). column r 4) rows ≡ map (λ (r : Row). column r 3) (map (drop 1) rows)
infos_behind [] = refl
infos_behind (r ∷ rows) = let first : column r 4 ≡ column (drop 1 r) 3 = column_behind r 3 (drop 1 r) refl in let rest = infos_behind rows in λ j. first j ∷ rest j

one_text : (infos : List (String Global)) (info : List ℕ) → map Letters (map string_bytes infos) ≡ Letters info ∷ [] → (s : String Global) × (infos ≡ s ∷ []) × (string_bytes s ≡ info)
one_text [] info e = absurd (cc)
one_text (s ∷ []) info e = (s, refl, let same : Letters (string_bytes s) ∷ [] ≡ Letters info ∷ [] = e in cc)
one_text (s ∷ t ∷ infos) info e = absurd (cc)

-- the one info of an edition's number
pub info_told : (db : Database) (number : ℕ) (reading : ReadEdition) → HoldsOne db number reading → (infos : List (String Global)) (z : ℤ) → z ≡ pos number
    → IsPermutation (map (λ (r : Row). column r 4) (headers_with z db)) (map Letters (map string_bytes infos)) → (s : String Global) × (infos ≡ s ∷ []) × (string_bytes s ≡ reading.info)
info_told db number reading one infos z same h =
    let part : List Row = headers_with (pos number) db in
    let it = header_row (header_of (edition_record one.owner number reading)) in
    let rows : map (drop 1) part ≡ it ∷ [] = one_once it (map (drop 1) part) (same_from (it ∷ []) (map (drop 1) part) one.row) in
    let texts : map (λ (r : Row). column r 4) part ≡ Letters reading.info ∷ [] = infos_behind part ∙ ap (map (λ (r : Row). column r 3)) rows in
    let told : IsPermutation (Letters reading.info ∷ []) (map Letters (map string_bytes infos)) =
    subst (λ (l : List Value). IsPermutation l (map Letters (map string_bytes infos))) texts (subst (λ n. IsPermutation (map (λ (r : Row). column r 4) (headers_with n db)) (map Letters (map string_bytes infos))) same h) in
    one_text infos reading.info (one_once (Letters reading.info) (map Letters (map string_bytes infos)) (same_from (Letters reading.info ∷ []) (map Letters (map string_bytes infos)) told))

pub last_told : (infos : List (String Global)) (s : String Global) (told : Option (String Global)) → infos ≡ s ∷ [] → ((d : String Global) → 0 < length infos → told ≡ Some (get_or infos (length infos - 1) d)) → told ≡ Some s
last_told infos s told is h = subst (λ (l : List (String Global)). 0 < length l → told ≡ Some (get_or l (length l - 1) s)) is (h s) (let one : 0 < 1 = omega arith in one)

pub text_there : (told : Option (String Global)) (info : List ℕ) → option_map string_bytes told ≡ Some info → ((s : String Global) → told ≡ Some s → ⊥) → ⊥
text_there None info is apart = absurd (cc)
text_there (Some s) info is apart = apart s refl

pub text_told : (told : Option (String Global)) (s : String Global) (info : List ℕ) → option_map string_bytes told ≡ Some info → told ≡ Some s → string_bytes s ≡ info
text_told told s info is there = let same : option_map string_bytes (Some s) ≡ Some info = sym (ap (option_map string_bytes) there) ∙ is in cc

-- each row that was read for its info is one of a header
pub informed_rows : (rows : List Row) → AllByRecursion (HasColumns header_columns) rows → AllByRecursion (HasColumns info_columns) (map informed rows)
informed_rows rows h = all_map (HasColumns header_columns) (HasColumns info_columns) informed one_row rows h
  where
    one_row : (r : Row) → HasColumns header_columns r → HasColumns info_columns (informed r)
    one_row [] h = absurd h
    one_row (a ∷ []) h = absurd h.1
    one_row (a ∷ b ∷ []) h = absurd h.1.1
    one_row (a ∷ b ∷ c ∷ []) h = absurd h.1.1.1
    one_row (a ∷ b ∷ c ∷ d ∷ []) h = absurd h.1.1.1.1
    one_row (a ∷ b ∷ c ∷ d ∷ e ∷ r) h = (h.1.1.1.1.0, (h.1.0, tt))
