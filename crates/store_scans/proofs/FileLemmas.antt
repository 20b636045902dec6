-- The octets of a file, from the parts that were read one by one.
use Rattle.std.proofs.Common.{◌≡◌, ℕ, ℤ, pos, ◌+◌, ◌≤◌, true, false, List, [], ◌∷◌, ◌++◌, map, drop, filter, length, codes, inl, inr, refl, sym, ap, subst, ◌∙◌, append_assoc, arith}
use Rattle.std.specs.Prelude.{◌≤ℤ◌}
use Rattle.std.specs.List.{AllByRecursion, concat}
use Rattle.std.specs.List.Sorted.{IsPermutation}
use Rattle.std.specs.Ordering.{is_lt, ordering_then}
use Rattle.std.specs.declared.cmp.Ordering.TheVariants.{Equal}
use Rattle.std.proofs.lemmas.Bool.{and_parts}
use Rattle.std.proofs.lemmas.List.{map-append, length-append, length-map, length_push}
use Rattle.std.proofs.lemmas.List.Sorted.{IsPermutation-map, IsPermutation-sym, IsPermutation-trans}
use Rattle.sqlite.specs.Effect.{Database}
use Rattle.sqlite.specs.Order.{Row, column, value_cmp}
use Rattle.sqlite.specs.declared.types.Value.TheVariants.{Int}
use Rattle.dict_text.proofs.AllLemmas.{all_filter}
use Rattle.store_tables.specs.Records.{Part}
use Rattle.store_sql.specs.Columns.{HasColumns}
use Rattle.store_tables.specs.Effects.{rows_of, equals_number}
use Rattle.store_sql.specs.Reads.{by_columns}
use Rattle.store_sql.specs.ChosenParts.{is_of_file}
use Rattle.store_sql.specs.PartRecords.{part_columns, part_row, stored_part, owned_part}
use Rattle.store_sql.specs.declared.part_records.StoredPart.{StoredPart}
use Rattle.store_rows.specs.Parts.{parts_of, AreOfSize, AreParts}
use Rattle.store_rows.specs.Joining.{IsNext}
use Rattle.store_rows.specs.Order.{InOrder}
use Rattle.store_rows.specs.Written.{numbered}
use Rattle.store_rows.proofs.PartLemmas.{parts_join, parts_regular}
use Rattle.store_rows.proofs.OrderLemmas.{Below, all_passed, all_same, same_from, ordered_once, numbered_rise}
use Rattle.store_rows.specs.FileParts.{part_at, file_parts}
use Rattle.store_sql.proofs.ReadLemmas.{one_le}
use Rattle.store_scans.specs.Cursors.Cursor.{PartsOf}
use Rattle.store_rows.proofs.RiseLemmas.{order_weaker}
use Rattle.store_scans.specs.Cursors.{IsScannedToEnd}
use Rattle.store_scans.specs.Files.{file_rows, HasFile, HasNoFile, TakesParts, RefusesParts, AreNumbered, octets_of_part, number_of_part}
use Rattle.store_scans.specs.Scans.{TakesAll, IsWrong}
use Rattle.store_scans.proofs.CodecLemmas.{IsRow, read, read_stored, records_in, rows_order, part_codec}
use Rattle.store_scans.proofs.NumberLemmas.{int_is, behind_column}
use Rattle.store_scans.proofs.PlaceLemmas.{last_holds}

-- ---- one part more

parts_of_none : parts_of [] ≡ []
unfolding parts_of
parts_of_none = refl

numbers_push : (n : ℕ) (given : List StoredPart) (next : StoredPart) → AreNumbered n given → number_of_part next ≡ pos (n + length given) → AreNumbered n (given ++ next ∷ [])
numbers_push n [] next h e = ap (λ z. z ∷ []) (e ∙ ap pos (let none : n + 0 ≡ n = omega arith in none))
numbers_push n (r ∷ given) next h e =
    let first : number_of_part r ≡ pos n = cc in
    let rest : AreNumbered (n + 1) given = cc in
    let later : number_of_part next ≡ pos (n + 1 + length given) = e ∙ ap pos (let same : n + length (r ∷ given) ≡ n + 1 + length given = omega arith in same) in
    λ i. first i ∷ numbers_push (n + 1) given next rest later i

pub parts_next : (first : List ℕ) (given : List StoredPart) (next : StoredPart) (old new : List ℕ) (number : ℕ) → TakesParts first given old → number_of_part next ≡ pos number → IsNext old number (octets_of_part next)
    → parts_of new ≡ parts_of old ++ octets_of_part next ∷ []
    → TakesParts first (given ++ next ∷ []) new
parts_next first given next old new number t is one more = record {
  parts = more ∙ ap (λ l. l ++ octets_of_part next ∷ []) t.parts ∙ append_assoc (parts_of first) (map octets_of_part given) (octets_of_part next ∷ []) ∙ ap (λ l. parts_of first ++ l) (sym (map-append octets_of_part given (next ∷ [])));
  numbers = numbers_push (length (parts_of first)) given next t.numbers (is ∙ ap pos (one.numbered ∙ many_parts));
}
  where
    many_parts : length (parts_of old) ≡ length (parts_of first) + length given
    many_parts = ap length t.parts ∙ length-append (parts_of first) (map octets_of_part given) ∙ ap (λ n. length (parts_of first) + n) (length-map given octets_of_part)

-- those that begin the parts of a file are parts
front_parts : (size : ℕ) (ps : List (List ℕ)) (p : List ℕ) (more : List (List ℕ)) → AreOfSize size ((ps ++ p ∷ []) ++ more) → AreOfSize size (ps ++ p ∷ [])
front_parts size [] p more h = (h.0, h.1, (λ none. absurd (omega arith)), tt)
front_parts size (q ∷ ps) p more h =
    let whole : 1 ≤ length ((ps ++ p ∷ []) ++ more) = omega (arith, length-append (ps ++ p ∷ []) more, length_push ps p) in
    (h.0, h.1, (λ some. h.2 whole), front_parts size ps p more h.3)

last_number : (n : ℕ) (given : List StoredPart) (next : StoredPart) → AreNumbered n (given ++ next ∷ []) → number_of_part next ≡ pos (n + length given)
last_number n [] next h = let one : number_of_part next ≡ pos n = cc in one ∙ ap pos (let none : n ≡ n + 0 = omega arith in none)
last_number n (r ∷ given) next h =
    let rest : AreNumbered (n + 1) (given ++ next ∷ []) = cc in
    last_number (n + 1) given next rest ∙ ap pos (let same : n + 1 + length given ≡ n + length (r ∷ given) = omega arith in same)

pub parts_refused : (first : List ℕ) (given : List StoredPart) (next : StoredPart) (old : List ℕ) → TakesParts first given old → ((number : ℕ) → number_of_part next ≡ pos number → IsNext old number (octets_of_part next) → ⊥)
    → RefusesParts first (given ++ next ∷ [])
parts_refused first given next old t wrong numbers file more is =
    wrong (length (parts_of old)) (last_number (length (parts_of first)) given next numbers ∙ ap pos (sym many_parts)) (record {
      numbered = refl;
      follows = front_parts 16384 (parts_of old) (octets_of_part next) more (subst AreParts (is ∙ shape) (parts_regular file));
    })
  where
    many_parts : length (parts_of old) ≡ length (parts_of first) + length given
    many_parts = ap length t.parts ∙ length-append (parts_of first) (map octets_of_part given) ∙ ap (λ n. length (parts_of first) + n) (length-map given octets_of_part)

    shape : parts_of first ++ (map octets_of_part (given ++ next ∷ []) ++ more) ≡ (parts_of old ++ octets_of_part next ∷ []) ++ more
    shape =
        sym (append_assoc (parts_of first) (map octets_of_part (given ++ next ∷ [])) more)
        ∙ ap (λ l. (parts_of first ++ l) ++ more) (map-append octets_of_part given (next ∷ []))
        ∙ ap (λ l. l ++ more) (sym (append_assoc (parts_of first) (map octets_of_part given) (octets_of_part next ∷ [])) ∙ ap (λ l. l ++ octets_of_part next ∷ []) (sym t.parts))

-- ---- all parts of a file

-- the rows of a file are of this edition and this file
of_file : (number file : ℤ) (r : StoredPart) → is_of_file number file (stored_part r) ≡ true → (r.part.edition ≡ number) × (r.part.file ≡ file)
of_file number file r h =
    let both = and_parts (equals_number 1 number (stored_part r)) (equals_number 2 file (stored_part r)) h in
    (int_is r.part.edition number both.0, int_is r.part.file file both.1)

all_parts_are : (number file : ℤ) (n : ℕ) (given : List StoredPart) → AreNumbered n given → AllByRecursion (λ row. is_of_file number file row ≡ true) (map stored_part given)
    → map (drop 1) (map stored_part given) ≡ map part_row (numbered (part_at number file) n (map octets_of_part given))
all_parts_are number file n [] h k = refl
all_parts_are number file n (r ∷ given) h k =
    let first : number_of_part r ≡ pos n = cc in
    let rest : AreNumbered (n + 1) given = cc in
    let of = of_file number file r k.0 in
    λ i. part_row (record { edition = of.0 i; file = of.1 i; number = first i; octets = octets_of_part r }) ∷ all_parts_are number file (n + 1) given rest k.1 i

pub file_whole : (db : Database) (number file : ℤ) (first last : List ℕ) → first ≡ [] → TakesAll stored_part TakesParts (PartsOf number file) db first last → HasFile db number file last
file_whole db number file first last none h =
    let rows = filter (is_of_file number file) (rows_of (codes "dictcat_part") db) in
    let begun : parts_of first ≡ [] = ap parts_of none ∙ parts_of_none in
    let parts : parts_of last ≡ map octets_of_part h.0 = h.2.parts ∙ ap (λ l. l ++ map octets_of_part h.0) begun in
    let numbers : AreNumbered 0 h.0 = subst (λ n. AreNumbered n h.0) (ap length begun) h.2.numbers in
    let each = all_same (λ row. is_of_file number file row ≡ true) rows (map stored_part h.0) h.1.same (all_passed (is_of_file number file) (rows_of (codes "dictcat_part") db)) in
    let are : map (drop 1) (map stored_part h.0) ≡ map part_row (file_parts number file last) = all_parts_are number file 0 h.0 numbers each ∙ ap (λ l. map part_row (numbered (part_at number file) 0 l)) (sym parts) in
    subst (λ l. IsPermutation l (file_rows number file db)) are (IsPermutation-map (drop 1) (map stored_part h.0) rows (IsPermutation-sym rows (map stored_part h.0) h.1.same))

-- ---- the parts of a file, in whatever rows

rises : (r s : Row) (w v : Part) → drop 1 r ≡ part_row w → drop 1 s ≡ part_row v → is_lt (by_columns (3 ∷ []) s r) ≡ false → w.number ≤ℤ v.number
rises r s w v e f h = one_le w.number v.number (sym (λ i. is_lt (by_numbers i)) ∙ h)
  where
    by_numbers : by_columns (3 ∷ []) s r ≡ ordering_then (value_cmp (Int v.number) (Int w.number)) Equal
    by_numbers = λ i. ordering_then (value_cmp ((behind_column s 2 ∙ ap (λ t. column t 2) f) i) ((behind_column r 2 ∙ ap (λ t. column t 2) e) i)) Equal

parts_rise : (number file : ℤ) (octets : List ℕ) → InOrder (λ (a b : Part). Below a.number b.number) (file_parts number file octets)
parts_rise number file octets = numbered_rise (part_at number file) (λ (p : Part). p.number) (λ n o. refl) 0 (parts_of octets)

-- rows that are read in the order of their numbers are those of the file's parts
pub file_read : (db : Database) (number file : ℤ) (octets : List ℕ) → HasFile db number file octets → (rows : List Row) → IsScannedToEnd (PartsOf number file) db rows → map (read part_codec) rows ≡ file_parts number file octets
file_read db number file octets h rows s =
    let all = filter (is_of_file number file) (rows_of (codes "dictcat_part") db) in
    let mine = records_in part_codec (file_parts number file octets) all h in
    let up = rows_order part_codec (3 ∷ []) (λ (a b : Part). a.number ≤ℤ b.number) rises rows (all_same (IsRow part_codec) all rows s.same mine.1) s.sorted in
    sym (ordered_once (λ (p : Part). p.number) (file_parts number file octets) (map (read part_codec) rows)
    (same_from (file_parts number file octets) (map (read part_codec) rows) (IsPermutation-trans (file_parts number file octets) (map (read part_codec) all) (map (read part_codec) rows) mine.0
    (IsPermutation-map (read part_codec) all rows s.same)))
    (parts_rise number file octets) up)

octets_back : (number file : ℤ) (n : ℕ) (os : List (List ℕ)) → map (λ (p : Part). p.octets) (numbered (part_at number file) n os) ≡ os
octets_back number file n [] = refl
octets_back number file n (o ∷ os) = ap (λ l. o ∷ l) (octets_back number file (n + 1) os)

-- a file of an edition has one content
pub file_told : (db : Database) (number file : ℤ) (x y : List ℕ) → HasFile db number file x → HasFile db number file y → x ≡ y
file_told db number file x y h k =
    let all = filter (is_of_file number file) (rows_of (codes "dictcat_part") db) in
    let one = (records_in part_codec (file_parts number file x) all h).0 in
    let other = (records_in part_codec (file_parts number file y) all k).0 in
    let both : IsPermutation (file_parts number file x) (file_parts number file y) =
    IsPermutation-trans (file_parts number file x) (map (read part_codec) all) (file_parts number file y) one (IsPermutation-sym (file_parts number file y) (map (read part_codec) all) other) in
    let same : file_parts number file x ≡ file_parts number file y =
    ordered_once (λ (p : Part). p.number) (file_parts number file x) (file_parts number file y) (same_from (file_parts number file x) (file_parts number file y) both) (parts_rise number file x)
    (order_weaker (λ (a b : Part). Below a.number b.number) (λ (a b : Part). a.number ≤ℤ b.number) (λ a b below. below.0) (file_parts number file y) (parts_rise number file y)) in
    let octets : parts_of x ≡ parts_of y = sym (octets_back number file 0 (parts_of x)) ∙ ap (map (λ (p : Part). p.octets)) same ∙ octets_back number file 0 (parts_of y) in
    sym (parts_join x) ∙ ap concat octets ∙ parts_join y

-- ---- the parts of none

fronts : (number file : ℤ) (n : ℕ) (os : List (List ℕ)) (given : List StoredPart) (more : List Part) → numbered (part_at number file) n os ≡ map (λ (r : StoredPart). owned_part r.part) given ++ more
    → AreNumbered n given × (os ≡ map octets_of_part given ++ map (λ (p : Part). p.octets) more)
fronts number file n os [] more e = (refl, sym (octets_back number file n os) ∙ ap (map (λ (p : Part). p.octets)) e)
fronts number file n [] (r ∷ given) more e = absurd (cc)
fronts number file n (o ∷ os) (r ∷ given) more e =
    let first : part_at number file n o ≡ owned_part r.part = cc in
    let rest : numbered (part_at number file) (n + 1) os ≡ map (λ (r : StoredPart). owned_part r.part) given ++ more = cc in
    let later = fronts number file (n + 1) os given more rest in
    ((λ i. sym (ap (λ (p : Part). p.number) first) i ∷ later.0 i), (λ i. ap (λ (p : Part). p.octets) first i ∷ later.1 i))

pub file_wrong : (db : Database) (number file : ℤ) (first : List ℕ) → first ≡ [] → IsWrong stored_part part_columns RefusesParts (PartsOf number file) db first → HasNoFile db number file
file_wrong db number file first none (inl w) readable octets h =
    w.3 (last_holds (HasColumns part_columns) (filter (is_of_file number file) (rows_of (codes "dictcat_part") db)) (map stored_part w.0) w.2.0 w.1
    (all_filter (HasColumns part_columns) (is_of_file number file) (rows_of (codes "dictcat_part") db) readable) w.2.1.same)
file_wrong db number file first none (inr (given, front, refused)) readable octets h =
    let begun : parts_of first ≡ [] = ap parts_of none ∙ parts_of_none in
    let tail = map (read part_codec) front.0 in
    let whole : file_parts number file octets ≡ map (λ (r : StoredPart). owned_part r.part) given ++ tail =
    sym (file_read db number file octets h (map stored_part given ++ front.0) front.1) ∙ map-append (read part_codec) (map stored_part given) front.0 ∙ ap (λ l. l ++ tail) (read_stored part_codec given) in
    let it = fronts number file 0 (parts_of octets) given tail whole in
    refused (subst (λ n. AreNumbered n given) (ap length (sym begun)) it.0) octets (map (λ (p : Part). p.octets) tail) (it.1 ∙ ap (λ l. l ++ (map octets_of_part given ++ map (λ (p : Part). p.octets) tail)) (sym begun))
