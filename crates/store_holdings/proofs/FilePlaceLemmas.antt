-- The parts of the two files of an edition, by their places.
use Rattle.std.proofs.Common.{◌≡◌, ℕ, ◌+◌, ◌-◌, ◌/◌, ◌%◌, min, ◌<◌, ◌≤◌, ℤ, pos, List, [], length, get_or, arith, sym, ap, subst, ◌∙◌}
use Rattle.std.proofs.lemmas.List.{length-append, get_or_append_left, get_or-append-add}
use Rattle.store_tables.specs.Records.{Part}
use Rattle.store_rows.specs.Parts.{parts_of, part_count}
use Rattle.store_rows.proofs.PartLemmas.{parts_length}
use Rattle.store_rows.proofs.ListLemmas.{numbered_at, numbered_length}
use Rattle.store_holdings.specs.Files.{parts_under}
use Rattle.store_rows.specs.FileParts.{part_at, file_parts}

-- ---- how many they are

rounded : (n : ℕ) → n / 16384 + min 1 (n % 16384) ≡ part_count n
rounded n = omega arith

pub part_count_is : (octets : List ℕ) → length octets / 16384 + min 1 (length octets % 16384) ≡ length (parts_of octets)
part_count_is octets = rounded (length octets) ∙ sym (parts_length octets)

file_length : (edition file : ℤ) (octets : List ℕ) → length (file_parts edition file octets) ≡ length (parts_of octets)
file_length edition file octets = numbered_length (part_at edition file) 0 (parts_of octets)

pub both_length : (edition : ℤ) (index text : List ℕ) → length (parts_under edition index text) ≡ length (parts_of index) + length (parts_of text)
both_length edition index text =
    length-append (file_parts edition (pos 0) index) (file_parts edition (pos 1) text) ∙ (λ i. file_length edition (pos 0) index i + file_length edition (pos 1) text i)

-- ---- each of them

file_at : (edition file : ℤ) (octets : List ℕ) (i : ℕ) (p : Part) → i < length (parts_of octets) → get_or (file_parts edition file octets) i p ≡ part_at edition file i (get_or (parts_of octets) i [])
file_at edition file octets i p lt =
    let same : 0 + i ≡ i = omega arith in
    numbered_at (part_at edition file) 0 (parts_of octets) i [] p lt ∙ ap (λ k. part_at edition file k (get_or (parts_of octets) i [])) same

-- those of the index come first
pub first_at : (edition : ℤ) (index text : List ℕ) (place : ℕ) (p : Part) → place < length (parts_of index) → get_or (parts_under edition index text) place p ≡ part_at edition (pos 0) place (get_or (parts_of index) place [])
first_at edition index text place p lt =
    let low : place < length (file_parts edition (pos 0) index) = subst (λ n. place < n) (sym (file_length edition (pos 0) index)) lt in
    get_or_append_left (file_parts edition (pos 0) index) (file_parts edition (pos 1) text) p place low ∙ file_at edition (pos 0) index place p lt

pub second_at : (edition : ℤ) (index text : List ℕ) (place : ℕ) (p : Part) → length (parts_of index) ≤ place → place < length (parts_under edition index text)
    → get_or (parts_under edition index text) place p ≡ part_at edition (pos 1) (place - length (parts_of index)) (get_or (parts_of text) (place - length (parts_of index)) [])
second_at edition index text place p behind lt =
    let n : ℕ = length (parts_of index) in
    let i : ℕ = place - n in
    let one : length (file_parts edition (pos 0) index) ≡ n = file_length edition (pos 0) index in
    let both : length (parts_under edition index text) ≡ n + length (parts_of text) = both_length edition index text in
    let less : i < length (parts_of text) = omega (arith, behind, lt, both) in
    let whole : length (file_parts edition (pos 0) index) + i ≡ place = omega (arith, one, behind) in
    ap (λ k. get_or (parts_under edition index text) k p) (sym whole) ∙ get_or-append-add (file_parts edition (pos 0) index) (file_parts edition (pos 1) text) i p ∙ file_at edition (pos 1) text i p less
