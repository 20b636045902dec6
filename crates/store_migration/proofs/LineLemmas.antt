-- The lines of entries, written one behind the other.
use Rattle.std.proofs.Common.{◌≡◌, ◌++◌, ◌∙◌, ◌+◌, ◌<◌, ◌==◌, ℕ, Bool, true, false, not, inl, inr, List, [], ◌∷◌, map, take, length, get_or, arith, refl, sym, ap, subst, append-nil}
use lib.Dec.{T}
use lib.IntN.{nat_abs}
use lib.Signed.{non_neg}
use mir.Syntax.{w64}
use mir.Val.{Fits}
use Rattle.std.specs.Prelude.{flat_map, MatchBool, ◌^◌, ℤ, pos, negsuc}
use Rattle.std.specs.List.{list_any}
use Rattle.std.proofs.lemmas.Bool.{false≢true, cases_Bool}
use Rattle.std.proofs.lemmas.List.{take_more, map-append, length-map, get_or-map}
use Rattle.std.proofs.lemmas.Grind.{flat_map-append}
use Rattle.dict_text.proofs.AllLemmas.{all_at}
use Rattle.dict_index.specs.Cuts.{HasNo}
use Rattle.dict_index.specs.Line.{Line}
use Rattle.store_holdings.specs.Files.{entry_line, index_octets}
use Rattle.store_rows.specs.FileParts.{natural}
use Rattle.store_rows.specs.Stored.{IsColumn, IsStorable, saying, stored_line}
use Rattle.store_rows.proofs.TakenLemmas.{nat_same, nat_itself}
use Rattle.store_sql.specs.declared.records.ReadError.{ReadError}
use Rattle.store_sql.specs.declared.records.ReadError.TheVariants.{NoRecord, Store}
use Rattle.store_migration.specs.MigrationParts.{FailsToWriteIndex}
use Rattle.store_migration.specs.Steps.{HasLine, HasSixDigits}
use Rattle.store_migration.proofs.KitLemmas.{EntryRecord}

-- the index of one entry more
pub line_more : (entries : List EntryRecord) (e : EntryRecord) → index_octets (entries ++ e ∷ []) ≡ index_octets entries ++ (stored_line (entry_line e) ++ 10 ∷ [])
line_more entries e =
    let f : Line → List ℕ = λ said. stored_line said ++ 10 ∷ [] in
    ap (flat_map f) (map-append entry_line entries (e ∷ [])) ∙ flat_map-append f (map entry_line entries) (entry_line e ∷ []) ∙ ap (λ l. index_octets entries ++ l) (append-nil (f (entry_line e)))

module _ {X : Type 0} (entry : X → EntryRecord) (all : List X) (i : ℕ) (d : X) (within : i < length all) where
  pub lines_next : index_octets (map entry (take (i + 1) all)) ≡ index_octets (map entry (take i all)) ++ (stored_line (entry_line (entry (get_or all i d))) ++ 10 ∷ [])
  lines_next =
      ap (λ l. index_octets (map entry l)) (take_more all i d within) ∙ ap index_octets (map-append entry (take i all) (get_or all i d ∷ [])) ∙ line_more (map entry (take i all)) (entry (get_or all i d))

-- one of them can't be written
pub write_later : {X : Type 0} (entry : X → EntryRecord) (all : List X) (i : ℕ) (d : X) → i < length all → (e : ReadError) → FailsToWriteIndex (entry (get_or all i d) ∷ []) e → FailsToWriteIndex (map entry all) e
write_later entry all i d within NoRecord h = λ lines.
    let inside : i < length (map entry all) = simp length-map within in
    h (subst HasLine (get_or-map entry all i d (entry d) within) (all_at HasLine (map entry all) i (entry d) lines inside), tt)
write_later entry all i d within (Store e) h = h

-- ---- what a line can say

some_has : (octet : ℕ) (xs : List ℕ) → list_any (λ x. x == octet) xs ≡ true → ¬ HasNo octet xs
some_has octet [] e none = false≢true e
some_has octet (x ∷ xs) e none = elim (cases_Bool (x == octet)) [ inl same ↦ none.0 (nat_same x octet same) | inr other ↦ some_has octet xs (rw other at e) none.1 ]

none_has : (octet : ℕ) (xs : List ℕ) → list_any (λ x. x == octet) xs ≡ false → HasNo octet xs
none_has octet [] e = tt
none_has octet (x ∷ xs) e = elim (cases_Bool (x == octet)) [
  | inl same ↦ absurd (false≢true (sym e ∙ rw same refl))
  | inr other ↦ ((λ is. false≢true (sym other ∙ nat_itself x octet is)), none_has octet xs (rw other at e))
]

pub decides_no : (b : Bool) (octet : ℕ) (octets : List ℕ) → b ≡ list_any (λ x. x == octet) octets → MatchBool (not b) (HasNo octet octets) (¬ HasNo octet octets)
decides_no true octet octets is = some_has octet octets (sym is)
decides_no false octet octets is = none_has octet octets (sym is)

-- ---- its numbers, cast

-- a cast to a number that isn't negative loses nothing
pub short_cast : (z : ℤ) → HasSixDigits z → T (non_neg z) × Fits w64 (nat_abs z)
short_cast (pos n) h = let low : n < 68719476736 = h in (tt, record { fits = omega arith })
short_cast (negsuc n) h = absurd h

short_same : (z : ℤ) → HasSixDigits z → nat_abs z ≡ natural z
short_same (pos n) h = refl
short_same (negsuc n) h = absurd h

short_below : (z : ℤ) → HasSixDigits z → natural z < 64 ^ 6
short_below (pos n) h = h
short_below (negsuc n) h = absurd h

module _ (headword shown : List ℕ) (start length a b : ℤ) (one : a ≡ start) (two : b ≡ length) (s : HasSixDigits start) (l : HasSixDigits length) where
  cast_start : nat_abs a ≡ natural start
  cast_start = ap nat_abs one ∙ short_same start s

  cast_length : nat_abs b ≡ natural length
  cast_length = ap nat_abs two ∙ short_same length l

  pub cast_said : saying headword (nat_abs a) (nat_abs b) shown ≡ saying headword (natural start) (natural length) shown
  cast_said = λ i. saying headword (cast_start i) (cast_length i) shown

  pub cast_storable : IsColumn headword → IsColumn shown → IsStorable (saying headword (nat_abs a) (nat_abs b) shown)
  cast_storable h k = record {
    headword = h;
    shown = k;
    offset = subst (λ n. n < 64 ^ 6) (sym cast_start) (short_below start s);
    size = subst (λ n. n < 64 ^ 6) (sym cast_length) (short_below length l);
  }

-- any entry
pub some_entry : EntryRecord
some_entry = record { edition = pos 0; ord = pos 0; headword = []; start = pos 0; length = pos 0; shown = [] }
