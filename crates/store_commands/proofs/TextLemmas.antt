-- Which parts are of an edition, and of its text.
use Rattle.std.proofs.Common.{◌≡◌, ◌≢◌, ℕ, ◌+◌, ◌&&◌, ◌||◌, ℤ, pos, Bool, true, false, cond, List, [], ◌∷◌, ◌++◌, map, drop, filter, not, codes, Some, None, refl, sym, ap, subst, ◌∙◌, append-nil}
use Rattle.std.specs.Prelude.{IfSome, IsPermutation, Option}
use Rattle.std.specs.List.{AllByRecursion}
use Rattle.std.proofs.lemmas.Bool.{false≢true, and_parts}
use Rattle.std.proofs.lemmas.List.Elements.{filter-append}
use Rattle.std.proofs.lemmas.List.Sorted.{IsPermutation-sym, IsPermutation-trans}
use Rattle.sqlite_trees.proofs.ListLemmas.{IsPermutation-filter}
use Rattle.sqlite.specs.Effect.{Database}
use Rattle.sqlite.specs.Order.{Row}
use Rattle.dict_text.proofs.AllLemmas.{all_append}
use Rattle.store_tables.specs.Effects.{equals_number, rows_of}
use Rattle.store_sql.specs.PartRecords.{part_row}
use Rattle.store_sql.specs.ChosenParts.{is_of_file}
use Rattle.store_tables.specs.Records.{Part}
use Rattle.store_rows.specs.Parts.{parts_of}
use Rattle.store_rows.specs.Stored.{stored_index}
use Rattle.store_rows.specs.Tables.{same_number}
use Rattle.store_rows.specs.After.{Installed, is_gone}
use Rattle.store_rows.specs.Written.{numbered}
use Rattle.store_rows.proofs.AfterLemmas.{filter_none}
use Rattle.store_rows.proofs.SelectionLemmas.{filter_filter}
use Rattle.store_rows.proofs.TakenLemmas.{same_number_is, same_itself, nat_same}
use Rattle.store_holdings.specs.Files.{parts_under, installed_parts}
use Rattle.store_rows.specs.FileParts.{part_at, file_parts}
use Rattle.store_holdings.specs.AllTables.{beside_installed}
use Rattle.store_sql.specs.Readings.{Keeps}
use Rattle.store_holdings.specs.HeldTexts.{text_rows, HoldsText}
use Rattle.store_commands.specs.KeptRecords.{FitsColumn}
use Rattle.store_commands.proofs.RowLemmas.{compared_values, filter_map}

-- ---- the parts of an edition have its number

numbered_of : (edition file : ℤ) (n : ℕ) (os : List (List ℕ)) → AllByRecursion (λ (p : Part). p.edition ≡ edition) (numbered (part_at edition file) n os)
numbered_of edition file n [] = tt
numbered_of edition file n (o ∷ os) = (refl, numbered_of edition file (n + 1) os)

pub parts_its : (edition : ℤ) (index text : List ℕ) → AllByRecursion (λ (p : Part). p.edition ≡ edition) (parts_under edition index text)
parts_its edition index text =
    all_append (λ (p : Part). p.edition ≡ edition) (file_parts edition (pos 0) index) (file_parts edition (pos 1) text) (numbered_of edition (pos 0) 0 (parts_of index)) (numbered_of edition (pos 1) 0 (parts_of text))

-- none passes a test that asks for another number
pub others_fail : (q : Part → Bool) (number other : ℤ) → ((p : Part) → q p ≡ true → p.edition ≡ number) → number ≢ other → (ps : List Part) → AllByRecursion (λ (p : Part). p.edition ≡ other) ps → AllByRecursion
    (λ (p : Part). q p ≡ false) ps
others_fail q number other asks apart [] h = tt
others_fail q number other asks apart (p ∷ ps) h = (fails (q p) refl, others_fail q number other asks apart ps h.1)
  where
    fails : (b : Bool) → q p ≡ b → q p ≡ false
    fails true e = absurd (apart (sym (asks p e) ∙ h.0))
    fails false e = e

-- ---- the parts of editions that stay

pub kept_test : (a q : Bool) → (q ≡ true → a ≡ true) → (a && q) ≡ q
kept_test true true h = refl
kept_test true false h = refl
kept_test false true h = absurd (false≢true (h refl))
kept_test false false h = refl

pub found_aside : (q : Part → Bool) (number : ℕ) (gone : List ℕ) → ((p : Part) → q p ≡ true → p.edition ≡ pos number) → is_gone gone (pos number) ≡ false → (ps : List Part) → filter q
    (filter (λ (p : Part). not (is_gone gone p.edition)) ps) ≡ filter q ps
found_aside q number gone asks stands ps =
    filter_filter q (λ (p : Part). not (is_gone gone p.edition)) q (λ p. kept_test (not (is_gone gone p.edition)) (q p) (λ its. ap (λ n. not (is_gone gone n)) (asks p its) ∙ ap not stands)) ps

pub number_apart : (m n : ℕ) → m ≢ n → pos m ≢ pos n
number_apart m n apart same = apart (nat_same m n (ap (same_number (pos m)) (sym same) ∙ same_itself (pos m)))

-- and none of an edition of another number that is installed
pub found_installed : (q : Part → Bool) (number : ℕ) → ((p : Part) → q p ≡ true → p.edition ≡ pos number) → (edition : Option Installed) → IfSome edition (λ (new : Installed). number ≢ new.number) → filter q (installed_parts edition) ≡ []
found_installed q number asks None apart = refl
found_installed q number asks (Some new) apart =
    filter_none q (installed_parts (Some new))
    (others_fail q (pos number) (pos new.number) asks (number_apart number new.number apart) (installed_parts (Some new)) (parts_its (pos new.number) (stored_index new.reading.lines) new.reading.text))

-- another number isn't the one that goes, and a number is itself
pub gone_apart : (number other : ℕ) → number ≢ other → is_gone (other ∷ []) (pos number) ≡ false
gone_apart number other apart = by (same_number (pos other) (pos number)) refl
  where
    by : (b : Bool) → same_number (pos other) (pos number) ≡ b → is_gone (other ∷ []) (pos number) ≡ false
    by true e = absurd (apart (sym (nat_same other number e)))
    by false e = ap (λ b. b || false) e

pub gone_itself : (number : ℕ) → is_gone (number ∷ []) (pos number) ≡ true
gone_itself number = ap (λ b. b || false) (same_itself (pos number))

-- what an edition has that is installed comes in place of no part of another number
pub found_beside : (q : Part → Bool) (number : ℕ) → ((p : Part) → q p ≡ true → p.edition ≡ pos number) → (edition : Option Installed) → IfSome edition (λ (new : Installed). number ≢ new.number) → (ps : List Part)
    → filter q (beside_installed edition ps) ≡ filter q ps
found_beside q number asks None apart ps = refl
found_beside q number asks (Some new) apart ps = found_aside q number (new.number ∷ []) asks (gone_apart number new.number apart) ps

pub left_out : (a q : Bool) → (q ≡ true → a ≡ false) → (a && q) ≡ false
left_out true true h = h refl
left_out true false h = refl
left_out false q h = refl

pub none_found : {X : Type 0} (xs : List X) → filter (λ (x : X). false) xs ≡ []
none_found [] = refl
none_found (x ∷ xs) = none_found xs

-- ---- the rows of a text

module _ (number : ℕ) where
  abbrev pub is_text : Row → Bool
  is_text row = equals_number 0 (pos number) row && equals_number 1 (pos 1) row

  abbrev pub of_text : Part → Bool
  of_text p = is_text (part_row p)

  text_next : (row : Row) → is_of_file (pos number) (pos 1) row ≡ is_text (drop 1 row)
  text_next [] = refl
  text_next (v ∷ row) = refl

  pub text_asks : (p : Part) → of_text p ≡ true → p.edition ≡ pos number
  text_asks p its = sym (same_number_is (pos number) p.edition (sym (compared_values (pos number) p.edition) ∙ (and_parts (equals_number 0 (pos number) (part_row p)) (equals_number 1 (pos 1) (part_row p)) its).0))

  pub text_under : (db : Database) (parts : List Part) → Keeps (codes "dictcat_part") part_row db parts → IsPermutation (map part_row (filter of_text parts)) (text_rows number db)
  text_under db parts k =
      subst (λ l. IsPermutation l (text_rows number db)) (sym (filter_map part_row is_text of_text (λ p. refl) parts))
      (subst (λ l. IsPermutation (filter is_text (map part_row parts)) l) (sym (filter_map (drop 1) is_text (is_of_file (pos number) (pos 1)) text_next (rows_of (codes "dictcat_part") db)))
      (IsPermutation-filter is_text (map part_row parts) (map (drop 1) (rows_of (codes "dictcat_part") db)) k.rows))

  -- a text stays where its edition doesn't come
  pub text_stays : (old new : Database) (parts : List Part) (edition : Option Installed) → Keeps (codes "dictcat_part") part_row old parts
      → Keeps (codes "dictcat_part") part_row new (beside_installed edition parts ++ installed_parts edition)
      → IfSome edition (λ (new : Installed). number ≢ new.number) → IsPermutation (text_rows number old) (text_rows number new)
  text_stays old new parts edition before after apart =
      let rest : List Part = beside_installed edition parts in
      let same : filter of_text (rest ++ installed_parts edition) ≡ filter of_text parts =
      filter-append of_text rest (installed_parts edition) ∙ ap (λ l. filter of_text rest ++ l) (found_installed of_text number text_asks edition apart) ∙ append-nil (filter of_text rest)
      ∙ found_beside of_text number text_asks edition apart parts in
      IsPermutation-trans (text_rows number old) (map part_row (filter of_text parts)) (text_rows number new) (IsPermutation-sym (map part_row (filter of_text parts)) (text_rows number old) (text_under old parts before))
      (subst (λ l. IsPermutation (map part_row l) (text_rows number new)) same (text_under new (rest ++ installed_parts edition) after))

  -- ---- the text that is installed

  first_fail : (n : ℕ) (os : List (List ℕ)) → AllByRecursion (λ (p : Part). of_text p ≡ false) (numbered (part_at (pos number) (pos 0)) n os)
  first_fail n [] = tt
  first_fail n (o ∷ os) = (no_text (equals_number 0 (pos number) (part_row (part_at (pos number) (pos 0) n o))) ∙ refl, first_fail (n + 1) os)
    where
      no_text : (b : Bool) → (b && equals_number 1 (pos 1) (part_row (part_at (pos number) (pos 0) n o))) ≡ false
      no_text true = compared_values (pos 1) (pos 0)
      no_text false = refl

  itself : (n : ℕ) (o : List ℕ) → of_text (part_at (pos number) (pos 1) n o) ≡ true
  itself n o =
      ap (λ b. b && equals_number 1 (pos 1) (part_row (part_at (pos number) (pos 1) n o))) (compared_values (pos number) (pos number) ∙ same_itself (pos number)) ∙ (compared_values (pos 1) (pos 1) ∙ same_itself (pos 1))

  second_pass : (n : ℕ) (os : List (List ℕ)) → filter of_text (numbered (part_at (pos number) (pos 1)) n os) ≡ numbered (part_at (pos number) (pos 1)) n os
  second_pass n [] = refl
  second_pass n (o ∷ os) =
      ap (λ b. cond b (part_at (pos number) (pos 1) n o ∷ filter of_text (numbered (part_at (pos number) (pos 1)) (n + 1) os)) (filter of_text (numbered (part_at (pos number) (pos 1)) (n + 1) os))) (itself n o)
      ∙ ap (λ l. part_at (pos number) (pos 1) n o ∷ l) (second_pass (n + 1) os)

  own_text : (index text : List ℕ) → filter of_text (parts_under (pos number) index text) ≡ file_parts (pos number) (pos 1) text
  own_text index text =
      filter-append of_text (file_parts (pos number) (pos 0) index) (file_parts (pos number) (pos 1) text)
      ∙ (λ i. filter_none of_text (file_parts (pos number) (pos 0) index) (first_fail 0 (parts_of index)) i ++ second_pass 0 (parts_of text) i)

  -- none is left of what stood under the number
  none_left : (parts : List Part) → filter of_text (filter (λ (p : Part). not (is_gone (number ∷ []) p.edition)) parts) ≡ []
  none_left parts =
      filter_filter of_text (λ (p : Part). not (is_gone (number ∷ []) p.edition)) (λ (p : Part). false)
      (λ p. left_out (not (is_gone (number ∷ []) p.edition)) (of_text p) (λ its. ap (λ n. not (is_gone (number ∷ []) n)) (text_asks p its) ∙ ap not (gone_itself number))) parts
      ∙ none_found parts

  pub text_there : (db : Database) (parts : List Part) (new : Installed) → new.number ≡ number → FitsColumn number
      → Keeps (codes "dictcat_part") part_row db (beside_installed (Some new) parts ++ installed_parts (Some new)) → HoldsText db number new.reading.text
  text_there db parts new is few k =
      let rest : List Part = beside_installed (Some new) parts in
      let front : filter of_text rest ≡ [] = ap (λ n. filter of_text (filter (λ (p : Part). not (is_gone (n ∷ []) p.edition)) parts)) is ∙ none_left parts in
      let same : filter of_text (rest ++ installed_parts (Some new)) ≡ file_parts (pos number) (pos 1) new.reading.text =
      filter-append of_text rest (installed_parts (Some new)) ∙ ap (λ l. l ++ filter of_text (installed_parts (Some new))) front
      ∙ subst (λ n. filter of_text (parts_under (pos n) (stored_index new.reading.lines) new.reading.text) ≡ file_parts (pos number) (pos 1) new.reading.text) (sym is) (own_text (stored_index new.reading.lines) new.reading.text) in
      record { few = few; rows = subst (λ l. IsPermutation (map part_row l) (text_rows number db)) same (text_under db (rest ++ installed_parts (Some new)) k) }
