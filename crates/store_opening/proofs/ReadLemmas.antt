-- The editions of one number more were read.
use Rattle.std.proofs.Common.{◌≡◌, ℕ, zero, suc, ◌<◌, ◌+◌, ℤ, pos, Bool, true, false, ◌||◌, ◌&&◌, List, [], ◌∷◌, ◌++◌, map, drop, take, filter, length, get_or, codes, inl, inr, refl, sym, ap, subst, ◌∙◌, arith, append-nil}
use Rattle.std.specs.Prelude.{flat_map}
use Rattle.std.specs.List.{AllByRecursion, list_any}
use Rattle.std.specs.List.Sorted.{IsPermutation}
use Rattle.std.proofs.lemmas.Bool.{and_parts, cases_Bool, false_from_ne_true}
use Rattle.std.proofs.lemmas.List.{map-append, take_more}
use Rattle.std.proofs.Math.Bool.{and-or_distrib_left, and-or_distrib_right}
use Rattle.std.proofs.lemmas.List.Elements.{filter-append}
use Rattle.dict_text.proofs.AllLemmas.{all_at}
use Rattle.std.proofs.lemmas.List.Sorted.{IsPermutation-refl, IsPermutation-map, IsPermutation-sym}
use Rattle.sqlite.specs.Effect.{Database}
use Rattle.sqlite.specs.Order.{Row, column}
use Rattle.store_tables.specs.Records as spec
use Rattle.store_tables.specs.Records.{header_of}
use Rattle.store_tables.specs.Effects.{rows_of, equals_number}
use Rattle.store_sql.specs.Encodings.{edition_row, stored_edition}
use Rattle.store_sql.specs.HeaderRecords.{header_row, stored_header}
use Rattle.store_sql.specs.ChosenParts.{is_of_file}
use Rattle.store_sql.specs.PartRecords.{part_row}
use Rattle.dict_catalogue.specs.Steps.{Catalogue}
use Rattle.store_rows.specs.Stored.{stored_index}
use Rattle.store_rows.specs.Tables.{Tables, same_number, editions_numbered, entries_of}
use Rattle.store_rows.specs.Versions.{Layout, Plain, Keyed, Parted, layout_of}
use Rattle.store_rows.specs.Stands.{has_number}
use Rattle.store_rows.specs.Taken.{with_edition, items_in}
use Rattle.store_rows.specs.Whole.{with_entries}
use Rattle.store_rows.specs.Order.{InOrder, is_of}
use Rattle.store_rows.specs.declared.reader.Reader.{Reader}
use Rattle.store_rows.proofs.StrayLemmas.{numbers_taken}
use Rattle.store_rows.proofs.TakenLemmas.{same_number_is, filter_passes_not}
use Rattle.store_holdings.specs.AllTables.{HasNoneOf}
use Rattle.store_holdings.specs.Files.{edition_parts, parts_under, all_parts, index_octets}
use Rattle.store_rows.specs.FileParts.{file_parts}
use Rattle.store_holdings.proofs.FileLemmas.{lines_back, turned}
use Rattle.store_holdings.proofs.MoreLemmas.{more}
use Rattle.store_sql.specs.Readings.{AreShownIn, editions, contents}
use Rattle.store_scans.specs.Census.{one_of, is_in_file, is_known_part, is_of_contents}
use Rattle.store_scans.specs.Entries.{looked_behind_rowid, entry_cells, HasEntries, HasEntryRows, HasIndexFile}
use Rattle.store_scans.specs.Files.{HasFile}
use Rattle.store_scans.proofs.NumberLemmas.{int_once}
use Rattle.store_opening.specs.Opens.{Keeping, AllGoOnFrom, HasRecord, HasRowsOf, CanReadOne, HasReadOne, CanRead, HasReadEditions}
use Rattle.store_opening.proofs.EntryLemmas.{none_shown, more_shown}
use Rattle.store_opening.proofs.PartLemmas.{both_no, one_more, one_apart, rows_join, parts_of}
use Rattle.store_opening.proofs.FitLemmas.{goes_entries, none_of, all_of}
use Rattle.store_opening.proofs.NoneLemmas.{kept, there, now_fits}
use Rattle.store_opening.proofs.ToldLemmas.{record_number, entries_number, entries_told}

-- ---- numbers

fresh : (numbers : List ℤ) (i : ℕ) (d : ℤ) → InOrder (λ a b. a ≡ b → ⊥) numbers → i < length numbers → is_of (take i numbers) (get_or numbers i d) ≡ false
fresh [] i d h lt = absurd (omega arith)
fresh (x ∷ numbers) zero d h lt = refl
fresh (x ∷ numbers) (suc i) d h lt =
    let n = get_or numbers i d in
    let below : i < length numbers = omega arith in
    let apart : same_number n x ≡ false = false_from_ne_true (same_number n x) (λ e. all_at (λ b. x ≡ b → ⊥) numbers i d h.0 below (sym (same_number_is n x e))) in
    ap (λ b. b || is_of (take i numbers) n) apart ∙ fresh numbers i d h.1 below

-- ---- nothing was read

none_passes : {X : Type 0} (xs : List X) → filter (λ _. false) xs ≡ []
none_passes [] = refl
none_passes (x ∷ xs) = none_passes xs

no_rows : (g : Row → Row) (xs : List Row) (fs : List Row) → fs ≡ [] → IsPermutation fs (map g (filter (λ _. false) xs))
no_rows g xs fs none = subst (IsPermutation fs) (none ∙ sym (ap (map g) (none_passes xs))) (IsPermutation-refl fs)

no_editions_read : (layout : Layout) (db : Database) (front : Tables) → front.editions ≡ [] → HasRowsOf (one_of []) db front (editions layout)
no_editions_read Parted db front none = no_rows (drop 1) (rows_of (codes "edition") db) _ (ap (map (λ (e : spec.EditionRecord). header_row (header_of e))) none)
no_editions_read layout db front none = no_rows (drop 1) (rows_of (codes "edition") db) _ (ap (map edition_row) none)

no_contents_read : (layout : Layout) (db : Database) (front : Tables) → front.editions ≡ [] → front.entries ≡ [] → HasRowsOf (is_of_contents layout []) db front (contents layout)
no_contents_read Parted db front one none = no_rows (drop 1) (rows_of (codes "dictcat_part") db) _ (ap (λ (es : List spec.EditionRecord). map part_row (flat_map (edition_parts front.entries) es)) one)
no_contents_read layout db front one none = no_rows (looked_behind_rowid layout) (rows_of (codes "entry") db) _ (ap (map (entry_cells layout)) none)

pub read_none : (version : ℕ) (db : Database) (reader : Reader) (numbers : List ℤ) (front : Tables) → CanRead version db reader numbers front → HasReadEditions version db [] front front
read_none version db reader numbers front can = record {
  marks = refl;
  items = refl;
  members = refl;
  kept = refl;
  editions_are = no_editions_read (layout_of version) db front can.no_editions;
  contents_are = no_contents_read (layout_of version) db front can.no_editions can.no_entries;
  shown = subst (AreShownIn (layout_of version)) (sym can.no_entries) (none_shown (layout_of version));
  fits = can.fits;
  other_editions = (λ n e. ap (editions_numbered n) can.no_editions);
  other_entries = (λ n e. ap (entries_of n) can.no_entries);
}

-- ---- the next one

module _ (version : ℕ) (db : Database) (reader : Reader) (numbers : List ℤ) (front taken : Tables) (can : CanRead version db reader numbers front) (i : ℕ) (lt : i < length numbers)
    (done : HasReadEditions version db (take i numbers) front taken) where
  abbrev next : ℤ
  next = get_or numbers i (pos 0)

  is_new : is_of (take i numbers) next ≡ false
  is_new = fresh numbers i (pos 0) can.apart lt

  pub can_next : CanReadOne version db taken next
  can_next = record {
    fits = done.fits;
    known = (λ T M K. known T M (record { orphans = K.orphans; keeps = K.keeps; shown = K.shown; same_members = K.same_members ∙ done.members; stands = K.stands; records = K.records; beside = K.beside }));
    no_editions = done.other_editions next is_new;
    no_entries = done.other_entries next is_new;
  }
    where
      known : (T : Tables) (M : Catalogue) → Keeping version db front.members T M → has_number M.items next ≡ true
      known T M K = ap (λ ns. list_any (λ one. same_number (pos one) next) ns) (numbers_taken version reader front T M can.taken (can.fits T M K) K.stands)
          ∙ all_at (λ n. has_number (items_in reader) n ≡ true) numbers i (pos 0) can.known lt

-- ---- rows of one number more

apart_in : (a b c : Bool) → (a && b) ≡ false → ((a && c) && (b && c)) ≡ false
apart_in true b true e = (let both : b ≡ false = e in ap (λ d. d && true) both)
apart_in true b false e = refl
apart_in false b c e = refl

-- no part is of both files
one_file : (n : ℤ) (row : Row) → (is_of_file n (pos 0) row && is_of_file n (pos 1) row) ≡ false
one_file n row = both_no (is_of_file n (pos 0) row) (is_of_file n (pos 1) row) (λ p q.
    let index = (and_parts (equals_number 1 n row) (equals_number 2 (pos 0) row) p).1 in
    let text = (and_parts (equals_number 1 n row) (equals_number 2 (pos 1) row) q).1 in
    absurd (let no : pos 0 ≡ pos 1 = int_once (column row 2) (pos 0) (pos 1) index text in cc))

none_passed : {X : Type 0} (test : X → Bool) (xs : List X) → filter test xs ≡ [] → AllByRecursion (λ x. test x ≡ false) xs
none_passed test [] e = tt
none_passed test (x ∷ xs) e = elim (cases_Bool (test x)) [
  | inl passes ↦ absurd (let some = rw passes at e in cc)
  | inr fails ↦ (fails, none_passed test xs (rw fails at e))
]

module _ (db : Database) (ns : List ℤ) (n : ℤ) (new : is_of ns n ≡ false) (taken : Tables) (e : spec.EditionRecord) (es : List spec.EntryRecord) where
  abbrev whole : Tables
  whole = with_entries (with_edition taken e) es

  -- a table whose rows of this number are those of these records
  rows_more : {W : Type 0} (name : List ℕ) (looked : Row → Row) (encode : W → Row) (xs ys : List W) (picked : List Row) → IsPermutation (filter (equals_number 1 n) (rows_of name db)) picked → map looked picked ≡ map encode ys
      → IsPermutation (map encode xs) (map looked (filter (one_of ns) (rows_of name db))) → IsPermutation (map encode (xs ++ ys)) (map looked (filter (one_of (ns ++ n ∷ [])) (rows_of name db)))
  rows_more name looked encode xs ys picked same is done =
      let rows = rows_of name db in
      let one : IsPermutation (map encode ys) (map looked (filter (equals_number 1 n) rows)) =
      subst (λ l. IsPermutation l (map looked (filter (equals_number 1 n) rows))) is (IsPermutation-map looked picked (filter (equals_number 1 n) rows) (IsPermutation-sym (filter (equals_number 1 n) rows) picked same)) in
      subst (λ l. IsPermutation l (map looked (filter (one_of (ns ++ n ∷ [])) rows))) (sym (map-append encode xs ys))
      (rows_join looked (one_of ns) (equals_number 1 n) (one_of (ns ++ n ∷ [])) (one_more ns n) (one_apart ns n new) rows (map encode xs) (map encode ys) done one)

  editions_more : (layout : Layout) → HasRecord layout db n e → HasRowsOf (one_of ns) db taken (editions layout) → HasRowsOf (one_of (ns ++ n ∷ [])) db whole (editions layout)
  editions_more Parted (r, text) done =
      rows_more (codes "edition") (drop 1) (λ (x : spec.EditionRecord). header_row (header_of x)) taken.editions (e ∷ []) (stored_header r.0 ∷ []) r.1.same (ap (λ (h : spec.HeaderRecord). header_row h ∷ []) (sym r.2)) done
  editions_more layout r done =
      rows_more (codes "edition") (drop 1) edition_row taken.editions (e ∷ []) (stored_edition r.0 ∷ []) r.1.same (ap (λ (x : spec.EditionRecord). edition_row x ∷ []) (sym r.2)) done

  entries_more : (layout : Layout) → HasEntryRows layout db n es → IsPermutation (map (entry_cells layout) taken.entries) (map (looked_behind_rowid layout) (filter (one_of ns) (rows_of (codes "entry") db)))
      → IsPermutation (map (entry_cells layout) whole.entries) (map (looked_behind_rowid layout) (filter (one_of (ns ++ n ∷ [])) (rows_of (codes "entry") db)))
  entries_more layout h done = rows_more (codes "entry") (looked_behind_rowid layout) (entry_cells layout) taken.entries es h.0 h.1.same h.2 done

  -- ---- of parts

  abbrev its_part : Row → Bool
  its_part row = equals_number 1 n row && is_in_file row

  parts_more : HasIndexFile db n es → HasFile db n (pos 1) e.body → e.number ≡ n → editions_numbered n taken.editions ≡ [] → entries_of n taken.entries ≡ []
      → IsPermutation (map part_row (all_parts taken)) (map (drop 1) (filter (is_known_part ns) (rows_of (codes "dictcat_part") db)))
      → IsPermutation (map part_row (all_parts whole)) (map (drop 1) (filter (is_known_part (ns ++ n ∷ [])) (rows_of (codes "dictcat_part") db)))
  parts_more (octets, index, is) text at no_editions no_entries done =
      let rows = rows_of (codes "dictcat_part") db in
      let numbers = entries_number Parted db n es (octets, index, is) in
      let none : HasNoneOf e.number taken = (
        subst (λ m. AllByRecursion (λ (x : spec.EditionRecord). same_number x.number m ≡ false) taken.editions) (sym at) (none_passed (λ (x : spec.EditionRecord). same_number x.number n) taken.editions no_editions),
        subst (λ m. AllByRecursion (λ (x : spec.EntryRecord). same_number x.edition m ≡ false) taken.entries) (sym at) (none_passed (λ (x : spec.EntryRecord). same_number x.edition n) taken.entries no_entries),
      ) in
      let lines : index_octets (entries_of n es) ≡ octets = ap index_octets (all_of n es numbers ∙ is.entries) ∙ ap stored_index (lines_back is.edition 0 is.lines) ∙ sym is.octets_are in
      let its : edition_parts es e ≡ file_parts n (pos 0) octets ++ file_parts n (pos 1) e.body = ap (λ m. parts_under m (index_octets (entries_of m es)) e.body) at ∙ ap (λ o. parts_under n o e.body) lines in
      let all : all_parts whole ≡ all_parts taken ++ (file_parts n (pos 0) octets ++ file_parts n (pos 1) e.body) =
      more taken e es none (subst (λ m. AllByRecursion (λ (x : spec.EntryRecord). x.edition ≡ m) es) (sym at) numbers) ∙ ap (λ l. all_parts taken ++ l) its in
      let files = rows_join (drop 1) (is_of_file n (pos 0)) (is_of_file n (pos 1)) its_part (λ row. and-or_distrib_left (equals_number 1 n row) (equals_number 2 (pos 0) row) (equals_number 2 (pos 1) row)) (one_file n) rows
      (map part_row (file_parts n (pos 0) octets)) (map part_row (file_parts n (pos 1) e.body)) index text in
      subst (λ l. IsPermutation l (map (drop 1) (filter (is_known_part (ns ++ n ∷ [])) rows)))
      (sym (ap (map part_row) all ∙ map-append part_row (all_parts taken) _ ∙ ap (λ l. map part_row (all_parts taken) ++ l) (map-append part_row (file_parts n (pos 0) octets) (file_parts n (pos 1) e.body))))
      (rows_join (drop 1) (is_known_part ns) its_part (is_known_part (ns ++ n ∷ [])) (λ row. ap (λ b. b && is_in_file row) (one_more ns n row) ∙ and-or_distrib_right (one_of ns row) (equals_number 1 n row) (is_in_file row))
      (λ row. apart_in (one_of ns row) (equals_number 1 n row) (is_in_file row) (one_apart ns n new row)) rows
      (map part_row (all_parts taken)) (map part_row (file_parts n (pos 0) octets) ++ map part_row (file_parts n (pos 1) e.body)) done files)

  contents_more : (layout : Layout) → HasRecord layout db n e → HasEntries layout db n es → editions_numbered n taken.editions ≡ [] → entries_of n taken.entries ≡ [] → HasRowsOf (is_of_contents layout ns) db taken (contents layout)
      → HasRowsOf (is_of_contents layout (ns ++ n ∷ [])) db whole (contents layout)
  contents_more Parted r h none empty done = parts_more h r.1 (record_number Parted db n e r) none empty done
  contents_more layout r h none empty done = entries_more layout h done

-- the entries that were read are shown as the layout shows them
entries_shown : (layout : Layout) (db : Database) (n : ℤ) (es : List spec.EntryRecord) → HasEntries layout db n es → AreShownIn layout es
entries_shown Plain db n es h = h.3
entries_shown Keyed db n es h = h.3
entries_shown layout db n es h = tt

module _ (version : ℕ) (db : Database) (ns : List ℤ) (front taken after : Tables) (n : ℤ) (done : HasReadEditions version db ns front taken) (can : CanReadOne version db taken n)
    (one : HasReadOne (layout_of version) db n taken after) (new : is_of ns n ≡ false) where
  abbrev layout : Layout
  layout = layout_of version

  abbrev e : spec.EditionRecord
  e = one.edition

  abbrev es : List spec.EntryRecord
  es = one.given

  abbrev now : Tables
  now = with_entries (with_edition taken e) es

  numbered_so : e.number ≡ n
  numbered_so = record_number layout db n e one.record'

  entries_so : AllByRecursion (λ (x : spec.EntryRecord). x.edition ≡ n) es
  entries_so = entries_number layout db n es one.entries

  fits : AllGoOnFrom version db now
  fits T M K = goes_entries n (with_edition taken e) T (now_fits version db taken n can e one.record' T M K) es entries_so
      ([], entries_told db T M.items n (there version db taken n can T M K) layout (kept version db taken n can T M K) es one.entries ∙ sym (append-nil es)) can.no_entries

  whole_read : HasReadEditions version db (ns ++ n ∷ []) front now
  whole_read = record {
    marks = done.marks;
    items = done.items;
    members = done.members;
    kept = done.kept;
    editions_are = editions_more db ns n new taken e es layout one.record' done.editions_are;
    contents_are = contents_more db ns n new taken e es layout one.record' one.entries can.no_editions can.no_entries done.contents_are;
    shown = more_shown layout taken.entries es done.shown (entries_shown layout db n es one.entries);
    fits = fits;
    other_editions = (λ m k. let p = parts_of ns n m k in
        let apart : same_number e.number m ≡ false = ap (λ z. same_number z m) numbered_so ∙ turned m n p.1 in
        filter_passes_not (λ (x : spec.EditionRecord). same_number x.number m) taken.editions e apart ∙ done.other_editions m p.0);
    other_entries = (λ m k. let p = parts_of ns n m k in
        filter-append (λ (x : spec.EntryRecord). same_number x.edition m) taken.entries es ∙ (λ i. done.other_entries m p.0 i ++ none_of n m (turned m n p.1) es entries_so i));
  }

  read_more : HasReadEditions version db (ns ++ n ∷ []) front after
  read_more = subst (HasReadEditions version db (ns ++ n ∷ []) front) (sym one.after_is) whole_read

-- so those of the next number were
pub read_next : (version : ℕ) (db : Database) (reader : Reader) (numbers : List ℤ) (front taken after : Tables) (can : CanRead version db reader numbers front) (i : ℕ) (lt : i < length numbers)
    (done : HasReadEditions version db (take i numbers) front taken) → HasReadOne (layout_of version) db (get_or numbers i (pos 0)) taken after → HasReadEditions version db (take (i + 1) numbers) front after
read_next version db reader numbers front taken after can i lt done one =
    subst (λ ns. HasReadEditions version db ns front after) (sym (take_more numbers i (pos 0) lt))
    (read_more version db (take i numbers) front taken after (get_or numbers i (pos 0)) done (can_next version db reader numbers front taken can i lt done) one (is_new version db reader numbers front taken can i lt done))
