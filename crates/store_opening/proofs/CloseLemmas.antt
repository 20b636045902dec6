-- All records were read.
use Rattle.std.proofs.Common.{◌≡◌, ℕ, ℤ, pos, Bool, true, false, List, [], ◌∷◌, ◌++◌, map, drop, filter, length, codes, inl, inr, refl, sym, ap, subst, ◌∙◌, arith, append-nil}
use Rattle.std.specs.Prelude.{IsTrue}
use Rattle.std.specs.List.{AllByRecursion}
use Rattle.std.specs.List.Sorted.{IsPermutation}
use Rattle.std.proofs.lemmas.Bool.{false≢true, false_from_ne_true}
use Rattle.std.proofs.lemmas.Grind.{flat_map-append}
use Rattle.std.proofs.lemmas.List.{map-append, length-append, length-map}
use Rattle.std.proofs.lemmas.List.Sorted.{IsPermutation-map, IsPermutation-sym, IsPermutation-trans}
use Rattle.sqlite.specs.Effect.{Database}
use Rattle.dict_text.proofs.AllLemmas.{all_filter, all_weaker}
use Rattle.store_tables.specs.Records as spec
use Rattle.store_tables.specs.Records.{header_of}
use Rattle.dict_index.specs.Line.{Line}
use Rattle.store_tables.specs.Effects.{rows_of}
use Rattle.store_sql.specs.Encodings.{mark_row, item_row, member_row, kept_row, stored_kept}
use Rattle.store_sql.specs.Reads.{IsListing}
use Rattle.store_sql.specs.HeaderRecords.{header_row}
use Rattle.dict_catalogue.specs.Items.{name_of as name_in, editions_of, is_known}
use Rattle.dict_catalogue.specs.Steps.{Catalogue}
use Rattle.dict_catalogue.specs.WellFormed.{total, IsEachOnce}
use Rattle.store_rows.specs.Stored.{stored_line, stored_index}
use Rattle.store_rows.specs.Given.{kept_given}
use Rattle.store_rows.specs.Stands.{Stands, HoldsMembers, HoldsEdition, HoldsEditions, has_number}
use Rattle.store_rows.specs.Tables.{Tables, same_number, editions_numbered, entries_of}
use Rattle.store_rows.specs.Taken.{BeginsWith, GoesOnFrom, HasTaken}
use Rattle.store_rows.specs.Versions.{Layout, Parted, layout_of}
use Rattle.store_rows.specs.Whole.{with_replies}
use Rattle.store_rows.specs.declared.reader.Reader.{Reader}
use Rattle.store_rows.proofs.StrayLemmas.{numbers_taken}
use Rattle.store_rows.proofs.OrderLemmas.{IsIn, Same, in_all, passed_in, same_from, same_passed}
use Rattle.store_rows.proofs.AfterLemmas.{filter_none}
use Rattle.store_rows.proofs.SelectionLemmas.{filter_whole}
use Rattle.store_rows.proofs.TakenLemmas.{holds_same, same_number_is, same_itself}
use Rattle.store_holdings.specs.AllTables.{with_derived}
use Rattle.store_holdings.specs.Files.{entry_line, index_octets}
use Rattle.store_holdings.specs.Holds.{AreOrphans}
use Rattle.store_sql.specs.Readings.{Keeps}
use Rattle.store_sql.specs.Readings.{AreShownIn, editions, contents, table_name_of}
use Rattle.store_holdings.proofs.OrphanLemmas.{beside_orphans}
use Rattle.store_holdings.proofs.ReadingLemmas.{map_twice, editions_kept, replies_kept}
use Rattle.store_scans.specs.Census.{one_of}
use Rattle.store_scans.specs.Entries.{looked_behind_rowid, entry_cells}
use Rattle.store_scans.specs.Files.{HasFile}
use Rattle.store_scans.specs.Takers.{KeptRow}
use Rattle.store_scans.proofs.CodecLemmas.{Codec, edition_codec, header_codec, kept_codec}
use Rattle.store_opening.specs.Opens.{Keeping, KeepsNone, AllGoOnFrom, HasBegun, HasNamed, HasRows, HasAllRows, AreAllKnown, ArePartRows, HasReplies, HasAll, may_have_orphans, numbers_in}
use Rattle.store_opening.proofs.EntryLemmas.{HasEntryTable, entries_rows, entries_both}
use Rattle.store_opening.proofs.FileLemmas.{has_index, headers_of, index_is}
use Rattle.store_opening.proofs.FitLemmas.{fits_replies}
use Rattle.store_opening.proofs.OrphanLemmas.{HasFound, are_orphans, none_before, has_found, editions_beside}
use Rattle.store_opening.proofs.ToldLemmas.{KeptAs, kept_as, find, headers_keep, its_record, only, index_told}
use Rattle.store_opening.proofs.WrongLemmas.{rows_listed}

-- ---- no strays, so what was read of the editions of the items is all

-- more replies change nothing of editions and of entries
editions_still : (layout : Layout) (db : Database) (o : List spec.Part) (t : Tables) (kept : List spec.KeptRecord) → HasRows db o t (editions layout) → HasRows db o (record t { kept = kept }) (editions layout)
editions_still Parted db o t kept h = h
editions_still layout db o t kept h = h

contents_still : (layout : Layout) (db : Database) (o : List spec.Part) (t : Tables) (kept : List spec.KeptRecord) → HasRows db o t (contents layout) → HasRows db o (record t { kept = kept }) (contents layout)
contents_still Parted db o t kept h = h
contents_still layout db o t kept h = h

module _ (version : ℕ) (db : Database) (reader : Reader) (front taken : Tables) (all : AreAllKnown (layout_of version) (may_have_orphans version) db (numbers_in reader)) (parts : ArePartRows (layout_of version) db)
    (named : HasNamed version db reader front taken) where
  abbrev layout : Layout
  layout = layout_of version

  abbrev numbers : List ℤ
  numbers = numbers_in reader

  found : HasFound layout (may_have_orphans version) db numbers taken
  found = has_found (may_have_orphans version) db numbers taken layout parts all.contents.known named.contents_are

  editions_all : HasRows db found.orphans taken (editions layout)
  editions_all =
      editions_beside layout db found.orphans taken
      (subst (λ rows. IsPermutation ((editions layout).rows (with_derived [] taken)) (map (λ row. drop 1 ((editions layout).looked row)) rows))
      (filter_whole (one_of numbers) (rows_of (table_name_of (editions layout)) db) all.editions.known) named.editions_are)

  module _ (begun : HasBegun version db front) (after : Tables) (replies : HasReplies db taken after) where
    none_yet : taken.kept ≡ []
    none_yet = named.kept ∙ begun.no_kept

    abbrev given : List KeptRow
    given = replies.given

    kept_is : taken.kept ++ kept_given given ≡ kept_given given
    kept_is = ap (λ l. l ++ kept_given given) none_yet

    all_read : HasAll version db reader front (with_replies taken (kept_given given))
    all_read =
        let marks = subst (λ ms. IsPermutation (map mark_row ms) (map (drop 1) (rows_of (codes "mark") db))) (sym named.marks) begun.marks in
        let items = subst (λ is. IsPermutation (map item_row is) (map (drop 1) (rows_of (codes "item") db))) (sym named.items) begun.items in
        let members = subst (λ ms. IsPermutation (map member_row ms) (map (drop 1) (rows_of (codes "member") db))) (sym named.members) begun.members in
        let replied = subst (λ ks. IsPermutation (map kept_row ks) (map (drop 1) (rows_of (codes "kept") db))) (sym kept_is) (rows_listed kept_codec (codes "kept") (2 ∷ []) db given replies.listing) in
        record {
          orphans = found.orphans;
          keeps = (marks, (items, (members, (replied, (editions_still layout db found.orphans taken _ editions_all, (contents_still layout db found.orphans taken _ found.contents_are, tt))))));
          unknown = found.unknown;
          later = (λ before. found.later (none_before version before));
          shown = named.shown;
          goes = record {
            marks = named.marks;
            items = named.items;
            members = named.members;
            editions = (λ n. (editions_numbered n taken.editions, sym (ap (λ l. editions_numbered n l ++ editions_numbered n taken.editions) begun.no_editions)));
            entries = (λ n. (entries_of n taken.entries, sym (ap (λ l. entries_of n l ++ entries_of n taken.entries) begun.no_entries)));
            kept = (taken.kept ++ kept_given given, sym (ap (λ l. l ++ (taken.kept ++ kept_given given)) begun.no_kept));
          };
          fits = fits_replies version db taken named.fits none_yet given ([], subst (λ rows. IsListing (codes "kept") (2 ∷ []) db rows) (sym (append-nil (map stored_kept given))) replies.listing);
          ids = subst (λ ks. IsEachOnce (map (λ (row : spec.KeptRecord). row.id) ks)) (sym kept_is) replies.ids;
          known = all;
        }

    pub has_all : HasAll version db reader front after
    has_all = subst (HasAll version db reader front) (sym replies.after_is) all_read

-- ---- tables that stand for a catalogue are those that were read

records_back : {R W : Type 0} (k : Codec R W) (name : List ℕ) (db : Database) (ws vs : List W) → Keeps name k.encode db ws → IsPermutation (map k.encode vs) (map (drop 1) (rows_of name db)) → IsPermutation ws vs
records_back k name db ws vs keeps rows =
    subst (λ xs. IsPermutation xs vs) (back ws) (subst (IsPermutation (map k.decode (map k.encode ws))) (back vs)
    (IsPermutation-map k.decode _ _ (IsPermutation-trans (map k.encode ws) (map (drop 1) (rows_of name db)) (map k.encode vs) keeps.rows (IsPermutation-sym _ _ rows))))
  where
    back : (ws : List _) → map k.decode (map k.encode ws) ≡ ws
    back [] = refl
    back (w ∷ ws) = λ i. k.undo w i ∷ back ws i

none_long : {X : Type 0} (xs : List X) → length xs ≡ 0 → xs ≡ []
none_long [] e = refl
none_long (x ∷ xs) e = absurd (omega (arith, e))

-- a list that goes on with as many as were there goes on with none
as_many : {X : Type 0} (xs ys : List X) → BeginsWith xs ys → length xs ≡ length ys → xs ≡ ys
as_many xs ys b e = b.1 ∙ ap (λ l. ys ++ l) (none_long b.0 (let size = ap length b.1 ∙ length-append ys b.0 in omega (arith, size, e))) ∙ append-nil ys

count_is : {X : Type 0} (xs : List X) → total (λ x. 1) xs ≡ length xs
count_is [] = refl
count_is (x ∷ xs) = let rest = count_is xs in omega (arith, rest)

same_long : {X : Type 0} (xs ys : List X) → Same xs ys → length xs ≡ length ys
same_long xs ys same = sym (count_is xs) ∙ same.counts (λ x. true) ∙ count_is ys

nothing_more : {X : Type 0} (xs ys : List X) → BeginsWith xs ys → Same xs ys → xs ≡ ys
nothing_more xs ys b same = as_many xs ys b (same_long xs ys same)

-- ---- lists of which each number has the same

each_in : {X : Type 0} (P : X → Type 0) (xs : List X) → ((x : X) → IsIn x xs → P x) → AllByRecursion P xs
each_in P [] h = tt
each_in P (x ∷ xs) h = (h x (inl refl), each_in P xs (λ y i. h y (inr i)))

-- what holds of all of one holds of all of the other
carried : {X : Type 0} (key : X → ℤ) (P : X → Type 0) (xs ys : List X) → ((n : ℤ) → filter (λ x. same_number (key x) n) xs ≡ filter (λ x. same_number (key x) n) ys) → AllByRecursion P xs → AllByRecursion P ys
carried {X} key P xs ys same all =
    each_in P ys (λ y i.
    in_all P y (filter (λ x. same_number (key x) (key y)) xs) (all_filter P (λ x. same_number (key x) (key y)) xs all)
    (subst (IsIn y) (sym (same (key y))) (passed_in (λ x. same_number (key x) (key y)) y ys (same_itself (key y)) i)))

-- an index has octets for each line
no_octets : (es : List spec.EntryRecord) → index_octets es ≡ [] → es ≡ []
no_octets [] e = refl
no_octets (x ∷ es) e = absurd (let size = ap length e in let line = length-append (stored_line (entry_line x) ++ 10 ∷ []) (index_octets es) in let own = length-append (stored_line (entry_line x)) (10 ∷ []) in omega (arith, size, line, own))

index_append : (xs ys : List spec.EntryRecord) → index_octets (xs ++ ys) ≡ index_octets xs ++ index_octets ys
index_append xs ys = ap stored_index (map-append entry_line xs ys) ∙ flat_map-append (λ (said : Line). stored_line said ++ 10 ∷ []) (map entry_line xs) (map entry_line ys)

-- so entries with the same index as the first of them are no more
same_index : (xs ys : List spec.EntryRecord) → BeginsWith xs ys → index_octets xs ≡ index_octets ys → xs ≡ ys
same_index xs ys b e =
    let whole : index_octets xs ≡ index_octets ys ++ index_octets b.0 = ap index_octets b.1 ∙ index_append ys b.0 in
    let size = ap length whole ∙ length-append (index_octets ys) (index_octets b.0) in
    let same = ap length e in
    b.1 ∙ ap (λ l. ys ++ l) (no_octets b.0 (none_long (index_octets b.0) (omega (arith, size, same)))) ∙ append-nil ys

-- ---- of editions and of entries

record AreSame (T after : Tables) : Type 0 where
  editions : (n : ℤ) → editions_numbered n T.editions ≡ editions_numbered n after.editions
  entries : (n : ℤ) → entries_of n T.entries ≡ entries_of n after.entries

module _ (version : ℕ) (db : Database) (T after : Tables) (M : Catalogue) (s : Stands version T M) (goes : GoesOnFrom after T) (o : List spec.Part) (beside : AreOrphans version M o) where
  table_same : (layout : Layout) → HasEntryTable layout → KeptAs layout db T → AreShownIn layout after.entries → Keeps (codes "edition") edition_codec.encode db T.editions
      → IsPermutation (map edition_codec.encode after.editions) (map (drop 1) (rows_of (codes "edition") db))
      → IsPermutation (map (entry_cells layout) after.entries) (map (looked_behind_rowid layout) (rows_of (codes "entry") db)) → AreSame T after
  table_same layout has k shown keeps rows cells =
      let editions = records_back edition_codec (codes "edition") db T.editions after.editions keeps rows in
      let entries = entries_both layout T.entries after.entries (map (looked_behind_rowid layout) (rows_of (codes "entry") db)) k.shown shown (entries_rows layout has db k.orphans T k.keeps.1.1.1.1.1.0) cells in
      record {
        editions = (λ n. nothing_more _ _ (goes.editions n) (same_passed (λ row. same_number row.number n) T.editions after.editions (same_from T.editions after.editions editions)));
        entries = (λ n. nothing_more _ _ (goes.entries n) (same_passed (λ row. same_number row.edition n) T.entries after.entries (same_from T.entries after.entries entries)));
      }

  parted_same : KeptAs Parted db T → HasRows db o after (editions Parted) → HasRows db o after (contents Parted) → AreSame T after
  parted_same k rows parts = record { editions = one; entries = (λ n. each n (has_number M.items n) refl) }
    where
      headers : IsPermutation (map header_of T.editions) (map header_of after.editions)
      headers = records_back header_codec (codes "edition") db (map header_of T.editions) (map header_of after.editions) (headers_keep db k.orphans T k.keeps)
          (subst (λ l. IsPermutation l (map (drop 1) (rows_of (codes "edition") db))) (sym (map_twice header_of header_row after.editions)) rows)

      one : (n : ℤ) → editions_numbered n T.editions ≡ editions_numbered n after.editions
      one n =
          let same : Same (map header_of (editions_numbered n T.editions)) (map header_of (editions_numbered n after.editions)) =
          subst (λ l. Same l (map header_of (editions_numbered n after.editions))) (headers_of n T.editions)
          (subst (Same (filter (λ (h : spec.HeaderRecord). same_number h.number n) (map header_of T.editions))) (headers_of n after.editions)
          (same_passed (λ (h : spec.HeaderRecord). same_number h.number n) (map header_of T.editions) (map header_of after.editions) (same_from (map header_of T.editions) (map header_of after.editions) headers))) in
          as_many (editions_numbered n T.editions) (editions_numbered n after.editions) (goes.editions n)
          (sym (length-map (editions_numbered n T.editions) header_of) ∙ same_long _ _ same ∙ length-map (editions_numbered n after.editions) header_of)

      unknown : (n : ℤ) → has_number M.items n ≡ false → (es : List spec.EntryRecord) → AllByRecursion (λ (x : spec.EntryRecord). IsTrue (has_number M.items x.edition)) es → entries_of n es ≡ []
      unknown n absent es all =
          filter_none (λ (x : spec.EntryRecord). same_number x.edition n) es
          (all_weaker (λ (x : spec.EntryRecord). IsTrue (has_number M.items x.edition)) (λ x. same_number x.edition n ≡ false)
          (λ x known. false_from_ne_true (same_number x.edition n) (λ e. false≢true (sym absent ∙ subst (λ m. has_number M.items m ≡ true) (same_number_is x.edition n e) known))) es all)

      nothing : (xs ys : List spec.EntryRecord) → BeginsWith xs ys → xs ≡ [] → ys ≡ []
      nothing xs [] b e = refl
      nothing xs (y ∷ ys) b e = absurd (let some : y ∷ (ys ++ b.0) ≡ [] = sym b.1 ∙ e in cc)

      each : (n : ℤ) (b : Bool) → has_number M.items n ≡ b → entries_of n T.entries ≡ entries_of n after.entries
      each n true known =
          let found = find version T M n s known in
          let index : HasFile db n (pos 0) (index_octets (entries_of n after.entries)) = has_index db o after parts n (its_record db T M.items n found) (sym (one n) ∙ only db T M.items n found) found.is
          (beside_orphans version M o after n beside known) in
          let told = index_told db T M.items n found k (index_octets (entries_of n after.entries)) index in
          let own : index_octets (entries_of n T.entries) ≡ stored_index found.holds.reading.lines =
          subst (λ m. index_octets (entries_of m T.entries) ≡ stored_index found.holds.reading.lines) found.is (index_is T found.stored.number found.holds.reading.lines found.holds.entries) in
          same_index (entries_of n T.entries) (entries_of n after.entries) (goes.entries n) (own ∙ sym told)
      each n false absent =
          let none = unknown n absent T.entries s.entries in
          none ∙ sym (nothing (entries_of n T.entries) (entries_of n after.entries) (goes.entries n) none)

  are_same : (layout : Layout) → KeptAs layout db T → AreShownIn layout after.entries → HasRows db o after (editions layout) → HasRows db o after (contents layout) → AreSame T after
  are_same Parted k shown rows cells = parted_same k rows cells
  are_same layout k shown rows cells = table_same layout tt k shown (editions_kept layout db k.orphans T refl k.keeps) rows cells

module _ (version : ℕ) (db : Database) (o : List spec.Part) (after : Tables) (keeps : HasAllRows version db o after)
    (beside : (T : Tables) (M : Catalogue) → Keeping version db after.members T M → AreOrphans version M o) (shown : AreShownIn (layout_of version) after.entries) (fits : AllGoOnFrom version db after) where
  stands_after : (T : Tables) (M : Catalogue) → Keeping version db after.members T M → Stands version after M
  stands_after T M K =
      let goes = fits T M K in
      let s = K.stands in
      let kept = records_back kept_codec (codes "kept") db T.kept after.kept (replies_kept (layout_of version) db K.orphans T K.keeps) keeps.1.1.1.0 in
      let it = are_same version db T after M s goes o (beside T M K) (layout_of version) (kept_as version db after.members T M K) shown keeps.1.1.1.1.0 keeps.1.1.1.1.1.0 in
      record {
        well_formed = s.well_formed;
        marks = sym goes.marks ∙ s.marks;
        items = sym goes.items ∙ s.items;
        members = subst (λ ms. AllByRecursion (HoldsMembers ms) M.items) goes.members s.members;
        owners = subst (AllByRecursion (λ (row : spec.Member). IsTrue (is_known M.items row.owner))) goes.members s.owners;
        editions = all_weaker (HoldsEditions T) (HoldsEditions after)
            (λ item g. all_weaker (HoldsEdition T (name_in item)) (HoldsEdition after (name_in item))
            (λ stored h. holds_same T after (name_in item) stored (record { editions = sym (it.editions (pos stored.number)); entries = sym (it.entries (pos stored.number)) }) h) (editions_of item) g) M.items s.editions;
        numbers = carried (λ (row : spec.EditionRecord). row.number) (λ row. IsTrue (has_number M.items row.number)) T.editions after.editions it.editions s.numbers;
        entries = carried (λ (row : spec.EntryRecord). row.edition) (λ row. IsTrue (has_number M.items row.edition)) T.entries after.entries it.entries s.entries;
        kept = sym (nothing_more T.kept after.kept goes.kept (same_from T.kept after.kept kept)) ∙ s.kept;
      }

  pub finish_wrong : ((M : Catalogue) → Stands version after M → ⊥) → KeepsNone version db after.members
  finish_wrong none T M K = none M (stands_after T M K)

-- so what was read, once it is found to stand for none
pub all_wrong : (version : ℕ) (db : Database) (reader : Reader) (front after : Tables) → HasTaken version reader front → HasBegun version db front → HasAll version db reader front after → ((M : Catalogue) → Stands version after M → ⊥)
    → KeepsNone version db after.members
all_wrong version db reader front after h b all none = finish_wrong version db all.orphans after all.keeps beside all.shown all.fits none
  where
    beside : (T : Tables) (M : Catalogue) → Keeping version db after.members T M → AreOrphans version M all.orphans
    beside T M K =
        let before : Keeping version db front.members T M = record {
          orphans = K.orphans;
          keeps = K.keeps;
          shown = K.shown;
          same_members = K.same_members ∙ all.goes.members;
          stands = K.stands;
          records = K.records;
          beside = K.beside;
        } in
        are_orphans version reader M all.orphans (numbers_taken version reader front T M h (b.fits T M before) K.stands) all.unknown all.later

-- what is read of a front, where the same is shown
pub read_then : (R : Database → Tables → Type 0) (version : ℕ) (last : Reader) (front : Tables) {mid old : Database} → mid ≡ old → (HasBegun version mid front → (after : Tables) × HasTaken version last after × R mid after)
    → HasBegun version old front → (after : Tables) × HasTaken version last after × R old after
read_then R version last front same read = subst (λ (d : Database). HasBegun version d front → (after : Tables) × HasTaken version last after × R d after) same read
