-- Tables that a database keeps and that stand for a catalogue go on from what was read.
use Rattle.std.proofs.Common.{◌≡◌, ℕ, ℤ, Bool, true, false, List, [], ◌∷◌, ◌++◌, map, drop, cond, codes, refl, sym, ap, subst, ◌∙◌, append-nil, suc}
use Rattle.std.specs.Prelude.{◌≤ℤ◌}
use Rattle.std.specs.List.{AllByRecursion}
use Rattle.std.specs.Ordering.{is_lt, ordering_then}
use Rattle.std.specs.declared.cmp.Ordering.TheVariants.{Equal}
use Rattle.std.proofs.lemmas.List.{map-append}
use Rattle.std.proofs.lemmas.List.Elements.{filter-append}
use Rattle.sqlite.specs.Effect.{Database}
use Rattle.sqlite.specs.Order.{Row, column, value_cmp}
use Rattle.sqlite.specs.declared.types.Value.TheVariants.{Int}
use Rattle.store_tables.specs.Records as spec
use Rattle.store_sql.specs.Encodings.{stored_mark, stored_item, stored_kept}
use Rattle.store_sql.specs.Reads.{IsListing, by_columns}
use Rattle.store_sql.specs.RowQueries.{IsFrontOfRows}
use Rattle.store_sql.specs.Streams.{scan_query}
use Rattle.store_sql.specs.Streams.Scan.{AllKept}
use Rattle.store_sql.proofs.ReadLemmas.{one_le}
use Rattle.dict_catalogue.specs.Steps.{Catalogue}
use Rattle.store_rows.specs.Tables.{Tables, same_number, editions_numbered, entries_of}
use Rattle.store_rows.specs.Written.{item_record}
use Rattle.store_rows.specs.Given.{marks_given, items_given, members_given, kept_given}
use Rattle.store_rows.specs.Taken.{BeginsWith, GoesOnFrom, StandsForNone, begun, with_edition}
use Rattle.store_rows.specs.Whole.{with_entries, with_replies}
use Rattle.store_rows.specs.Order.{InOrder}
use Rattle.store_rows.proofs.OrderLemmas.{Same, Below, same_from, ordered_once, one_once, numbered_rise, item_placed, kept_rise}
use Rattle.store_rows.proofs.TakenLemmas.{same_number_is, same_itself, filter_passes, filter_passes_not}
use Rattle.store_opening.specs.Opens.{Keeping, KeepsNone, AllGoOnFrom}
use Rattle.store_rows.specs.Versions.{layout_of}
use Rattle.store_holdings.proofs.ReadingLemmas.{marks_kept, items_kept, replies_kept}
use Rattle.store_scans.specs.Takers.{KeptRow}
use Rattle.store_scans.proofs.CodecLemmas.{Codec, read, read_stored, rows_order, listed_records, mark_codec, item_codec, kept_codec}
use Rattle.store_holdings.proofs.RowLemmas.{column_behind}
use Rattle.store_sql.specs.Readings.{Keeps}

-- ---- the entries of one number

pub none_of : (n m : ℤ) → same_number n m ≡ false → (es : List spec.EntryRecord) → AllByRecursion (λ (x : spec.EntryRecord). x.edition ≡ n) es → entries_of m es ≡ []
none_of n m k [] all = refl
none_of n m k (e ∷ es) all = ap (λ b. cond b (e ∷ entries_of m es) (entries_of m es)) (ap (λ z. same_number z m) all.0 ∙ k) ∙ none_of n m k es all.1

pub all_of : (n : ℤ) (es : List spec.EntryRecord) → AllByRecursion (λ (x : spec.EntryRecord). x.edition ≡ n) es → entries_of n es ≡ es
all_of n [] all = refl
all_of n (e ∷ es) all = ap (λ b. cond b (e ∷ entries_of n es) (entries_of n es)) (ap (λ z. same_number z n) all.0 ∙ same_itself n) ∙ ap (λ l. e ∷ l) (all_of n es all.1)

-- ---- records in the order of a column

-- those that a table keeps, no two of which share their number in it, are the rows in its order
listing_is : {R W : Type 0} (k : Codec R W) (name : List ℕ) (db : Database) (at : ℕ) (key : W → ℤ) → ((w : W) → column (k.encode w) at ≡ Int (key w)) → (ws : List W) → Keeps name k.encode db ws
    → InOrder (λ a b. Below (key a) (key b)) ws → (rows : List Row) → IsListing name (suc at ∷ []) db rows → ws ≡ map (read k) rows
listing_is {R} {W} k name db at key place ws keeps strict rows l =
    let found = listed_records k name db ws keeps rows l.same in
    let le : (r s : Row) (w v : W) → drop 1 r ≡ k.encode w → drop 1 s ≡ k.encode v → is_lt (by_columns (suc at ∷ []) s r) ≡ false → key w ≤ℤ key v =
    λ r s w v e f h. one_le (key w) (key v) (sym (λ i. is_lt (ordering_then (value_cmp ((column_behind s at (k.encode v) f ∙ place v) i) ((column_behind r at (k.encode w) e ∙ place w) i)) Equal)) ∙ h) in
    ordered_once key ws (map (read k) rows) (same_from ws (map (read k) rows) found.0) strict (rows_order k (suc at ∷ []) (λ a b. key a ≤ℤ key b) le rows found.1 l.sorted)

-- ---- what the tables keep of what was read

module _ (version : ℕ) (db : Database) (members : List spec.Member) (T : Tables) (M : Catalogue) (K : Keeping version db members T M) where
  pub marks_read : (rows : List Row) → IsListing (codes "mark") (1 ∷ []) db rows → T.marks ≡ map (read mark_codec) rows
  marks_read rows l =
      let found = (listed_records mark_codec (codes "mark") db T.marks (marks_kept (layout_of version) db K.orphans T K.keeps) rows l.same).0 in
      K.stands.marks ∙ sym (one_once _ _ (subst (λ xs. Same xs (map (read mark_codec) rows)) K.stands.marks (same_from T.marks (map (read mark_codec) rows) found)))

  pub items_read : (rows : List Row) → IsListing (codes "item") (1 ∷ []) db rows → T.items ≡ map (read item_codec) rows
  items_read =
      listing_is item_codec (codes "item") db 0 (λ (row : spec.ItemRecord). row.place) (λ w. refl) T.items (items_kept (layout_of version) db K.orphans T K.keeps)
      (subst (InOrder (λ (a b : spec.ItemRecord). Below a.place b.place)) (sym K.stands.items) (numbered_rise item_record (λ (row : spec.ItemRecord). row.place) item_placed 0 M.items))

  pub replies_read : (rows : List Row) → IsListing (codes "kept") (2 ∷ []) db rows → T.kept ≡ map (read kept_codec) rows
  replies_read =
      listing_is kept_codec (codes "kept") db 1 (λ (row : spec.KeptRecord). row.number) (λ w. refl) T.kept (replies_kept (layout_of version) db K.orphans T K.keeps)
      (subst (InOrder (λ (a b : spec.KeptRecord). Below a.number b.number)) (sym K.stands.kept) (kept_rise 1 M.kept K.stands.well_formed.numbered))

-- a front of the rows, and the others
pub front_read : {R W : Type 0} (k : Codec R W) (given : List R) (tail : List Row) → map (read k) (map k.stored given ++ tail) ≡ map k.owned given ++ map (read k) tail
front_read k given tail = map-append (read k) (map k.stored given) tail ∙ ap (λ l. l ++ map (read k) tail) (read_stored k given)

-- ---- the mark, the items and the members

pub fits_begun : (version : ℕ) (db : Database) (marks : List _) (items : List _) (members : List _) → IsListing (codes "mark") (1 ∷ []) db (map stored_mark marks) → IsListing (codes "item") (1 ∷ []) db (map stored_item items)
    → AllGoOnFrom version db (begun (marks_given marks) (items_given items) (members_given members))
fits_begun version db marks items members lm li T M K = record {
  marks = marks_read version db (members_given members) T M K (map stored_mark marks) lm ∙ read_stored mark_codec marks;
  items = items_read version db (members_given members) T M K (map stored_item items) li ∙ read_stored item_codec items;
  members = K.same_members;
  editions = (λ n. (editions_numbered n T.editions, refl));
  entries = (λ n. (entries_of n T.entries, refl));
  kept = (T.kept, refl);
}

-- ---- an edition

module _ (n : ℤ) (taken T : Tables) (goes : GoesOnFrom taken T) where
  pub goes_edition : (e : spec.EditionRecord) → e.number ≡ n → editions_numbered n T.editions ≡ e ∷ [] → editions_numbered n taken.editions ≡ [] → GoesOnFrom (with_edition taken e) T
  goes_edition e is only none = record { marks = goes.marks; items = goes.items; members = goes.members; editions = (λ m. step m (same_number e.number m) refl); entries = goes.entries; kept = goes.kept }
    where
      step : (m : ℤ) (b : Bool) → same_number e.number m ≡ b → BeginsWith (editions_numbered m T.editions) (editions_numbered m (taken.editions ++ e ∷ []))
      step m false k = subst (BeginsWith (editions_numbered m T.editions)) (sym (filter_passes_not (λ (x : spec.EditionRecord). same_number x.number m) taken.editions e k)) (goes.editions m)
      step m true k =
          let same : n ≡ m = sym is ∙ same_number_is e.number m k in
          let front : editions_numbered m (taken.editions ++ e ∷ []) ≡ e ∷ [] = filter_passes (λ (x : spec.EditionRecord). same_number x.number m) taken.editions e k
          ∙ ap (λ l. l ++ e ∷ []) (subst (λ z. editions_numbered z taken.editions ≡ []) same none) in
          ([], subst (λ z. editions_numbered z T.editions ≡ e ∷ []) same only ∙ ap (λ l. l ++ []) (sym front))

  -- the edition's entries, as far as they were read
  pub goes_entries : (given : List spec.EntryRecord) → AllByRecursion (λ (x : spec.EntryRecord). x.edition ≡ n) given → BeginsWith (entries_of n T.entries) given → entries_of n taken.entries ≡ [] → GoesOnFrom (with_entries taken given) T
  goes_entries given all begun none = record { marks = goes.marks; items = goes.items; members = goes.members; editions = goes.editions; entries = (λ m. step m (same_number n m) refl); kept = goes.kept }
    where
      step : (m : ℤ) (b : Bool) → same_number n m ≡ b → BeginsWith (entries_of m T.entries) (entries_of m (taken.entries ++ given))
      step m false k = subst (BeginsWith (entries_of m T.entries)) (sym (filter-append (λ (x : spec.EntryRecord). same_number x.edition m) taken.entries given ∙ ap (λ l. entries_of m taken.entries ++ l) (none_of n m k given all)
          ∙ append-nil (entries_of m taken.entries))) (goes.entries m)
      step m true k =
          let same : n ≡ m = same_number_is n m k in
          let now : entries_of n (taken.entries ++ given) ≡ given = filter-append (λ (x : spec.EntryRecord). same_number x.edition n) taken.entries given ∙ (λ i. none i ++ all_of n given all i) in
          subst (λ z. BeginsWith (entries_of z T.entries) (entries_of z (taken.entries ++ given))) same (begun.0, begun.1 ∙ ap (λ l. l ++ begun.0) (sym now))

-- ---- the kept replies

pub fits_replies : (version : ℕ) (db : Database) (taken : Tables) → AllGoOnFrom version db taken → taken.kept ≡ [] → (given : List KeptRow) → IsFrontOfRows (scan_query AllKept) db (map stored_kept given)
    → AllGoOnFrom version db (with_replies taken (kept_given given))
fits_replies version db taken fits none given front T M K =
    let whole = replies_read version db taken.members T M K (map stored_kept given ++ front.0) front.1 ∙ front_read kept_codec given front.0 in
    let goes = fits T M K in
    record {
      marks = goes.marks;
      items = goes.items;
      members = goes.members;
      editions = goes.editions;
      entries = goes.entries;
      kept =
          (map (read kept_codec) front.0, whole ∙ ap (λ l. (l ++ kept_given given) ++ map (read kept_codec) front.0) (sym none));
    }

-- ---- none

pub none_kept : (version : ℕ) (db : Database) (front : Tables) → AllGoOnFrom version db front → StandsForNone version front → KeepsNone version db front.members
none_kept version db front fits none T M K = none T M (fits T M K) K.stands
