-- Indexes under numbers, as editions are read, and of the catalogue that a database holds.
use Rattle.std.proofs.Common.{◌≡◌, ℕ, pos, ◌+◌, ◌<◌, Bool, true, false, nat_eq, cond, List, [], ◌∷◌, ◌++◌, map, take, length, get_or, Some, refl, sym, ap, subst, ◌∙◌}
use Rattle.std.specs.Prelude.{flat_map}
use Rattle.std.specs.List.{AllByRecursion}
use Rattle.std.proofs.lemmas.Bool.{eqb-true, eq-eqb}
use Rattle.std.proofs.lemmas.List.{take_more}
use Rattle.sqlite.specs.Effect.{Database}
use Rattle.dict_text.proofs.AllLemmas.{all_push, all_weaker, all_append_parts}
use Rattle.store_tables.specs.Records.{EntryRecord}
use Rattle.dict_index.specs.Line.{Line}
use Rattle.dict_index.specs.Edition.{Edition}
use Rattle.dict_catalogue.specs.Items.{Stored, Item, name_of, editions_of, numbers_of, edition_numbers}
use Rattle.dict_catalogue.specs.Steps.{Catalogue, summary_of}
use Rattle.dict_catalogue.specs.Tests.{Holdings}
use Rattle.store_rows.specs.Tables.{entries_of}
use Rattle.store_rows.specs.Stands.{HoldsEdition, HoldsEditions, has_number}
use Rattle.store_rows.specs.Versions.{Layout, layout_of}
use Rattle.store_rows.specs.Written.{numbered, entry_record}
use Rattle.store_rows.proofs.OrderLemmas.{all_with}
use Rattle.store_rows.proofs.LawfulLemmas.{numbers_as}
use Rattle.store_scans.proofs.RowidLemmas.{all_of_map}
use Rattle.store_search.specs.Entries.{Indexed, entry_of}
use Rattle.store_holdings.specs.Indexes.{entries_under}
use Rattle.store_holdings.specs.Holds.{Holds}
use Rattle.store_holdings.proofs.ReadableLemmas.{held_readable}
use Rattle.store_scans.specs.Entries.{HasEntries}
use Rattle.store_scans.specs.Indexing.{indexed_of}
use Rattle.store_opening.specs.Indexed.{HasIndex, IsHeldIndexed, HasPut, HasRowsIndexed, HaveRowsIndexed}
use Rattle.store_opening.specs.Opens.{Keeping}
use Rattle.store_opening.proofs.ToldLemmas.{kept_as, find, entries_told}
use Rattle.store_opening.proofs.WrongLemmas.{each_known}

-- ---- one number more

module _ (layout : Layout) (db : Database) (n : ℕ) (given : List EntryRecord) (old new : List (ℕ × List Indexed)) (put : HasPut n (map indexed_of given) old new) (entries : HasEntries layout db (pos n) given) where
  fresh : HasRowsIndexed layout db new n
  fresh = record { given = given; entries = entries; stands = put n ∙ ap (λ b. cond b (Some (map indexed_of given)) (entries_under n old)) (eq-eqb n n refl) }

  still : (m : ℕ) (b : Bool) → nat_eq n m ≡ b → HasRowsIndexed layout db old m → HasRowsIndexed layout db new m
  still m true e h = subst (HasRowsIndexed layout db new) (eqb-true n m e) fresh
  still m false e h = record { given = h.given; entries = h.entries; stands = put m ∙ ap (λ b. cond b (Some (map indexed_of given)) (entries_under m old)) e ∙ h.stands }

  pub with_number : (ms : List ℕ) → HaveRowsIndexed layout db ms old → HaveRowsIndexed layout db (ms ++ n ∷ []) new
  with_number ms h = all_push (HasRowsIndexed layout db new) ms n (all_weaker (HasRowsIndexed layout db old) (HasRowsIndexed layout db new) (λ m. still m (nat_eq n m) refl) ms h) fresh

pub next_indexed : (layout : Layout) (db : Database) (ns : List ℕ) (i : ℕ) (given : List EntryRecord) (index : List Indexed) (old new : List (ℕ × List Indexed)) → i < length ns → HaveRowsIndexed layout db (take i ns) old
    → HasEntries layout db (pos (get_or ns i 0)) given → index ≡ map indexed_of given → HasPut (get_or ns i 0) index old new → HaveRowsIndexed layout db (take (i + 1) ns) new
next_indexed layout db ns i given index old new lt before entries is put =
    subst (λ ms. HaveRowsIndexed layout db ms new) (sym (take_more ns i 0 lt)) (with_number layout db (get_or ns i 0) given old new (subst (λ l. HasPut (get_or ns i 0) l old new) is put) entries (take i ns) before)

-- ---- the numbers of a summary

pub numbers_summed : (M : Catalogue) (holdings : Holdings (List ℕ)) → summary_of M ≡ holdings → edition_numbers M.items ≡ edition_numbers holdings.items
numbers_summed M holdings is = sym (numbers_as (λ (edition : Edition). edition.title) M.items) ∙ ap (λ (h : Holdings (List ℕ)). edition_numbers h.items) is

-- ---- what a database holds

indexed_lines : (number place : ℕ) (lines : List Line) → map indexed_of (numbered (entry_record number) place lines) ≡ map entry_of lines
indexed_lines number place [] = refl
indexed_lines number place (line ∷ lines) = ap (λ l. entry_of line ∷ l) (indexed_lines number (place + 1) lines)

module _ (version : ℕ) (db : Database) (M : Catalogue) (h : Holds version db M) (indexes : List (ℕ × List Indexed)) where
  abbrev layout : Layout
  layout = layout_of version

  keeping : Keeping version db h.tables.members h.tables M
  keeping = record { orphans = h.orphans; keeps = h.keeps; shown = h.shown; same_members = refl; stands = h.stands; records = held_readable version db M h; beside = h.apart }

  -- under the number of an edition of the catalogue stands what its rows are
  abbrev IsThere : ℕ → Type 0
  IsThere n = HasRowsIndexed layout db indexes n × (has_number M.items (pos n) ≡ true)

  has_index : (owner : List ℕ) (stored : Stored Edition) → HoldsEdition h.tables owner stored → IsThere stored.number → HasIndex h.tables owner indexes stored
  has_index owner stored held (r, known) =
      let n = stored.number in
      let found = find version h.tables M (pos n) h.stands known in
      let all : entries_of (pos n) h.tables.entries ≡ r.given = entries_told db h.tables M.items (pos n) found layout (kept_as version db h.tables.members h.tables M keeping) r.given r.entries in
      let lines : r.given ≡ numbered (entry_record n) 0 held.reading.lines = sym all ∙ held.entries in
      record { held = held; stands = r.stands ∙ ap (λ l. Some (map indexed_of l)) lines ∙ ap (λ l. Some l) (indexed_lines n 0 held.reading.lines) }

  of_item : (owner : List ℕ) (editions : List (Stored Edition)) → AllByRecursion (HoldsEdition h.tables owner) editions → AllByRecursion IsThere (map (λ (s : Stored Edition). s.number) editions)
      → AllByRecursion (HasIndex h.tables owner indexes) editions
  of_item owner [] held rows = tt
  of_item owner (stored ∷ editions) held rows = (has_index owner stored held.0 rows.0, of_item owner editions held.1 rows.1)

  of_items : (items : List (Item Edition)) → AllByRecursion (HoldsEditions h.tables) items → AllByRecursion IsThere (edition_numbers items)
      → AllByRecursion (λ item. AllByRecursion (HasIndex h.tables (name_of item) indexes) (editions_of item)) items
  of_items [] held rows = tt
  of_items (item ∷ items) held rows =
      let parts = all_append_parts IsThere (numbers_of item) (flat_map numbers_of items) rows in
      (of_item (name_of item) (editions_of item) held.0 parts.0, of_items items held.1 parts.1)

  pub is_indexed : HaveRowsIndexed layout db (edition_numbers M.items) indexes → IsHeldIndexed version db M indexes
  is_indexed rows = record {
    holds = h;
    each = of_items M.items h.stands.editions
        (all_with (HasRowsIndexed layout db indexes) (λ n. has_number M.items (pos n) ≡ true) IsThere (λ n r known. (r, known)) (edition_numbers M.items) rows
        (all_of_map pos (λ n. has_number M.items n ≡ true) (λ n. has_number M.items (pos n) ≡ true) (λ n k. k) (edition_numbers M.items) (each_known (edition_numbers M.items))));
  }
