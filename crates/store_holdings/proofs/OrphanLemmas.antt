-- Parts of no edition beside those of editions.
use Rattle.std.proofs.Common.{◌≡◌, ◌⊎◌, inl, inr, ℕ, ℤ, pos, ◌+◌, Bool, true, false, ◌||◌, ◌==◌, List, [], ◌∷◌, ◌++◌, map, refl, ap, sym, subst, ◌∙◌, append_assoc, append-nil, Option, Some, None, arith}
use Rattle.std.specs.Prelude.{drop, filter, flat_map, not}
use Rattle.std.specs.List.{AllByRecursion, list_any}
use Rattle.std.specs.List.Sorted.{IsPermutation}
use Rattle.std.proofs.lemmas.Bool.{false≢true, not-true}
use Rattle.std.proofs.lemmas.List.Elements.{filter-append}
use Rattle.std.proofs.lemmas.List.Sorted.{IsPermutation-sym, IsPermutation-trans, IsPermutation-map, IsPermutation-append_left, IsPermutation-append_right, IsPermutation-filter_both}
use Rattle.dict_text.proofs.AllLemmas.{all_append, all_filter, all_flat_map, all_map, all_weaker}
use Rattle.sqlite.specs.Effect.{Database}
use Rattle.store_tables.specs.Records.{EditionRecord, Part}
use Rattle.dict_index.specs.Edition.{Edition as AnEdition}
use Rattle.dict_catalogue.specs.Commands.{Command}
use Rattle.dict_catalogue.specs.Items.{Stored, Item, name_of, numbers_of, editions_of, edition_numbers}
use Rattle.dict_catalogue.specs.Steps.{Catalogue, with_effect}
use Rattle.store_tables.specs.Effects.{rows_of}
use Rattle.store_sql.specs.PartRecords.{part_row}
use Rattle.store_rows.specs.Versions.{Layout, Plain, Keyed, Shown, Parted, known}
use Rattle.store_rows.specs.Written.{edition_record}
use Rattle.store_rows.specs.Stands.{Stands, has_number}
use Rattle.store_rows.specs.Tables.{Tables, same_number, entries_of}
use Rattle.store_rows.specs.After.{Installed, TableChange, IsTableChange, is_gone, tables_after}
use Rattle.store_rows.proofs.AfterLemmas.{IsOld, filter_none, stays}
use Rattle.store_rows.proofs.ChangeLemmas.{IsNewOf, AreOldOrNew, each_edition, each_among, old_each}
use Rattle.store_rows.proofs.OrderLemmas.{IsIn, in_all, in_passed, all_with, all_passed}
use Rattle.store_rows.proofs.TakenLemmas.{same_number_is}
use Rattle.store_holdings.specs.AllTables.{AllTables, with_derived, all_after, beside_installed, orphans_after, HasNewNumber}
use Rattle.store_holdings.specs.Files.{all_parts, edition_parts, index_octets, installed_parts}
use Rattle.store_holdings.specs.Holds.{AreOrphans}
use Rattle.store_sql.specs.Readings.{TableReading, KeepsRows, KeepsAll, marks, items as item_readings, members, kept_replies, editions, contents, table_name_of}
use Rattle.store_holdings.proofs.FileLemmas.{passes, flat_map_filtered, of_under, parts_after, turned}
use Rattle.store_rows.proofs.RiseLemmas.{any_holds}

pub no_orphans : (version : ℕ) (M : Catalogue) → AreOrphans version M []
no_orphans version M = record { apart = tt; later = λ before. refl }

-- ---- one number

pub orphans_apart : (version : ℕ) (M : Catalogue) (orphans : List Part) (number : ℤ) → AreOrphans version M orphans → has_number M.items number ≡ true → AllByRecursion (λ (p : Part). same_number p.edition number ≡ false) orphans
orphans_apart version M orphans number are known =
    all_weaker (λ (p : Part). has_number M.items p.edition ≡ false) (λ (p : Part). same_number p.edition number ≡ false) (λ p h. by p (same_number p.edition number) refl h) orphans are.apart
  where
    by : (p : Part) (b : Bool) → same_number p.edition number ≡ b → has_number M.items p.edition ≡ false → b ≡ false
    by p false e h = refl
    by p true e h = absurd (false≢true (sym h ∙ ap (λ n. has_number M.items n) (same_number_is p.edition number e) ∙ known))

pub beside_orphans : (version : ℕ) (M : Catalogue) (orphans : List Part) (t : Tables) (number : ℤ) → AreOrphans version M orphans → has_number M.items number ≡ true
    → filter (λ (p : Part). same_number p.edition number) (orphans ++ all_parts t) ≡ filter (λ (p : Part). same_number p.edition number) (all_parts t)
beside_orphans version M orphans t number are known =
    filter-append (λ (p : Part). same_number p.edition number) orphans (all_parts t)
    ∙ ap (λ l. l ++ filter (λ (p : Part). same_number p.edition number) (all_parts t)) (filter_none (λ (p : Part). same_number p.edition number) orphans (orphans_apart version M orphans number are known))

-- ---- the same parts in another order

-- a table of which the same rows are to be had
again : (db : Database) (a b : AllTables) (r : TableReading) → r.rows b ≡ r.rows a → KeepsRows r db a → KeepsRows r db b
again db a b r same k = record { rows = subst (λ rows. IsPermutation rows (map (λ row. drop 1 (r.looked row)) (rows_of (table_name_of r) db))) (sym same) k.rows; apart = k.apart }

module _ (db : Database) (a b : AllTables) (same : IsPermutation a.parts b.parts) where
  abbrev changed : AllTables
  changed = record a { parts = b.parts }

  editions_again : (layout : Layout) → KeepsRows (editions layout) db a → KeepsRows (editions layout) db changed
  editions_again Plain k = again db a changed (editions Plain) refl k
  editions_again Keyed k = again db a changed (editions Keyed) refl k
  editions_again Shown k = again db a changed (editions Shown) refl k
  editions_again Parted k = again db a changed (editions Parted) refl k

  contents_again : (layout : Layout) → KeepsRows (contents layout) db a → KeepsRows (contents layout) db changed
  contents_again Plain k = again db a changed (contents Plain) refl k
  contents_again Keyed k = again db a changed (contents Keyed) refl k
  contents_again Shown k = again db a changed (contents Shown) refl k
  contents_again Parted k = record { rows = IsPermutation-trans _ _ _ (IsPermutation-map part_row _ _ (IsPermutation-sym _ _ same)) k.rows; apart = k.apart }

  pub keeps_with : (layout : Layout) → b ≡ changed → KeepsAll layout db a → KeepsAll layout db b
  keeps_with layout is k =
      subst (KeepsAll layout db) (sym is) (
        again db a changed marks refl k.0,
        (
          again db a changed item_readings refl k.1.0,
          (
            again db a changed members refl k.1.1.0,
            (
              again db a changed kept_replies refl k.1.1.1.0,
              (editions_again layout k.1.1.1.1.0, (contents_again layout k.1.1.1.1.1.0, tt)),
            ),
          ),
        ),
      )

-- ---- a command

-- the parts of editions that were there have other numbers than the edition that is installed
others : (edition : Option Installed) (t : Tables) → HasNewNumber edition t → beside_installed edition (all_parts t) ≡ all_parts t
others None t h = refl
others (Some new) t h =
    sym (append-nil (filter stay (all_parts t)))
    ∙ sym (flat_map_filtered (edition_parts t.entries) (λ (e : EditionRecord). not (is_gone (new.number ∷ []) e.number)) stay
    (λ e. of_under (λ n. not (is_gone (new.number ∷ []) n)) e.number (index_octets (entries_of e.number t.entries)) e.body) t.editions [])
    ∙ ap (flat_map (edition_parts t.entries))
    (append-nil (filter (λ (e : EditionRecord). not (is_gone (new.number ∷ []) e.number)) t.editions) ∙ passes (λ (e : EditionRecord). not (is_gone (new.number ∷ []) e.number)) true t.editions (each t.editions h.0))
  where
    stay : Part → Bool
    stay row = not (is_gone (new.number ∷ []) row.edition)

    each : (es : List EditionRecord) → AllByRecursion (λ (row : EditionRecord). same_number row.number (pos new.number) ≡ false) es → AllByRecursion (λ (e : EditionRecord). not (is_gone (new.number ∷ []) e.number) ≡ true) es
    each es g =
        all_weaker (λ (row : EditionRecord). same_number row.number (pos new.number) ≡ false) (λ (e : EditionRecord). not (is_gone (new.number ∷ []) e.number) ≡ true)
        (λ e apart. ap (λ b. not (b || false)) (turned e.number (pos new.number) apart)) es g

beside_append : (edition : Option Installed) (xs ys : List Part) → beside_installed edition (xs ++ ys) ≡ beside_installed edition xs ++ beside_installed edition ys
beside_append None xs ys = refl
beside_append (Some new) xs ys = filter-append (λ (row : Part). not (is_gone (new.number ∷ []) row.edition)) xs ys

pub after_keeps : (version : ℕ) (change : TableChange) (orphans : List Part) (old : Tables) (db : Database) → HasNewNumber change.edition old → KeepsAll Parted db (all_after version change (with_derived orphans old))
    → KeepsAll Parted db (with_derived (orphans_after change orphans old) (tables_after version change old))
after_keeps version change orphans old db new k = keeps_with db (all_after version change (with_derived orphans old)) (with_derived (orphans_after change orphans old) (tables_after version change old)) same Parted refl k
  where
    beside : List Part
    beside = beside_installed change.edition orphans

    gone : List Part
    gone = filter (λ (p : Part). is_gone change.gone p.edition) (all_parts old)

    stay : List Part
    stay = filter (λ (p : Part). not (is_gone change.gone p.edition)) (all_parts old)

    came : List Part
    came = installed_parts change.edition

    left : beside_installed change.edition (orphans ++ all_parts old) ++ came ≡ beside ++ (all_parts old ++ came)
    left = ap (λ l. l ++ came) (beside_append change.edition orphans (all_parts old) ∙ ap (λ l. beside ++ l) (others change.edition old new)) ∙ append_assoc beside (all_parts old) came

    right : (beside ++ gone) ++ all_parts (tables_after version change old) ≡ beside ++ ((gone ++ stay) ++ came)
    right = ap (λ l. (beside ++ gone) ++ l) (parts_after change.gone change.edition old new) ∙ append_assoc beside gone (stay ++ came) ∙ ap (λ l. beside ++ l) (sym (append_assoc gone stay came))

    same : IsPermutation (beside_installed change.edition (orphans ++ all_parts old) ++ came) ((beside ++ gone) ++ all_parts (tables_after version change old))
    same =
        subst (λ l. IsPermutation l ((beside ++ gone) ++ all_parts (tables_after version change old))) (sym left)
        (subst (IsPermutation (beside ++ (all_parts old ++ came))) (sym right)
        (IsPermutation-append_right beside _ _ (IsPermutation-append_left came _ _
        (IsPermutation-filter_both (λ (p : Part). is_gone change.gone p.edition) (λ (p : Part). not (is_gone change.gone p.edition)) (λ p. refl) (all_parts old)))))

-- an edition that the catalogue has after a command was there, or it is the one that is installed; so neither has the number of an orphan
module _ (version : ℕ) (old : Tables) (M : Catalogue) (id : List ℕ) (command : Command AnEdition) (change : TableChange) (s : Stands version old M) (is : IsTableChange M id command change) where
  abbrev items : List (Item AnEdition)
  items = (with_effect M id command).items

  number_before : (owner : List ℕ) (stored : Stored AnEdition) → IsOld old M.installs owner stored → has_number M.items (pos stored.number) ≡ true
  number_before owner stored p =
      let row : EditionRecord = edition_record owner stored.number p.holds.reading in
      let here : IsIn row old.editions = (in_passed (λ (r : EditionRecord). same_number r.number (pos stored.number)) row old.editions (subst (IsIn row) (sym p.holds.row) (inl refl))).0 in
      in_all (λ (r : EditionRecord). has_number M.items r.number ≡ true) row old.editions s.numbers here

  -- none of a list of numbers is this one
  none_of : (z : ℤ) (numbers : List ℕ) → AllByRecursion (λ n. same_number (pos n) z ≡ true → ⊥) numbers → list_any (λ one. same_number (pos one) z) numbers ≡ false
  none_of z numbers h = by (list_any (λ one. same_number (pos one) z) numbers) refl
    where
      by : (b : Bool) → list_any (λ one. same_number (pos one) z) numbers ≡ b → b ≡ false
      by false e = refl
      by true e = absurd (any_holds (λ (one : ℕ). same_number (pos one) z) (λ n. same_number (pos n) z ≡ true → ⊥) ⊥ (λ n same never. never same) numbers e h)

  abbrev IsBeside : Option Installed → ℤ → Type 0
  IsBeside None z = Unit {0}
  IsBeside (Some new) z = is_gone (new.number ∷ []) z ≡ false

  fresh : (z : ℤ) (edition : Option Installed) (owner : List ℕ) (stored : Stored AnEdition) → IsBeside edition z → IsNewOf edition owner stored → same_number (pos stored.number) z ≡ true → ⊥
  fresh z None owner stored beside new same = new
  fresh z (Some one) owner stored beside new same = false≢true (sym beside ∙ ap (λ b. b || false) (ap (λ n. same_number (pos n) z) (sym new.1) ∙ same))

  apart : (z : ℤ) → has_number M.items z ≡ false → IsBeside change.edition z → (owner : List ℕ) (stored : Stored AnEdition)
      → IsOld old M.installs owner stored ⊎ IsNewOf change.edition owner stored → same_number (pos stored.number) z ≡ true → ⊥
  apart z none beside owner stored (inl p) same =
      false≢true (sym none ∙ ap (λ n. has_number M.items n) (sym (same_number_is (pos stored.number) z same)) ∙ number_before owner stored p)
  apart z none beside owner stored (inr new) same = fresh z change.edition owner stored beside new same

  number_after : (z : ℤ) → has_number M.items z ≡ false → IsBeside change.edition z → has_number items z ≡ false
  number_after z none beside =
      none_of z (edition_numbers items)
      (all_flat_map (λ n. same_number (pos n) z ≡ true → ⊥) numbers_of items
      (all_weaker (AreOldOrNew old M.installs change.edition) (λ item. AllByRecursion (λ n. same_number (pos n) z ≡ true → ⊥) (numbers_of item))
      (λ item each. all_map (λ stored. IsOld old M.installs (name_of item) stored ⊎ IsNewOf change.edition (name_of item) stored) (λ n. same_number (pos n) z ≡ true → ⊥) (λ (stored : Stored AnEdition). stored.number)
      (apart z none beside (name_of item)) (editions_of item) each) items
      (each_edition old M.installs (M.installs + 1) command change.edition M.items is.edition (old_each old M.installs M.items s.editions s.well_formed.edition_range))))

  -- the number of an edition that goes is none afterwards
  gone_after : (z : ℤ) → is_gone change.gone z ≡ true → has_number items z ≡ false
  gone_after z goes =
      none_of z (edition_numbers items)
      (all_weaker (λ n. list_any (λ one. one == n) (edition_numbers items) ≡ true) (λ n. same_number (pos n) z ≡ true → ⊥)
      (λ n there same. false≢true (sym (stays (edition_numbers M.items) (edition_numbers items) n there)
      ∙ ap (λ gone. is_gone gone (pos n)) (sym is.gone) ∙ ap (is_gone change.gone) (same_number_is (pos n) z same) ∙ goes))
      (edition_numbers items) (each_among (edition_numbers items)))

  still : (edition : Option Installed) (orphans : List Part) → change.edition ≡ edition → AllByRecursion (λ (p : Part). has_number M.items p.edition ≡ false) orphans
      → AllByRecursion (λ (p : Part). has_number items p.edition ≡ false) (beside_installed edition orphans)
  still None orphans e h =
      all_weaker (λ (p : Part). has_number M.items p.edition ≡ false) (λ (p : Part). has_number items p.edition ≡ false)
      (λ p none. number_after p.edition none (subst (λ one. IsBeside one p.edition) (sym e) tt)) orphans h
  still (Some new) orphans e h =
      all_with (λ (p : Part). has_number M.items p.edition ≡ false) (λ (p : Part). not (is_gone (new.number ∷ []) p.edition) ≡ true) (λ (p : Part). has_number items p.edition ≡ false)
      (λ p none beside. number_after p.edition none (subst (λ one. IsBeside one p.edition) (sym e) (not-true (is_gone (new.number ∷ []) p.edition) beside)))
      (filter (λ (p : Part). not (is_gone (new.number ∷ []) p.edition)) orphans)
      (all_filter (λ (p : Part). has_number M.items p.edition ≡ false) (λ (p : Part). not (is_gone (new.number ∷ []) p.edition)) orphans h)
      (all_passed (λ (p : Part). not (is_gone (new.number ∷ []) p.edition)) orphans)

  orphans_still : (orphans : List Part) → AreOrphans known M orphans → AreOrphans known (with_effect M id command) (orphans_after change orphans old)
  orphans_still orphans are = record {
    apart = all_append (λ (p : Part). has_number items p.edition ≡ false) (beside_installed change.edition orphans) (filter (λ (p : Part). is_gone change.gone p.edition) (all_parts old))
        (still change.edition orphans refl are.apart)
        (all_weaker (λ (p : Part). is_gone change.gone p.edition ≡ true) (λ (p : Part). has_number items p.edition ≡ false) (λ p goes. gone_after p.edition goes)
        (filter (λ (p : Part). is_gone change.gone p.edition) (all_parts old)) (all_passed (λ (p : Part). is_gone change.gone p.edition) (all_parts old)));
    later = λ before. absurd (omega (arith, before));
  }

pub after_orphans : (version : ℕ) (old : Tables) (M : Catalogue) (id : List ℕ) (command : Command AnEdition) (change : TableChange) (orphans : List Part) → Stands version old M → IsTableChange M id command change
    → AreOrphans known M orphans → AreOrphans known (with_effect M id command) (orphans_after change orphans old)
after_orphans version old M id command change orphans s is are = orphans_still version old M id command change s is orphans are
