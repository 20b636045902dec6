-- A database holds one catalogue at most, and under one version.
use Rattle.std.proofs.Common.{◌≡◌, ℕ, pos, List, [], ◌∷◌, ◌++◌, map, drop, codes, refl, sym, ap, subst, ◌∙◌, arith}
use Rattle.std.specs.List.{AllByRecursion}
use Rattle.std.specs.List.Sorted.{IsPermutation}
use Rattle.std.proofs.lemmas.List.Sorted.{IsPermutation-map, IsPermutation-sym, IsPermutation-trans}
use Rattle.sqlite.specs.Effect.{Database, IsDatabase}
use Rattle.sqlite.specs.Order.{Row}
use Rattle.sqlite.specs.Tree.{Trees}
use Rattle.sqlite_trees.specs.Objects.{catalog_tree}
use Rattle.sqlite_catalog.specs.Listing.{Lists}
use Rattle.sqlite_catalog.proofs.ReadLemmas.{lists_once}
use Rattle.dict_text.proofs.AllLemmas.{all_of}
use Rattle.store_tables.specs.Records as spec
use Rattle.store_tables.specs.Effects.{rows_of}
use Rattle.store_sql.specs.Encodings.{mark_row, item_row, member_row, edition_row, entry_row, kept_row}
use Rattle.store_sql.proofs.DecodeLemmas.{decode_mark, decode_item, decode_member, decode_edition, decode_entry, decode_kept, mark_back, item_back, member_back, edition_back, entry_back, decode_shown, shown_back, decode_header, header_back, decode_part, part_back, kept_back}
use Rattle.store_sql.specs.HeaderRecords.{header_row}
use Rattle.store_sql.specs.PartRecords.{part_row}
use Rattle.dict_catalogue.specs.Steps.{Catalogue}
use Rattle.store_rows.specs.Versions.{Layout, Plain, Keyed, Shown, Parted, layout_of, known, IsVersion}
use Rattle.store_rows.specs.Tables.{Tables}
use Rattle.store_rows.specs.Written.{mark_record}
use Rattle.store_rows.specs.Order.{HaveSame}
use Rattle.store_rows.proofs.OnceLemmas.{catalogue_same}
use Rattle.store_rows.proofs.OrderLemmas.{Same, same_from, one_once, ordered_stands}
use Rattle.store_holdings.specs.AllTables.{with_derived}
use Rattle.store_holdings.specs.Files.{all_parts}
use Rattle.store_holdings.specs.Told.{HaveSameFiles}
use Rattle.store_rows.proofs.RiseLemmas.{ordered}
use Rattle.store_holdings.proofs.TellLemmas.{told_once}
use Rattle.store_sql.specs.Readings.{KeepsAll, AreShownIn, shown_row}
use Rattle.store_holdings.specs.Holds.{Holds, IsHeld, IsLeft, IsLeftAs}
use Rattle.store_holdings.proofs.ReadingLemmas.{map_twice}

-- lists of records of one kind that are written as the same rows
pub both_where : {W : Type 0} (Q : W → Type 0) (encode : W → Row) (decode : Row → W) → ((w : W) → Q w → decode (encode w) ≡ w) → (xs ys : List W) (rows : List Row) → AllByRecursion Q xs → AllByRecursion Q ys
    → IsPermutation (map encode xs) rows → IsPermutation (map encode ys) rows → IsPermutation xs ys
both_where Q encode decode undo xs ys rows qx qy a b =
    let between = IsPermutation-trans (map encode xs) rows (map encode ys) a (IsPermutation-sym (map encode ys) rows b) in
    let read = IsPermutation-map decode (map encode xs) (map encode ys) between in
    subst (λ l. IsPermutation l ys) (back xs qx) (subst (IsPermutation (map decode (map encode xs))) (back ys qy) read)
  where
    back : (ws : List _) → AllByRecursion Q ws → map decode (map encode ws) ≡ ws
    back [] q = refl
    back (w ∷ ws) q = λ i. undo w q.0 i ∷ back ws q.1 i

-- lists of records that are written as the same rows
pub both : {W : Type 0} (encode : W → Row) (decode : Row → W) → ((w : W) → decode (encode w) ≡ w) → (xs ys : List W) (rows : List Row) → IsPermutation (map encode xs) rows → IsPermutation (map encode ys) rows → IsPermutation xs ys
both encode decode undo xs ys rows a b = both_where (λ _. Unit {0}) encode decode (λ w _. undo w) xs ys rows (all_of (λ _. Unit {0}) (λ _. tt) xs) (all_of (λ _. Unit {0}) (λ _. tt) ys) a b

-- ---- the same records

module _ (db : Database) (o p : List spec.Part) (T U : Tables) where
  -- entries whose headwords are shown, by rows without what is shown
  old_kept : (rows : List Row) → AllByRecursion spec.ShowsHeadword T.entries → AllByRecursion spec.ShowsHeadword U.entries
      → IsPermutation (map entry_row T.entries) rows → IsPermutation (map entry_row U.entries) rows → IsPermutation T.entries U.entries
  old_kept rows t u a b = both_where spec.ShowsHeadword entry_row decode_entry entry_back T.entries U.entries rows t u a b

  -- the records of a layout in which these are those of editions and entries
  same_kept : (layout : Layout) → IsPermutation T.editions U.editions → IsPermutation T.entries U.entries → KeepsAll layout db (with_derived o T) → KeepsAll layout db (with_derived p U) → HaveSame T U
  same_kept layout editions entries a b = record {
    marks = both mark_row decode_mark mark_back T.marks U.marks _ a.0.rows b.0.rows;
    items = both item_row decode_item item_back T.items U.items _ a.1.0.rows b.1.0.rows;
    members = both member_row decode_member member_back T.members U.members _ a.1.1.0.rows b.1.1.0.rows;
    editions = editions;
    entries = entries;
    kept = both kept_row decode_kept kept_back T.kept U.kept _ a.1.1.1.0.rows b.1.1.1.0.rows;
  }

  same_files : KeepsAll Parted db (with_derived o T) → KeepsAll Parted db (with_derived p U) → HaveSameFiles o p T U
  same_files a b = record {
    marks = both mark_row decode_mark mark_back T.marks U.marks _ a.0.rows b.0.rows;
    items = both item_row decode_item item_back T.items U.items _ a.1.0.rows b.1.0.rows;
    members = both member_row decode_member member_back T.members U.members _ a.1.1.0.rows b.1.1.0.rows;
    headers = (let rows = map (λ row. drop 1 row) (rows_of (codes "edition") db) in
        both header_row decode_header header_back (map spec.header_of T.editions) (map spec.header_of U.editions) rows
        (subst (λ l. IsPermutation l rows) (sym (map_twice spec.header_of header_row T.editions)) a.1.1.1.1.0.rows) (subst (λ l. IsPermutation l rows) (sym (map_twice spec.header_of header_row U.editions)) b.1.1.1.1.0.rows));
    parts = both part_row decode_part part_back (o ++ all_parts T) (p ++ all_parts U) _ a.1.1.1.1.1.0.rows b.1.1.1.1.1.0.rows;
    kept = both kept_row decode_kept kept_back T.kept U.kept _ a.1.1.1.0.rows b.1.1.1.0.rows;
  }

-- ---- one version

marks_version : (a b : List spec.Mark) (v w m n : ℕ) → IsPermutation a b → a ≡ mark_record v m ∷ [] → b ≡ mark_record w n ∷ [] → v ≡ w
marks_version a b v w m n same one two =
    let only : b ≡ mark_record v m ∷ [] = one_once (mark_record v m) b (subst (λ rows. Same rows b) one (same_from a b same)) in
    let marks : mark_record v m ∷ [] ≡ mark_record w n ∷ [] = sym only ∙ two in
    let mark : mark_record v m ≡ mark_record w n = cc in
    let number : pos v ≡ pos w = ap (λ (r : spec.Mark). r.version) mark in
    cc

pub one_version : (db : Database) (v w : ℕ) (M N : Catalogue) → Holds v db M → Holds w db N → v ≡ w
one_version db v w M N a b =
    marks_version a.tables.marks b.tables.marks v w M.installs N.installs (both mark_row decode_mark mark_back a.tables.marks b.tables.marks _ a.keeps.0.rows b.keeps.0.rows) a.stands.marks b.stands.marks

-- ---- one catalogue

pub same_version : (version : ℕ) (db : Database) (M N : Catalogue) → Holds version db M → Holds version db N → M ≡ N
same_version version db M N a b = by (layout_of version) a.shown b.shown a.keeps b.keeps
  where
    T : Tables
    T = a.tables

    U : Tables
    U = b.tables

    told : HaveSame T U → M ≡ N
    told same = catalogue_same version U M N (ordered_stands version T U M same (ordered version U N b.stands) a.stands) b.stands

    editions : (rows : List Row) → IsPermutation (map edition_row T.editions) rows → IsPermutation (map edition_row U.editions) rows → IsPermutation T.editions U.editions
    editions rows x y = both edition_row decode_edition edition_back T.editions U.editions rows x y

    by : (layout : Layout) → AreShownIn layout T.entries → AreShownIn layout U.entries → KeepsAll layout db (with_derived a.orphans T) → KeepsAll layout db (with_derived b.orphans U) → M ≡ N
    by Plain t u x y = told (same_kept db a.orphans b.orphans T U Plain (editions _ x.1.1.1.1.0.rows y.1.1.1.1.0.rows) (old_kept db a.orphans b.orphans T U _ t u x.1.1.1.1.1.0.rows y.1.1.1.1.1.0.rows) x y)
    by Keyed t u x y = told (same_kept db a.orphans b.orphans T U Keyed (editions _ x.1.1.1.1.0.rows y.1.1.1.1.0.rows) (old_kept db a.orphans b.orphans T U _ t u x.1.1.1.1.1.0.rows y.1.1.1.1.1.0.rows) x y)
    by Shown t u x y = told (same_kept db a.orphans b.orphans T U Shown (editions _ x.1.1.1.1.0.rows y.1.1.1.1.0.rows) (both shown_row decode_shown shown_back T.entries U.entries _ x.1.1.1.1.1.0.rows y.1.1.1.1.1.0.rows) x y)
    by Parted t u x y = told_once version a.orphans b.orphans T U M N (same_files db a.orphans b.orphans T U x y) a.apart b.apart a.stands b.stands

pub one_catalogue : (db : Database) (v w : ℕ) (M N : Catalogue) → Holds v db M → Holds w db N → M ≡ N
one_catalogue db v w M N a b = same_version v db M N a (subst (λ version. Holds version db N) (sym (one_version db v w M N a b)) b)

-- two databases over the same trees are the same
pub database_once : (a b : Database) → IsDatabase a → IsDatabase b → a.trees ≡ b.trees → a ≡ b
database_once a b x y same =
    let schemas : a.schema ≡ b.schema = lists_once (b.trees catalog_tree) a.schema b.schema (subst (λ (t : Trees). Lists (t catalog_tree) a.schema) same x.lists) y.lists in
    λ i. record { schema = schemas i; trees = same i }

pub one_held : (db : Database) (M N : Catalogue) → IsHeld db M → IsHeld db N → M ≡ N
one_held db M N a b = one_catalogue db a.version b.version M N a.holds b.holds

pub left_held : (db : Database) (M : Catalogue) → IsDatabase db → IsLeft M db.trees → IsHeld db M
left_held db M sound left = subst (λ (d : Database). IsHeld d M) (sym (database_once db left.0 sound left.2 left.1)) left.3

pub one_left : (trees : Trees) (M N : Catalogue) → IsLeft M trees → IsLeft N trees → M ≡ N
one_left trees M N a b = one_held b.0 M N (left_held b.0 M b.2 (subst (IsLeft M) b.1 a)) b.3

-- ---- the known version

pub known_is : IsVersion known
known_is = record { counted = omega arith; within = omega arith }

pub held_known : (db : Database) (M : Catalogue) → Holds known db M → IsHeld db M
held_known db M h = record { version = known; known = known_is; holds = h }

pub left_known : (M : Catalogue) (trees : Trees) → IsLeftAs known M trees → IsLeft M trees
left_known M trees h = (h.0, h.1, h.2, held_known h.0 M h.3)
