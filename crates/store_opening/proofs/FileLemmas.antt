-- The files of the editions that a database keeps.
use Rattle.std.proofs.Common.{◌≡◌, ℕ, ℤ, pos, Bool, ◌&&◌, List, [], ◌∷◌, ◌++◌, map, drop, filter, codes, refl, sym, ap, subst, ◌∙◌, append-nil}
use Rattle.std.specs.Prelude.{flat_map, IsPermutation}
use Rattle.sqlite_trees.proofs.ListLemmas.{IsPermutation-filter}
use Rattle.sqlite.specs.Effect.{Database}
use Rattle.sqlite.specs.Order.{Row, column}
use Rattle.sqlite.specs.declared.types.Value.TheVariants.{Int}
use Rattle.store_tables.specs.Records.{EditionRecord, HeaderRecord, Part, header_of}
use Rattle.dict_index.specs.Line.{Line}
use Rattle.store_tables.specs.Effects.{rows_of, same_value}
use Rattle.store_sql.specs.ChosenParts.{is_of_file}
use Rattle.store_sql.specs.PartRecords.{part_row}
use Rattle.store_rows.specs.Stored.{stored_index}
use Rattle.store_rows.specs.Tables.{Tables, same_number, entries_of, editions_numbered}
use Rattle.store_rows.specs.Written.{numbered, entry_record}
use Rattle.store_rows.proofs.SelectionLemmas.{filter_filter}
use Rattle.store_holdings.specs.Files.{edition_parts, all_parts, index_octets}
use Rattle.store_rows.specs.FileParts.{file_parts}
use Rattle.store_holdings.proofs.FileLemmas.{part_once, lines_back}
use Rattle.store_holdings.proofs.TellLemmas.{index_under, text_under}
use Rattle.store_holdings.proofs.RowLemmas.{filter_map}
use Rattle.store_scans.specs.Files.{file_rows, HasFile}
use Rattle.store_scans.proofs.NumberLemmas.{behind_column, same_int}

-- ---- rows, and what passes a test of them

-- the test of a part, on its row
abbrev behind_test : (n f : ℤ) → Row → Bool
behind_test n f row = same_value (column row 0) (Int n) && same_value (column row 1) (Int f)

abbrev part_test : (n f : ℤ) → Part → Bool
part_test n f p = same_number p.edition n && same_number p.file f

row_test : (n f : ℤ) (p : Part) → behind_test n f (part_row p) ≡ part_test n f p
row_test n f p = λ i. same_int p.edition n i && same_int p.file f i

rowid_test : (n f : ℤ) (row : Row) → behind_test n f (drop 1 row) ≡ is_of_file n f row
rowid_test n f row = λ i. same_value (sym (behind_column row 0) i) (Int n) && same_value (sym (behind_column row 1) i) (Int f)

-- of parts that are the rows of the table, those of a file are its rows
parts_of_file : (db : Database) (ps : List Part) → IsPermutation (map part_row ps) (map (drop 1) (rows_of (codes "dictcat_part") db)) → (n f : ℤ) → IsPermutation (map part_row (filter (part_test n f) ps)) (file_rows n f db)
parts_of_file db ps same n f =
    let rows = rows_of (codes "dictcat_part") db in
    subst (λ l. IsPermutation l (file_rows n f db)) (filter_map part_row (part_test n f) (behind_test n f) (row_test n f) ps)
    (subst (IsPermutation (filter (behind_test n f) (map part_row ps))) (filter_map (drop 1) (is_of_file n f) (behind_test n f) (rowid_test n f) rows) (IsPermutation-filter (behind_test n f) (map part_row ps) (map (drop 1) rows) same))

-- ---- the files of an edition of which there is one record

-- the parts of this number are those of editions, whatever orphans are beside them
abbrev pub AreBeside : List Part → Tables → ℤ → Type 0
AreBeside orphans t n = filter (λ (p : Part). same_number p.edition n) (orphans ++ all_parts t) ≡ filter (λ (p : Part). same_number p.edition n) (all_parts t)

module _ (db : Database) (orphans : List Part) (t : Tables) (keeps : IsPermutation (map part_row (orphans ++ all_parts t)) (map (drop 1) (rows_of (codes "dictcat_part") db))) (n : ℤ) (e : EditionRecord)
    (one : editions_numbered n t.editions ≡ e ∷ []) (at : e.number ≡ n) (beside : AreBeside orphans t n) where
  abbrev all : List Part
  all = orphans ++ all_parts t

  of_file : (f : ℤ) → filter (part_test n f) all ≡ filter (λ (p : Part). same_number p.file f) (edition_parts t.entries e)
  of_file f =
      sym (filter_filter (λ (p : Part). same_number p.file f) (λ (p : Part). same_number p.edition n) (part_test n f) (λ p. refl) all)
      ∙ ap (filter (λ (p : Part). same_number p.file f)) (beside ∙ part_once t n ∙ ap (flat_map (edition_parts t.entries)) one ∙ append-nil (edition_parts t.entries e))

  pub has_index : HasFile db n (pos 0) (index_octets (entries_of n t.entries))
  has_index =
      let are : filter (part_test n (pos 0)) all ≡ file_parts n (pos 0) (index_octets (entries_of n t.entries)) =
      of_file (pos 0) ∙ index_under e.number (index_octets (entries_of e.number t.entries)) e.body ∙ ap (λ m. file_parts m (pos 0) (index_octets (entries_of m t.entries))) at in
      subst (λ l. IsPermutation (map part_row l) (file_rows n (pos 0) db)) are (parts_of_file db all keeps n (pos 0))

  pub has_text : HasFile db n (pos 1) e.body
  has_text =
      let are : filter (part_test n (pos 1)) all ≡ file_parts n (pos 1) e.body = of_file (pos 1) ∙ text_under e.number (index_octets (entries_of e.number t.entries)) e.body ∙ ap (λ m. file_parts m (pos 1) e.body) at in
      subst (λ l. IsPermutation (map part_row l) (file_rows n (pos 1) db)) are (parts_of_file db all keeps n (pos 1))

-- ---- headers

pub headers_of : (number : ℤ) (es : List EditionRecord) → filter (λ (h : HeaderRecord). same_number h.number number) (map header_of es) ≡ map header_of (editions_numbered number es)
headers_of number es = filter_map header_of (λ (e : EditionRecord). same_number e.number number) (λ (h : HeaderRecord). same_number h.number number) (λ e. refl) es

-- ---- the lines of an edition that is held

-- the index of a number is that of its lines
pub index_is : (t : Tables) (number : ℕ) (lines : List Line) → entries_of (pos number) t.entries ≡ numbered (entry_record number) 0 lines → index_octets (entries_of (pos number) t.entries) ≡ stored_index lines
index_is t number lines is = ap index_octets is ∙ ap stored_index (lines_back number 0 lines)
