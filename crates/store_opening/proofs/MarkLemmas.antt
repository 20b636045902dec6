-- The mark of a file.
use Rattle.std.proofs.Common.{◌≡◌, ℕ, ◌≤◌, ℤ, pos, List, [], ◌∷◌, map, drop, codes, Option, Some, None, Result, Ok, Err, IfSome, IfNone, IsErrAnd, refl, sym, ap, subst, ◌∙◌, arith, String}
use Rattle.std.specs.declared.alloc.Global.{Global}
use Rattle.std.proofs.lemmas.List.Sorted.{IsPermutation-sym}
use Rattle.std.specs.List.{AllByRecursion}
use Rattle.std.specs.Str.{IsUtf8}
use Rattle.std.proofs.lemmas.Str.{IsUtf8-from_ascii}
use Rattle.std.proofs.lemmas.Str.Ascii.{IsAscii-nil, IsAscii-cons}
use Rattle.sqlite.specs.Effect.{Database}
use Rattle.sqlite.specs.Order.{Row, column}
use Rattle.std.specs.List.Sorted.{IsPermutation}
use Rattle.sqlite.specs.declared.types.Value.TheVariants.{Int}
use Rattle.store_tables.specs.Records as spec
use Rattle.store_tables.specs.Typed.{owned_mark}
use Rattle.store_tables.specs.declared.records as typed
use Rattle.store_tables.specs.declared.records.StoredRow.{StoredRow}
use Rattle.store_sql.specs.Columns.{HasColumns, mark_columns}
use Rattle.store_tables.specs.Effects.{rows_of}
use Rattle.store_sql.specs.Encodings.{mark_row, stored_mark}
use Rattle.store_sql.specs.Reads.{IsListing, HasNoRecord}
use Rattle.dict_catalogue.specs.Steps.{Catalogue}
use Rattle.store_holdings.specs.Holds.{Holds, IsHeld}
use Rattle.store_rows.specs.Given.{marks_given}
use Rattle.store_rows.proofs.OrderLemmas.{Same, same_from, one_once}
use Rattle.store_opening.specs.Marks.{HasMarkTable}
use Rattle.store_opening.specs.Opens.{HasMark, HasKnownMark, HoldsNone, HoldsNoneAs, IsMarked, mark_of_version}
use Rattle.store_sql.proofs.DecodeLemmas.{decode_mark, mark_back}
use Rattle.store_holdings.proofs.LookupLemmas.{all_contains}
use Rattle.store_opening.proofs.TableLemmas.{own_mark}

abbrev pub MarkRow : Type 0
MarkRow = StoredRow (typed.Mark.Mark (String Global))

pub told_marked : (o : Option ℕ) (marks : List MarkRow) (m : spec.Mark) (i : ℤ) → marks_given marks ≡ m ∷ [] → IfSome o (λ v. (m ≡ mark_of_version v i) × (1 ≤ v)) → IfSome o (λ v. IsMarked marks v)
told_marked None marks m i e h = tt
told_marked (Some v) marks m i e h = (i, e ∙ ap (λ x. x ∷ []) h.0, h.1)

pub none_marked : (o : Option ℕ) (marks : List MarkRow) (m : spec.Mark) → marks_given marks ≡ m ∷ [] → IfNone o ((v : ℕ) (i : ℤ) → m ≡ mark_of_version v i → 1 ≤ v → ⊥) → IfNone o ((v : ℕ) → IsMarked marks v → ⊥)
none_marked (Some v) marks m e h = tt
none_marked None marks m e h = λ v is. h v is.0 (first (sym e ∙ is.1)) is.2
  where
    first : {a b : spec.Mark} → a ∷ [] ≡ b ∷ [] → a ≡ b
    first {a} {b} e = cc

pub has_mark : (db : Database) (marks : List MarkRow) (v : ℕ) → HasMarkTable db.schema → IsListing (codes "mark") (1 ∷ []) db (map stored_mark marks) → IsMarked marks v → HasMark db v
has_mark db [] v own l is = absurd (let e = is.1 in cc)
has_mark db (r ∷ []) v own l is =
    let owned : owned_mark r.value ≡ mark_of_version v is.0 = let e = is.1 in cc in
    let rows = one_once (stored_mark r) (rows_of (codes "mark") db) (same_from (stored_mark r ∷ []) (rows_of (codes "mark") db) (IsPermutation-sym _ _ l.same)) in
    record { own = own; rowid = r.rowid; installs = is.0; rows = rows ∙ ap (λ m. (Int r.rowid ∷ mark_row m) ∷ []) owned; counted = is.2 }
has_mark db (r ∷ s ∷ marks) v own l is = absurd (let e = is.1 in cc)

pub is_marked : (db : Database) (marks : List MarkRow) (v : ℕ) → IsListing (codes "mark") (1 ∷ []) db (map stored_mark marks) → HasMark db v → IsMarked marks v
is_marked db marks v l h =
    let x : Row = Int h.rowid ∷ mark_row (mark_of_version v h.installs) in
    let rows = one_once x (map stored_mark marks) (subst (λ rows. Same rows (map stored_mark marks)) h.rows (same_from (rows_of (codes "mark") db) (map stored_mark marks) l.same)) in
    (h.installs, only marks rows, h.counted)
  where
    only : (marks : List MarkRow) → map stored_mark marks ≡ (Int h.rowid ∷ mark_row (mark_of_version v h.installs)) ∷ [] → marks_given marks ≡ mark_of_version v h.installs ∷ []
    only [] e = absurd (cc)
    only (r ∷ []) e = ap (λ m. m ∷ []) (sym (mark_back (owned_mark r.value)) ∙ ap (λ row. decode_mark (drop 1 row)) (let same : stored_mark r ≡ Int h.rowid ∷ mark_row (mark_of_version v h.installs) = cc in same)
        ∙ mark_back (mark_of_version v h.installs))
    only (r ∷ s ∷ marks) e = absurd (cc)

pub err_is : {X E : Type 0} (result : Result X E) (e f : E) → IsErrAnd result (λ g. g ≡ e) → result ≡ Err f → e ≡ f
err_is (Ok x) e f h is = absurd (cc)
err_is (Err g) e f h is = sym h ∙ (let same : g ≡ f = cc in same)

pub no_record : (db : Database) (v : ℕ) → HasMark db v → HasNoRecord mark_columns (rows_of (codes "mark") db) → ⊥
no_record db v h n =
    n.2 (all_contains (HasColumns mark_columns) (rows_of (codes "mark") db) n.0 (subst (λ rows. AllByRecursion (HasColumns mark_columns) rows) (sym h.rows)
    (((h.rowid, refl), ((pos 1, refl), ((codes "dictcat", refl, word), ((pos v, refl), ((h.installs, refl), tt))))), tt)) n.1)
  where
    word : IsUtf8 (codes "dictcat")
    word = IsUtf8-from_ascii (codes "dictcat") (search (arith, IsAscii-nil, IsAscii-cons) depth 12)

-- ---- a database that holds a catalogue has the mark

one_row : (row : Row) (rows : List Row) → (row ≡ [] → ⊥) → map (drop 1) rows ≡ row ∷ [] → AllByRecursion (λ r. (n : ℤ) × (column r 0 ≡ Int n)) rows → (n : ℤ) × (rows ≡ (Int n ∷ row) ∷ [])
one_row row [] some e all = absurd (cc)
one_row row ([] ∷ rows) some e all = absurd (some (let same : row ≡ [] = cc in same))
one_row row ((x ∷ r) ∷ []) some e all = (all.0.0, λ i. (all.0.1 i ∷ (let same : r ≡ row = cc in same) i) ∷ [])
one_row row ((x ∷ r) ∷ s ∷ rows) some e all = absurd (cc)

pub held_mark : (version : ℕ) (db : Database) (M : Catalogue) → 1 ≤ version → Holds version db M → HasMark db version
held_mark version db M counted h =
    let row = mark_row (mark_of_version version (pos M.installs)) in
    let written = subst (λ (ms : List spec.Mark). IsPermutation (map mark_row ms) (map (drop 1) (rows_of (codes "mark") db))) h.stands.marks h.keeps.0.rows in
    let only = one_once row (map (drop 1) (rows_of (codes "mark") db)) (same_from (row ∷ []) (map (drop 1) (rows_of (codes "mark") db)) written) in
    let found = one_row row (rows_of (codes "mark") db) (λ e. let wrong : ⊥ = cc in wrong) only h.keeps.0.apart.integers in
    record { own = own_mark db.schema h.own.tables.0; rowid = found.0; installs = pos M.installs; rows = found.1; counted = counted }

pub known_mark : (db : Database) (M : Catalogue) → IsHeld db M → HasKnownMark db
known_mark db M h = record { version = h.version; known = h.known; marked = held_mark h.version db M h.known.counted h.holds }

pub mark_once : (db : Database) (v w : ℕ) → HasMark db v → HasMark db w → v ≡ w
mark_once db v w a b =
    let same : (Int a.rowid ∷ mark_row (mark_of_version v a.installs)) ∷ [] ≡ (Int b.rowid ∷ mark_row (mark_of_version w b.installs)) ∷ [] = sym a.rows ∙ b.rows in
    (let e : v ≡ w = cc in e)

-- of a database with this mark that holds no catalogue under its version none is held
pub none_held : (version : ℕ) (db : Database) → HasMark db version → HoldsNoneAs version db → HoldsNone db
none_held version db m none M h =
    none M (subst (λ v. Holds v db M) (mark_once db h.version version (held_mark h.version db M h.known.counted h.holds) m) h.holds)
