-- The texts that make the table of parts and write a row of it: what they do, and why they are refused.
use Rattle.std.proofs.Common.{◌≡◌, ◌⊎◌, ◌≤◌, ℕ, List, [], ◌∷◌, codes, length, Ok, Err, refl, inl, inr, lit≤}
use Rattle.sqlite.specs.State.{State, Executes, ExecutesInside, Fails, IsUnchanged}
use Rattle.sqlite.specs.declared.error.Error.{Error}
use Rattle.sqlite.specs.declared.types.Value.TheVariants.{Null}
use Rattle.sqlite.specs.Term.{Term, lit, col}
use Rattle.sqlite.specs.Source.TheVariants.{Values}
use Rattle.sqlite.specs.Compile.{first}
use Rattle.sqlite_tied.specs.Compute.{everything}
use Rattle.sqlite_trees.specs.Sound.{fits_kind, is_free_name, begins, same_name}
use Rattle.sqlite_value.specs.Order.{value_cmp}
use Rattle.sqlite_syntax.specs.declared.statement.Parsed.{Parsed}
use Rattle.store_tables.specs.Records.{Part}
use Rattle.store_tables.specs.Creates.{IsFree, IsMade}
use Rattle.store_tables.specs.Refusals.{RefusesToMake}
use Rattle.store_sql.proofs.InsertTexts.{AddsRow, chosen_row}
use Rattle.store_tables.proofs.CreateLemmas.{ReadsCreate, makes, Stands, make_fails}
use Rattle.store_tables.proofs.InsertLemmas.{cast_int}
use Rattle.store_tables.proofs.TextLemmas.{parsed_or, ReadsInsert}
use Rattle.store_sql.specs.PartRecords.{part_row}
use Rattle.store_sql.specs.PartTable.{part}
use Rattle.store_sql.specs.PartTexts.{part_create_text, part_insert_text}

-- ---- CREATE

unfoldable pub read_create : Parsed
unfolding everything
read_create = parsed_or (first part_create_text)

reads_create : ReadsCreate part_create_text read_create (part 0)
unfolding everything read_create
reads_create = record { read = refl; statement = refl; formats = refl; name = refl; plain = refl; table_is = refl; timeless = refl; defined = refl; unreserved = refl; itself = refl; whole = λ shape. refl; uncounted = refl }

create_stands : Stands part_create_text read_create (part 0)
unfolding everything read_create fits_kind is_free_name begins same_name value_cmp lib.Ieee.is_nan lib.Ieee.lt
create_stands =
    record { whole = lit≤ tt; names = refl; is_text = refl; named = refl; unreserved = refl; formed = refl; fits = refl; short = lit≤ tt; plain = refl; keys = λ key h. (elim h [ inl is ↦ rw is (lit≤ tt) | inr more ↦ absurd more ]) }

pub makes_part : (old new : State) (count : ℕ) → IsFree old.now.schema (part 0).name → Executes part_create_text [] old new (Ok count) → IsMade (part 0) old.now new.now
makes_part old new count = makes part_create_text read_create (part 0) reads_create old new count

pub make_fails_in : (old new : State) → IsFree old.now.schema (part 0).name → (e : Error) → ExecutesInside 0 part_create_text [] old new (Err e) → (RefusesToMake (part 0) old e × IsUnchanged old new) ⊎ Fails old new ⊥ e
make_fails_in = make_fails part_create_text read_create (part 0) reads_create create_stands

-- ---- INSERT

abbrev part_terms : List Term
part_terms = lit Null ∷ col 0 0 ∷ col 0 1 ∷ col 0 2 ∷ col 0 3 ∷ []

unfoldable pub read_insert : Parsed
unfolding everything
read_insert = parsed_or (first part_insert_text)

reads_insert : ReadsInsert part_insert_text read_insert part (Values part_terms 5)
unfolding everything read_insert
reads_insert = record { read = refl; statement = λ tree. refl; formats = refl; timeless = λ tree. refl; rows = λ schema tree. refl }

whole_insert : (length part_insert_text ≤ read_insert.tail) × (4 ≡ length read_insert.names)
unfolding everything read_insert
whole_insert = (lit≤ tt, refl)

pub adds_part : (r : Part) → AddsRow part_insert_text part (part_row r)
adds_part r =
    chosen_row part_insert_text read_insert (codes "dictcat_part") (part 0).columns (part 0).key (part 0).primary (part 0).uniques (part 0).orders part_terms 5 reads_insert (part_row r) whole_insert refl refl
    refl (λ tree id. rw (cast_int r.edition, cast_int r.file, cast_int r.number) refl) (rw (cast_int r.edition, cast_int r.file, cast_int r.number) refl) (λ id. rw (cast_int r.edition, cast_int r.file, cast_int r.number) refl)
