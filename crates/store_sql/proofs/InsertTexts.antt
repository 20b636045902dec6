-- The INSERT statements of the store: their texts, what they do, and why they are refused.
use Rattle.std.proofs.Common.{List, [], ◌∷◌, refl, ap, ◌∙◌, ◌≡◌, ◌/◌, ℕ, codes, Option, Some, None, Ok, option_map, ℤ, ◌⊎◌, ◌≤◌, length, true, false, Err, Result, IfErr, OnOk, IsTrue, lit≤}
use Rattle.sqlite.specs.declared.types.Value.TheVariants.{Null, Int, Text}
use Rattle.sqlite.specs.Term.{Term, lit, col}
use Rattle.sqlite.specs.Source.TheVariants.{Values}
use Rattle.sqlite.specs.Compile.{first}
use Rattle.sqlite_tied.specs.Compute.{everything}
use Rattle.sqlite_syntax.specs.declared.statement.Parsed.{Parsed}
use Rattle.store_tables.specs.Tables.{simple, mark, item, member, kept}
use Rattle.store_sql.specs.Inserts.{Inserts, FailsToInsert, insert_mark, insert_item, insert_member, insert_kept}
use Rattle.store_tables.proofs.TextLemmas.{parsed_or, ReadsInsert, insert_command, insert_plain, insert_is}
use Rattle.sqlite.specs.Values.{or_null, bound_value}
use Rattle.sqlite.specs.Kind.TheVariants.{Integer, Text as OfText}
use Rattle.sqlite.specs.Cast.{cast, cast_all}
use Rattle.sqlite.specs.Command.TheVariants.{Insert}
use Rattle.sqlite.specs.Listing.{understood}
use Rattle.sqlite.specs.State.{State, HasCleanDisk, Survives, Executes, ExecutesInside, Fails, IsUnchanged, Writes}
use Rattle.sqlite.proofs.Callers.{statement_of, runs_as}
use Rattle.store_tables.specs.Records.{Mark, ItemRecord, Member, KeptRecord}
use Rattle.store_sql.specs.Encodings.{number_or_null, text_or_null, mark_row, item_row, member_row, kept_row}
use Rattle.store_tables.specs.Effects.{Has, IsAdded, WhileOpen, shown}
use Rattle.store_tables.proofs.InsertLemmas.{adds_chosen, adds_given, cast_int, cast_null}
use Rattle.std.proofs.lemmas.Bool.{and_from}
use Rattle.sqlite.specs.Edit.{edit_of, next_rowid}
use Rattle.sqlite.specs.Rowids.TheVariants.{Chosen}
use Rattle.sqlite.specs.Effect.{value_rows}
use Rattle.sqlite.specs.Order.{Row}
use Rattle.sqlite.specs.Table.{Table}
use Rattle.sqlite.specs.Held.{Held, state}
use Rattle.sqlite_trees.specs.declared.store.Store.{Ghosts}
use Rattle.sqlite_schema.specs.declared.schema.Column.{Column}
use Rattle.sqlite_value.specs.declared.keys.Order.{Order}
use Rattle.sqlite.specs.declared.error.Error.{Error}
use Rattle.sqlite.specs.declared.error.Error.TheVariants.{SqliteFailure}
use Rattle.sqlite.specs.declared.error.ErrorCode.TheVariants.{TransactionState}
use Rattle.sqlite_schema.specs.Rules.{are_present, are_typed, is_of}
use Rattle.sqlite_typing.specs.Types.{accepts_terms}
use Rattle.store_tables.specs.Refusals.{RefusesToAdd, IsTooBig, source_by}
use Rattle.store_sql.proofs.AddFaults.{cause}
use Rattle.store_tables.proofs.FaultLemmas.{faults_inside}
use Rattle.store_tables.proofs.StateLemmas.{stated, adds_aside}

-- ---- any text that writes one row

-- given the columns of a row, the text adds it to the table, or says why it doesn't
pub record AddsRow (text : List ℕ) (table : ℕ → Table) (row : Row) : Type 1 where
  pub adds : (old new : State) (count : ℕ) → Has table old.now → Executes text row old new (Ok count) → IsAdded (table 0).name row old.now new.now
  pub fails : (old new : State) (e : Error) → Has table old.now → ExecutesInside 0 text row old new (Err e) → (RefusesToAdd (table 0).name row old e × IsUnchanged old new) ⊎ Fails old new (IsTooBig (table 0).name row old.now) e

module _ (text : List ℕ) (p : Parsed) (name : List ℕ) (columns : List Column) (key : Option ℕ) (primary : List ℕ) (uniques : List (List ℕ)) (orders : List Order) (terms : List Term) (width : ℕ)
    (r : ReadsInsert text p (λ tree. simple name tree columns key primary uniques orders) (Values terms width)) (row : Row) (whole : (length text ≤ p.tail) × (length row ≡ length p.names))
    (one : value_rows row width (length terms / width) terms ≡ source_by key row ∷ []) (accepts : accepts_terms terms row ≡ true)
  where
    abbrev table : ℕ → Table
    table tree = simple name tree columns key primary uniques orders

    module _ (old new : State) (has : Has table old.now) where
      abbrev stored_as : ℤ → Row → Type 0
      stored_as id rest = (edit_of old.now.trees (table has.1) [] Chosen 0 (source_by key row ∷ [])).news ≡ (Int id ∷ rest) ∷ []

      writes : (count : ℕ) → Executes text row old new (Ok count) → Writes old new None (Insert has.0 (Values terms width)) (statement_of text (understood old.now.schema text)) row count
      writes count runs =
          let s = old.now.schema in
          runs_as text row old new s refl (Insert has.0 (Values terms width)) (insert_command text p table (Values terms width) r s has.0 has.1 has.2) (insert_plain text p table (Values terms width) r s has.0 has.1 has.2) count runs

      refused : (id : ℤ) (rest : Row) → stored_as id rest → are_typed key 0 columns rest ≡ true → are_present key 0 columns (Int id ∷ rest) ≡ true → (e : Error) → ExecutesInside 0 text row old new (Err e)
          → (RefusesToAdd name row old e × IsUnchanged old new) ⊎ Fails old new (IsTooBig name row old.now) e
      refused id rest stored typed present e runs =
          cause old new has.0 name has.1 columns key primary uniques orders has.2.named has.2.is terms width text row row one accepts id rest stored typed present e
          (faults_inside text p (Insert has.0 (Values terms width)) row old new e (insert_is text p table (Values terms width) r old.now.schema has.0 has.1 has.2) whole.0 whole.1 refl refl runs)

      given_so : (id : ℤ) (values : Row) → source_by key row ≡ Int id ∷ values → stored_as id (cast_all columns values)
      given_so id values given = ap (λ r. (edit_of old.now.trees (table has.1) [] Chosen 0 (r ∷ [])).news) given ∙ rw (cast_int id) refl

      chosen_so : source_by key row ≡ Null ∷ row → stored_as (next_rowid (old.now.trees has.1)) (cast_all columns row)
      chosen_so null = ap (λ r. (edit_of old.now.trees (table has.1) [] Chosen 0 (r ∷ [])).news) null ∙ rw cast_null refl

    -- the key is the rowid
    pub given_row : (id : ℤ) (values : Row) → source_by key row ≡ Int id ∷ values → ((tree : ℕ) → shown (table tree) (Int id ∷ cast_all columns values) ≡ Int id ∷ row) → are_typed key 0 columns (cast_all columns values) ≡ true
        → are_present key 0 columns (Int id ∷ cast_all columns values) ≡ true → AddsRow text table row
    given_row id values given shows typed present = record {
      adds = λ old new count has runs. adds_given old new has.0 name has.1 columns key primary uniques orders has.2.named has.2.is terms width (statement_of text (understood old.now.schema text)) row (source_by key row) count one
          id values row given (shows has.1) (writes old new has count runs);
      fails = λ old new e has runs. refused old new has id (cast_all columns values) (given_so old new has id values given) typed present e runs;
    }

    -- the rowid is chosen
    pub chosen_row : source_by key row ≡ Null ∷ row → ((tree : ℕ) (id : ℤ) → shown (table tree) (Int id ∷ cast_all columns row) ≡ Int id ∷ row) → are_typed key 0 columns (cast_all columns row) ≡ true
        → ((id : ℤ) → are_present key 0 columns (Int id ∷ cast_all columns row) ≡ true) → AddsRow text table row
    chosen_row null shows typed present = record {
      adds = λ old new count has runs. adds_chosen old new has.0 name has.1 columns key primary uniques orders has.2.named has.2.is terms width (statement_of text (understood old.now.schema text)) row (source_by key row) count one
          row row null (shows has.1) (writes old new has count runs);
      fails = λ old new e has runs. let id = next_rowid (old.now.trees has.1) in refused old new has id (cast_all columns row) (chosen_so old new has null) typed (present id) e runs;
    }

-- as a statement of a transaction
pub adds_row : {S : Type 0} {text : List ℕ} {table : ℕ → Table} {row : Row} → AddsRow text table row → (g : Ghosts S) (before after : Held S) (result : Result ℕ Error) → WhileOpen (state g before) (Has table)
    → ((state g before).in_transaction ≡ false → (result ≡ Err (SqliteFailure TransactionState)) × (after ≡ before))
    → (HasCleanDisk (state g after) → IsTrue (state g before).in_transaction → ExecutesInside 0 text row (state g before) (state g after) result) → Survives (state g before) (state g after) (λ _. ⊥)
    → HasCleanDisk (state g after) → OnOk result (Inserts (table 0).name row (state g before) (state g after)) × IfErr result (FailsToInsert (table 0).name row (state g before) (state g after))
adds_row {text} {table} {row} a g before after result has ended runs alone =
    let old = state g before in
    let new = state g after in
    stated g before after text row result _ _ (adds_aside (table 0).name row old) has ended runs alone (a.adds old new) (a.fails old new)

-- ---- the texts

abbrev pub mark_terms : List Term
mark_terms = col 0 0 ∷ lit Null ∷ col 0 1 ∷ col 0 2 ∷ col 0 3 ∷ []

unfoldable pub read_mark : Parsed
unfolding everything
read_mark = parsed_or (first insert_mark)

pub reads_mark : ReadsInsert insert_mark read_mark mark (Values mark_terms 5)
unfolding everything read_mark
reads_mark = record { read = refl; statement = λ tree. refl; formats = refl; timeless = λ tree. refl; rows = λ schema tree. refl }

abbrev pub item_terms : List Term
item_terms = col 0 0 ∷ lit Null ∷ col 0 1 ∷ col 0 2 ∷ col 0 3 ∷ col 0 4 ∷ col 0 5 ∷ []

unfoldable pub read_item : Parsed
unfolding everything
read_item = parsed_or (first insert_item)

pub reads_item : ReadsInsert insert_item read_item item (Values item_terms 7)
unfolding everything read_item
reads_item = record { read = refl; statement = λ tree. refl; formats = refl; timeless = λ tree. refl; rows = λ schema tree. refl }

abbrev pub member_terms : List Term
member_terms = lit Null ∷ col 0 0 ∷ col 0 1 ∷ col 0 2 ∷ []

unfoldable pub read_member : Parsed
unfolding everything
read_member = parsed_or (first insert_member)

pub reads_member : ReadsInsert insert_member read_member member (Values member_terms 4)
unfolding everything read_member
reads_member = record { read = refl; statement = λ tree. refl; formats = refl; timeless = λ tree. refl; rows = λ schema tree. refl }

abbrev pub kept_terms : List Term
kept_terms = lit Null ∷ col 0 0 ∷ col 0 1 ∷ col 0 2 ∷ col 0 3 ∷ col 0 4 ∷ []

unfoldable pub read_kept : Parsed
unfolding everything
read_kept = parsed_or (first insert_kept)

pub reads_kept : ReadsInsert insert_kept read_kept kept (Values kept_terms 6)
unfolding everything read_kept
reads_kept = record { read = refl; statement = λ tree. refl; formats = refl; timeless = λ tree. refl; rows = λ schema tree. refl }

pub cast_number : (o : Option ℤ) → cast Integer (number_or_null o) ≡ number_or_null o
cast_number None = cast_null
cast_number (Some n) = cast_int n

pub cast_text : (o : Option (List ℕ)) → cast OfText (text_or_null o) ≡ text_or_null o
cast_text None = refl
cast_text (Some t) = refl

-- the values that are bound for an `Option`
pub bound_number : (o : Option ℤ) → bound_value (or_null Int o) ≡ number_or_null o
bound_number None = refl
bound_number (Some n) = refl

pub bound_text : {X : Type 0} (f : X → List ℕ) (o : Option X) → bound_value (or_null (λ s. Text (f s)) o) ≡ text_or_null (option_map f o)
bound_text f None = refl
bound_text f (Some t) = refl

number_suits : (o : Option ℤ) → is_of Integer (number_or_null o) ≡ true
number_suits None = refl
number_suits (Some n) = refl

text_suits : (o : Option (List ℕ)) → is_of OfText (text_or_null o) ≡ true
text_suits None = refl
text_suits (Some t) = refl

-- the texts take the values, of whichever type they are
item_accepts : (place : ℤ) (name : List ℕ) (kind : ℤ) (title : Option (List ℕ)) (current former : Option ℤ)
    → accepts_terms item_terms (item_row (record { place = place; name = name; kind = kind; title = title; current = current; former = former })) ≡ true
item_accepts place name kind None None None = refl
item_accepts place name kind None None (Some x) = refl
item_accepts place name kind None (Some x) None = refl
item_accepts place name kind None (Some x) (Some y) = refl
item_accepts place name kind (Some x) None None = refl
item_accepts place name kind (Some x) None (Some y) = refl
item_accepts place name kind (Some x) (Some y) None = refl
item_accepts place name kind (Some x) (Some y) (Some z) = refl

kept_accepts : (id : List ℕ) (number : ℤ) (verb name : List ℕ) (edition : Option ℤ) → accepts_terms kept_terms (kept_row (record { id = id; number = number; verb = verb; name = name; edition = edition })) ≡ true
kept_accepts id number verb name None = refl
kept_accepts id number verb name (Some x) = refl

-- ---- what they do

whole_mark : (length insert_mark ≤ read_mark.tail) × (4 ≡ length read_mark.names)
unfolding everything read_mark
whole_mark = (lit≤ tt, refl)

pub adds_mark : (m : Mark) → AddsRow insert_mark mark (mark_row m)
adds_mark m =
    given_row insert_mark read_mark (codes "mark") (mark 0).columns (mark 0).key (mark 0).primary (mark 0).uniques (mark 0).orders mark_terms 5 reads_mark (mark_row m) whole_mark refl refl
    m.id (Null ∷ Text m.magic ∷ Int m.version ∷ Int m.installs ∷ []) refl (λ tree. rw (cast_int m.version, cast_int m.installs) refl)
    (rw (cast_null, cast_int m.version, cast_int m.installs) refl) (rw (cast_int m.version, cast_int m.installs) refl)

whole_item : (length insert_item ≤ read_item.tail) × (6 ≡ length read_item.names)
unfolding everything read_item
whole_item = (lit≤ tt, refl)

pub adds_item : (i : ItemRecord) → AddsRow insert_item item (item_row i)
adds_item i =
    given_row insert_item read_item (codes "item") (item 0).columns (item 0).key (item 0).primary (item 0).uniques (item 0).orders item_terms 7 reads_item (item_row i) whole_item refl
    (item_accepts i.place i.name i.kind i.title i.current i.former) i.place (Null ∷ Text i.name ∷ Int i.kind ∷ text_or_null i.title ∷ number_or_null i.current ∷ number_or_null i.former ∷ []) refl
    (λ tree. rw (cast_int i.kind, cast_text i.title, cast_number i.current, cast_number i.former) refl)
    (rw (cast_null, cast_int i.kind, cast_text i.title, cast_number i.current, cast_number i.former)
    (and_from _ _ refl (and_from _ _ refl (and_from _ _ refl (and_from _ _ (text_suits i.title) (and_from _ _ (number_suits i.current) (and_from _ _ (number_suits i.former) refl))))))) (rw (cast_int i.kind) refl)

whole_member : (length insert_member ≤ read_member.tail) × (3 ≡ length read_member.names)
unfolding everything read_member
whole_member = (lit≤ tt, refl)

pub adds_member : (m : Member) → AddsRow insert_member member (member_row m)
adds_member m =
    chosen_row insert_member read_member (codes "member") (member 0).columns (member 0).key (member 0).primary (member 0).uniques (member 0).orders member_terms 4 reads_member (member_row m) whole_member refl refl
    refl (λ tree id. rw (cast_int m.ord) refl) (rw (cast_int m.ord) refl) (λ id. rw (cast_int m.ord) refl)

whole_kept : (length insert_kept ≤ read_kept.tail) × (5 ≡ length read_kept.names)
unfolding everything read_kept
whole_kept = (lit≤ tt, refl)

pub adds_kept : (k : KeptRecord) → AddsRow insert_kept kept (kept_row k)
adds_kept k =
    chosen_row insert_kept read_kept (codes "kept") (kept 0).columns (kept 0).key (kept 0).primary (kept 0).uniques (kept 0).orders kept_terms 6 reads_kept (kept_row k) whole_kept refl
    (kept_accepts k.id k.number k.verb k.name k.edition) refl (λ tree id. rw (cast_int k.number, cast_number k.edition) refl)
    (rw (cast_int k.number, cast_number k.edition) (and_from _ _ refl (and_from _ _ refl (and_from _ _ refl (and_from _ _ refl (and_from _ _ (number_suits k.edition) refl)))))) (λ id. rw (cast_int k.number) refl)
