-- The reply that is kept under an id is read by the id.
use Rattle.std.proofs.Common.{◌≡◌, ℕ, suc, ℤ, ◌+◌, ◌≤◌, ◌<◌, length, get_or, Bool, true, false, List, [], ◌∷◌, map, drop, filter, codes, bytes_eq, Option, Some, None, inl, inr, String, refl, sym, ap, subst, ◌∙◌, arith}
use Rattle.std.specs.Prelude.{cond, pos, IfNone, option_map, string_bytes}
use Rattle.std.specs.Ordering.{is_eq}
use Rattle.std.specs.declared.alloc.Global.{Global}
use Rattle.std.specs.List.Sorted.{IsPermutation}
use Rattle.std.proofs.lemmas.List.Sorted.{IsPermutation-map, IsPermutation-trans}
use Rattle.std.proofs.lemmas.Map.Text.{is_eq-slice_cmp}
use Rattle.sqlite_trees.proofs.ListLemmas.{IsPermutation-filter}
use Rattle.sqlite_value.proofs.OrderLemmas.{value_cmp-Text}
use Rattle.sqlite.specs.Effect.{Database}
use Rattle.sqlite.specs.Order.{Row}
use Rattle.sqlite.specs.declared.types.Value.{Value}
use Rattle.sqlite.specs.declared.types.Value.TheVariants.{Int, Text}
use Rattle.store_tables.specs.Effects.{equals_text, rows_of}
use Rattle.store_sql.specs.Encodings.{kept_row, number_or_null, stored_kept}
use Rattle.store_sql.specs.Reads.{IsSelection}
use Rattle.store_tables.specs.Records.{KeptRecord}
use Rattle.store_tables.specs.Typed.{owned_kept}
use Rattle.store_tables.specs.declared.records.StoredRow.{StoredRow}
use Rattle.store_tables.specs.declared.records.KeptRecord as typed
use Rattle.dict_catalogue.specs.Steps.{KeptFor, Catalogue, kept_under}
use Rattle.dict_catalogue.specs.WellFormed.{IsEachOnce, how_many}
use Rattle.dict_catalogue.specs.declared.reply.Verb.{Verb}
use Rattle.store_rows.specs.Written.{kept_record, verb_name}
use Rattle.store_rows.proofs.OrderLemmas.{IsIn, Same, same_from}
use Rattle.store_rows.proofs.OnceLemmas.{kept_same}
use Rattle.store_holdings.specs.Holds.{Holds}
use Rattle.store_sql.specs.Readings.{Keeps}
use Rattle.store_commands.specs.KeptRecords.{HoldsReplies}
use Rattle.store_commands.proofs.RowLemmas.{filter_map}
use Rattle.store_holdings.proofs.ReadingLemmas.{replies_kept}
use Rattle.store_rows.specs.Versions.{known, layout_of}
use Rattle.sqlite.specs.State.{State}
use Rattle.store_sql.specs.Columns.{kept_columns}
use Rattle.store_sql.specs.Reads.{FailsToList}
use Rattle.store_sql.specs.declared.records.ReadError.{ReadError}
use Rattle.store_holdings.specs.Faults.{fault_of_read}
use Rattle.store_commands.proofs.UnreadLemmas.{list_fails}
use Rattle.store_holdings.proofs.ReadableLemmas.{held_replies}
use Rattle.store_holdings.specs.Faults.{FailsToReadCatalogue}

abbrev ReadKept : Type 0
ReadKept = StoredRow (typed.KeptRecord (String Global))

-- ---- a row tells its record

abbrev number_in : Value → Option ℤ
number_in (Int n) = Some n
number_in _ = None

abbrev words_in : Value → List ℕ
words_in (Text t) = t
words_in _ = []

abbrev whole_in : Value → ℤ
whole_in (Int n) = n
whole_in _ = Rattle.std.specs.Prelude.pos 0

abbrev decoded : Row → KeptRecord
decoded row = record {
  id = words_in (Rattle.sqlite.specs.Order.column row 0);
  number = whole_in (Rattle.sqlite.specs.Order.column row 1);
  verb = words_in (Rattle.sqlite.specs.Order.column row 2);
  name = words_in (Rattle.sqlite.specs.Order.column row 3);
  edition = number_in (Rattle.sqlite.specs.Order.column row 4);
}

number_back : (n : Option ℤ) → number_in (number_or_null n) ≡ n
number_back None = refl
number_back (Some n) = refl

decoded_back : (r : KeptRecord) → decoded (kept_row r) ≡ r
decoded_back r = ap (λ e. record { id = r.id; number = r.number; verb = r.verb; name = r.name; edition = e }) (number_back r.edition)

row_same : (r s : KeptRecord) → kept_row r ≡ kept_row s → r ≡ s
row_same r s e = sym (decoded_back r) ∙ ap decoded e ∙ decoded_back s

-- ---- lists

map_twice : {X Y Z : Type 0} (f : Y → Z) (g : X → Y) (xs : List X) → map f (map g xs) ≡ map (λ x. f (g x)) xs
map_twice f g [] = refl
map_twice f g (x ∷ xs) = ap (λ l. f (g x) ∷ l) (map_twice f g xs)

in_map : {X Y : Type 0} (f : X → Y) (y : Y) (xs : List X) → IsIn y (map f xs) → (x : X) × IsIn x xs × (y ≡ f x)
in_map f y [] i = absurd i
in_map f y (x ∷ xs) (inl e) = (x, inl refl, e)
in_map f y (x ∷ xs) (inr i) = let found = in_map f y xs i in (found.0, inr found.1, found.2)

text_next : (at : ℕ) (t : List ℕ) (row : Row) → equals_text (suc at) t row ≡ equals_text at t (drop 1 row)
text_next at t [] = refl
text_next at t (v ∷ row) = refl

-- ---- kept replies by their ids

module _ (id : List ℕ) where
  abbrev by_id : KeptFor → Bool
  by_id one = bytes_eq one.id id

  abbrev as_row : KeptFor → Row
  as_row one = kept_row (kept_record one)

  told : (one : KeptFor) → by_id one ≡ equals_text 0 id (as_row one)
  told one = sym (ap is_eq (value_cmp-Text one.id id) ∙ is_eq-slice_cmp one.id id)

  none_step : (one : KeptFor) (kept : List KeptFor) (b : Bool) → by_id one ≡ b → cond b (one ∷ filter by_id kept) (filter by_id kept) ≡ [] → (filter by_id kept ≡ [] → kept_under kept id ≡ None) → cond b
      (Some one.reply) (kept_under kept id) ≡ None
  none_step one kept true there e rest = absurd (cc)
  none_step one kept false apart e rest = rest e

  none_kept : (kept : List KeptFor) → filter by_id kept ≡ [] → kept_under kept id ≡ None
  none_kept [] e = refl
  none_kept (one ∷ kept) e = none_step one kept (by_id one) refl e (none_kept kept)

  abbrev ids : List KeptFor → List (List ℕ)
  ids kept = map (λ (k : KeptFor). k.id) kept

  count_more : (first : KeptFor) (b : Bool) (kept : List KeptFor) (one : KeptFor) → IsIn one (cond b (first ∷ filter by_id kept) (filter by_id kept)) → (IsIn one (filter by_id kept) → 1 ≤ how_many (λ t. bytes_eq t id) (ids kept))
      → 1 ≤ cond b 1 0 + how_many (λ t. bytes_eq t id) (ids kept)
  count_more first true kept one i rest = omega arith
  count_more first false kept one i rest = let r = rest i in omega (arith, r)

  counted : (one : KeptFor) (kept : List KeptFor) → IsIn one (filter by_id kept) → 1 ≤ how_many (λ t. bytes_eq t id) (ids kept)
  counted one [] i = absurd i
  counted one (first ∷ kept) i = count_more first (by_id first) kept one i (counted one kept)

  found_more : (first : KeptFor) (b : Bool) (kept : List KeptFor) (one : KeptFor) → cond b 1 0 + how_many (λ t. bytes_eq t id) (ids kept) ≤ 1 → IsIn one (cond b (first ∷ filter by_id kept) (filter by_id kept))
      → (IsIn one (filter by_id kept) → kept_under kept id ≡ Some one.reply) → cond b (Some first.reply) (kept_under kept id) ≡ Some one.reply
  found_more first true kept one once (inl e) rest = ap (λ (k : KeptFor). Some k.reply) (sym e)
  found_more first true kept one once (inr i) rest = absurd (let many = counted one kept i in omega (arith, many, once))
  found_more first false kept one once i rest = rest i

  found : (kept : List KeptFor) (one : KeptFor) → IsEachOnce (ids kept) → IsIn one (filter by_id kept) → kept_under kept id ≡ Some one.reply
  found [] one once i = absurd i
  found (first ∷ kept) one once i = found_more first (by_id first) kept one (once id) i (found kept one (λ text. let both = once text in omega (arith, both)))

  -- ---- and by the rows that were read

  abbrev read_row : ReadKept → Row
  read_row x = kept_row (owned_kept x.value)

  dropped : (all : List ReadKept) → map (drop 1) (map stored_kept all) ≡ map read_row all
  dropped [] = refl
  dropped (x ∷ all) = ap (λ l. read_row x ∷ l) (dropped all)

  same_rows : (db : Database) (records : List KeptRecord) (kept : List KeptFor) (all : List ReadKept) → records ≡ map kept_record kept → Keeps (codes "kept") kept_row db records → IsSelection (codes "kept")
      (equals_text 1 id) (2 ∷ []) db (map stored_kept all)
      → IsPermutation (map as_row (filter by_id kept)) (map read_row all)
  same_rows db records kept all are k selection =
      let rows = rows_of (codes "kept") db in
      let held : IsPermutation (map as_row kept) (map (drop 1) rows) = subst (λ l. IsPermutation l (map (drop 1) rows)) (ap (map kept_row) are ∙ map_twice kept_row kept_record kept) k.rows in
      let passed = IsPermutation-filter (equals_text 0 id) (map as_row kept) (map (drop 1) rows) held in
      let one : IsPermutation (map as_row (filter by_id kept)) (filter (equals_text 0 id) (map (drop 1) rows)) =
      subst (λ l. IsPermutation l (filter (equals_text 0 id) (map (drop 1) rows))) (sym (filter_map as_row (equals_text 0 id) by_id told kept)) passed in
      let two : IsPermutation (map as_row (filter by_id kept)) (map (drop 1) (filter (equals_text 1 id) rows)) =
      subst (λ l. IsPermutation (map as_row (filter by_id kept)) l) (sym (filter_map (drop 1) (equals_text 0 id) (equals_text 1 id) (text_next 0 id) rows)) one in
      let read : IsPermutation (map (drop 1) (filter (equals_text 1 id) rows)) (map read_row all) = subst (λ l. IsPermutation (map (drop 1) (filter (equals_text 1 id) rows)) l) (dropped all)
      (IsPermutation-map (drop 1) _ _ selection.same) in
      IsPermutation-trans (map as_row (filter by_id kept)) (map (drop 1) (filter (equals_text 1 id) rows)) (map read_row all) two read

  empty_by : {X Y : Type 0} (f : X → Y) (xs : List X) → ((y : Y) → IsIn y (map f xs) → ⊥) → xs ≡ []
  empty_by f [] h = refl
  empty_by f (x ∷ xs) h = absurd (h (f x) (inl refl))

  -- the first of the rows that were read tells the reply; where none was read none is kept
  abbrev pub IsToldBy : List KeptFor → List ReadKept → Type 0
  IsToldBy kept [] = kept_under kept id ≡ None
  IsToldBy kept (x ∷ all) = (one : KeptFor) × (owned_kept x.value ≡ kept_record one) × (kept_under kept id ≡ Some one.reply)

  told_by : (kept : List KeptFor) (all : List ReadKept) → IsEachOnce (map (λ (k : KeptFor). k.id) kept) → Same (map as_row (filter by_id kept)) (map read_row all) → IsToldBy kept all
  told_by kept [] once same = none_kept kept (empty_by as_row (filter by_id kept) same.into)
  told_by kept (x ∷ all) once same =
      let it = in_map as_row (read_row x) (filter by_id kept) (same.back (read_row x) (inl refl)) in
      (it.0, row_same (owned_kept x.value) (kept_record it.0) it.2, found kept it.0 once it.1)

  pub kept_alone : (db : Database) (kept : List KeptFor) (all : List ReadKept) → HoldsReplies db kept → IsSelection (codes "kept") (equals_text 1 id) (2 ∷ []) db (map stored_kept all) → IsToldBy kept all
  kept_alone db kept all h selection = told_by kept all h.once (same_from _ _ (same_rows db (map kept_record kept) kept all refl h.keeps selection))

  pub none_told : (kept : List KeptFor) (all : List ReadKept) → length all ≤ 0 → IsToldBy kept all → kept_under kept id ≡ None
  none_told kept [] few h = h
  none_told kept (x ∷ all) few h = absurd (omega (arith, few))

  pub first_told : (kept : List KeptFor) (all : List ReadKept) (x : ReadKept) → 0 < length all → x ≡ get_or all 0 x → IsToldBy kept all → (one : KeptFor) × (owned_kept x.value ≡ kept_record one) × (kept_under kept id ≡ Some one.reply)
  first_told kept [] x some is h = absurd (omega (arith, some))
  first_told kept (y ∷ all) x some is h = (h.0, ap (λ (z : ReadKept). owned_kept z.value) is ∙ h.1, h.2)

  -- the reply that was read is the one that is kept
  pub reply_told : (kept : List KeptFor) (row : typed.KeptRecord (String Global)) (one read : KeptFor) → owned_kept row ≡ kept_record read → owned_kept row ≡ kept_record one → kept_under kept id ≡ Some one.reply → Some
      read.reply ≡ kept_under kept id
  reply_told kept row one read is told there = ap (λ (k : KeptFor). Some k.reply) (kept_same read one (sym is ∙ told)) ∙ sym there

-- a database that holds a catalogue has its replies
pub holds_replies : (version : ℕ) (db : Database) (M : Catalogue) → Holds version db M → HoldsReplies db M.kept
holds_replies version db M h = record {
  keeps = subst (λ (l : List KeptRecord). Keeps (codes "kept") kept_row db l) h.stands.kept (replies_kept (layout_of version) db h.orphans h.tables h.keeps);
  once = h.stands.well_formed.ids;
}

-- the record of a reply has the parts of one
pub none_of : {X : Type 0} (parts : Option X) (row : typed.KeptRecord (String Global)) → ((x : X) → parts ≡ Some x → ⊥)
    → IfNone parts ((number : ℕ) (verb : Verb) (edition : Option ℕ) → row.number ≡ pos number → string_bytes row.verb ≡ verb_name verb → row.edition ≡ option_map pos edition → ⊥)
    → (one : KeptFor) → owned_kept row ≡ kept_record one → ⊥
none_of (Some x) row apart none one e = apart x refl
none_of None row apart none one e =
    none one.reply.number one.reply.verb one.reply.edition (ap (λ (k : KeptRecord). k.number) e) (ap (λ (k : KeptRecord). k.verb) e) (ap (λ (k : KeptRecord). k.edition) e)

-- ---- why it isn't read

-- in a catalogue each row of a reply stands for a record
pub replies_fail : (test : Row → Bool) (old new : State) (e : ReadError) → FailsToList kept_columns (filter test (rows_of (codes "kept") old.now)) old new e → FailsToReadCatalogue old new (fault_of_read e)
replies_fail test old new e h = list_fails (codes "kept") test kept_columns old new (λ M holds. held_replies known old.now M holds) e h
