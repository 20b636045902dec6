-- What was taken, and what isn't, with one record more.
use Rattle.std.proofs.Common.{◌≡◌, ℕ, ℤ, List, [], ◌∷◌, ◌++◌, map, sym, ap, subst, ◌∙◌, append_assoc, Ok, Err, Result, OnOk, OnErr, IfErr}
use Rattle.std.specs.List.{AllByRecursion}
use Rattle.std.proofs.lemmas.List.{map-append}
use Rattle.std.specs.Prelude.{string_bytes}
use Rattle.sqlite.specs.Order.{Row, column}
use Rattle.sqlite.specs.declared.types.Value.TheVariants.{Int}
use Rattle.dict_text.proofs.AllLemmas.{all_append_parts}
use Rattle.store_tables.specs.Records as spec
use Rattle.store_tables.specs.Typed.{owned_kept}
use Rattle.dict_catalogue.specs.WellFormed.{IsEachOnce}
use Rattle.store_rows.specs.Tables.{Tables}
use Rattle.store_rows.specs.Given.{OnDamage, kept_given}
use Rattle.store_rows.specs.Taken.{HasTaken, StandsForNone, with_entry, with_kept, IsOfLast}
use Rattle.store_rows.specs.Whole.{with_entries, with_replies, AreOfLast}
use Rattle.store_rows.specs.Order.{InOrder}
use Rattle.store_rows.specs.Apart.{HasTakenIds, HasTakenRowids}
use Rattle.store_rows.specs.declared.reader.Reader.{Reader}
use Rattle.store_rows.specs.declared.apart.IdReader.{IdReader}
use Rattle.store_rows.specs.declared.apart.RowidReader.{RowidReader}
use Rattle.store_rows.specs.declared.fault.RowsFault.{RowsFault}
use Rattle.store_rows.specs.declared.fault.RowsFault.TheVariants.{Damaged, Memory}
use Rattle.store_scans.specs.Entries.{AreTaken, AreNotTaken}
use Rattle.store_scans.specs.IndexingReader.{AreTakenAndIndexed}
use Rattle.store_scans.specs.Indexing.{indexed_of}
use Rattle.store_scans.specs.declared.indexing_reader.IndexingReader.{IndexingReader}
use Rattle.store_scans.specs.Takers.{KeptRow, AreRowids, takes_rowids, refuses_rowids, takes_replies, refuses_replies, ids_given, takes_ids, refuses_ids}

-- ---- outcomes

pub at_err : {T E P : Type 0} (Q : E → Type 0) (result : Result T E) → (P → (e : E) → Q e) → OnErr result P → IfErr result Q
at_err Q (Ok x) f h = tt
at_err Q (Err e) f h = f h e

pub if_err_then : {T E : Type 0} (P Q : E → Type 0) (result : Result T E) → ((e : E) → P e → Q e) → IfErr result P → IfErr result Q
if_err_then P Q (Ok x) f h = tt
if_err_then P Q (Err e) f h = f e h

pub on_damage : (fault : RowsFault) (P : Type 0) → OnDamage fault P → fault ≡ Damaged → P
on_damage Damaged P h e = h
on_damage Memory P h e = absurd (cc)

pub ok_both : {T E P Q R : Type 0} (result : Result T E) → OnOk result P → OnOk result Q → (P → Q → R) → OnOk result R
ok_both (Ok x) h k f = f h k
ok_both (Err e) h k f = tt

pub ok_always : {T E P : Type 0} (result : Result T E) → P → OnOk result P
ok_always (Ok x) p = p
ok_always (Err e) p = tt

pub all_push : {X : Type 0} (P : X → Type 0) (xs : List X) (x : X) → AllByRecursion P xs → P x → AllByRecursion P (xs ++ x ∷ [])
all_push P [] x h p = (p, tt)
all_push P (y ∷ xs) x h p = (h.0, all_push P xs x h.1 p)

-- ---- rowids

module _ {R : Type 0} (stored : R → Row) (first : RowidReader) (given : List R) (next : R) (id : ℤ) (old : RowidReader) (is : column (stored next) 0 ≡ Int id) (h : takes_rowids stored first given old) where
  one_more : AreRowids stored (given ++ next ∷ []) (h.0 ++ id ∷ [])
  one_more = map-append (λ r. column (stored r) 0) given (next ∷ []) ∙ (λ i. h.1 i ++ is i ∷ []) ∙ sym (map-append Int h.0 (id ∷ []))

  pub rowids_next : (new : RowidReader) → ((taken : List ℤ) → HasTakenRowids old taken → HasTakenRowids new (taken ++ id ∷ [])) → takes_rowids stored first (given ++ next ∷ []) new
  rowids_next new more = (h.0 ++ id ∷ [], one_more, λ before b. subst (HasTakenRowids new) (append_assoc before h.0 (id ∷ [])) (more (before ++ h.0) (h.2 before b)))

  pub rowids_refused : ((taken : List ℤ) → HasTakenRowids old taken → InOrder (λ a b. a ≡ b → ⊥) (taken ++ id ∷ []) → ⊥) → refuses_rowids stored first (given ++ next ∷ [])
  rowids_refused wrong = (h.0 ++ id ∷ [], one_more, λ before b apart. wrong (before ++ h.0) (h.2 before b) (subst (InOrder (λ a b. a ≡ b → ⊥)) (sym (append_assoc before h.0 (id ∷ []))) apart))

-- ---- entries

-- one entry that isn't taken
pub one_refused : (old : Reader) (e : spec.EntryRecord) → ((version : ℕ) (taken : Tables) → HasTaken version old taken → IsOfLast taken e → StandsForNone version (with_entry taken e)) → AreNotTaken old (e ∷ [])
one_refused old e wrong version taken h are = wrong version taken h are.0

module _ {R : Type 0} (entry : R → spec.EntryRecord) (first : Reader) (given : List R) (next : R) (old : Reader) (t : AreTaken first old (map entry given)) where
  entries_are : (entries : List spec.EntryRecord) → (entries ++ map entry given) ++ entry next ∷ [] ≡ entries ++ map entry (given ++ next ∷ [])
  entries_are entries = append_assoc entries (map entry given) (entry next ∷ []) ∙ ap (λ l. entries ++ l) (sym (map-append entry given (next ∷ [])))

  pub entries_next : (new : Reader) → AreTaken old new (entry next ∷ []) → AreTaken first new (map entry (given ++ next ∷ []))
  entries_next new more version taken h = subst (λ (entries : List spec.EntryRecord). HasTaken version new (record taken { entries = entries })) (entries_are taken.entries)
      (more version (with_entries taken (map entry given)) (t version taken h))

  pub entries_refused : AreNotTaken old (entry next ∷ []) → AreNotTaken first (map entry (given ++ next ∷ []))
  entries_refused wrong version taken h are =
      let parts = all_append_parts (IsOfLast taken) (map entry given) (entry next ∷ []) (subst (AreOfLast taken) (map-append entry given (next ∷ [])) are) in
      subst (λ (entries : List spec.EntryRecord). StandsForNone version (record taken { entries = entries })) (entries_are taken.entries) (wrong version (with_entries taken (map entry given)) (t version taken h) parts.1)

-- ---- entries, and the index of them

module _ {R : Type 0} (entry : R → spec.EntryRecord) (first : IndexingReader) (given : List R) (next : R) (old : IndexingReader) (t : AreTakenAndIndexed first old (map entry given)) where
  indexed_more : map indexed_of (map entry (given ++ next ∷ [])) ≡ map indexed_of (map entry given) ++ indexed_of (entry next) ∷ []
  indexed_more = ap (map indexed_of) (map-append entry given (next ∷ [])) ∙ map-append indexed_of (map entry given) (entry next ∷ [])

  pub added_next : (new : IndexingReader) → AreTakenAndIndexed old new (entry next ∷ []) → AreTakenAndIndexed first new (map entry (given ++ next ∷ []))
  added_next new more = record {
    taken = entries_next entry first.reader given next old.reader t.taken new.reader more.taken;
    index = more.index ∙ ap (λ l. l ++ indexed_of (entry next) ∷ []) t.index ∙ append_assoc first.index (map indexed_of (map entry given)) (indexed_of (entry next) ∷ []) ∙ ap (λ l. first.index ++ l) (sym indexed_more);
  }

  pub added_refused : AreNotTaken old.reader (entry next ∷ []) → AreNotTaken first.reader (map entry (given ++ next ∷ []))
  added_refused wrong = entries_refused entry first.reader given next old.reader t.taken wrong

-- ---- kept replies

module _ (first : Reader) (given : List KeptRow) (next : KeptRow) (old : Reader) (t : takes_replies first given old) where
  replies_are : (kept : List spec.KeptRecord) → (kept ++ kept_given given) ++ owned_kept next.value ∷ [] ≡ kept ++ kept_given (given ++ next ∷ [])
  replies_are kept = append_assoc kept (kept_given given) (owned_kept next.value ∷ []) ∙ ap (λ l. kept ++ l) (sym (map-append (λ (row : KeptRow). owned_kept row.value) given (next ∷ [])))

  pub replies_next : (new : Reader) → ((version : ℕ) (taken : Tables) → HasTaken version old taken → HasTaken version new (with_kept taken (owned_kept next.value))) → takes_replies first (given ++ next ∷ []) new
  replies_next new more version taken h = subst (λ (kept : List spec.KeptRecord). HasTaken version new (record taken { kept = kept })) (replies_are taken.kept) (more version (with_replies taken (kept_given given)) (t version taken h))

  pub replies_refused : ((version : ℕ) (taken : Tables) → HasTaken version old taken → StandsForNone version (with_kept taken (owned_kept next.value))) → refuses_replies first (given ++ next ∷ [])
  replies_refused wrong version taken h = subst (λ (kept : List spec.KeptRecord). StandsForNone version (record taken { kept = kept })) (replies_are taken.kept) (wrong version (with_replies taken (kept_given given)) (t version taken h))

-- ---- ids

pub ids_push : (given : List KeptRow) (next : KeptRow) → ids_given (given ++ next ∷ []) ≡ ids_given given ++ string_bytes next.value.id ∷ []
ids_push given next = ap (map (λ (row : spec.KeptRecord). row.id)) (map-append (λ (row : KeptRow). owned_kept row.value) given (next ∷ [])) ∙ map-append (λ (row : spec.KeptRecord). row.id) (kept_given given) (owned_kept next.value ∷ [])

module _ (first : IdReader) (given : List KeptRow) (next : KeptRow) (old : IdReader) (t : takes_ids first given old) where
  ids_are : (before : List (List ℕ)) → (before ++ ids_given given) ++ string_bytes next.value.id ∷ [] ≡ before ++ ids_given (given ++ next ∷ [])
  ids_are before = append_assoc before (ids_given given) (string_bytes next.value.id ∷ []) ∙ ap (λ l. before ++ l) (sym (ids_push given next))

  pub ids_refused : ((taken : List (List ℕ)) → HasTakenIds old taken → IsEachOnce (taken ++ string_bytes next.value.id ∷ []) → ⊥) → refuses_ids first (given ++ next ∷ [])
  ids_refused wrong before b once = wrong (before ++ ids_given given) (t before b) (subst IsEachOnce (sym (ids_are before)) once)
