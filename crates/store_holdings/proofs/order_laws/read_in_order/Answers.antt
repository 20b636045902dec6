use Rattle.std.proofs.Common.{◌≡◌, [], ◌∷◌, map, String, false}
use Rattle.std.specs.Prelude.{◌≤ℤ◌}
use Rattle.std.specs.Ordering.{is_lt}
use Rattle.std.specs.declared.alloc.Global.{Global}
use Rattle.sqlite.specs.Order.{Row}
use Rattle.store_tables.specs.Records as spec
use Rattle.store_tables.specs.Typed.{owned_item, owned_member, owned_entry, owned_kept}
use Rattle.store_tables.specs.declared.records.StoredRow.{StoredRow}
use Rattle.store_tables.specs.declared.records as typed
use Rattle.store_sql.specs.Encodings.{stored_item, stored_member, stored_entry, stored_kept}
use Rattle.store_sql.specs.Reads.{by_columns}
use Rattle.store_sql.proofs.ReadLemmas.{sorted_order, one_le, second_le, records_order}
use Rattle.store_holdings.proofs.order_laws.read_in_order.Goals as goal

pub returns-clause-items : goal.returns-clause-items
returns-clause-items c = λ db rows h.
    records_order stored_item (λ (row : StoredRow (typed.ItemRecord.ItemRecord (String Global))). owned_item row.value) (λ (a b : Row). is_lt (by_columns (1 ∷ []) b a) ≡ false) (λ (a b : spec.ItemRecord). a.place ≤ℤ b.place)
    (λ a b r. one_le a.value.place b.value.place r) rows (sorted_order (1 ∷ []) (map stored_item rows) h.sorted)

pub returns-clause-members : goal.returns-clause-members
returns-clause-members c = λ db rows h.
    records_order stored_member (λ (row : StoredRow (typed.Member.Member (String Global))). owned_member row.value) (λ (a b : Row). is_lt (by_columns (1 ∷ 2 ∷ []) b a) ≡ false) (λ (a b : spec.Member). a.owner ≡ b.owner → a.ord ≤ℤ b.ord)
    (λ a b r same. second_le (owned_member a.value).owner (owned_member b.value).owner a.value.ord b.value.ord same r) rows (sorted_order (1 ∷ 2 ∷ []) (map stored_member rows) h.sorted)

pub returns-clause-entries : goal.returns-clause-entries
returns-clause-entries c = λ db number rows h.
    records_order stored_entry (λ (row : StoredRow (typed.EntryRecord.EntryRecord (String Global))). owned_entry row.value) (λ (a b : Row). is_lt (by_columns (2 ∷ []) b a) ≡ false) (λ (a b : spec.EntryRecord). a.ord ≤ℤ b.ord)
    (λ a b r. one_le a.value.ord b.value.ord r) rows (sorted_order (2 ∷ []) (map stored_entry rows) h.sorted)

pub returns-clause-kept : goal.returns-clause-kept
returns-clause-kept c = λ db rows h.
    records_order stored_kept (λ (row : StoredRow (typed.KeptRecord.KeptRecord (String Global))). owned_kept row.value) (λ (a b : Row). is_lt (by_columns (2 ∷ []) b a) ≡ false) (λ (a b : spec.KeptRecord). a.number ≤ℤ b.number)
    (λ a b r. one_le a.value.number b.value.number r) rows (sorted_order (2 ∷ []) (map stored_kept rows) h.sorted)
