-- What the records of the items tell, one after another.
use Rattle.std.proofs.Common.{◌≡◌, ℕ, suc, pos, ◌+◌, ◌<◌, List, [], ◌∷◌, ◌++◌, length, take, drop, get_or, refl, ap, sym, subst, ◌∙◌, Option, Some, None}
use Rattle.std.specs.Prelude.{option_map, String}
use Rattle.std.specs.declared.alloc.Global.{Global}
use Rattle.std.proofs.lemmas.List.{length-map}
use Rattle.store_tables.specs.Records as spec
use Rattle.store_tables.specs.Typed.{owned_item}
use Rattle.store_tables.specs.declared.records.ItemRecord.{ItemRecord as ItemRow}
use Rattle.store_tables.specs.declared.records.StoredRow.{StoredRow as Row}
use Rattle.dict_index.specs.Edition.{Edition}
use Rattle.dict_text.proofs.AllLemmas.{all_push}
use Rattle.dict_catalogue.specs.Items.{Stored, Item, regular, virtual}
use Rattle.store_rows.specs.Tables.{members_of_owner}
use Rattle.store_rows.specs.Written.{numbered, item_record, member_record}
use Rattle.store_rows.specs.Stands.{HoldsMembers}
use Rattle.store_rows.specs.Given.{items_given, OnDamage, IsUnread, IsItemRead, AreRead, IsNotRegular, IsNotVirtual, IsNoItem, AreNoItems}
use Rattle.store_rows.specs.declared.fault.RowsFault.{RowsFault}
use Rattle.store_rows.specs.declared.fault.RowsFault.TheVariants.{Damaged, Memory}
use Rattle.store_rows.proofs.ListLemmas.{numbered_length, numbered_push, next_of_all, map_cut, map_next}

-- one record

former_number : (former : Option (Stored Edition)) → option_map (λ stored. pos stored.number) former ≡ option_map pos (option_map (λ stored. stored.number) former)
former_number None = refl
former_number (Some former) = refl

pub former_told : (fault : RowsFault) (place : ℕ) (row : spec.ItemRecord) → OnDamage fault ((number : Option ℕ) → row.former ≡ option_map pos number → ⊥) → OnDamage fault (IsNotRegular place row)
former_told Damaged place row h = λ name current former e. h (option_map (λ stored. stored.number) former) (ap (λ (r : spec.ItemRecord). r.former) e ∙ former_number former)
former_told Memory place row h = tt

zero_one : pos 0 ≡ pos 1 → ⊥
zero_one e = cc

not_virtual : (place : ℕ) (row : spec.ItemRecord) (members : List spec.Member) → (row.kind ≡ pos 0 → ⊥) → IsNotVirtual place row → IsNoItem place row members
not_virtual place row members kind h (regular name current former) e held = kind (ap (λ (r : spec.ItemRecord). r.kind) e)
not_virtual place row members kind h (virtual name title names) e held = h name title names e

not_regular : (place : ℕ) (row : spec.ItemRecord) (members : List spec.Member) → row.kind ≡ pos 0 → IsNotRegular place row → IsNoItem place row members
not_regular place row members kind h (regular name current former) e held = h name current former e
not_regular place row members kind h (virtual name title names) e held = zero_one (sym kind ∙ ap (λ (r : spec.ItemRecord). r.kind) e)

pub virtual_told : (place : ℕ) (row : spec.ItemRecord) (members : List spec.Member) → (row.kind ≡ pos 0 → ⊥) → (fault : RowsFault) → OnDamage fault (IsNotVirtual place row) → OnDamage fault (IsNoItem place row members)
virtual_told place row members kind Damaged h = not_virtual place row members kind h
virtual_told place row members kind Memory h = tt

pub regular_told : (place : ℕ) (row : spec.ItemRecord) (members : List spec.Member) → row.kind ≡ pos 0 → (fault : RowsFault) → OnDamage fault (IsNotRegular place row) → OnDamage fault (IsNoItem place row members)
regular_told place row members kind Damaged h = not_regular place row members kind h
regular_told place row members kind Memory h = tt

-- a regular item has no members
pub members_told : (place : ℕ) (row : spec.ItemRecord) (members : List spec.Member) (names : List (List ℕ)) → row.kind ≡ pos 0 →
    members_of_owner row.name members ≡ numbered (member_record row.name) 0 names → (length names ≡ 0 → ⊥) → IsNoItem place row members
members_told place row members names kind found many (regular name current former) e held =
    let named : row.name ≡ name = ap (λ (r : spec.ItemRecord). r.name) e in
    let none : members_of_owner row.name members ≡ [] = subst (λ (n : List ℕ). members_of_owner n members ≡ []) (sym named) held in
    many (sym (numbered_length (member_record row.name) 0 names) ∙ ap length (sym found ∙ none))
members_told place row members names kind found many (virtual name title list) e held = zero_one (sym kind ∙ ap (λ (r : spec.ItemRecord). r.kind) e)

-- all records

pub no_item_told : (fault : RowsFault) (rows : List (Row (ItemRow (String Global)))) (members : List spec.Member) (i : ℕ) (row : Row (ItemRow (String Global))) → i < length rows → row ≡ get_or rows i row → length (take i rows) ≡ i →
    OnDamage fault (IsNoItem i (owned_item row.value) members) → OnDamage fault (AreNoItems (items_given rows) members)
no_item_told Damaged rows members i row lt is many h = λ items whole held.
    let cut = map_cut (λ (one : Row (ItemRow (String Global))). owned_item one.value) rows i row lt is in
    let found = next_of_all item_record (HoldsMembers members) items (items_given (take i rows)) (items_given (drop (suc i) rows)) (owned_item row.value) held (sym cut ∙ whole) in
    let place : length (items_given (take i rows)) ≡ i = length-map (take i rows) (λ (one : Row (ItemRow (String Global))). owned_item one.value) ∙ many in
    h found.0 (found.1 ∙ ap (λ k. item_record k found.0) place) found.2
no_item_told Memory rows members i row lt is many h = tt

pub next_item : (rows : List (Row (ItemRow (String Global)))) (members : List spec.Member) (i : ℕ) (row : Row (ItemRow (String Global))) (items after : List (Item (List ℕ))) (item : Item (List ℕ)) →
    i < length rows → row ≡ get_or rows i row → length items ≡ i → after ≡ items ++ item ∷ [] →
    AreRead 0 (items_given (take i rows)) members items → IsItemRead i (owned_item row.value) members item → AreRead 0 (items_given (take (i + 1) rows)) members after
next_item rows members i row items after item lt is many push done one = subst (AreRead 0 (items_given (take (i + 1) rows)) members) (sym push) (record {
  are = map_next (λ (r : Row (ItemRow (String Global))). owned_item r.value) rows i row lt is
      ∙ (λ j. done.are j ++ one.is j ∷ [])
      ∙ ap (λ k. numbered item_record 0 items ++ item_record k item ∷ []) (sym many)
      ∙ sym (numbered_push item_record items item);
  held = all_push (HoldsMembers members) items item done.held one.held;
  unread = all_push IsUnread items item done.unread one.unread;
})
