-- The tables that stand for a catalogue are in order.
use Rattle.std.proofs.Common.{◌≡◌, ℕ, ℤ, pos, Bool, true, false, ◌||◌, List, [], ◌∷◌, refl, sym, subst, ◌∙◌}
use Rattle.std.specs.Prelude.{◌≤ℤ◌, bytes_eq, cond, filter, IsTrue}
use Rattle.std.specs.List.{AllByRecursion, list_any}
use Rattle.std.proofs.lemmas.Bool.{false≢true}
use Rattle.dict_text.proofs.AllLemmas.{all_weaker, all_map, all_flat_map}
use Rattle.store_tables.specs.Records as spec
use Rattle.dict_index.specs.Edition.{Edition}
use Rattle.dict_catalogue.specs.Items.{Stored, Item, name_of, members_of, editions_of, is_named, is_known, numbers_of, edition_numbers}
use Rattle.dict_catalogue.specs.Steps.{Catalogue}
use Rattle.dict_catalogue.proofs.ItemLemmas.{same_text, text_itself}
use Rattle.store_rows.specs.Tables.{Tables, same_number, members_of_owner, entries_of}
use Rattle.store_rows.specs.Written.{item_record, member_record, entry_record}
use Rattle.store_rows.specs.Stands.{HoldsMembers, HoldsEdition, HoldsEditions, has_number, Stands}
use Rattle.store_rows.specs.Order.{InOrder, AreOrdered}
use Rattle.store_rows.proofs.OrderLemmas.{Below, numbered_rise, kept_rise, item_placed}
use Rattle.store_rows.proofs.TakenLemmas.{same_number_is, same_itself}

or_second : (a b : Bool) → (a || b) ≡ true → a ≡ false → b ≡ true
or_second true b e f = absurd (false≢true (sym f))
or_second false b e f = e

-- one that passes the test, with what holds of all
pub any_holds : {X : Type 0} (test : X → Bool) (P : X → Type 0) (C : Type 0) → ((x : X) → test x ≡ true → P x → C) → (xs : List X) → list_any test xs ≡ true → AllByRecursion P xs → C
any_holds test P C then [] e h = absurd (false≢true e)
any_holds test P C then (x ∷ xs) e h = split (test x) refl (λ k. any_holds test P C then xs (or_second (test x) (list_any test xs) e k) h.1)
  where
    split : (b : Bool) → test x ≡ b → (test x ≡ false → C) → C
    split true k rest = then x k h.0
    split false k rest = rest k

-- ---- lists that are in order group by group

pub order_weaker : {X : Type 0} (R T : X → X → Type 0) → ((a b : X) → R a b → T a b) → (xs : List X) → InOrder R xs → InOrder T xs
order_weaker R T then [] h = tt
order_weaker R T then (x ∷ xs) h = (all_weaker (R x) (T x) (then x) xs h.0, order_weaker R T then xs h.1)

order_tail : {X : Type 0} (R : X → X → Type 0) (x : X) (xs : List X) (b : Bool) → InOrder R (cond b (x ∷ xs) xs) → InOrder R xs
order_tail R x xs true h = h.1
order_tail R x xs false h = h

passed_step : {X : Type 0} (test : X → Bool) (P : X → Type 0) (x : X) (xs : List X) (b : Bool) → test x ≡ b → (AllByRecursion P (filter test xs) → AllByRecursion (λ y. test y ≡ true → P y) xs)
    → AllByRecursion P (cond b (x ∷ filter test xs) (filter test xs)) → (test x ≡ true → P x) × AllByRecursion (λ y. test y ≡ true → P y) xs
passed_step test P x xs true e rest h = ((λ passes. h.0), rest h.1)
passed_step test P x xs false e rest h = ((λ passes. absurd (false≢true (sym e ∙ passes))), rest h)

-- what holds of those that pass a test
of_passed : {X : Type 0} (test : X → Bool) (P : X → Type 0) (xs : List X) → AllByRecursion P (filter test xs) → AllByRecursion (λ y. test y ≡ true → P y) xs
of_passed test P [] h = tt
of_passed test P (x ∷ xs) h = passed_step test P x xs (test x) refl (of_passed test P xs) h

-- each element's group is in order, so two of one group are
grouped : {X : Type 0} (near : X → X → Bool) (E R : X → X → Type 0) → ((a b : X) → E a b → near a b ≡ true) → ((a : X) → near a a ≡ true) → (xs : List X) → AllByRecursion (λ x. InOrder R (filter (near x) xs)) xs
    → InOrder (λ a b. E a b → R a b) xs
grouped near E R joined itself [] h = tt
grouped near E R joined itself (x ∷ xs) h =
    let first : InOrder R (x ∷ filter (near x) xs) = subst (λ b. InOrder R (cond b (x ∷ filter (near x) xs) (filter (near x) xs))) (itself x) h.0 in (
      all_weaker (λ y. near x y ≡ true → R x y) (λ y. E x y → R x y) (λ y from e. from (joined x y e)) xs (of_passed (near x) (R x) xs first.0),
      grouped near E R joined itself xs (all_weaker (λ y. InOrder R (filter (near y) (x ∷ xs))) (λ y. InOrder R (filter (near y) xs)) (λ y up. order_tail R x (filter (near y) xs) (near y x) up) xs h.1),
    )

-- ---- tables that stand for a catalogue are in order

members_rise : (members : List spec.Member) (item : Item Edition) → HoldsMembers members item → InOrder (λ (a b : spec.Member). a.ord ≤ℤ b.ord) (members_of_owner (name_of item) members)
members_rise members item held =
    subst (InOrder (λ (a b : spec.Member). a.ord ≤ℤ b.ord)) (sym held)
    (order_weaker (λ (a b : spec.Member). Below a.ord b.ord) (λ (a b : spec.Member). a.ord ≤ℤ b.ord) (λ a b below. below.0) _ (numbered_rise (member_record (name_of item)) (λ (row : spec.Member). row.ord) (λ n x. refl) 0 (members_of item)))

owner_rises : (members : List spec.Member) (items : List (Item Edition)) (owner : List ℕ) → AllByRecursion (HoldsMembers members) items → IsTrue (is_known items owner)
    → InOrder (λ (a b : spec.Member). a.ord ≤ℤ b.ord) (members_of_owner owner members)
owner_rises members items owner held known =
    any_holds (is_named owner) (HoldsMembers members) (InOrder (λ (a b : spec.Member). a.ord ≤ℤ b.ord) (members_of_owner owner members))
    (λ item named h. subst (λ name. InOrder (λ (a b : spec.Member). a.ord ≤ℤ b.ord) (members_of_owner name members)) (same_text (name_of item) owner named) (members_rise members item h)) items known held

entries_rise : (tables : Tables) (owner : List ℕ) (stored : Stored Edition) → HoldsEdition tables owner stored → InOrder (λ (a b : spec.EntryRecord). a.ord ≤ℤ b.ord) (entries_of (pos stored.number) tables.entries)
entries_rise tables owner stored h =
    subst (InOrder (λ (a b : spec.EntryRecord). a.ord ≤ℤ b.ord)) (sym h.entries)
    (order_weaker (λ (a b : spec.EntryRecord). Below a.ord b.ord) (λ (a b : spec.EntryRecord). a.ord ≤ℤ b.ord) (λ a b below. below.0) _
    (numbered_rise (entry_record stored.number) (λ (row : spec.EntryRecord). row.ord) (λ n x. refl) 0 h.reading.lines))

item_entries : (tables : Tables) (item : Item Edition) → HoldsEditions tables item → AllByRecursion (λ number. InOrder (λ (a b : spec.EntryRecord). a.ord ≤ℤ b.ord) (entries_of (pos number) tables.entries)) (numbers_of item)
item_entries tables item h =
    all_map (HoldsEdition tables (name_of item)) (λ number. InOrder (λ (a b : spec.EntryRecord). a.ord ≤ℤ b.ord) (entries_of (pos number) tables.entries)) (λ (stored : Stored Edition). stored.number)
    (entries_rise tables (name_of item)) (editions_of item) h

number_rises : (tables : Tables) (items : List (Item Edition)) (number : ℤ) → AllByRecursion (HoldsEditions tables) items → IsTrue (has_number items number)
    → InOrder (λ (a b : spec.EntryRecord). a.ord ≤ℤ b.ord) (entries_of number tables.entries)
number_rises tables items number held known =
    any_holds (λ (one : ℕ). same_number (pos one) number) (λ (one : ℕ). InOrder (λ (a b : spec.EntryRecord). a.ord ≤ℤ b.ord) (entries_of (pos one) tables.entries))
    (InOrder (λ (a b : spec.EntryRecord). a.ord ≤ℤ b.ord) (entries_of number tables.entries))
    (λ one same up. subst (λ n. InOrder (λ (a b : spec.EntryRecord). a.ord ≤ℤ b.ord) (entries_of n tables.entries)) (same_number_is (pos one) number same) up) (edition_numbers items) known
    (all_flat_map (λ one. InOrder (λ (a b : spec.EntryRecord). a.ord ≤ℤ b.ord) (entries_of (pos one) tables.entries)) numbers_of items
    (all_weaker (HoldsEditions tables) (λ item. AllByRecursion (λ one. InOrder (λ (a b : spec.EntryRecord). a.ord ≤ℤ b.ord) (entries_of (pos one) tables.entries)) (numbers_of item)) (item_entries tables) items held))

pub ordered : (version : ℕ) (tables : Tables) (M : Catalogue) → Stands version tables M → AreOrdered tables
ordered version tables M s = record {
  items = subst (InOrder (λ (a b : spec.ItemRecord). a.place ≤ℤ b.place)) (sym s.items)
      (order_weaker (λ (a b : spec.ItemRecord). Below a.place b.place) (λ (a b : spec.ItemRecord). a.place ≤ℤ b.place) (λ a b below. below.0) _ (numbered_rise item_record (λ (row : spec.ItemRecord). row.place) item_placed 0 M.items));
  members = grouped (λ (a b : spec.Member). bytes_eq b.owner a.owner) (λ (a b : spec.Member). a.owner ≡ b.owner) (λ (a b : spec.Member). a.ord ≤ℤ b.ord)
      (λ a b same. subst (λ owner. bytes_eq owner a.owner ≡ true) same (text_itself a.owner)) (λ a. text_itself a.owner) tables.members
      (all_weaker (λ (row : spec.Member). IsTrue (is_known M.items row.owner)) (λ row. InOrder (λ (a b : spec.Member). a.ord ≤ℤ b.ord) (members_of_owner row.owner tables.members))
      (λ row known. owner_rises tables.members M.items row.owner s.members known) tables.members s.owners);
  entries = grouped (λ (a b : spec.EntryRecord). same_number b.edition a.edition) (λ (a b : spec.EntryRecord). a.edition ≡ b.edition) (λ (a b : spec.EntryRecord). a.ord ≤ℤ b.ord)
      (λ a b same. subst (λ number. same_number number a.edition ≡ true) same (same_itself a.edition)) (λ a. same_itself a.edition) tables.entries
      (all_weaker (λ (row : spec.EntryRecord). IsTrue (has_number M.items row.edition)) (λ row. InOrder (λ (a b : spec.EntryRecord). a.ord ≤ℤ b.ord) (entries_of row.edition tables.entries))
      (λ row known. number_rises tables M.items row.edition s.editions known) tables.entries s.entries);
  kept = subst (InOrder (λ (a b : spec.KeptRecord). a.number ≤ℤ b.number)) (sym s.kept)
      (order_weaker (λ (a b : spec.KeptRecord). Below a.number b.number) (λ (a b : spec.KeptRecord). a.number ≤ℤ b.number) (λ a b below. below.0) _ (kept_rise 1 M.kept s.well_formed.numbered));
}
