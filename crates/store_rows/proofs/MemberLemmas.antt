-- The members of all items, and the items' records, as they are written.
use Rattle.std.proofs.Common.{◌≡◌, ℕ, ◌+◌, Bool, true, false, ◌||◌, List, [], ◌∷◌, ◌++◌, refl, ap, sym, ◌∙◌}
use Rattle.std.specs.Prelude.{map, cond, not, bytes_eq, IsTrue, Option, Some, None, option_map, pos}
use Rattle.std.specs.List.{AllByRecursion}
use Rattle.std.proofs.lemmas.Bool.{false≢true, and_parts, not-true}
use Rattle.std.proofs.lemmas.List.Elements.{filter-append}
use Rattle.dict_text.proofs.AllLemmas.{all_weaker, all_flat_map}
use Rattle.store_tables.specs.Records as spec
use Rattle.dict_catalogue.specs.Items.{Stored, Item, regular, virtual, name_of, members_of, is_named, is_known, item_as, stored_as}
use Rattle.dict_catalogue.proofs.ListLemmas.{none_passes}
use Rattle.dict_catalogue.proofs.ItemLemmas.{same_text, text_itself}
use Rattle.store_rows.specs.Tables.{members_of_owner}
use Rattle.store_rows.specs.Written.{numbered, item_record, member_record}
use Rattle.store_rows.specs.Stands.{HoldsMembers}
use Rattle.store_rows.specs.Tests.{has_names_once}
use Rattle.store_rows.specs.After.{all_members}

-- ---- one owner's

mine : (owner : List ℕ) (n : ℕ) (names : List (List ℕ)) → members_of_owner owner (numbered (member_record owner) n names) ≡ numbered (member_record owner) n names
mine owner n [] = refl
mine owner n (name ∷ names) = ap (λ b. cond b (member_record owner n name ∷ members_of_owner owner (numbered (member_record owner) (n + 1) names)) (members_of_owner owner (numbered (member_record owner) (n + 1) names))) (text_itself owner)
    ∙ ap (λ rows. member_record owner n name ∷ rows) (mine owner (n + 1) names)

others : (owner other : List ℕ) (n : ℕ) (names : List (List ℕ)) → bytes_eq other owner ≡ false → members_of_owner owner (numbered (member_record other) n names) ≡ []
others owner other n [] e = refl
others owner other n (name ∷ names) e = ap (λ b. cond b (member_record other n name ∷ members_of_owner owner (numbered (member_record other) (n + 1) names)) (members_of_owner owner (numbered (member_record other) (n + 1) names))) e
    ∙ others owner other (n + 1) names e

unknown : {A : Type 0} (owner : List ℕ) (items : List (Item A)) → AllByRecursion (λ item. is_named owner item ≡ false) items → members_of_owner owner (all_members items) ≡ []
unknown owner [] h = refl
unknown owner (item ∷ items) h =
    filter-append (λ (row : spec.Member). bytes_eq row.owner owner) (numbered (member_record (name_of item)) 0 (members_of item)) (all_members items)
    ∙ (λ i. others owner (name_of item) 0 (members_of item) h.0 i ++ unknown owner items h.1 i)

append_none : {X : Type 0} (xs : List X) → xs ++ [] ≡ xs
append_none [] = refl
append_none (x ∷ xs) = ap (λ ys. x ∷ ys) (append_none xs)

other_way : (a b : List ℕ) → bytes_eq a b ≡ false → bytes_eq b a ≡ false
other_way a b e = step (bytes_eq b a) refl
  where
    step : (d : Bool) → bytes_eq b a ≡ d → bytes_eq b a ≡ false
    step true same = absurd (false≢true (sym e ∙ ap (λ t. bytes_eq a t) (same_text b a same) ∙ text_itself a))
    step false same = same

behind : {A : Type 0} (first : Item A) (rest : List (Item A)) (item : Item A) → is_named (name_of first) item ≡ false → HoldsMembers (all_members rest) item → HoldsMembers (all_members (first ∷ rest)) item
behind first rest item apart h =
    filter-append (λ (row : spec.Member). bytes_eq row.owner (name_of item)) (numbered (member_record (name_of first)) 0 (members_of first)) (all_members rest)
    ∙ (λ i. others (name_of item) (name_of first) 0 (members_of first) (other_way (name_of item) (name_of first) apart) i ++ h i)

pub all_with : {X : Type 0} (P Q T : X → Type 0) → ((x : X) → P x → Q x → T x) → (xs : List X) → AllByRecursion P xs → AllByRecursion Q xs → AllByRecursion T xs
all_with P Q T f [] h g = tt
all_with P Q T f (x ∷ xs) h g = (f x h.0 g.0, all_with P Q T f xs h.1 g.1)

-- each item has its own
pub own_members : {A : Type 0} (items : List (Item A)) → has_names_once items ≡ true → AllByRecursion (HoldsMembers (all_members items)) items
own_members [] h = tt
own_members (item ∷ items) h =
    let parts = and_parts (not (is_known items (name_of item))) (has_names_once items) h in
    let apart : AllByRecursion (λ other. is_named (name_of item) other ≡ false) items = none_passes (is_named (name_of item)) items (not-true (is_known items (name_of item)) parts.0) in (
      filter-append (λ (row : spec.Member). bytes_eq row.owner (name_of item)) (numbered (member_record (name_of item)) 0 (members_of item)) (all_members items)
          ∙ (λ i. mine (name_of item) 0 (members_of item) i ++ unknown (name_of item) items apart i) ∙ append_none (numbered (member_record (name_of item)) 0 (members_of item)),
      all_with (λ other. is_named (name_of item) other ≡ false) (HoldsMembers (all_members items)) (HoldsMembers (all_members (item ∷ items))) (λ other named held. behind item items other named held) items apart (own_members items parts.1),
    )

or_first : (a b : Bool) → a ≡ true → (a || b) ≡ true
or_first true b e = refl
or_first false b e = absurd (false≢true e)

or_second : (a b : Bool) → b ≡ true → (a || b) ≡ true
or_second true b e = refl
or_second false b e = e

known_each : {A : Type 0} (items : List (Item A)) → AllByRecursion (λ item. is_known items (name_of item) ≡ true) items
known_each [] = tt
known_each (item ∷ items) = (
  or_first (is_named (name_of item) item) (is_known items (name_of item)) (text_itself (name_of item)),
  all_weaker (λ other. is_known items (name_of other) ≡ true) (λ other. is_known (item ∷ items) (name_of other) ≡ true) (λ other e. or_second (is_named (name_of other) item) (is_known items (name_of other)) e) items (known_each items),
)

owned : (owner : List ℕ) (P : List ℕ → Type 0) (n : ℕ) (names : List (List ℕ)) → P owner → AllByRecursion (λ (row : spec.Member). P row.owner) (numbered (member_record owner) n names)
owned owner P n [] p = tt
owned owner P n (name ∷ names) p = (p, owned owner P (n + 1) names p)

-- each member's owner is one of the items
pub own_owners : {A : Type 0} (items : List (Item A)) → AllByRecursion (λ (row : spec.Member). IsTrue (is_known items row.owner)) (all_members items)
own_owners {A} items =
    all_flat_map (λ (row : spec.Member). IsTrue (is_known items row.owner)) (λ (item : Item A). numbered (member_record (name_of item)) 0 (members_of item)) items
    (all_weaker (λ (item : Item A). is_known items (name_of item) ≡ true) (λ (item : Item A). AllByRecursion (λ (row : spec.Member). IsTrue (is_known items row.owner)) (numbered (member_record (name_of item)) 0 (members_of item)))
    (λ item e. owned (name_of item) (λ owner. IsTrue (is_known items owner)) 0 (members_of item) e) items (known_each items))

-- ---- whatever is kept of the editions

former_as : {A B : Type 0} (f : A → B) (former : Option (Stored A)) → option_map (λ (one : Stored B). pos one.number) (option_map (stored_as f) former) ≡ option_map (λ (one : Stored A). pos one.number) former
former_as f None = refl
former_as f (Some former) = refl

item_same : {A B : Type 0} (f : A → B) (place : ℕ) (item : Item A) → item_record place (item_as f item) ≡ item_record place item
item_same f place (regular name current former) = λ i. record { place = pos place; name = name; kind = pos 0; title = None; current = Some (pos current.number); former = former_as f former i }
item_same f place (virtual name title members) = refl

pub items_same : {A B : Type 0} (f : A → B) (place : ℕ) (items : List (Item A)) → numbered item_record place (map (item_as f) items) ≡ numbered item_record place items
items_same f place [] = refl
items_same f place (item ∷ items) = λ i. item_same f place item i ∷ items_same f (place + 1) items i

name_same : {A B : Type 0} (f : A → B) (item : Item A) → name_of (item_as f item) ≡ name_of item
name_same f (regular name current former) = refl
name_same f (virtual name title members) = refl

listed_same : {A B : Type 0} (f : A → B) (item : Item A) → members_of (item_as f item) ≡ members_of item
listed_same f (regular name current former) = refl
listed_same f (virtual name title members) = refl

pub members_as : {A B : Type 0} (f : A → B) (items : List (Item A)) → all_members (map (item_as f) items) ≡ all_members items
members_as f [] = refl
members_as f (item ∷ items) = λ i. numbered (member_record (name_same f item i)) 0 (listed_same f item i) ++ members_as f items i
