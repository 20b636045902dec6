-- Indexes of editions, by the numbers of the editions.
use Rattle.std.specs.Prelude.{◌≡◌, ◌≢◌, ℕ, List, [], nat_eq, Option, Some, None}
use Rattle.std.specs.List.{AllByRecursion}
use Rattle.std.specs.BTreeMap.{insert_entry}
use Rattle.std.specs.Map.{lookup}
use Rattle.std.specs.Ordering.{nat_cmp}
use Rattle.dict_catalogue.specs.Items.{numbers_of}
use Rattle.dict_catalogue.specs.Views.{item_shown}
use Rattle.dict_catalogue.specs.declared.summary.Item.{Item}
use Rattle.store_search.specs.Entries.{Indexed}

-- the entries of the index that stands under a number
abbrev pub entries_under : ℕ → List (ℕ × List Indexed) → Option (List Indexed)
entries_under number indexes = lookup (nat_eq number) indexes

-- An index was taken out from under a number: an empty one stands there, and all is as it was before once the index is put in its place.
pub record IsOut (number : ℕ) (index : List Indexed) (before now : List (ℕ × List Indexed)) : Type 0 where
  pub there : entries_under number now ≡ Some []
  pub back : insert_entry nat_cmp now number index ≡ before

-- no index stands under a number that none of these items' editions has
abbrev pub IsGone : List Item → List (ℕ × List Indexed) → ℕ → Type 0
IsGone items indexes number = AllByRecursion (λ item. AllByRecursion (λ one. one ≢ number) (numbers_of (item_shown item))) items → entries_under number indexes ≡ None
