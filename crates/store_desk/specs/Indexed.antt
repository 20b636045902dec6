-- The indexes of the editions that a database holds.
use Rattle.std.specs.Prelude.{◌≡◌, ◌≢◌, ℕ, List, Some, None, Option, map, nat_eq, if◌then◌else◌, Result, Ok, Err}
use Rattle.std.specs.List.{AllByRecursion}
use Rattle.sqlite.specs.Effect.{Database}
use Rattle.dict_index.specs.Edition.{Edition}
use Rattle.dict_catalogue.specs.Items.{Stored, editions_of, numbers_of}
use Rattle.dict_catalogue.specs.Steps.{Catalogue}
use Rattle.dict_catalogue.specs.declared.commands.Command.{Command}
use Rattle.dict_catalogue.specs.declared.commands.Command.TheVariants.{Install, Rollback, Retire, PutVirtual, Place}
use Rattle.dict_catalogue.specs.declared.summary.Item.{Item}
use Rattle.dict_catalogue.specs.Views.{item_shown}
use Rattle.store_commands.specs.declared.applied.Applied.{Applied}
use Rattle.store_commands.specs.declared.applied.Applied.TheVariants.{Repeated, Done}
use Rattle.dict_desk.specs.declared.fault.Fault.{Fault}
use Rattle.store_holdings.specs.Indexes.{entries_under, IsGone}
use Rattle.store_holdings.specs.HeldTexts.{HoldsText}
use Rattle.store_holdings.specs.CutTexts.{Cuts}
use Rattle.store_search.specs.Entries.{Indexed, entry_of}

-- Under the edition's number stands an index that cuts its entries out of the text which the database has under it.
pub record IsHeldCut (db : Database) (indexes : List (ℕ × List Indexed)) (stored : Stored Edition) : Type 0 where
  pub index : List Indexed
  pub stands : entries_under stored.number indexes ≡ Some index
  pub text : List ℕ
  pub held : HoldsText db stored.number text
  pub cuts : Cuts index stored.content text

-- so it is of each edition of the catalogue, current and former
abbrev pub AreHeldCut : Database → Catalogue → List (ℕ × List Indexed) → Type 0
AreHeldCut db M indexes = AllByRecursion (λ item. AllByRecursion (IsHeldCut db indexes) (editions_of item)) M.items

-- the index of the edition that a command installs
abbrev pub index_coming : Command → Option (List Indexed)
index_coming (Install name edition) = Some (map entry_of edition.now.lines)
index_coming (Rollback name) = None
index_coming (Retire name) = None
index_coming (PutVirtual name title members) = None
index_coming (Place name at) = None

-- it was put under a number, and nothing else was; where none comes, nothing was
abbrev pub HasPutIfSome : ℕ → Option (List Indexed) → List (ℕ × List Indexed) → List (ℕ × List Indexed) → Type 0
HasPutIfSome number (Some index) old new = (q : ℕ) → entries_under q new ≡ (if nat_eq number q then Some index else entries_under q old)
HasPutIfSome number None old new = new ≡ old

-- Behind a command that acted, under the numbers of the editions that are there then stands what stood there; behind one that didn't, under
-- all numbers but that which an edition was to get.
abbrev pub HasSettled : ℕ → Result Applied Fault → List (ℕ × List Indexed) → List (ℕ × List Indexed) → Type 0
HasSettled number (Ok (Done kept after)) old new = AllByRecursion (λ item. AllByRecursion (λ one. entries_under one new ≡ entries_under one old) (numbers_of (item_shown item))) after.items.items
HasSettled number (Ok (Repeated kept)) old new = (q : ℕ) → q ≢ number → entries_under q new ≡ entries_under q old
HasSettled number (Err fault) old new = (q : ℕ) → q ≢ number → entries_under q new ≡ entries_under q old

-- Behind a command that acted, none stands under the number of an edition that was there before and isn't then; behind one that didn't,
-- none under that which an edition was to get.
abbrev pub HasLetGoIndexes : List Item → ℕ → Result Applied Fault → List (ℕ × List Indexed) → Type 0
HasLetGoIndexes before number (Ok (Done kept after)) indexes = AllByRecursion (λ item. AllByRecursion (IsGone after.items.items indexes) (numbers_of (item_shown item))) before
HasLetGoIndexes before number (Ok (Repeated kept)) indexes = entries_under number indexes ≡ None
HasLetGoIndexes before number (Err fault) indexes = entries_under number indexes ≡ None
