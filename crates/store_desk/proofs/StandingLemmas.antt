-- How indexes stand behind a command.
use Rattle.std.proofs.Common.{◌≡◌, ℕ, List, subst, sym}
use Rattle.std.specs.Prelude.{Result, Ok, Err, OnErr}
use Rattle.std.specs.List.{AllByRecursion}
use Rattle.dict_catalogue.specs.declared.summary.Item.{Item}
use Rattle.dict_catalogue.specs.declared.reply.Kept.{Kept}
use Rattle.dict_catalogue.specs.declared.summary.Summary.{Summary}
use Rattle.store_commands.specs.declared.applied.Applied.{Applied}
use Rattle.store_commands.specs.declared.applied.Applied.TheVariants.{Done}
use Rattle.store_holdings.specs.Indexes.{IsGone}
use Rattle.store_holdings.proofs.NumberLemmas.{OfNumbers, Same}
use Rattle.store_search.specs.Entries.{Indexed}
use Rattle.store_desk.specs.Indexed.{HasLetGoIndexes, HasSettled}

-- behind a command that acted
pub settled_done : (number : ℕ) (done : Applied) (kept : Kept) (after : Summary) (old new : List (ℕ × List Indexed)) → done ≡ Done kept after
    → AllByRecursion (OfNumbers (Same old new)) after.items.items → HasSettled number (Ok done) old new
settled_done number done kept after old new is h = subst (λ (a : Applied). HasSettled number (Ok a) old new) (sym is) h

pub gone_done : (before : List Item) (number : ℕ) (done : Applied) (kept : Kept) (after : Summary) (indexes : List (ℕ × List Indexed)) → done ≡ Done kept after
    → AllByRecursion (OfNumbers (IsGone after.items.items indexes)) before → HasLetGoIndexes before number (Ok done) indexes
gone_done before number done kept after indexes is h = subst (λ (a : Applied). HasLetGoIndexes before number (Ok a) indexes) (sym is) h

pub on_err_with : {T E P : Type 0} (result : Result T E) → P → OnErr result P
on_err_with (Ok value) p = tt
on_err_with (Err fault) p = p
