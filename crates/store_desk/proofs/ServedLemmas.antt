-- The editions by which lookups are answered, over the calls of a desk.
use Rattle.std.proofs.Common.{◌≡◌, ℕ, false, List, sym, subst, ◌∙◌}
use Rattle.std.specs.Prelude.{IsTrue}
use Rattle.std.specs.List.{AllByRecursion}
use Rattle.sqlite.specs.Effect.{Database}
use Rattle.sqlite.specs.Held.{state}
use Rattle.sqlite_trees.specs.declared.store.Store.{Ghosts}
use Rattle.dict_text.proofs.AllLemmas.{all_weaker}
use Rattle.dict_index.specs.Edition.{Edition}
use Rattle.dict_catalogue.specs.Items.{Stored, Item, editions_of}
use Rattle.dict_catalogue.specs.Steps.{Catalogue}
use Rattle.store_holdings.specs.Indexes.{entries_under}
use Rattle.dict_desk.specs.Shown.{HasEdition}
use Rattle.store_holdings.specs.HeldTexts.{HoldsText}
use Rattle.store_holdings.specs.CutTexts.{ArePartsOf}
use Rattle.store_holdings.proofs.LookupLemmas.{all_contains}
use Rattle.store_desk.specs.Desk.{DeskState, ServesEdition, ServesEditions, is_closed}

-- what holds of each edition of each item
pub each_edition : (P Q : Stored Edition → Type 0) → ((stored : Stored Edition) → P stored → Q stored) → (items : List (Item Edition)) → AllByRecursion (λ item. AllByRecursion P (editions_of item)) items
    → AllByRecursion (λ item. AllByRecursion Q (editions_of item)) items
each_edition P Q f items h = all_weaker (λ item. AllByRecursion P (editions_of item)) (λ item. AllByRecursion Q (editions_of item)) (λ item p. all_weaker P Q f (editions_of item) p) items h

module _ {S : Type 0} (g : Ghosts S) (old new : DeskState S) (same : (q : ℕ) → entries_under q new.indexes ≡ entries_under q old.indexes) (fine : is_closed new.last ≡ false → is_closed old.last ≡ false)
    (was_open : IsTrue (state g new.conn).is_open → IsTrue (state g old.conn).is_open) (committed : IsTrue (state g new.conn).is_open → (state g new.conn).committed ≡ (state g old.conn).committed) where
  pub one_still : (stored : Stored Edition) (one : ServesEdition g old stored) → ArePartsOf stored.number one.text new.texts → ServesEdition g new stored
  one_still stored one parts = record {
    index = one.index;
    stands = same stored.number ∙ one.stands;
    text = one.text;
    cuts = one.cuts;
    kept = parts;
    held = λ open' live. subst (λ (db : Database). HoldsText db stored.number one.text) (sym (committed live)) (one.held (fine open') (was_open live));
  }

  pub served_still : ((stored : Stored Edition) (one : ServesEdition g old stored) → ArePartsOf stored.number one.text new.texts) → (M : Catalogue) → ServesEditions g old M → ServesEditions g new M
  served_still parts M h = each_edition (ServesEdition g old) (ServesEdition g new) (λ stored one. one_still stored one (parts stored one)) M.items h

-- ---- one edition

-- the edition of a number
pub served_one : {S : Type 0} (g : Ghosts S) (desk : DeskState S) (M : Catalogue) (number : ℕ) (edition : Edition) → HasEdition M number edition → ServesEditions g desk M
    → ServesEdition g desk (record { number = number; content = edition })
served_one g desk M number edition has served =
    all_contains (ServesEdition g desk) (editions_of has.item) (record { number = number; content = edition }) (all_contains (λ item. AllByRecursion (ServesEdition g desk) (editions_of item)) M.items has.item served has.stands) has.stored
