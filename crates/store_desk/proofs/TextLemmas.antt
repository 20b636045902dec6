-- The texts that editions have over a command.
use Rattle.std.proofs.Common.{◌≡◌, ℕ, ◌<◌, ◌≤◌, ◌^◌, List, [], ◌∷◌, ◌++◌, map, length, refl, ap, sym, subst, ◌∙◌, arith}
use Rattle.std.specs.Prelude.{pos, Some, None, IsPermutation}
use Rattle.std.specs.List.{AllByRecursion}
use Rattle.std.proofs.lemmas.List.Sorted.{IsPermutation-trans}
use Rattle.sqlite.specs.Effect.{Database}
use Rattle.dict_text.proofs.AllLemmas.{all_flat_map_parts, all_weaker, all_unmapped}
use Rattle.dict_index.specs.Edition.{Edition}
use Rattle.dict_catalogue.specs.Items.{Stored, Item, regular, virtual, editions_of, numbers_of, edition_numbers, item_as}
use Rattle.dict_catalogue.specs.Tests.{Holdings}
use Rattle.dict_catalogue.specs.Steps.{Catalogue, summary_of}
use Rattle.dict_desk.specs.Shown.{HasEdition}
use Rattle.store_rows.specs.Versions.{known}
use Rattle.store_rows.specs.FileParts.{file_parts}
use Rattle.store_sql.specs.PartRecords.{part_row}
use Rattle.store_holdings.specs.Holds.{Holds}
use Rattle.store_holdings.specs.HeldTexts.{HoldsText, text_rows}
use Rattle.store_holdings.specs.CutTexts.{AreOfInstalls}
use Rattle.store_holdings.proofs.HeldLemmas.{held_one, text_once}
use Rattle.store_commands.specs.KeptRecords.{KeepsTextRows}
use Rattle.store_holdings.specs.KeptTexts.{PartNumbers}

-- a text that stays
pub text_carried : (old new : Database) (number : ℕ) (text : List ℕ) → IsPermutation (text_rows number old) (text_rows number new) → HoldsText old number text → HoldsText new number text
text_carried old new number text same held = record { few = held.few; rows = IsPermutation-trans (map part_row (file_parts (pos number) (pos 1) text)) (text_rows number old) (text_rows number new) held.rows same }

-- the text of an edition is as short as each that is stored
pub text_short : (db : Database) (M : Catalogue) (number : ℕ) (edition : Edition) → Holds known db M → HasEdition M number edition → (text : List ℕ) → HoldsText db number text → length text < 64 ^ 6
text_short db M number edition holds has text held =
    let it = held_one db M number edition holds has in
    subst (λ (t : List ℕ). length t < 64 ^ 6) (text_once db number it.0.text text it.3 held) it.4.short

-- ---- under the numbers of a summary

numbers_same : (item : Item Edition) → numbers_of (item_as (λ (edition : Edition). edition.title) item) ≡ numbers_of item
numbers_same (regular name current None) = refl
numbers_same (regular name current (Some former)) = refl
numbers_same (virtual name title members) = refl

all_same_numbers : (items : List (Item Edition)) → edition_numbers (map (item_as (λ (edition : Edition). edition.title)) items) ≡ edition_numbers items
all_same_numbers [] = refl
all_same_numbers (item ∷ items) = λ i. numbers_same item i ++ all_same_numbers items i

-- the texts that stay under the numbers of a summary stay under those of each edition
pub texts_stay : (M : Catalogue) (summary : Holdings (List ℕ)) → summary_of M ≡ summary → (installs : ℕ) (old new : Database) → KeepsTextRows installs (edition_numbers summary.items) old new
    → AllByRecursion (λ item. AllByRecursion (λ (stored : Stored Edition). stored.number ≤ installs → IsPermutation (text_rows stored.number old) (text_rows stored.number new)) (editions_of item)) M.items
texts_stay M summary is installs old new keeps =
    let P : ℕ → Type 0 = λ number. number ≤ installs → IsPermutation (text_rows number old) (text_rows number new) in
    let numbers : edition_numbers summary.items ≡ edition_numbers M.items = ap (λ (s : Holdings (List ℕ)). edition_numbers s.items) (sym is) ∙ all_same_numbers M.items in
    all_weaker (λ (item : Item Edition). AllByRecursion P (numbers_of item)) (λ item. AllByRecursion (λ (stored : Stored Edition). P stored.number) (editions_of item))
    (λ item h. all_unmapped P (λ (stored : Stored Edition). stored.number) (editions_of item) h) M.items
    (all_flat_map_parts P numbers_of M.items (subst (AllByRecursion P) numbers keeps))

-- ---- the texts that are kept

pub more_installs : (a b : ℕ) → a ≤ b → (texts : List (PartNumbers × List ℕ)) → AreOfInstalls a texts → AreOfInstalls b texts
more_installs a b low [] made = tt
more_installs a b low (kept ∷ texts) made = (let first = made.0 in omega (arith, first, low), more_installs a b low texts made.1)
