-- Numbers that no item has.
use Rattle.std.proofs.Common.{◌≡◌, ℕ, ◌≤◌, true, ◌&&◌, List, sym, subst, ◌∙◌, arith}
use Rattle.std.specs.Prelude.{length, nat_le}
use Rattle.std.specs.List.{AllByRecursion, list_all}
use Rattle.std.proofs.lemmas.Bool.{and_parts}
use Rattle.std.proofs.lemmas.Bool.Decides.{nat_tests}
use Rattle.dict_text.proofs.AllLemmas.{all_weaker}
use Rattle.dict_catalogue.specs.Items.{Item, edition_numbers}
use Rattle.dict_catalogue.specs.Steps.{Catalogue}
use Rattle.store_rows.specs.Tables.{Tables}
use Rattle.store_rows.specs.Stands.{HoldsMembers, Stands}
use Rattle.store_rows.specs.Tests.{is_lawful_item, is_from_one_to, has_lawful_numbers, has_lawful_items, has_known_members, has_names_once, has_numbers_once}
use Rattle.store_rows.specs.Taken.{GoesOnFrom, HasTaken, items_in}
use Rattle.store_rows.specs.declared.reader.Reader.{Reader}
use Rattle.store_rows.proofs.LawfulLemmas.{items_bare, numbers_alike, each_itself}

-- the numbers of a catalogue's items are those of the items that were taken
pub numbers_taken : (version : ℕ) (reader : Reader) (taken tables : Tables) (M : Catalogue) → HasTaken version reader taken → GoesOnFrom taken tables → Stands version tables M → edition_numbers M.items ≡ edition_numbers (items_in reader)
numbers_taken version reader taken tables M h goes stands =
    numbers_alike M.items (items_in reader)
    (items_bare 0 tables.members M.items (items_in reader) (sym stands.items ∙ goes.items ∙ h.items) stands.members (subst (λ members. AllByRecursion (HoldsMembers members) (items_in reader)) (sym goes.members) h.members))

within : (installs most number : ℕ) → installs ≤ most → is_from_one_to installs number ≡ true → number ≤ most
within installs most number le h = let parts = and_parts (nat_le 1 number) (nat_le number installs) h in let below : number ≤ installs = grind (arith, nat_tests) in omega arith

numbers_within : {A : Type 0} (installs most : ℕ) (items : List (Item A)) → installs ≤ most → has_lawful_items installs items ≡ true → AllByRecursion (λ number. number ≤ most) (edition_numbers items)
numbers_within installs most items le h =
    let a = and_parts (nat_le (length items) 64 && list_all is_lawful_item items && has_names_once items && list_all (has_known_members items) items) (has_lawful_numbers installs (edition_numbers items)) h in
    let n = and_parts (list_all (is_from_one_to installs) (edition_numbers items)) (has_numbers_once (edition_numbers items)) a.1 in
    all_weaker (λ number. is_from_one_to installs number ≡ true) (λ number. number ≤ most) (λ number m. within installs most number le m) (edition_numbers items) (each_itself (is_from_one_to installs) (edition_numbers items) n.0)

pub numbers_fit : (reader : Reader) → reader.installs ≤ 9223372036854775807 → (AllByRecursion (λ number. number ≤ 9223372036854775807) (edition_numbers (items_in reader)) → ⊥) →
    (version : ℕ) (taken : Tables) → HasTaken version reader taken → ⊥
numbers_fit reader le wrong version taken h = wrong (numbers_within reader.installs 9223372036854775807 (items_in reader) le h.lawful)
