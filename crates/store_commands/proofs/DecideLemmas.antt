-- What is planned over a summary can be written, and is the change that the command makes.
use Rattle.std.proofs.Common.{◌≡◌, ℕ, ◌+◌, ◌≤◌, true, List, [], ◌∷◌, ◌++◌, map, nat_lt, Option, Some, None, refl, sym, ap, subst, ◌∙◌, arith}
use Rattle.std.specs.Prelude.{IfSome}
use Rattle.std.specs.List.{AllByRecursion}
use Rattle.std.proofs.lemmas.Bool.Decides.{nat_tests}
use Rattle.dict_text.proofs.AllLemmas.{all_weaker, all_filter, all_map, all_flat_map, all_flat_map_parts}
use Rattle.dict_index.specs.Edition.{Edition}
use Rattle.dict_index.specs.Line.{Line}
use Rattle.dict_index.specs.Views.{line_of, LiesIn}
use Rattle.dict_index.specs.declared.entry.Entry.{Entry}
use Rattle.store_rows.specs.Stands.{IsWithin}
use Rattle.dict_catalogue.specs.Items.{Stored, Item, regular, virtual, is_named, editions_of, numbers_of, edition_numbers, current_of, current_number, item_as}
use Rattle.dict_catalogue.specs.Commands.{Command, install, rollback, retire, put_virtual, place}
use Rattle.dict_catalogue.specs.Tests.{Holdings}
use Rattle.dict_catalogue.specs.Effects.{effect, items_after, installs_after, edition_told}
use Rattle.dict_catalogue.specs.Steps.{Catalogue, holdings, summary_of}
use Rattle.dict_catalogue.specs.WellFormed.{IsWellFormed}
use Rattle.dict_catalogue.specs.Views.{item_shown, summary_shown, command_shown, command_meant, IsEffect, IsChange}
use Rattle.dict_catalogue.specs.declared.commands.Command as typed
use Rattle.dict_catalogue.specs.declared.commands.Command.TheVariants.{Install, Rollback, Retire, PutVirtual, Place}
use Rattle.dict_catalogue.specs.declared.planning.PlannedChange.{PlannedChange as Planned}
use Rattle.dict_catalogue.proofs.ListLemmas.{by_test}
use Rattle.dict_catalogue.proofs.SummaryLemmas.{effect_with, editions_gone_as, reply_to_as}
use Rattle.dict_catalogue.proofs.WellFormedLemmas.{EachEdition, IfInstalled, each_after, has_its_turn}
use Rattle.store_rows.specs.After as after
use Rattle.store_commands.specs.KeptRecords.{FitsColumn, AreStorable}
use Rattle.store_commands.specs.Changes.{IsWritable, IsInRange, installed_by, change_by}
use Rattle.store_commands.specs.Decided.{LiesWithin}

module _ {A : Type 0} where
  -- ---- numbers stay in their range

  to_editions : (most : ℕ) (editions : List (Stored A)) → AllByRecursion (λ number. number ≤ most) (map (λ (stored : Stored A). stored.number) editions) → AllByRecursion (λ (stored : Stored A). stored.number ≤ most) editions
  to_editions most [] h = tt
  to_editions most (one ∷ editions) h = (h.0, to_editions most editions h.1)

  from_editions : (most : ℕ) (editions : List (Stored A)) → AllByRecursion (λ (stored : Stored A). stored.number ≤ most) editions → AllByRecursion (λ number. number ≤ most) (map (λ (stored : Stored A). stored.number) editions)
  from_editions most [] h = tt
  from_editions most (one ∷ editions) h = (h.0, from_editions most editions h.1)

  abbrev AtMost : ℕ → Stored A → Type 0
  AtMost most stored = stored.number ≤ most

  each_at_most : (most : ℕ) (items : List (Item A)) → AllByRecursion (λ number. number ≤ most) (edition_numbers items) → AllByRecursion (EachEdition (AtMost most)) items
  each_at_most most items h =
      all_weaker (λ item. AllByRecursion (λ number. number ≤ most) (numbers_of item)) (EachEdition (AtMost most)) (λ item p. to_editions most (editions_of item) p) items
      (all_flat_map_parts (λ number. number ≤ most) numbers_of items h)

  all_at_most : (most : ℕ) (items : List (Item A)) → AllByRecursion (EachEdition (AtMost most)) items → AllByRecursion (λ number. number ≤ most) (edition_numbers items)
  all_at_most most items h =
      all_flat_map (λ number. number ≤ most) numbers_of items
      (all_weaker (EachEdition (AtMost most)) (λ item. AllByRecursion (λ number. number ≤ most) (numbers_of item)) (λ item p. from_editions most (editions_of item) p) items h)

  grown : (command : Command A) (installs : ℕ) → installs ≤ installs_after command installs
  grown (install name content) installs = omega arith
  grown (rollback name) installs = omega arith
  grown (retire name) installs = omega arith
  grown (put_virtual name title members) installs = omega arith
  grown (place name at) installs = omega arith

  installed_at_most : (command : Command A) (installs : ℕ) → IfInstalled (AtMost (installs_after command installs)) (installs + 1) command
  unfolding IfInstalled
  installed_at_most (install name content) installs = omega arith
  installed_at_most (rollback name) installs = tt
  installed_at_most (retire name) installs = tt
  installed_at_most (put_virtual name title members) installs = tt
  installed_at_most (place name at) installs = tt

  each_stays : (before : Holdings A) (command : Command A) → AllByRecursion (λ number. number ≤ before.installs) (edition_numbers before.items)
      → AllByRecursion (λ number. number ≤ (effect command before).installs) (edition_numbers (effect command before).items)
  each_stays before command h =
      let most = installs_after command before.installs in
      all_at_most most (items_after (before.installs + 1) command before.items)
      (each_after (AtMost before.installs) (AtMost most) (before.installs + 1) command before.items (λ one p. let g = grown command before.installs in omega (arith, p, g)) (installed_at_most command before.installs)
      (each_at_most before.installs before.items h))

  current_in : (P : ℕ → Type 0) (item : Item A) → AllByRecursion P (numbers_of item) → IfSome (current_of item) P
  current_in P (regular name current None) h = h.0
  current_in P (regular name current (Some former)) h = h.0
  current_in P (virtual name title members) h = tt

  current_among : (P : ℕ → Type 0) (items : List (Item A)) (name : List ℕ) → AllByRecursion (λ item. AllByRecursion P (numbers_of item)) items → IfSome (current_number items name) P
  current_among P [] name h = tt
  current_among P (item ∷ items) name h =
      by_test (λ (n : Option ℕ). IfSome n P) (is_named name item) (current_of item) (current_number items name) (λ e. current_in P item h.0) (λ e. current_among P items name h.1)

  told_among : (P : ℕ → Type 0) (command : Command A) (items : List (Item A)) → AllByRecursion (λ item. AllByRecursion P (numbers_of item)) items → IfSome (edition_told command items) P
  told_among P (install name content) items h = current_among P items name h
  told_among P (rollback name) items h = current_among P items name h
  told_among P (retire name) items h = tt
  told_among P (put_virtual name title members) items h = tt
  told_among P (place name at) items h = tt

from_shown : {X Y : Type 0} (P : Y → Type 0) (f : X → Y) (xs : List X) → AllByRecursion P (map f xs) → AllByRecursion (λ x. P (f x)) xs
from_shown P f [] h = tt
from_shown P f (x ∷ xs) h = (h.0, from_shown P f xs h.1)

-- ---- what is planned can be written

module _ (before : Holdings (List ℕ)) (command : Command (List ℕ)) (planned : Planned) (range : IsInRange before) (is : IsChange before command planned) where
  few : before.accepted + 1 ≤ 9223372036854775807
  few = let t = has_its_turn before command is.0 in below before.accepted t
    where
      below : (accepted : ℕ) → nat_lt accepted 9223372036854775807 ≡ true → accepted + 1 ≤ 9223372036854775807
      below accepted h = grind (arith, nat_tests)

  pub in_range : IsInRange (summary_shown planned.summary)
  in_range = subst IsInRange (sym is.1.after) (each_stays before command range)

  installs_few : FitsColumn planned.summary.installs
  installs_few =
      let within : planned.summary.installs ≤ planned.summary.accepted = planned.summary.installs_within in
      let accepted : planned.summary.accepted ≡ before.accepted + 1 = ap (λ (h : Holdings (List ℕ)). h.accepted) is.1.after in
      let f = few in
      omega (arith, within, accepted, f)

  storable : (most : ℕ) → most ≤ 9223372036854775807 → (numbers : List ℕ) → AllByRecursion (λ number. number ≤ most) numbers → AreStorable numbers
  storable most low numbers h = all_weaker (λ number. number ≤ most) FitsColumn (λ number p. omega (arith, p, low)) numbers h

  all_few : AllByRecursion (λ item. AreStorable (numbers_of item)) (map item_shown planned.summary.items.items)
  all_few = all_flat_map_parts FitsColumn numbers_of (map item_shown planned.summary.items.items) (storable planned.summary.installs installs_few (edition_numbers (map item_shown planned.summary.items.items)) in_range)

  pub writable : IsWritable planned
  writable = record {
    installs = installs_few;
    items = from_shown (λ item. AreStorable (numbers_of item)) item_shown planned.summary.items.items all_few;
    gone = subst AreStorable (sym is.1.gone) (all_filter FitsColumn _ (edition_numbers before.items) (storable before.installs
        (let g : before.installs ≤ installs_after command before.installs = grown command before.installs in
        let same : planned.summary.installs ≡ installs_after command before.installs = ap (λ (h : Holdings (List ℕ)). h.installs) is.1.after in
        let low = installs_few in omega (arith, g, same, low)) (edition_numbers before.items) range));
    number = let e : planned.kept.number ≡ before.accepted + 1 = ap (λ (r : Rattle.dict_catalogue.specs.Effects.KeptReply). r.number) is.1.kept in let f = few in omega (arith, e, f);
    edition = subst (λ n. IfSome n FitsColumn) (sym (ap (λ (r : Rattle.dict_catalogue.specs.Effects.KeptReply). r.edition) is.1.kept))
        (told_among FitsColumn command (effect command before).items
        (subst (λ (items : List (Item (List ℕ))). AllByRecursion (λ item. AreStorable (numbers_of item)) items) (ap (λ (h : Holdings (List ℕ)). h.items) is.1.after) all_few));
  }

-- ---- and is the change that the command makes of each catalogue with that summary

installed_as : (installs number : ℕ) (command : typed.Command) → number ≡ installs_after (command_shown command) installs → LiesWithin command → after.IsInstalledBy (installs + 1) (command_meant command) (installed_by number command)
installed_as installs number (Install name edition) e lies = (refl, e, refl, lies.0, lies.1)
installed_as installs number (Rollback name) e lies = refl
installed_as installs number (Retire name) e lies = refl
installed_as installs number (PutVirtual name title members) e lies = refl
installed_as installs number (Place name at) e lies = refl

pub change_is : (M : Catalogue) (id : List ℕ) (command : typed.Command) (planned : Planned) → IsEffect (summary_of M) (command_shown command) planned → LiesWithin command
    → after.IsTableChange M id (command_meant command) (change_by id command planned)
change_is M id command planned is lies = record {
  summary = is.after ∙ effect_with M id (command_meant command);
  gone = is.gone ∙ editions_gone_as (λ (edition : Edition). edition.title) (command_meant command) (holdings M);
  edition = installed_as M.installs planned.summary.installs command (ap (λ (h : Holdings (List ℕ)). h.installs) is.after) lies;
  kept = ap (λ r. record { id = id; reply = r }) (is.kept ∙ reply_to_as (λ (edition : Edition). edition.title) (command_meant command) (holdings M));
}

-- the lines of an edition lie in its text as its entries do
pub lines_lie : (text : List ℕ) (entries : List Entry) (lines : List Line) → map line_of entries ≡ lines → AllByRecursion (LiesIn text) entries → AllByRecursion (IsWithin text) lines
lines_lie text entries lines is h = subst (AllByRecursion (IsWithin text)) is (all_map (LiesIn text) (IsWithin text) line_of (λ entry p. p) entries h)

-- ---- of each catalogue

numbers_as : {A B : Type 0} (f : A → B) (item : Item A) → numbers_of (item_as f item) ≡ numbers_of item
numbers_as f (regular n current None) = refl
numbers_as f (regular n current (Some former)) = refl
numbers_as f (virtual n title members) = refl

edition_numbers_as : {A B : Type 0} (f : A → B) (items : List (Item A)) → edition_numbers (map (item_as f) items) ≡ edition_numbers items
edition_numbers_as f [] = refl
edition_numbers_as f (item ∷ items) = λ i. numbers_as f item i ++ edition_numbers_as f items i

pub summary_in_range : (M : Catalogue) → IsWellFormed M → IsInRange (summary_of M)
summary_in_range M well =
    subst (AllByRecursion (λ number. number ≤ M.installs)) (sym (edition_numbers_as (λ (edition : Edition). edition.title) M.items))
    (all_weaker (λ number. (1 ≤ number) × (number ≤ M.installs)) (λ number. number ≤ M.installs) (λ number p. p.1) (edition_numbers M.items) well.edition_range)
