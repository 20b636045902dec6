-- What an accepted command does, and the reply that is kept for it.
use Rattle.std.specs.Prelude.{ℕ, ◌+◌, not, ◌==◌, List, [], ◌∷◌, ◌++◌, map, filter, take, drop, Option, Some, None, if◌then◌else◌}
use Rattle.std.specs.List.{list_any}
use Rattle.dict_catalogue.specs.Items.{Stored, Item, regular, virtual, is_named, is_known, current_number, edition_numbers}
use Rattle.dict_catalogue.specs.Commands.{Command, install, rollback, retire, put_virtual, place, target, verb_of}
use Rattle.dict_catalogue.specs.Tests.{Holdings}
use Rattle.dict_catalogue.specs.declared.reply.Verb.{Verb}

-- an installed edition becomes current, the current one former, and an older former one is dropped
abbrev pub installed : {A : Type 0} → Stored A → Item A → Item A
installed edition (regular name current former) = regular name edition (Some current)
installed edition (virtual name title members) = virtual name title members

-- current and former edition are swapped
abbrev pub swapped : {A : Type 0} → Item A → Item A
swapped (regular name current (Some former)) = regular name former (Some current)
swapped (regular name current None) = regular name current None
swapped (virtual name title members) = virtual name title members

-- a virtual item gets another title and other members
abbrev pub put_anew : {A : Type 0} → List ℕ → List ℕ → List (List ℕ) → Item A → Item A
put_anew name title members (regular old current former) = regular old current former
put_anew name title members (virtual old old_title old_members) = virtual name title members

-- what the command makes of the item that it names. The number is that of an installed edition
abbrev pub changed : {A : Type 0} → ℕ → Command A → Item A → Item A
changed number (install name content) item = installed (record { number = number; content = content }) item
changed number (rollback name) item = swapped item
changed number (retire name) item = item
changed number (put_virtual name title members) item = put_anew name title members item
changed number (place name at) item = item

-- each item in its place, and the named one changed
abbrev pub changed_in_place : {A : Type 0} → ℕ → Command A → List (Item A) → List (Item A)
changed_in_place number command items = map (λ item. if is_named (target command) item then changed number command item else item) items

-- the items without the one of this name
abbrev pub others_than : {A : Type 0} → List ℕ → List (Item A) → List (Item A)
others_than name items = filter (λ item. not (is_named name item)) items

-- the item of this name at a place, the others in their order
abbrev pub moved : {A : Type 0} → List ℕ → ℕ → List (Item A) → List (Item A)
moved name at items = take at (others_than name items) ++ filter (is_named name) items ++ drop at (others_than name items)

-- the items after the command; a new name goes last. The number is that of an installed edition
abbrev pub items_after : {A : Type 0} → ℕ → Command A → List (Item A) → List (Item A)
items_after number (install name content) items =
    if is_known items name
    then changed_in_place number (install name content) items
    else items ++ regular name (record { number = number; content = content }) None ∷ []
items_after number (rollback name) items = changed_in_place number (rollback name) items
items_after number (retire name) items = others_than name items
items_after number (put_virtual name title members) items =
    if is_known items name
    then changed_in_place number (put_virtual name title members) items
    else items ++ virtual name title members ∷ []
items_after number (place name at) items = moved name at items

-- the n-th accepted install makes edition number n, over all names
abbrev pub installs_after : {A : Type 0} → Command A → ℕ → ℕ
installs_after (install name content) installs = installs + 1
installs_after (rollback name) installs = installs
installs_after (retire name) installs = installs
installs_after (put_virtual name title members) installs = installs
installs_after (place name at) installs = installs

-- the holdings after the command
abbrev pub effect : {A : Type 0} → Command A → Holdings A → Holdings A
effect command before = record {
  items = items_after (before.installs + 1) command before.items;
  installs = installs_after command before.installs;
  accepted = before.accepted + 1;
}

-- the reply to an accepted command
pub record KeptReply : Type 0 where
  -- how many commands were accepted, this one counted
  pub number : ℕ
  pub verb : Verb
  pub name : List ℕ
  -- the current edition after an install or a rollback
  pub edition : Option ℕ

abbrev pub edition_told : {A : Type 0} → Command A → List (Item A) → Option ℕ
edition_told (install name content) after = current_number after name
edition_told (rollback name) after = current_number after name
edition_told (retire name) after = None
edition_told (put_virtual name title members) after = None
edition_told (place name at) after = None

abbrev pub reply_to : {A : Type 0} → Command A → Holdings A → KeptReply
reply_to command after = record {
  number = after.accepted;
  verb = verb_of command;
  name = target command;
  edition = edition_told command after.items;
}

-- the numbers of the editions that were there before and are not after
abbrev pub editions_gone : {A : Type 0} → List (Item A) → List (Item A) → List ℕ
editions_gone before after = filter (λ number. not (list_any (λ one. one == number) (edition_numbers after))) (edition_numbers before)
