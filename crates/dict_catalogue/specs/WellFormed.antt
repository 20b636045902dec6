-- When a catalogue is well formed.
use Rattle.std.specs.Prelude.{◌≡◌, ℕ, ◌+◌, ◌≤◌, Bool, true, false, IsTrue, ◌==◌, List, [], ◌∷◌, length, map, if◌then◌else◌, is_some, bytes_eq}
use Rattle.std.specs.List.{AllByRecursion}
use Rattle.std.specs.Str.{IsUtf8}
use Rattle.dict_index.specs.Edition.{Edition}
use Rattle.dict_index.specs.WellFormed.{IsEditionTitle, IsWellFormedEdition}
use Rattle.dict_text.specs.Names.{is_name, is_request_id}
use Rattle.dict_catalogue.specs.Items.{Item, regular, virtual, name_of, members_of, editions_of, names_regular, edition_numbers}
use Rattle.dict_catalogue.specs.Commands.{Command, install, rollback, retire, put_virtual, place}
use Rattle.dict_catalogue.specs.Steps.{KeptFor, Catalogue}
use Rattle.dict_catalogue.specs.declared.reply.Verb.{Verb}
use Rattle.dict_catalogue.specs.declared.reply.Verb.TheVariants.{Install, Rollback, Retire, Virtual, Place}

-- a sum over the elements of a list, and how many of them pass a test
abbrev pub total : {X : Type 0} → (X → ℕ) → List X → ℕ
total amount [] = 0
total amount (x ∷ xs) = amount x + total amount xs

abbrev pub how_many : {X : Type 0} → (X → Bool) → List X → ℕ
how_many test xs = total (λ x. if test x then 1 else 0) xs

-- no text of the list stands in it twice; no number does
abbrev pub IsEachOnce : List (List ℕ) → Type 0
IsEachOnce texts = (text : List ℕ) → how_many (λ one. bytes_eq one text) texts ≤ 1

abbrev pub IsEachNumberOnce : List ℕ → Type 0
IsEachNumberOnce numbers = (number : ℕ) → how_many (λ one. one == number) numbers ≤ 1

-- a lawful name, and for a virtual item a title as an edition's and 1 to 64 members, each once
abbrev pub IsLawfulItem : Item Edition → Type 0
IsLawfulItem (regular name current former) = IsTrue (is_name name)
IsLawfulItem (virtual name title members) = IsTrue (is_name name) × IsEditionTitle title × (1 ≤ length members) × (length members ≤ 64) × IsEachOnce members

-- each edition keeps the limits of editions
abbrev pub HasWellFormedEditions : Item Edition → Type 0
HasWellFormedEditions item = AllByRecursion (λ stored. IsWellFormedEdition stored.content) (editions_of item)

-- each member is the name of a regular item
abbrev pub HasKnownMembers : List (Item Edition) → Item Edition → Type 0
HasKnownMembers items item = AllByRecursion (λ member. IsTrue (names_regular items member)) (members_of item)

-- an edition stands in the replies to installs and rollbacks alone
abbrev pub tells_edition : Verb → Bool
tells_edition Install = true
tells_edition Rollback = true
tells_edition Retire = false
tells_edition Virtual = false
tells_edition Place = false

-- a lawful id, a lawful name, and an edition where one is told
abbrev pub IsLawfulReply : KeptFor → Type 0
IsLawfulReply kept = IsTrue (is_request_id kept.id) × IsTrue (is_name kept.reply.name) × (is_some kept.reply.edition ≡ tells_edition kept.reply.verb)

-- the replies are numbered in order, from a number on
abbrev pub IsNumberedFrom : ℕ → List KeptFor → Type 0
IsNumberedFrom number [] = Unit {0}
IsNumberedFrom number (one ∷ kept) = (one.reply.number ≡ number) × IsNumberedFrom (number + 1) kept

abbrev pub is_install : Verb → Bool
is_install Install = true
is_install Rollback = false
is_install Retire = false
is_install Virtual = false
is_install Place = false

pub record IsWellFormed (catalogue : Catalogue) : Type 0 where
  pub item_limit : length catalogue.items ≤ 64
  pub items : AllByRecursion IsLawfulItem catalogue.items
  pub editions : AllByRecursion HasWellFormedEditions catalogue.items
  pub names : IsEachOnce (map name_of catalogue.items)
  pub members : AllByRecursion (HasKnownMembers catalogue.items) catalogue.items
  pub accepted_limit : length catalogue.kept ≤ 9223372036854775807
  pub replies : AllByRecursion IsLawfulReply catalogue.kept
  pub ids : IsEachOnce (map (λ kept. kept.id) catalogue.kept)
  pub numbered : IsNumberedFrom 1 catalogue.kept
  pub installs : catalogue.installs ≡ how_many (λ kept. is_install kept.reply.verb) catalogue.kept
  pub edition_range : AllByRecursion (λ number. (1 ≤ number) × (number ≤ catalogue.installs)) (edition_numbers catalogue.items)
  pub edition_once : IsEachNumberOnce (edition_numbers catalogue.items)

-- an installed edition keeps the limits of editions, and a virtual item's title is UTF-8
abbrev pub IsLawfulCommand : Command Edition → Type 0
IsLawfulCommand (install name edition) = IsWellFormedEdition edition
IsLawfulCommand (rollback name) = Unit {0}
IsLawfulCommand (retire name) = Unit {0}
IsLawfulCommand (put_virtual name title members) = IsUtf8 title
IsLawfulCommand (place name at) = Unit {0}
