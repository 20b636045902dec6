-- What an installer may ask of a catalogue.
use Rattle.std.specs.Prelude.{ℕ, List}
use Rattle.dict_catalogue.specs.declared.reply.Verb.{Verb}
use Rattle.dict_catalogue.specs.declared.reply.Verb.TheVariants.{Install, Rollback, Retire, Virtual, Place}

pub data Command (A : Type 0) : Type 0 where
  -- the edition becomes the current one of this name
  install : List ℕ → A → Command A
  -- current and former edition are swapped
  rollback : List ℕ → Command A
  -- the item is taken out
  retire : List ℕ → Command A
  -- a virtual item of this name, with a title and members
  put_virtual : List ℕ → List ℕ → List (List ℕ) → Command A
  -- the item is put at this place, from 0
  place : List ℕ → ℕ → Command A

-- the name that the command is about
abbrev pub target : {A : Type 0} → Command A → List ℕ
target (install name content) = name
target (rollback name) = name
target (retire name) = name
target (put_virtual name title members) = name
target (place name at) = name

abbrev pub verb_of : {A : Type 0} → Command A → Verb
verb_of (install name content) = Install
verb_of (rollback name) = Rollback
verb_of (retire name) = Retire
verb_of (put_virtual name title members) = Virtual
verb_of (place name at) = Place

-- the same command with another content of its edition
abbrev pub command_as : {A B : Type 0} → (A → B) → Command A → Command B
command_as f (install name content) = install name (f content)
command_as f (rollback name) = rollback name
command_as f (retire name) = retire name
command_as f (put_virtual name title members) = put_virtual name title members
command_as f (place name at) = place name at
