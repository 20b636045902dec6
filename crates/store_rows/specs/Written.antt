-- Which records the parts of a catalogue are written as.
use Rattle.std.specs.Prelude.{ℕ, pos, ◌+◌, List, [], ◌∷◌, codes, Some, None, option_map}
use Rattle.store_tables.specs.Records.{Mark, ItemRecord, Member, EditionRecord, EntryRecord, KeptRecord}
use Rattle.dict_index.specs.Line.{Line}
use Rattle.dict_index.specs.Edition.{ReadEdition}
use Rattle.dict_catalogue.specs.Items.{Item, regular, virtual}
use Rattle.dict_catalogue.specs.Steps.{KeptFor}
use Rattle.dict_catalogue.specs.declared.reply.Verb.{Verb}
use Rattle.dict_catalogue.specs.declared.reply.Verb.TheVariants.{Install, Rollback, Retire, Virtual, Place}

-- each element with its place, from a first place on
abbrev pub numbered : {X Y : Type 0} → (ℕ → X → Y) → ℕ → List X → List Y
numbered f place [] = []
numbered f place (x ∷ xs) = f place x ∷ numbered f (place + 1) xs

-- the mark of a file of this schema, with the count of installs
abbrev pub mark_record : ℕ → ℕ → Mark
mark_record version installs = record { id = pos 1; magic = codes "dictcat"; version = pos version; installs = pos installs }

-- an item at its place: a regular one, of kind 0, has the numbers of its editions, a virtual one, of kind 1, its title
abbrev pub item_record : {A : Type 0} → ℕ → Item A → ItemRecord
item_record place (regular name current former) =
    record { place = pos place; name = name; kind = pos 0; title = None; current = Some (pos current.number); former = option_map (λ stored. pos stored.number) former }
item_record place (virtual name title members) =
    record { place = pos place; name = name; kind = pos 1; title = Some title; current = None; former = None }

-- a member of this owner at its place
abbrev pub member_record : List ℕ → ℕ → List ℕ → Member
member_record owner ord name = record { owner = owner; ord = pos ord; name = name }

-- an edition with its number, of this owner, with the whole text that its bodies are cut from
abbrev pub edition_record : List ℕ → ℕ → ReadEdition → EditionRecord
edition_record owner number reading = record { number = pos number; owner = owner; title = reading.title; info = reading.info; body = reading.text }

-- an entry of this edition at its place, with the interval of the text that is its body, and with what is shown
abbrev pub entry_record : ℕ → ℕ → Line → EntryRecord
entry_record number ord line = record { edition = pos number; ord = pos ord; headword = line.headword; start = pos line.offset; length = pos line.size; shown = line.shown }

-- the word for what a command did
abbrev pub verb_name : Verb → List ℕ
verb_name Install = codes "install"
verb_name Rollback = codes "rollback"
verb_name Retire = codes "retire"
verb_name Virtual = codes "virtual"
verb_name Place = codes "place"

abbrev pub kept_record : KeptFor → KeptRecord
kept_record kept = record { id = kept.id; number = pos kept.reply.number; verb = verb_name kept.reply.verb; name = kept.reply.name; edition = option_map pos kept.reply.edition }
