-- The index in memory of an edition that may come, as far as it is made.
use Rattle.std.specs.Prelude.{◌≡◌, length, map, take}
use Rattle.dict_index.specs.Edition.{ReadEdition}
use Rattle.dict_index.specs.Meaning.{IsReadEdition}
use Rattle.store_search.specs.Entries.{entry_of}
use Rattle.store_commands.specs.declared.reads.ReadInstall.{ReadInstall}
use Rattle.store_desk.specs.declared.making.IndexPart.{IndexPart}
use Rattle.store_desk.specs.declared.making.IndexPart.TheVariants.{Entries, Parts, Lost}

-- whatever edition the install's files say, the index is of so many of its entries, the first ones, or of all; or none is made
abbrev pub IsIndexOfInstall : ReadInstall → IndexPart → Type 0
IsIndexOfInstall f (Entries builder) = (reading : ReadEdition) → IsReadEdition f.came.items f.filing.text.items reading → builder ≡ map entry_of (take (length builder) reading.lines)
IsIndexOfInstall f (Parts making) = (reading : ReadEdition) → IsReadEdition f.came.items f.filing.text.items reading → making.entries ≡ map entry_of reading.lines
IsIndexOfInstall f Lost = Unit {0}
