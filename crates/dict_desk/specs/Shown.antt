-- What a desk tells of the catalogue that it shows.
use Rattle.std.specs.Prelude.{ℕ, List, length, Contains}
use Rattle.dict_match.specs.declared.strategy.Strategy.{Strategy}
use Rattle.dict_index.specs.Edition.{Edition}
use Rattle.dict_catalogue.specs.Items.{Item, editions_of}
use Rattle.dict_catalogue.specs.Steps.{Catalogue}
use Rattle.dict_index.specs.Found.{Row, row, found, headwords, found_rows, headword_rows}
use Rattle.dict_desk.specs.declared.lookup.What.{What}
use Rattle.dict_desk.specs.declared.lookup.What.TheVariants.{Entries, Headwords}
use Rattle.dict_desk.specs.declared.sink.Row.{Row as HandedRow}

-- the edition stands in the catalogue under this number, as an item's current or former one
pub record HasEdition (catalogue : Catalogue) (number : ℕ) (edition : Edition) : Type 0 where
  pub item : Item Edition
  pub stands : Contains catalogue.items item
  pub stored : Contains (editions_of item) (record { number = number; content = edition })

-- the row that a sink is handed
abbrev pub row_handed : HandedRow → Row
row_handed handed = row handed.shown.now handed.text.now

-- the rows that a query gives: those of the entries found, or of the headwords shown of them
abbrev pub rows_given : What → Strategy → List ℕ → Edition → List Row
rows_given Entries strategy query edition = found_rows strategy query edition
rows_given Headwords strategy query edition = headword_rows strategy query edition

-- how many entries are found, or how many headwords are shown of them
abbrev pub count_of : What → Strategy → List ℕ → Edition → ℕ
count_of Entries strategy query edition = length (found strategy query edition)
count_of Headwords strategy query edition = length (headwords (found strategy query edition))
