-- What comes of a list that the program is asked for.
use Rattle.std.specs.Prelude.{◌≡◌, ℕ, List, Result}
use Rattle.dict_proto.specs.Streams.{StreamChange}
use Rattle.dict_catalogue.specs.Items.{Item}
use Rattle.dict_catalogue.specs.Steps.{Catalogue, summary_of}
use Rattle.app_words.specs.Listing.{listing_text}
use Rattle.app_words.specs.Writing.{Prints}
use Rattle.app_words.specs.declared.fault.ProgramFault.{ProgramFault}

-- the lines of some items were written, and these are those of the catalogue that is shown
pub record IsListed (Shows : Catalogue → Type 0) (result : Result (Unit {0}) ProgramFault) (writer : StreamChange) : Type 0 where
  pub items : List (Item (List ℕ))
  pub lines : Prints (listing_text items) result writer
  pub shown : (catalogue : Catalogue) → Shows catalogue → items ≡ (summary_of catalogue).items
