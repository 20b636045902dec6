-- What an index holds beside its entries.
use Rattle.std.specs.Prelude.{List, ℕ, ◌<◌, length, map, reverse}
use Rattle.dict_match.specs.Words.{words_between_blanks}
use Rattle.store_search.specs.Entries.{Indexed, keys_of}
use Rattle.store_places.specs.Orders.{IsOrderOf}
use Rattle.store_derived.specs.KeptGrams.{kept_grams}
use Rattle.store_pieces.specs.Pieces.{ArePlaced}
use Rattle.std.specs.List.{All}
use Rattle.std.specs.Str.{IsUtf8}
use Rattle.store_pieces.specs.declared.pieces.Pieces.{Pieces}

pub record IsIndexed (entries : List Indexed) (by_key by_reversed : List ℕ) (words trigrams : Pieces) : Type 0 where
  pub few : length entries < 4294967296
  pub text : All IsUtf8 (keys_of entries)
  pub keys : IsOrderOf (keys_of entries) by_key
  pub reversed : IsOrderOf (map reverse (keys_of entries)) by_reversed
  pub words_placed : ArePlaced words_between_blanks (keys_of entries) words.texts words.lists
  pub grams_placed : ArePlaced kept_grams (keys_of entries) trigrams.texts trigrams.lists
