-- What is made of the words of keys, slice by slice.
use Rattle.std.specs.Prelude.{◌≡◌, ℕ, List, [], length, map, take, slice_index_or}
use Rattle.std.specs.List.{zip}
use Rattle.std.specs.declared.cmp.Ordering.{Ordering}
use Rattle.dict_match.specs.Words.{words_between_blanks}
use Rattle.store_pieces.specs.Grouped.{GoesOnGrouping}
use Rattle.store_pieces.specs.Pieces.{Placed, pair_cmp, occurrences_from, AreOccurrences, ArePlaced}
use Rattle.store_places.specs.Sorting.{MakesOrderOf}
use Rattle.store_pieces.specs.declared.wording.GroupedWords.{GroupedWords}
use Rattle.store_pieces.specs.declared.wording.SortedWords.{SortedWords}
use Rattle.store_pieces.specs.declared.wording.TakenWords.{TakenWords}
use Rattle.store_pieces.specs.declared.wording.Wording.{Wording}
use Rattle.store_pieces.specs.declared.wording.Wording.TheVariants.{Taken, Sorted, Grouped, Made}

-- the word at an index, with the place of its key
abbrev pub word_with_place : List (List ℕ) → List ℕ → ℕ → Placed
word_with_place found places i = (slice_index_or found i [], slice_index_or places i 0)

abbrev pub words_with_places : List (List ℕ) → List ℕ → List ℕ → List Placed
words_with_places found places order = map (word_with_place found places) order

-- by the words, and by the places where words are the same
abbrev pub row_cmp : List (List ℕ) → List ℕ → ℕ → ℕ → Ordering
row_cmp found places i j = pair_cmp (word_with_place found places i) (word_with_place found places j)

-- those that stand in the first keys
pub record AreWordsTaken (keys : List (List ℕ)) (taken : TakenWords) : Type 0 where
  pub same : length taken.found ≡ length taken.places.items
  pub are : zip taken.found taken.places.items ≡ occurrences_from words_between_blanks 0 (take taken.place keys)

-- those of all keys, and what is made of the order of their indexes
pub record AreWordsSorted (keys : List (List ℕ)) (sorted : SortedWords) : Type 0 where
  pub same : length sorted.found ≡ length sorted.places.items
  pub are : zip sorted.found sorted.places.items ≡ occurrences_from words_between_blanks 0 keys
  pub indexes : MakesOrderOf sorted.found sorted.sorting

-- all of them in order, of which the first are grouped
pub record AreWordsGrouped (keys : List (List ℕ)) (grouped : GroupedWords) : Type 0 where
  pub all : AreOccurrences words_between_blanks keys (words_with_places grouped.found grouped.places.items grouped.order.items)
  pub first : GoesOnGrouping (words_with_places grouped.found grouped.places.items grouped.order.items) grouped.at grouped.texts grouped.lists

-- what is made is of these keys
abbrev pub AreWorded : List (List ℕ) → Wording → Type 0
AreWorded keys (Taken taken) = AreWordsTaken keys taken
AreWorded keys (Sorted sorted) = AreWordsSorted keys sorted
AreWorded keys (Grouped grouped) = AreWordsGrouped keys grouped
AreWorded keys (Made pieces) = ArePlaced words_between_blanks keys pieces.texts pieces.lists
