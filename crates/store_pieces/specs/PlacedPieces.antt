-- What lists of placed words and of placed runs of three octets stand for.
use Rattle.std.specs.Prelude.{◌≡◌, ℕ, ◌+◌, ◌*◌, ◌<◌, List, length, map, slice_index}
use Rattle.std.specs.declared.cmp.Ordering.{Ordering}
use Rattle.std.specs.Ordering.{nat_cmp, ordering_then}
use Rattle.store_derived.specs.Derived.{octets_cmp}
use Rattle.store_pieces.specs.Pieces.{Placed}
use Rattle.store_pieces.specs.declared.placed.PlacedWord.{PlacedWord}
use Rattle.store_pieces.specs.declared.placed.PlacedGram.{PlacedGram}

abbrev pub word_placed : PlacedWord → Placed
word_placed placed = (placed.word.now, placed.place)

abbrev pub gram_placed : PlacedGram → Placed
gram_placed placed = (placed.gram, placed.place)

abbrev pub words_placed : List PlacedWord → List Placed
words_placed list = map word_placed list

abbrev pub grams_placed : List PlacedGram → List Placed
grams_placed list = map gram_placed list

-- by the runs, and by the places where runs are the same
abbrev pub gram_cmp : PlacedGram → PlacedGram → Ordering
gram_cmp x y = ordering_then (octets_cmp x.gram y.gram) (nat_cmp x.place y.place)

-- a number in that order, of three octets and 32 bits
abbrev pub gram_rank : PlacedGram → ℕ
gram_rank x = ((slice_index x.gram 0 * 256 + slice_index x.gram 1) * 256 + slice_index x.gram 2) * 4294967296 + x.place

pub record FitsRank (x : PlacedGram) : Type 0 where
  pub three : length x.gram ≡ 3
  pub second : slice_index x.gram 1 < 256
  pub third : slice_index x.gram 2 < 256
  pub place : x.place < 4294967296
