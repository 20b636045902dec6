-- How entries are kept: keys, what is shown, and intervals, each in a list of its own.
use Rattle.std.specs.Prelude.{◌≡◌, ℕ, All, List, [], ◌∷◌, length}
use Rattle.std.specs.Str.{IsUtf8}
use Rattle.store_search.specs.Entries.{Indexed}
use Rattle.store_derived.specs.declared.spans.Span.{Span}

abbrev pub indexed : List ℕ → List ℕ → Span → Indexed
indexed key shown span = record { key = key; shown = shown; start = span.start; size = span.size }

-- the entries that they make, as far as all three lists go
abbrev pub stored : List (List ℕ) → List (List ℕ) → List Span → List Indexed
stored [] texts spans = []
stored (key ∷ keys) [] spans = []
stored (key ∷ keys) (text ∷ texts) [] = []
stored (key ∷ keys) (text ∷ texts) (span ∷ spans) = indexed key text span ∷ stored keys texts spans

-- they are as long as one another, and what is no number is text
pub record AreStored (keys texts : List (List ℕ)) (spans : List Span) : Type 0 where
  pub keys_size : length keys ≡ length spans
  pub texts_size : length texts ≡ length spans
  pub keys_text : All IsUtf8 keys
  pub texts_text : All IsUtf8 texts
