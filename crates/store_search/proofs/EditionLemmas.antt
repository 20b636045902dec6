-- Entries that lines make, and what is found among them.
use Rattle.std.proofs.Common.{◌≡◌, ℕ, ◌+◌, ◌<◌, ◌≤◌, Bool, true, false, cond, List, [], ◌∷◌, ◌++◌, map, take, length, get_or, filter, refl, ap, sym, ◌∙◌, inl, inr, arith}
use Rattle.std.specs.List.{All, range_with_len}
use Rattle.std.specs.Str.{IsUtf8}
use Rattle.std.proofs.lemmas.Bool.{cases_lt, false≢true}
use Rattle.std.proofs.lemmas.List.{length-map, map-append, take_more, get_or-map, get_or_past}
use Rattle.std.proofs.lemmas.List.Elements.{All-tail, filter_agree}
use Rattle.std.proofs.lemmas.List.FromFn.{fill_by_all}
use Rattle.dict_match.specs.Key.{key_of}
use Rattle.dict_match.specs.Matching.{is_hit}
use Rattle.dict_match.specs.declared.strategy.Strategy.{Strategy}
use Rattle.dict_index.specs.Line.{Line}
use Rattle.dict_index.specs.Edition.{entry_in, ReadEdition, edition_of}
use Rattle.store_derived.specs.Search.{Rows, rows_for}
use Rattle.dict_index.specs.Found.{found, is_found, shown_of as entry_shown, headwords, distinct, row_of, found_rows, headword_rows}
use Rattle.store_search.specs.Entries.{Indexed, entry_of, no_entry, entry_at, entries_at, key_in, keys_of, indexed_shown, row_in, headword_row}
use Rattle.store_places.specs.Places.{key_at, places_where}
use Rattle.store_search.specs.Selected.{AreSelected}
use Rattle.store_pieces.specs.Selected.{is_selected}
use Rattle.store_search.specs.Found.{found_entries, found_headwords, count_selected}
use Rattle.store_pieces.proofs.PieceLemmas.{where_is, where_rises}
use Rattle.store_pieces.proofs.SelectionLemmas.{covered, selects_decided}

-- ---- lists

pub chosen_after : {X Y : Type 0} (f : X → Y) (p : Y → Bool) (xs : List X) → filter p (map f xs) ≡ map f (filter (λ x. p (f x)) xs)
chosen_after f p [] = refl
chosen_after f p (x ∷ xs) = by (p (f x)) (chosen_after f p xs)
  where
    by : (b : Bool) → filter p (map f xs) ≡ map f (filter (λ x. p (f x)) xs) → cond b (f x ∷ filter p (map f xs)) (filter p (map f xs)) ≡ map f (cond b (x ∷ filter (λ x. p (f x)) xs) (filter (λ x. p (f x)) xs))
    by true e = ap (λ l. f x ∷ l) e
    by false e = e

pub mapped_twice : {X Y Z : Type 0} (f : X → Y) (g : Y → Z) (xs : List X) → map g (map f xs) ≡ map (λ x. g (f x)) xs
mapped_twice f g [] = refl
mapped_twice f g (x ∷ xs) = ap (λ l. g (f x) ∷ l) (mapped_twice f g xs)

-- one more of those that were taken
pub one_more : {X Y : Type 0} (f : X → Y) (xs : List X) (i : ℕ) (x : X) → i < length xs → x ≡ get_or xs i x → map f (take i xs) ++ f x ∷ [] ≡ map f (take (i + 1) xs)
one_more f xs i x lt is = ap (λ y. map f (take i xs) ++ f y ∷ []) is ∙ sym (ap (map f) (take_more xs i x lt) ∙ map-append f (take i xs) (get_or xs i x ∷ []))

-- ---- entries by their places

pub key_there : (entries : List Indexed) (place : ℕ) → key_at (keys_of entries) place ≡ (entry_at entries place).key
key_there entries place = elim (cases_lt place (length entries)) [
  | inl less ↦ get_or-map key_in entries place no_entry [] less
  | inr le ↦
      let size = length-map entries key_in in
      get_or_past (keys_of entries) place [] (omega (arith, size)) ∙ ap key_in (sym (get_or_past entries place no_entry le))
]

pub entries_there : (test : List ℕ → Bool) (entries : List Indexed) → entries_at entries (places_where test (keys_of entries)) ≡ filter (λ (entry : Indexed). test entry.key) entries
entries_there test entries =
    let all = range_with_len 0 (length entries) in
    let whole : entries ≡ map (entry_at entries) all = fill_by_all (entry_at entries) entries (length entries) no_entry refl (λ k lt. refl) in
    let same : places_where test (keys_of entries) ≡ filter (λ place. test (entry_at entries place).key) all =
    ap (λ n. filter (λ place. test (key_at (keys_of entries) place)) (range_with_len 0 n)) (length-map entries key_in) ∙ filter_agree _ _ (λ place. ap test (key_there entries place)) all in
    ap (map (entry_at entries)) same ∙ sym (chosen_after (entry_at entries) (λ (entry : Indexed). test entry.key) all) ∙ ap (filter (λ (entry : Indexed). test entry.key)) (sym whole)

pub count_there : (test : List ℕ → Bool) (entries : List Indexed) → length (places_where test (keys_of entries)) ≡ length (filter (λ (entry : Indexed). test entry.key) entries)
count_there test entries = sym (length-map (places_where test (keys_of entries)) (entry_at entries)) ∙ ap length (entries_there test entries)

-- what is found is among what is looked at
pub fewer_found : (strategy : Strategy) (query : List ℕ) (entries : List Indexed) → All IsUtf8 (keys_of entries) → length (found_entries strategy query entries) ≤ count_selected strategy query entries
fewer_found strategy query [] text = omega arith
fewer_found strategy query (entry ∷ entries) text =
    one (is_hit strategy query entry.key) (is_selected (rows_for strategy query) entry.key) (covered strategy query (entry.key ∷ keys_of entries) text 0 (omega arith))
    (found_entries strategy query entries) (filter (λ (other : Indexed). is_selected (rows_for strategy query) other.key) entries)
    (fewer_found strategy query entries (All-tail IsUtf8 entry.key (keys_of entries) text))
  where
    one : (hit selected : Bool) → (hit ≡ true → selected ≡ true) → (found looked : List Indexed) → length found ≤ length looked
        → length (cond hit (entry ∷ found) found) ≤ length (cond selected (entry ∷ looked) looked)
    one true true among found looked le = omega (arith, le)
    one true false among found looked le = absurd (false≢true (among refl))
    one false true among found looked le = omega (arith, le)
    one false false among found looked le = le

-- ---- entries that are selected

pub are_selected : (rows : Rows) (entries : List Indexed) → AreSelected rows entries (places_where (is_selected rows) (keys_of entries))
are_selected rows entries = record {
  rising = where_rises (is_selected rows) (keys_of entries);
  each = λ place.
      let is = where_is (is_selected rows) (keys_of entries) place in
      let tells = selects_decided rows (key_at (keys_of entries) place) in
      let size : length (keys_of entries) ≡ length entries = length-map entries key_in in (
        (λ c. let h = is.0 c in (omega (arith, h.0, size), tells.0 h.1)),
        (λ h. is.1 (omega (arith, h.0, size), tells.1 h.1)),
      );
}

-- ---- the answers of the edition's database

found_of : (strategy : Strategy) (q : List ℕ) (reading : ReadEdition) → found strategy q (edition_of reading) ≡ map (entry_in reading.text) (filter (λ (line : Line). is_hit strategy q (key_of line.headword)) reading.lines)
found_of strategy q reading = chosen_after (entry_in reading.text) (is_found strategy q) reading.lines

entries_of : (strategy : Strategy) (q : List ℕ) (reading : ReadEdition) → found_entries strategy q (map entry_of reading.lines) ≡ map entry_of (filter (λ (line : Line). is_hit strategy q (key_of line.headword)) reading.lines)
entries_of strategy q reading = chosen_after entry_of (λ (entry : Indexed). is_hit strategy q entry.key) reading.lines

pub rows_are : (strategy : Strategy) (q : List ℕ) (reading : ReadEdition) → map (row_in reading.text) (found_entries strategy q (map entry_of reading.lines)) ≡ found_rows strategy q (edition_of reading)
rows_are strategy q reading =
    let lines = filter (λ (line : Line). is_hit strategy q (key_of line.headword)) reading.lines in
    ap (map (row_in reading.text)) (entries_of strategy q reading) ∙ mapped_twice entry_of (row_in reading.text) lines
    ∙ sym (mapped_twice (entry_in reading.text) row_of lines) ∙ ap (map row_of) (sym (found_of strategy q reading))

texts_are : (strategy : Strategy) (q : List ℕ) (reading : ReadEdition) → map indexed_shown (found_entries strategy q (map entry_of reading.lines)) ≡ map entry_shown (found strategy q (edition_of reading))
texts_are strategy q reading =
    let lines = filter (λ (line : Line). is_hit strategy q (key_of line.headword)) reading.lines in
    ap (map indexed_shown) (entries_of strategy q reading) ∙ mapped_twice entry_of indexed_shown lines
    ∙ sym (mapped_twice (entry_in reading.text) entry_shown lines) ∙ ap (map entry_shown) (sym (found_of strategy q reading))

pub headwords_are : (strategy : Strategy) (q : List ℕ) (reading : ReadEdition) → found_headwords strategy q (map entry_of reading.lines) ≡ headwords (found strategy q (edition_of reading))
headwords_are strategy q reading = ap distinct (texts_are strategy q reading)

pub headword_rows_are : (strategy : Strategy) (q : List ℕ) (reading : ReadEdition) → map headword_row (found_headwords strategy q (map entry_of reading.lines)) ≡ headword_rows strategy q (edition_of reading)
headword_rows_are strategy q reading = ap (map headword_row) (headwords_are strategy q reading)

pub count_is : (strategy : Strategy) (q : List ℕ) (reading : ReadEdition) → length (found_entries strategy q (map entry_of reading.lines)) ≡ length (found strategy q (edition_of reading))
count_is strategy q reading =
    let lines = filter (λ (line : Line). is_hit strategy q (key_of line.headword)) reading.lines in
    ap length (entries_of strategy q reading) ∙ length-map lines entry_of ∙ sym (length-map lines (entry_in reading.text)) ∙ ap length (sym (found_of strategy q reading))
