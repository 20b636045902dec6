-- What the index of an edition tells of it.
use Rattle.std.proofs.Common.{◌≡◌, ◌≤◌, ℕ, List, [], map, filter, length, refl, sym, ap, subst, ◌∙◌}
use Rattle.std.specs.Prelude.{Result, Ok, Err, IfOk}
use Rattle.dict_match.specs.declared.strategy.Strategy.{Strategy}
use Rattle.dict_index.specs.Edition.{Edition, Entry, ReadEdition, edition_of}
use Rattle.dict_index.specs.Found.{is_found, headwords, row, row_of, found_rows, headword_rows}
use Rattle.dict_desk.specs.Shown.{count_of}
use Rattle.dict_desk.specs.declared.lookup.What.TheVariants.{Entries, Headwords}
use Rattle.store_search.specs.Entries.{Indexed, entry_of, row_in, headword_row}
use Rattle.store_search.specs.Found.{found_entries, found_headwords}
use Rattle.store_search.specs.declared.found.Counted.{Counted}
use Rattle.store_holdings.specs.CutTexts.{Cuts, IsIndexOf}

-- an edition as it was read, of which the title and the info are no matter
abbrev reading_of : (index : List Indexed) (edition : Edition) (text : List ℕ) → Cuts index edition text → ReadEdition
reading_of index edition text cuts = record { title = []; info = []; text = text; lines = cuts.lines }

module _ (strategy : Strategy) (query : List ℕ) (index : List Indexed) (edition : Edition) where
  pub rows_cut : ((strategy : Strategy) (query : List ℕ) (reading : ReadEdition) → map (row_in reading.text) (found_entries strategy query (map entry_of reading.lines)) ≡ found_rows strategy query (edition_of reading))
      → (text : List ℕ) → Cuts index edition text → map (row_in text) (found_entries strategy query index) ≡ found_rows strategy query edition
  rows_cut law text cuts =
      ap (λ (l : List Indexed). map (row_in text) (found_entries strategy query l)) cuts.entries
      ∙ (law strategy query (reading_of index edition text cuts) ∙ ap (λ (es : List Entry). map row_of (filter (is_found strategy query) es)) (sym cuts.cut))

  pub heads_are : ((strategy : Strategy) (query : List ℕ) (reading : ReadEdition) → map headword_row (found_headwords strategy query (map entry_of reading.lines)) ≡ headword_rows strategy query (edition_of reading))
      → IsIndexOf index edition → map headword_row (found_headwords strategy query index) ≡ headword_rows strategy query edition
  heads_are law is =
      ap (λ (l : List Indexed). map headword_row (found_headwords strategy query l)) is.1.entries
      ∙ (law strategy query (reading_of index edition is.0 is.1) ∙ ap (λ (es : List Entry). map (λ shown. row shown []) (headwords (filter (is_found strategy query) es))) (sym is.1.cut))

  pub entries_counted : ((strategy : Strategy) (query : List ℕ) (reading : ReadEdition) → length (found_entries strategy query (map entry_of reading.lines)) ≡ count_of Entries strategy query (edition_of reading))
      → IsIndexOf index edition → length (found_entries strategy query index) ≡ count_of Entries strategy query edition
  entries_counted law is =
      ap (λ (l : List Indexed). length (found_entries strategy query l)) is.1.entries
      ∙ (law strategy query (reading_of index edition is.0 is.1) ∙ ap (λ (es : List Entry). length (filter (is_found strategy query) es)) (sym is.1.cut))

  pub headwords_counted : ((strategy : Strategy) (query : List ℕ) (reading : ReadEdition) → length (found_headwords strategy query (map entry_of reading.lines)) ≡ count_of Headwords strategy query (edition_of reading))
      → IsIndexOf index edition → length (found_headwords strategy query index) ≡ count_of Headwords strategy query edition
  headwords_counted law is =
      ap (λ (l : List Indexed). length (found_headwords strategy query l)) is.1.entries
      ∙ (law strategy query (reading_of index edition is.0 is.1) ∙ ap (λ (es : List Entry). length (headwords (filter (is_found strategy query) es))) (sym is.1.cut))

-- of the edition as many are found at most as were looked at
pub few_of : (strategy : Strategy) (query octets : List ℕ) (index : List Indexed) (edition : Edition) (looked : ℕ)
    → ((strategy : Strategy) (query : List ℕ) (reading : ReadEdition) → length (found_entries strategy query (map entry_of reading.lines)) ≡ count_of Entries strategy query (edition_of reading))
    → octets ≡ query → length (found_entries strategy octets index) ≤ looked → IsIndexOf index edition → count_of Entries strategy query edition ≤ looked
few_of strategy query octets index edition looked law same few is =
    subst (λ n. n ≤ looked) (ap (λ (q : List ℕ). length (found_entries strategy q index)) same ∙ entries_counted strategy query index edition law is) few

pub fewer_of : {E : Type 0} (strategy : Strategy) (query : List ℕ) (index : List Indexed)
    → ((strategy : Strategy) (query : List ℕ) (reading : ReadEdition) → length (found_entries strategy query (map entry_of reading.lines)) ≡ count_of Entries strategy query (edition_of reading))
    → (result : Result Counted E) → IfOk result (λ (counted : Counted). length (found_entries strategy query index) ≤ counted.looked_at)
    → IfOk result (λ (counted : Counted). (edition : Edition) → IsIndexOf index edition → count_of Entries strategy query edition ≤ counted.looked_at)
fewer_of strategy query index law (Ok counted) few = λ edition is. few_of strategy query query index edition counted.looked_at law refl few is
fewer_of strategy query index law (Err error) few = tt
