-- What is found in an edition that is kept in memory.
use Rattle.std.proofs.Common.{◌≡◌, ℕ, List, [], length, map, take, drop, ◌-◌, sym, ap, ◌∙◌}
use Rattle.std.specs.Prelude.{filter}
use Rattle.std.proofs.lemmas.List.{length-map}
use Rattle.dict_match.specs.declared.strategy.Strategy.{Strategy}
use Rattle.dict_index.specs.Edition.{Edition, Entry, ReadEdition, entry_in, edition_of}
use Rattle.dict_index.specs.Line.{Line}
use Rattle.dict_catalogue.specs.Items.{Stored}
use Rattle.dict_index.specs.Found.{is_found, found, distinct, shown_of, headwords, row, row_of, found_rows, headword_rows}
use Rattle.dict_desk.specs.PlainEntries.{owned_line_of, entry_cut_from, is_hit_of, texts_listed, rows_found, rows_listed, LieWithin}
use Rattle.dict_desk.specs.declared.entries.OwnedEntry.{OwnedEntry}
use Rattle.dict_desk.proofs.RowLemmas.{chosen_after, mapped_twice}
use Rattle.dict_desk.proofs.SpanLemmas.{within_all, span_before}

module _ (title info text : List ℕ) (strategy : Strategy) (query : List ℕ) (entries : List OwnedEntry) where
  abbrev whole : Edition
  whole = record { title = title; info = info; entries = map (entry_cut_from text) entries }

  pub rows_are_found : rows_found text strategy query entries ≡ found_rows strategy query whole
  rows_are_found =
      sym (mapped_twice (entry_cut_from text) row_of (filter (is_hit_of strategy query) entries)) ∙ ap (map row_of) (sym (chosen_after (entry_cut_from text) (is_found strategy query) entries))

  pub count_is_found : length (filter (is_hit_of strategy query) entries) ≡ length (found strategy query whole)
  count_is_found = sym (length-map (filter (is_hit_of strategy query) entries) (entry_cut_from text)) ∙ ap length (sym (chosen_after (entry_cut_from text) (is_found strategy query) entries))

  texts_are_headwords : texts_listed strategy query entries ≡ headwords (found strategy query whole)
  texts_are_headwords =
      ap distinct (sym (mapped_twice (entry_cut_from text) shown_of (filter (is_hit_of strategy query) entries)) ∙ ap (map shown_of) (sym (chosen_after (entry_cut_from text) (is_found strategy query) entries)))

  pub rows_are_listed : rows_listed strategy query entries ≡ headword_rows strategy query whole
  rows_are_listed = ap (map (λ (shown : List ℕ). row shown [])) texts_are_headwords

  pub count_is_listed : length (texts_listed strategy query entries) ≡ length (headwords (found strategy query whole))
  count_is_listed = ap length texts_are_headwords

  -- of a span in which all that is found lies
  module _ (first end : ℕ) (within : LieWithin (is_found strategy query) whole.entries first end) where
    pub hits_within : LieWithin (is_hit_of strategy query) entries first end
    hits_within = span_before (entry_cut_from text) (is_found strategy query) entries first end within

    pub part_is_found : rows_found text strategy query (take (end - first) (drop first entries)) ≡ found_rows strategy query whole
    part_is_found = ap (map (λ entry. row_of (entry_cut_from text entry))) (within_all (is_hit_of strategy query) entries first end hits_within) ∙ rows_are_found

abbrev stored : ℕ → Edition → Stored Edition
stored number edition = record { number = number; content = edition }

-- an edition that was read, kept as its parts
pub kept_as_read : (number : ℕ) (reading : ReadEdition) (title info text : List ℕ) (entries : List OwnedEntry) (lines : List Line) → title ≡ reading.title → info ≡ reading.info → text ≡ reading.text
    → map owned_line_of entries ≡ lines → lines ≡ reading.lines
    → stored number (record { title = title; info = info; entries = map (entry_cut_from text) entries }) ≡ stored number (edition_of reading)
kept_as_read number reading title info text entries lines t i x e l =
    same title reading.title info reading.info (map (entry_cut_from text) entries) (map (entry_in reading.text) reading.lines) t i
    (sym (mapped_twice owned_line_of (entry_in text) entries) ∙ (ap (map (entry_in text)) (e ∙ l) ∙ ap (λ (y : List ℕ). map (entry_in y) reading.lines) x))
  where
    same : (t1 t2 i1 i2 : List ℕ) (e1 e2 : List Entry) → t1 ≡ t2 → i1 ≡ i2 → e1 ≡ e2
        → stored number (record { title = t1; info = i1; entries = e1 }) ≡ stored number (record { title = t2; info = i2; entries = e2 })
    same t1 t2 i1 i2 e1 e2 p q r = cc
