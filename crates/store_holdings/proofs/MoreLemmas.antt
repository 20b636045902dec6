-- The parts of one edition more.
use Rattle.std.proofs.Common.{◌≡◌, ℤ, false, List, [], ◌∷◌, ◌++◌, refl, ap, ◌∙◌, append-nil}
use Rattle.std.specs.Prelude.{flat_map}
use Rattle.std.specs.List.{AllByRecursion}
use Rattle.std.proofs.lemmas.Grind.{flat_map-append}
use Rattle.std.proofs.lemmas.List.Elements.{filter-append}
use Rattle.dict_text.proofs.AllLemmas.{all_weaker}
use Rattle.store_tables.specs.Records.{EntryRecord, EditionRecord}
use Rattle.store_rows.specs.Tables.{Tables, same_number, entries_of}
use Rattle.store_rows.specs.Taken.{with_edition}
use Rattle.store_rows.specs.Whole.{with_entries}
use Rattle.store_rows.proofs.AfterLemmas.{filter_none}
use Rattle.store_holdings.specs.AllTables.{HasNoneOf}
use Rattle.store_holdings.specs.Files.{edition_parts, all_parts, parts_under, index_octets}
use Rattle.store_holdings.proofs.FileLemmas.{turned}

-- no entry of the edition has another number
none_of : (n number : ℤ) → same_number n number ≡ false → (es : List EntryRecord) → AllByRecursion (λ (row : EntryRecord). row.edition ≡ number) es → entries_of n es ≡ []
none_of n number apart es of =
    filter_none (λ (row : EntryRecord). same_number row.edition n) es
    (all_weaker (λ (row : EntryRecord). row.edition ≡ number) (λ (row : EntryRecord). same_number row.edition n ≡ false) (λ row is. ap (λ m. same_number m n) is ∙ turned n number apart) es of)

before : (t : Tables) (number : ℤ) (es : List EntryRecord) → AllByRecursion (λ (row : EntryRecord). row.edition ≡ number) es → (xs : List EditionRecord) → AllByRecursion (λ (row : EditionRecord). same_number row.number number ≡ false) xs
    → flat_map (edition_parts (t.entries ++ es)) xs ≡ flat_map (edition_parts t.entries) xs
before t number es of [] h = refl
before t number es of (x ∷ xs) h =
    let same : entries_of x.number (t.entries ++ es) ≡ entries_of x.number t.entries =
    filter-append (λ (row : EntryRecord). same_number row.edition x.number) t.entries es ∙ ap (λ l. entries_of x.number t.entries ++ l) (none_of x.number number h.0 es of) ∙ append-nil (entries_of x.number t.entries) in
    (λ i. parts_under x.number (index_octets (same i)) x.body ++ before t number es of xs h.1 i)

pub more : (t : Tables) (e : EditionRecord) (es : List EntryRecord) → HasNoneOf e.number t → AllByRecursion (λ (row : EntryRecord). row.edition ≡ e.number) es → all_parts (with_entries (with_edition t e) es) ≡ all_parts t
    ++ edition_parts es e
more t e es none of =
    let own : entries_of e.number (t.entries ++ es) ≡ entries_of e.number es = filter-append (λ (row : EntryRecord). same_number row.edition e.number) t.entries es
    ∙ ap (λ l. l ++ entries_of e.number es) (filter_none (λ (row : EntryRecord). same_number row.edition e.number) t.entries none.1) in
    flat_map-append (edition_parts (t.entries ++ es)) t.editions (e ∷ [])
    ∙ (λ i. before t e.number es of t.editions none.0 i ++ (parts_under e.number (index_octets (own i)) e.body ++ []))
    ∙ ap (λ l. all_parts t ++ l) (append-nil (edition_parts es e))
