-- The parts of files.
use Rattle.std.proofs.Common.{◌≡◌, ℕ, ℤ, pos, ◌+◌, Bool, true, false, cond, List, [], ◌∷◌, ◌++◌, map, refl, ap, sym, subst, ◌∙◌, append_assoc, append-nil, Option, Some, None}
use Rattle.std.specs.Prelude.{filter, flat_map, not}
use Rattle.std.specs.List.{AllByRecursion}
use Rattle.std.proofs.lemmas.Bool.{false≢true}
use Rattle.std.proofs.lemmas.List.Elements.{filter-append}
use Rattle.dict_text.proofs.AllLemmas.{all_append, all_of, all_weaker}
use Rattle.store_tables.specs.Records.{EntryRecord, EditionRecord, Part}
use Rattle.dict_index.specs.Edition.{Edition as AnEdition}
use Rattle.dict_index.specs.Line.{Line}
use Rattle.dict_catalogue.specs.Commands.{Command}
use Rattle.dict_catalogue.specs.Steps.{Catalogue}
use Rattle.store_rows.specs.Parts.{parts_of}
use Rattle.store_rows.specs.Stored.{stored_index}
use Rattle.store_rows.specs.Stands.{Stands}
use Rattle.store_rows.specs.Tables.{Tables, same_number, entries_of, editions_numbered}
use Rattle.store_rows.specs.Written.{numbered, edition_record, entry_record}
use Rattle.store_rows.specs.After.{TableChange, Installed, IsTableChange, is_gone, installed_entries, installed_editions}
use Rattle.store_rows.proofs.ListLemmas.{each_numbered}
use Rattle.store_rows.proofs.ChangeLemmas.{IsFit, IsFree, fit_of, free_of}
use Rattle.store_rows.proofs.TakenLemmas.{same_number_is, same_itself}
use Rattle.store_holdings.specs.AllTables.{HasNoneOf, HasNewNumber}
use Rattle.store_holdings.specs.Files.{parts_under, edition_parts, all_parts, index_octets, entry_line, installed_parts}
use Rattle.store_rows.specs.FileParts.{part_at, file_parts}

-- ---- what passes a test, and what is made of it

-- what passes for each element of a list, or for none
pub passes : {Y : Type 0} (q : Y → Bool) (b : Bool) (ys : List Y) → AllByRecursion (λ y. q y ≡ b) ys → filter q ys ≡ cond b ys []
passes q true [] h = refl
passes q false [] h = refl
passes q true (y ∷ ys) h = ap (λ b. cond b (y ∷ filter q ys) (filter q ys)) h.0 ∙ ap (λ l. y ∷ l) (passes q true ys h.1)
passes q false (y ∷ ys) h = ap (λ b. cond b (y ∷ filter q ys) (filter q ys)) h.0 ∙ passes q false ys h.1

pub flat_map_filtered : {X Y : Type 0} (f : X → List Y) (p : X → Bool) (q : Y → Bool) → ((x : X) → AllByRecursion (λ y. q y ≡ p x) (f x)) → (xs ys : List X) → flat_map f (filter p xs ++ ys) ≡ filter q (flat_map f xs) ++ flat_map f ys
flat_map_filtered f p q same [] ys = refl
flat_map_filtered {X} {Y} f p q same (x ∷ xs) ys =
    by (p x) (passes q (p x) (f x) (same x)) (flat_map_filtered f p q same xs ys)
    ∙ ap (λ l. l ++ flat_map f ys) (sym (filter-append q (f x) (flat_map f xs)))
  where
    by : (b : Bool) → filter q (f x) ≡ cond b (f x) [] → flat_map f (filter p xs ++ ys) ≡ filter q (flat_map f xs) ++ flat_map f ys
        → flat_map f (cond b (x ∷ filter p xs) (filter p xs) ++ ys) ≡ (filter q (f x) ++ filter q (flat_map f xs)) ++ flat_map f ys
    by true e rest = ap (λ l. f x ++ l) rest ∙ sym (append_assoc (f x) (filter q (flat_map f xs)) (flat_map f ys)) ∙ ap (λ l. (l ++ filter q (flat_map f xs)) ++ flat_map f ys) (sym e)
    by false e rest = rest ∙ ap (λ l. (l ++ filter q (flat_map f xs)) ++ flat_map f ys) (sym e)

-- ---- the parts of one number

pub of_under : (test : ℤ → Bool) (edition : ℤ) (index text : List ℕ) → AllByRecursion (λ (p : Part). test p.edition ≡ test edition) (parts_under edition index text)
of_under test edition index text =
    all_append (λ (p : Part). test p.edition ≡ test edition) (file_parts edition (pos 0) index) (file_parts edition (pos 1) text)
    (each_numbered (part_at edition (pos 0)) (λ (p : Part). test p.edition ≡ test edition) (λ n octets. refl) 0 (parts_of index))
    (each_numbered (part_at edition (pos 1)) (λ (p : Part). test p.edition ≡ test edition) (λ n octets. refl) 0 (parts_of text))

pub part_once : (t : Tables) (number : ℤ) → filter (λ (p : Part). same_number p.edition number) (all_parts t) ≡ flat_map (edition_parts t.entries) (editions_numbered number t.editions)
part_once t number =
    sym (append-nil (filter (λ (p : Part). same_number p.edition number) (all_parts t)))
    ∙ sym (flat_map_filtered (edition_parts t.entries) (λ (e : EditionRecord). same_number e.number number) (λ (p : Part). same_number p.edition number)
    (λ e. of_under (λ n. same_number n number) e.number (index_octets (entries_of e.number t.entries)) e.body) t.editions [])
    ∙ ap (flat_map (edition_parts t.entries)) (append-nil (editions_numbered number t.editions))

-- ---- a command

swapped : {X Y : Type 0} (f g : X → List Y) (p : X → Bool) (xs ys : List X) → AllByRecursion (λ x. p x ≡ true → g x ≡ f x) xs → flat_map g (filter p xs ++ ys) ≡ flat_map f (filter p xs) ++ flat_map g ys
swapped f g p [] ys h = refl
swapped {X} {Y} f g p (x ∷ xs) ys h = by (p x) h.0 (swapped f g p xs ys h.1)
  where
    by : (b : Bool) → (b ≡ true → g x ≡ f x) → flat_map g (filter p xs ++ ys) ≡ flat_map f (filter p xs) ++ flat_map g ys
        → flat_map g (cond b (x ∷ filter p xs) (filter p xs) ++ ys) ≡ flat_map f (cond b (x ∷ filter p xs) (filter p xs)) ++ flat_map g ys
    by true e rest = ap (λ l. l ++ flat_map g (filter p xs ++ ys)) (e refl) ∙ ap (λ l. f x ++ l) rest ∙ sym (append_assoc (f x) (flat_map f (filter p xs)) (flat_map g ys))
    by false e rest = rest

-- the entries of an edition that stays, behind those that go and before those that come
kept_entries : (gone : List ℕ) (n : ℤ) → not (is_gone gone n) ≡ true → (ys : List EntryRecord) → entries_of n ys ≡ [] → (xs : List EntryRecord) → entries_of n (filter (λ (r : EntryRecord). not (is_gone gone r.edition)) xs ++ ys)
    ≡ entries_of n xs
kept_entries gone n stay ys none [] = none
kept_entries gone n stay ys none (x ∷ xs) = by (not (is_gone gone x.edition)) (same_number x.edition n) refl refl (kept_entries gone n stay ys none xs)
  where
    by : (b c : Bool) → not (is_gone gone x.edition) ≡ b → same_number x.edition n ≡ c → entries_of n (filter (λ (r : EntryRecord). not (is_gone gone r.edition)) xs ++ ys) ≡ entries_of n xs
        → entries_of n (cond b (x ∷ filter (λ (r : EntryRecord). not (is_gone gone r.edition)) xs) (filter (λ (r : EntryRecord). not (is_gone gone r.edition)) xs) ++ ys) ≡ cond c (x ∷ entries_of n xs) (entries_of n xs)
    by true c eb ec rest = ap (λ d. cond d (x ∷ entries_of n (filter (λ (r : EntryRecord). not (is_gone gone r.edition)) xs ++ ys)) (entries_of n (filter (λ (r : EntryRecord). not (is_gone gone r.edition)) xs ++ ys))) ec
        ∙ ap (λ l. cond c (x ∷ l) l) rest
    by false false eb ec rest = rest
    by false true eb ec rest = absurd (false≢true (sym eb ∙ ap (λ m. not (is_gone gone m)) (same_number_is x.edition n ec) ∙ stay))

-- those of the edition that comes
pub lines_back : (number first : ℕ) (lines : List Line) → map entry_line (numbered (entry_record number) first lines) ≡ lines
lines_back number first [] = refl
lines_back number first (line ∷ lines) = ap (λ l. line ∷ l) (lines_back number (first + 1) lines)

own_entries : (number first : ℕ) (lines : List Line) → entries_of (pos number) (numbered (entry_record number) first lines) ≡ numbered (entry_record number) first lines
own_entries number first lines =
    passes (λ (r : EntryRecord). same_number r.edition (pos number)) true (numbered (entry_record number) first lines)
    (each_numbered (entry_record number) (λ (r : EntryRecord). same_number r.edition (pos number) ≡ true) (λ n line. same_itself (pos number)) first lines)

other_entries : (n : ℤ) (number first : ℕ) (lines : List Line) → same_number (pos number) n ≡ false → entries_of n (numbered (entry_record number) first lines) ≡ []
other_entries n number first lines e =
    passes (λ (r : EntryRecord). same_number r.edition n) false (numbered (entry_record number) first lines)
    (each_numbered (entry_record number) (λ (r : EntryRecord). same_number r.edition n ≡ false) (λ _ line. e) first lines)

pub turned : (a b : ℤ) → same_number a b ≡ false → same_number b a ≡ false
turned a b e = by (same_number b a) refl
  where
    by : (c : Bool) → same_number b a ≡ c → c ≡ false
    by false h = refl
    by true h = absurd (false≢true (sym e ∙ ap (λ m. same_number a m) (same_number_is b a h) ∙ same_itself a))

no_entries : (gone : List ℕ) (n : ℤ) (xs ys : List EntryRecord) → AllByRecursion (λ (row : EntryRecord). same_number row.edition n ≡ false) xs → entries_of n (filter (λ (r : EntryRecord). not (is_gone gone r.edition)) xs ++ ys)
    ≡ entries_of n ys
no_entries gone n [] ys h = refl
no_entries gone n (x ∷ xs) ys h = by (not (is_gone gone x.edition)) (no_entries gone n xs ys h.1)
  where
    by : (b : Bool) → entries_of n (filter (λ (r : EntryRecord). not (is_gone gone r.edition)) xs ++ ys) ≡ entries_of n ys
        → entries_of n (cond b (x ∷ filter (λ (r : EntryRecord). not (is_gone gone r.edition)) xs) (filter (λ (r : EntryRecord). not (is_gone gone r.edition)) xs) ++ ys) ≡ entries_of n ys
    by true rest = ap (λ c. cond c (x ∷ entries_of n (filter (λ (r : EntryRecord). not (is_gone gone r.edition)) xs ++ ys)) (entries_of n (filter (λ (r : EntryRecord). not (is_gone gone r.edition)) xs ++ ys))) h.0 ∙ rest
    by false rest = rest

-- the parts of editions that stay, and of the one that comes
staying : (gone : List ℕ) (ed : Option Installed) (t : Tables) (e : EditionRecord) → not (is_gone gone e.number) ≡ true → entries_of e.number (installed_entries ed) ≡ []
    → edition_parts (filter (λ (r : EntryRecord). not (is_gone gone r.edition)) t.entries ++ installed_entries ed) e ≡ edition_parts t.entries e
staying gone ed t e stay none = ap (λ l. parts_under e.number (index_octets l) e.body) (kept_entries gone e.number stay (installed_entries ed) none t.entries)

pub parts_after : (gone : List ℕ) (ed : Option Installed) (t : Tables) → HasNewNumber ed t
    → flat_map (edition_parts (filter (λ (r : EntryRecord). not (is_gone gone r.edition)) t.entries ++ installed_entries ed)) (filter (λ (r : EditionRecord). not (is_gone gone r.number)) t.editions ++ installed_editions ed)
    ≡ filter (λ (p : Part). not (is_gone gone p.edition)) (all_parts t) ++ installed_parts ed
parts_after gone ed t new = whole ed new
  where
    those : (o : Option Installed) → EditionRecord → List Part
    those o = edition_parts (filter (λ (r : EntryRecord). not (is_gone gone r.edition)) t.entries ++ installed_entries o)

    filtered : flat_map (edition_parts t.entries) (filter (λ (r : EditionRecord). not (is_gone gone r.number)) t.editions) ≡ filter (λ (p : Part). not (is_gone gone p.edition)) (all_parts t)
    filtered =
        ap (flat_map (edition_parts t.entries)) (sym (append-nil (filter (λ (r : EditionRecord). not (is_gone gone r.number)) t.editions)))
        ∙ flat_map_filtered (edition_parts t.entries) (λ (r : EditionRecord). not (is_gone gone r.number)) (λ (p : Part). not (is_gone gone p.edition))
        (λ e. of_under (λ n. not (is_gone gone n)) e.number (index_octets (entries_of e.number t.entries)) e.body) t.editions []
        ∙ append-nil (filter (λ (p : Part). not (is_gone gone p.edition)) (all_parts t))

    each : (o : Option Installed) (es : List EditionRecord) → AllByRecursion (λ (e : EditionRecord). entries_of e.number (installed_entries o) ≡ []) es
        → AllByRecursion (λ (e : EditionRecord). not (is_gone gone e.number) ≡ true → those o e ≡ edition_parts t.entries e) es
    each o es h =
        all_weaker (λ (e : EditionRecord). entries_of e.number (installed_entries o) ≡ []) (λ (e : EditionRecord). not (is_gone gone e.number) ≡ true → those o e ≡ edition_parts t.entries e)
        (λ e none stay. staying gone o t e stay none) es h

    fresh : (one : Installed) (es : List EditionRecord) → AllByRecursion (λ (row : EditionRecord). same_number row.number (pos one.number) ≡ false) es
        → AllByRecursion (λ (e : EditionRecord). entries_of e.number (installed_entries (Some one)) ≡ []) es
    fresh one es h =
        all_weaker (λ (row : EditionRecord). same_number row.number (pos one.number) ≡ false) (λ (e : EditionRecord). entries_of e.number (installed_entries (Some one)) ≡ [])
        (λ e apart. other_entries e.number one.number 0 one.reading.lines (turned e.number (pos one.number) apart)) es h

    none : (es : List EditionRecord) → AllByRecursion (λ (e : EditionRecord). entries_of e.number (installed_entries None) ≡ []) es
    none es = all_of (λ (e : EditionRecord). entries_of e.number (installed_entries None) ≡ []) (λ e. refl) es

    coming : (one : Installed) → HasNewNumber (Some one) t → those (Some one) (edition_record one.owner one.number one.reading) ≡ installed_parts (Some one)
    coming one h =
        ap (λ l. parts_under (pos one.number) (index_octets l) one.reading.text)
        (no_entries gone (pos one.number) t.entries (installed_entries (Some one)) h.1 ∙ own_entries one.number 0 one.reading.lines)
        ∙ ap (λ l. parts_under (pos one.number) (stored_index l) one.reading.text) (lines_back one.number 0 one.reading.lines)

    whole : (o : Option Installed) → HasNewNumber o t → flat_map (those o) (filter (λ (r : EditionRecord). not (is_gone gone r.number)) t.editions ++ installed_editions o)
        ≡ filter (λ (p : Part). not (is_gone gone p.edition)) (all_parts t) ++ installed_parts o
    whole None h =
        swapped (edition_parts t.entries) (those None) (λ (r : EditionRecord). not (is_gone gone r.number)) t.editions [] (each None t.editions (none t.editions))
        ∙ ap (λ l. l ++ []) filtered
    whole (Some one) h =
        swapped (edition_parts t.entries) (those (Some one)) (λ (r : EditionRecord). not (is_gone gone r.number)) t.editions (installed_editions (Some one)) (each (Some one) t.editions (fresh one t.editions h.0))
        ∙ ap (λ l. l ++ flat_map (those (Some one)) (installed_editions (Some one))) filtered
        ∙ ap (λ l. filter (λ (p : Part). not (is_gone gone p.edition)) (all_parts t) ++ l) (append-nil (those (Some one) (edition_record one.owner one.number one.reading)) ∙ coming one h)

-- the number of an edition that a command installs is new
new_number : (number : ℕ) (edition : Option Installed) (old : Tables) → IsFit number edition → IsFree number old → HasNewNumber edition old
new_number number None old fit free = tt
new_number number (Some new) old fit free = subst (λ (n : ℕ). HasNoneOf (pos n) old) (sym fit.0) free

pub is_new : (version : ℕ) (old : Tables) (M : Catalogue) (id : List ℕ) (command : Command AnEdition) (change : TableChange) → Stands version old M → IsTableChange M id command change → HasNewNumber change.edition old
is_new version old M id command change stands is = new_number (M.installs + 1) change.edition old (fit_of (M.installs + 1) command change.edition is.edition) (free_of version old M stands)
