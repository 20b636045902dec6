-- The numbers of a catalogue's editions, and the entries that have them.
use Rattle.std.proofs.Common.{◌≡◌, ◌+◌, ◌≤◌, ◌||◌, ◌==◌, ℕ, ℤ, pos, negsuc, Bool, true, false, cond, List, [], ◌∷◌, ◌++◌, map, refl, sym, subst, ◌∙◌, arith, append_assoc}
use Rattle.std.specs.Prelude.{IsTrue}
use Rattle.std.specs.List.{AllByRecursion, list_any}
use Rattle.std.proofs.lemmas.List.{map-append}
use Rattle.dict_text.proofs.AllLemmas.{all_append, all_weaker, all_map, all_flat_map}
use Rattle.dict_index.specs.Line.{Line}
use Rattle.dict_index.specs.Edition.{Edition}
use Rattle.dict_catalogue.specs.Items.{Stored, Item, name_of, editions_of, numbers_of, edition_numbers}
use Rattle.dict_catalogue.specs.Steps.{Catalogue}
use Rattle.dict_catalogue.specs.WellFormed.{how_many, IsEachNumberOnce}
use Rattle.store_rows.specs.Parts.{parts_of}
use Rattle.store_rows.specs.Tables.{Tables, same_number, editions_numbered, entries_of}
use Rattle.store_rows.specs.Written.{numbered, edition_record, entry_record}
use Rattle.store_rows.specs.Stands.{HoldsEdition, HoldsEditions, has_number, Stands}
use Rattle.store_rows.specs.Order.{is_of}
use Rattle.store_holdings.specs.Files.{all_parts, edition_parts, index_octets, parts_under}
use Rattle.store_rows.specs.FileParts.{file_parts, part_at}
use Rattle.store_migration.proofs.KitLemmas.{EditionRecord as EditionRow, Part}

-- one record has this number, and the entries that have it are those of an edition, in their order
pub record AreNumbered (tables : Tables) (n : ℤ) : Type 0 where
  pub number : ℕ
  pub is : n ≡ pos number
  pub edition : EditionRow
  pub its : edition.number ≡ n
  pub one : editions_numbered n tables.editions ≡ edition ∷ []
  pub lines : List Line
  pub entries : entries_of n tables.entries ≡ numbered (entry_record number) 0 lines

one_numbered : (tables : Tables) (owner : List ℕ) (stored : Stored Edition) → HoldsEdition tables owner stored → AreNumbered tables (pos stored.number)
one_numbered tables owner stored h = record {
  number = stored.number;
  is = refl;
  edition = edition_record owner stored.number h.reading;
  its = refl;
  one = h.row;
  lines = h.reading.lines;
  entries = h.entries;
}

item_numbered : (tables : Tables) (item : Item Edition) → HoldsEditions tables item → AllByRecursion (λ number. AreNumbered tables (pos number)) (numbers_of item)
item_numbered tables item h =
    all_map (HoldsEdition tables (name_of item)) (λ number. AreNumbered tables (pos number)) (λ (stored : Stored Edition). stored.number) (one_numbered tables (name_of item)) (editions_of item) h

pub all_numbered : (version : ℕ) (tables : Tables) (M : Catalogue) → Stands version tables M → AllByRecursion (AreNumbered tables) (map pos (edition_numbers M.items))
all_numbered version tables M s =
    all_map (λ number. AreNumbered tables (pos number)) (AreNumbered tables) pos (λ n h. h) (edition_numbers M.items)
    (all_flat_map (λ number. AreNumbered tables (pos number)) numbers_of M.items
    (all_weaker (HoldsEditions tables) (λ item. AllByRecursion (λ number. AreNumbered tables (pos number)) (numbers_of item)) (item_numbered tables) M.items s.editions))

-- ---- each record has one of them

eq_swapped : (m n : ℕ) → (m == n) ≡ (n == m)
eq_swapped m n = search arith

same_swapped : (a b : ℤ) → same_number a b ≡ same_number b a
same_swapped (pos m) (pos n) = eq_swapped m n
same_swapped (pos m) (negsuc n) = refl
same_swapped (negsuc m) (pos n) = refl
same_swapped (negsuc m) (negsuc n) = eq_swapped m n

one_of : (n : ℤ) (ns : List ℕ) → is_of (map pos ns) n ≡ list_any (λ one. same_number (pos one) n) ns
one_of n [] = refl
one_of n (m ∷ ns) = λ i. same_swapped n (pos m) i || one_of n ns i

pub editions_known : (version : ℕ) (tables : Tables) (M : Catalogue) → Stands version tables M → AllByRecursion (λ (e : EditionRow). IsTrue (is_of (map pos (edition_numbers M.items)) e.number)) tables.editions
editions_known version tables M s =
    all_weaker (λ (e : EditionRow). IsTrue (has_number M.items e.number)) (λ (e : EditionRow). IsTrue (is_of (map pos (edition_numbers M.items)) e.number)) (λ e h. one_of e.number (edition_numbers M.items) ∙ h) tables.editions s.numbers

-- so does each part of its files
under_known : (numbers : List ℤ) (edition : ℤ) (index text : List ℕ) → IsTrue (is_of numbers edition) → AllByRecursion (λ (p : Part). IsTrue (is_of numbers p.edition)) (parts_under edition index text)
under_known numbers edition index text known =
    all_append (λ (p : Part). IsTrue (is_of numbers p.edition)) (file_parts edition (pos 0) index) (file_parts edition (pos 1) text) (each (pos 0) 0 (parts_of index)) (each (pos 1) 0 (parts_of text))
  where
    each : (file : ℤ) (n : ℕ) (os : List (List ℕ)) → AllByRecursion (λ (p : Part). IsTrue (is_of numbers p.edition)) (numbered (part_at edition file) n os)
    each file n [] = tt
    each file n (o ∷ os) = (known, each file (n + 1) os)

pub parts_known : (version : ℕ) (tables : Tables) (M : Catalogue) → Stands version tables M → AllByRecursion (λ (p : Part). IsTrue (is_of (map pos (edition_numbers M.items)) p.edition)) (all_parts tables)
parts_known version tables M s =
    let numbers = map pos (edition_numbers M.items) in
    all_flat_map (λ (p : Part). IsTrue (is_of numbers p.edition)) (edition_parts tables.entries) tables.editions
    (all_weaker (λ (e : EditionRow). IsTrue (is_of numbers e.number)) (λ (e : EditionRow). AllByRecursion (λ (p : Part). IsTrue (is_of numbers p.edition)) (edition_parts tables.entries e))
    (λ e known. under_known numbers e.number (index_octets (entries_of e.number tables.entries)) e.body known) tables.editions (editions_known version tables M s))

-- ---- no number comes twice

-- each of these is none of those before it
abbrev pub AreFresh : List ℤ → List ℤ → Type 0
AreFresh done [] = Unit {0}
AreFresh done (n ∷ ns) = (is_of done n ≡ false) × AreFresh (done ++ n ∷ []) ns

at_least : (ds ns : List ℕ) (n : ℕ) → 1 ≤ how_many (λ one. one == n) (ds ++ n ∷ ns)
at_least [] ns n = let here : (n == n) ≡ true = search arith in rw here (omega arith)
at_least (d ∷ ds) ns n = let rest = at_least ds ns n in more (d == n) rest
  where
    more : (b : Bool) → 1 ≤ how_many (λ one. one == n) (ds ++ n ∷ ns) → 1 ≤ cond b 1 0 + how_many (λ one. one == n) (ds ++ n ∷ ns)
    more true le = omega arith
    more false le = omega arith

not_before : (ds ns : List ℕ) (n : ℕ) → how_many (λ one. one == n) (ds ++ n ∷ ns) ≤ 1 → is_of (map pos ds) (pos n) ≡ false
not_before [] ns n few = refl
not_before (d ∷ ds) ns n few = step (d == n) refl few (not_before ds ns n)
  where
    step : (b : Bool) → (d == n) ≡ b → cond b 1 0 + how_many (λ one. one == n) (ds ++ n ∷ ns) ≤ 1 → (how_many (λ one. one == n) (ds ++ n ∷ ns) ≤ 1 → is_of (map pos ds) (pos n) ≡ false) → is_of (map pos (d ∷ ds)) (pos n) ≡ false
    step true e le next = let rest = at_least ds ns n in absurd (omega (arith, rest, le))
    step false e le next = let rest : is_of (map pos ds) (pos n) ≡ false = next (omega (arith, le)) in rw (eq_swapped n d ∙ e) rest

fresh_from : (ds ns : List ℕ) → IsEachNumberOnce (ds ++ ns) → AreFresh (map pos ds) (map pos ns)
fresh_from ds [] h = tt
fresh_from ds (n ∷ ns) h = (
  not_before ds ns n (h n),
  subst (λ l. AreFresh l (map pos ns)) (map-append pos ds (n ∷ [])) (fresh_from (ds ++ n ∷ []) ns (subst IsEachNumberOnce (sym (append_assoc ds (n ∷ []) ns)) h)),
)

pub all_fresh : (version : ℕ) (tables : Tables) (M : Catalogue) → Stands version tables M → AreFresh [] (map pos (edition_numbers M.items))
all_fresh version tables M s = fresh_from [] (edition_numbers M.items) s.well_formed.edition_once
