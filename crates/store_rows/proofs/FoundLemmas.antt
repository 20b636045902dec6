-- The edition of a number, where tables stand for a catalogue.
use Rattle.std.proofs.Common.{◌≡◌, ℕ, Bool, true, false, ◌&&◌, ◌||◌, ◌⊎◌, inl, inr, List, [], ◌∷◌, ◌++◌, length, refl, ap, sym, subst, ◌∙◌, Some, None}
use Rattle.std.specs.Prelude.{ℤ, pos, map, bytes_eq, ◌==◌, IsTrue}
use Rattle.std.specs.List.{AllByRecursion, list_any}
use Rattle.std.proofs.lemmas.Bool.{false≢true, and_parts, and_from}
use Rattle.std.proofs.lemmas.List.Folds.{list_any-append}
use Rattle.store_tables.specs.Records as spec
use Rattle.dict_index.specs.Edition.{Edition}
use Rattle.dict_index.specs.WellFormed.{IsWellFormedEdition}
use Rattle.dict_catalogue.specs.Items.{Stored, Item, regular, virtual, name_of, numbers_of, edition_numbers}
use Rattle.dict_catalogue.specs.Steps.{Catalogue}
use Rattle.dict_catalogue.specs.WellFormed.{HasWellFormedEditions}
use Rattle.dict_catalogue.proofs.ItemLemmas.{text_itself}
use Rattle.dict_text.proofs.AllLemmas.{all_filter, all_append_parts}
use Rattle.dict_catalogue.proofs.ListLemmas.{any_same}
use Rattle.store_rows.specs.Tables.{Tables, same_number, editions_numbered}
use Rattle.store_rows.specs.Written.{edition_record}
use Rattle.store_rows.specs.Stands.{HoldsEdition, HoldsEditions, has_number, Stands}
use Rattle.store_rows.specs.Titles.{is_awaited, awaits}
use Rattle.store_rows.specs.Taken.{GoesOnFrom, HoldsTitle, HoldsTitles, with_edition}
use Rattle.store_rows.proofs.OnceLemmas.{head_same}
use Rattle.store_rows.proofs.LawfulLemmas.{bare}
use Rattle.store_rows.proofs.TakenLemmas.{same_number_is, same_itself, nat_same, nat_itself, filter_passes}

pub or_split : (a b : Bool) → (a || b) ≡ true → (a ≡ true) ⊎ (b ≡ true)
or_split true b e = inl refl
or_split false b e = inr e

or_first : (a b : Bool) → a ≡ true → (a || b) ≡ true
or_first true b e = refl
or_first false b e = absurd (false≢true e)

or_second : (a b : Bool) → b ≡ true → (a || b) ≡ true
or_second true b e = refl
or_second false b e = e

-- an item of this name has an edition of this number
abbrev pub has_stored : {A : Type 0} → List ℕ → ℕ → List (Item A) → Bool
has_stored owner number items = list_any (λ item. bytes_eq (name_of item) owner && list_any (λ one. one == number) (numbers_of item)) items

pub record Found (tables : Tables) (items : List (Item Edition)) (number : ℤ) : Type 0 where
  pub owner : List ℕ
  pub stored : Stored Edition
  pub is : pos stored.number ≡ number
  pub holds : HoldsEdition tables owner stored
  pub lawful : IsWellFormedEdition stored.content
  pub there : has_stored owner stored.number items ≡ true

found_head : (tables : Tables) (item : Item Edition) (items : List (Item Edition)) (number : ℤ) (stored : Stored Edition) → pos stored.number ≡ number → HoldsEdition tables (name_of item) stored → IsWellFormedEdition stored.content →
    list_any (λ one. one == stored.number) (numbers_of item) ≡ true → Found tables (item ∷ items) number
found_head tables item items number stored is holds lawful among = record {
  owner = name_of item;
  stored = stored;
  is = is;
  holds = holds;
  lawful = lawful;
  there = or_first (bytes_eq (name_of item) (name_of item) && list_any (λ one. one == stored.number) (numbers_of item)) (has_stored (name_of item) stored.number items)
      (and_from (bytes_eq (name_of item) (name_of item)) (list_any (λ one. one == stored.number) (numbers_of item)) (text_itself (name_of item)) among);
}

found_tail : (tables : Tables) (item : Item Edition) (items : List (Item Edition)) (number : ℤ) → Found tables items number → Found tables (item ∷ items) number
found_tail tables item items number f = record {
  owner = f.owner;
  stored = f.stored;
  is = f.is;
  holds = f.holds;
  lawful = f.lawful;
  there = or_second (bytes_eq (name_of item) f.owner && list_any (λ one. one == f.stored.number) (numbers_of item)) (has_stored f.owner f.stored.number items) f.there;
}

found_here : (tables : Tables) (item : Item Edition) (items : List (Item Edition)) (number : ℤ) → list_any (λ one. same_number (pos one) number) (numbers_of item) ≡ true → HoldsEditions tables item → HasWellFormedEditions item
    → Found tables (item ∷ items) number
found_here tables (regular name current None) items number h holds lawful =
    found_here_one (or_split (same_number (pos current.number) number) false h)
  where
    found_here_one : (same_number (pos current.number) number ≡ true) ⊎ (false ≡ true) → Found tables (regular name current None ∷ items) number
    found_here_one (inl e) = found_head tables (regular name current None) items number current (same_number_is (pos current.number) number e) holds.0 lawful.0
        (or_first (current.number == current.number) false (nat_itself current.number current.number refl))
    found_here_one (inr e) = absurd (false≢true e)
found_here tables (regular name current (Some former)) items number h holds lawful =
    found_here_two (or_split (same_number (pos current.number) number) (same_number (pos former.number) number || false) h)
  where
    last_of : (b : Bool) → (b || false) ≡ true → b ≡ true
    last_of true e = refl
    last_of false e = e

    found_here_two : (same_number (pos current.number) number ≡ true) ⊎ ((same_number (pos former.number) number || false) ≡ true) → Found tables (regular name current (Some former) ∷ items) number
    found_here_two (inl e) = found_head tables (regular name current (Some former)) items number current (same_number_is (pos current.number) number e) holds.0 lawful.0
        (or_first (current.number == current.number) ((former.number == current.number) || false) (nat_itself current.number current.number refl))
    found_here_two (inr e) = found_head tables (regular name current (Some former)) items number former (same_number_is (pos former.number) number (last_of (same_number (pos former.number) number) e)) holds.1.0 lawful.1.0
        (or_second (current.number == former.number) ((former.number == former.number) || false) (or_first (former.number == former.number) false (nat_itself former.number former.number refl)))
found_here tables (virtual name title members) items number h holds lawful = absurd (false≢true h)

pub found_in : (tables : Tables) (items : List (Item Edition)) (number : ℤ) → has_number items number ≡ true → AllByRecursion (HoldsEditions tables) items → AllByRecursion HasWellFormedEditions items → Found tables items number
found_in tables [] number h holds lawful = absurd (false≢true h)
found_in tables (item ∷ items) number h holds lawful =
    step (or_split (list_any (λ one. same_number (pos one) number) (numbers_of item)) (has_number items number) (sym (list_any-append (λ one. same_number (pos one) number) (numbers_of item) (edition_numbers items)) ∙ h))
    (λ k. found_in tables items number k holds.1 lawful.1)
  where
    step : (list_any (λ one. same_number (pos one) number) (numbers_of item) ≡ true) ⊎ (has_number items number ≡ true) → (has_number items number ≡ true → Found tables items number) → Found tables (item ∷ items) number
    step (inl e) later = found_here tables item items number e holds.0 lawful.0
    step (inr e) later = found_tail tables item items number (later e)

-- whatever is kept of the editions

stored_as_one : {A : Type 0} (owner : List ℕ) (number : ℕ) (item : Item A) → (bytes_eq (name_of (bare item)) owner && list_any (λ one. one == number) (numbers_of (bare item)))
    ≡ (bytes_eq (name_of item) owner && list_any (λ one. one == number) (numbers_of item))
stored_as_one owner number (regular name current None) = refl
stored_as_one owner number (regular name current (Some former)) = refl
stored_as_one owner number (virtual name title members) = refl

pub stored_alike : {A B : Type 0} (owner : List ℕ) (number : ℕ) (xs : List (Item A)) (ys : List (Item B)) → map bare xs ≡ map bare ys → has_stored owner number xs ≡ has_stored owner number ys
stored_alike owner number xs ys e =
    sym (any_same (λ item. bytes_eq (name_of item) owner && list_any (λ one. one == number) (numbers_of item)) (λ item. bytes_eq (name_of item) owner && list_any (λ one. one == number) (numbers_of item)) bare
    (stored_as_one owner number) xs)
    ∙ ap (has_stored owner number) e
    ∙ any_same (λ item. bytes_eq (name_of item) owner && list_any (λ one. one == number) (numbers_of item)) (λ item. bytes_eq (name_of item) owner && list_any (λ one. one == number) (numbers_of item)) bare (stored_as_one owner number) ys

-- an edition that an item of the reader has, and of which no record was taken, is awaited

awaited_stored : (taken : Tables) (owner : List ℕ) (number : ℕ) (name : List ℕ) (stored : Stored (List ℕ)) → HoldsTitle taken name stored → (stored.number == number) ≡ true → editions_numbered (pos number) taken.editions ≡ []
    → is_awaited number stored ≡ true
awaited_stored taken owner number name stored (inl h) e none = and_from (stored.number == number) (length stored.content == 0) e (ap (λ (text : List ℕ). length text == 0) h.0)
awaited_stored taken owner number name stored (inr h) e none =
    absurd (let here : stored.number ≡ number = nat_same stored.number number e in
    let there : editions_numbered (pos stored.number) taken.editions ≡ [] = ap (λ n. editions_numbered (pos n) taken.editions) here ∙ none in
    let one : edition_record name stored.number h.holds.reading ∷ [] ≡ [] = sym h.holds.row ∙ there in cc)

awaited_item : (taken : Tables) (owner : List ℕ) (number : ℕ) (item : Item (List ℕ)) → HoldsTitles taken item → editions_numbered (pos number) taken.editions ≡ [] →
    (bytes_eq (name_of item) owner && list_any (λ one. one == number) (numbers_of item)) ≡ true → awaits owner number item ≡ true
awaited_item taken owner number (regular name current None) h none there =
    let parts = and_parts (bytes_eq name owner) ((current.number == number) || false) there in
    and_from (bytes_eq name owner) (is_awaited number current) parts.0 (awaited_stored taken owner number name current h.0 (last_of (current.number == number) parts.1) none)
  where
    last_of : (b : Bool) → (b || false) ≡ true → b ≡ true
    last_of true e = refl
    last_of false e = e
awaited_item taken owner number (regular name current (Some former)) h none there =
    let parts = and_parts (bytes_eq name owner) ((current.number == number) || ((former.number == number) || false)) there in
    and_from (bytes_eq name owner) (is_awaited number current || is_awaited number former) parts.0 (one_of (or_split (current.number == number) ((former.number == number) || false) parts.1))
  where
    last_of : (b : Bool) → (b || false) ≡ true → b ≡ true
    last_of true e = refl
    last_of false e = e

    one_of : ((current.number == number) ≡ true) ⊎ (((former.number == number) || false) ≡ true) → (is_awaited number current || is_awaited number former) ≡ true
    one_of (inl e) = or_first (is_awaited number current) (is_awaited number former) (awaited_stored taken owner number name current h.0 e none)
    one_of (inr e) = or_second (is_awaited number current) (is_awaited number former) (awaited_stored taken owner number name former h.1.0 (last_of (former.number == number) e) none)
awaited_item taken owner number (virtual name title members) h none there =
    absurd (false≢true ((and_parts (bytes_eq name owner) false there).1))

pub awaited_there : (taken : Tables) (owner : List ℕ) (number : ℕ) (items : List (Item (List ℕ))) → AllByRecursion (HoldsTitles taken) items → editions_numbered (pos number) taken.editions ≡ [] → has_stored owner number items
    ≡ true → list_any (awaits owner number) items ≡ true
awaited_there taken owner number [] h none there = absurd (false≢true there)
awaited_there taken owner number (item ∷ items) h none there =
    step (or_split (bytes_eq (name_of item) owner && list_any (λ one. one == number) (numbers_of item)) (has_stored owner number items) there) (awaited_there taken owner number items h.1 none)
  where
    step : ((bytes_eq (name_of item) owner && list_any (λ one. one == number) (numbers_of item)) ≡ true) ⊎ (has_stored owner number items ≡ true)
        → (has_stored owner number items ≡ true → list_any (awaits owner number) items ≡ true) → (awaits owner number item || list_any (awaits owner number) items) ≡ true
    step (inl e) later = or_first (awaits owner number item) (list_any (awaits owner number) items) (awaited_item taken owner number item h.0 none e)
    step (inr e) later = or_second (awaits owner number item) (list_any (awaits owner number) items) (later e)

-- ---- a record among those of its number

pub record IsFoundRow (tables : Tables) (taken : Tables) (row : spec.EditionRecord) (items : List (Item Edition)) : Type 0 where
  pub found : Found tables items row.number
  pub none : editions_numbered row.number taken.editions ≡ []
  pub is : row ≡ edition_record found.owner found.stored.number found.holds.reading

alone : {X : Type 0} (xs more : List X) (x y : X) → (xs ++ x ∷ []) ++ more ≡ y ∷ [] → (xs ≡ []) × (x ≡ y)
alone [] more x y e = (refl, head_same _ _ _ _ e)
alone (z ∷ []) more x y e = absurd (cc)
alone (z ∷ w ∷ xs) more x y e = absurd (cc)

pub row_found : (version : ℕ) (tables : Tables) (M : Catalogue) (taken : Tables) (row : spec.EditionRecord) → Stands version tables M → GoesOnFrom (with_edition taken row) tables → IsFoundRow tables taken row M.items
row_found version tables M taken row stands goes =
    let push : editions_numbered row.number (taken.editions ++ row ∷ []) ≡ editions_numbered row.number taken.editions ++ row ∷ [] =
    filter_passes (λ (r : spec.EditionRecord). same_number r.number row.number) taken.editions row (same_itself row.number) in
    let begins = goes.editions row.number in
    let whole : editions_numbered row.number tables.editions ≡ (editions_numbered row.number taken.editions ++ row ∷ []) ++ begins.0 = begins.1 ∙ ap (λ xs. xs ++ begins.0) push in
    let all = subst (AllByRecursion (λ (r : spec.EditionRecord). IsTrue (has_number M.items r.number))) whole
    (all_filter (λ (r : spec.EditionRecord). IsTrue (has_number M.items r.number)) (λ (r : spec.EditionRecord). same_number r.number row.number) tables.editions stands.numbers) in
    let known : has_number M.items row.number ≡ true = (all_append_parts (λ (r : spec.EditionRecord). IsTrue (has_number M.items r.number)) (editions_numbered row.number taken.editions) (row ∷ [])
    (all_append_parts (λ (r : spec.EditionRecord). IsTrue (has_number M.items r.number)) (editions_numbered row.number taken.editions ++ row ∷ []) begins.0 all).0).1.0 in
    let found : Found tables M.items row.number = found_in tables M.items row.number known stands.editions stands.well_formed.editions in
    let one : editions_numbered row.number tables.editions ≡ edition_record found.owner found.stored.number found.holds.reading ∷ [] = ap (λ n. editions_numbered n tables.editions) (sym found.is) ∙ found.holds.row in
    let is = alone (editions_numbered row.number taken.editions) begins.0 row (edition_record found.owner found.stored.number found.holds.reading) (sym whole ∙ one) in
    record { found = found; none = is.0; is = is.1 }
