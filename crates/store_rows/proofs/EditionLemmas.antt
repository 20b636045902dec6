-- An edition's record is taken.
use Rattle.std.proofs.Common.{◌≡◌, ℕ, ◌+◌, ◌≤◌, Bool, true, false, ◌&&◌, ◌||◌, inr, List, [], ◌∷◌, ◌++◌, length, refl, ap, sym, subst, ◌∙◌, arith, Option, Some, None, ◌^◌, ◌<◌}
use Rattle.std.specs.Prelude.{pos, cond, bytes_eq, ◌==◌, option_map}
use Rattle.std.specs.List.{AllByRecursion}
use Rattle.std.proofs.lemmas.Bool.{false≢true, and_parts}
use Rattle.std.proofs.lemmas.Grind.{flat_map-append}
use Rattle.store_tables.specs.Records as spec
use Rattle.dict_index.specs.Edition.{ReadEdition, edition_of}
use Rattle.dict_catalogue.specs.Items.{Stored, Item, regular, virtual, name_of, members_of, numbers_of, edition_numbers}
use Rattle.dict_catalogue.specs.WellFormed.{how_many, IsEachNumberOnce}
use Rattle.dict_text.proofs.AllLemmas.{all_append, all_append_parts, all_flat_map_parts, all_weaker}
use Rattle.dict_catalogue.proofs.ListLemmas.{sum_append, none_passes, by_test}
use Rattle.dict_catalogue.proofs.ItemLemmas.{same_text}
use Rattle.dict_index.specs.WellFormed.{IsWellFormedEdition}
use Rattle.store_rows.specs.Tables.{Tables, same_number}
use Rattle.store_rows.specs.Written.{numbered, item_record, edition_record, entry_record}
use Rattle.store_rows.specs.Titles.{is_awaited, awaits, with_title, item_titled}
use Rattle.store_rows.specs.Taken.{HasNone, IsTaken, HoldsTitle, HoldsTitles, with_edition}
use Rattle.store_rows.proofs.LawfulLemmas.{none_of_sum}
use Rattle.store_rows.proofs.TakenLemmas.{nat_same, nat_itself, filter_passes, filter_passes_not, SameAt, titles_same, title_same, none_held, length_none}

-- ---- the item that has the number

-- how often a number stands among numbers
abbrev pub count : ℕ → List ℕ → ℕ
count number numbers = how_many (λ one. one == number) numbers

numbers_cut : {A : Type 0} (front : List (Item A)) (item : Item A) (behind : List (Item A)) (number : ℕ) →
    count number (edition_numbers (front ++ item ∷ behind)) ≡ count number (edition_numbers front) + (count number (numbers_of item) + count number (edition_numbers behind))
numbers_cut front item behind number =
    ap (count number) (flat_map-append numbers_of front (item ∷ behind))
    ∙ sum_append (λ one. cond (one == number) 1 0) (edition_numbers front) (numbers_of item ++ edition_numbers behind)
    ∙ ap (λ n. count number (edition_numbers front) + n) (sum_append (λ one. cond (one == number) 1 0) (numbers_of item) (edition_numbers behind))

-- others have another number
others : {A : Type 0} (items : List (Item A)) (number : ℕ) → count number (edition_numbers items) ≡ 0 → AllByRecursion (λ item. AllByRecursion (λ one. (one == number) ≡ false) (numbers_of item)) items
others items number h = all_flat_map_parts (λ one. (one == number) ≡ false) numbers_of items (none_passes (λ one. one == number) (edition_numbers items) (none_of_sum (λ one. one == number) (edition_numbers items) h))

-- one more record leaves what has another number
same_beside : (taken : Tables) (row : spec.EditionRecord) (number one : ℕ) → row.number ≡ pos number → (one == number) ≡ false → SameAt one taken (with_edition taken row)
same_beside taken row number one e apart = record {
  editions = filter_passes_not (λ (r : spec.EditionRecord). same_number r.number (pos one)) taken.editions row (ap (λ n. same_number n (pos one)) e ∙ turned number one apart);
  entries = refl;
}
  where
    turned : (a b : ℕ) → (b == a) ≡ false → (a == b) ≡ false
    turned a b h = grind (arith, Rattle.std.proofs.lemmas.Bool.Decides.nat_tests)

titles_beside : (taken : Tables) (row : spec.EditionRecord) (number : ℕ) (items : List (Item (List ℕ))) → row.number ≡ pos number → count number (edition_numbers items) ≡ 0 →
    AllByRecursion (HoldsTitles taken) items → AllByRecursion (HoldsTitles (with_edition taken row)) items
titles_beside taken row number items e none h =
    both items (others items number none) h
  where
    both : (items : List (Item (List ℕ))) → AllByRecursion (λ item. AllByRecursion (λ one. (one == number) ≡ false) (numbers_of item)) items → AllByRecursion (HoldsTitles taken) items
        → AllByRecursion (HoldsTitles (with_edition taken row)) items
    both [] a h = tt
    both (item ∷ items) a h = (
      titles_same taken (with_edition taken row) item (all_weaker (λ one. (one == number) ≡ false) (λ one. SameAt one taken (with_edition taken row)) (λ one apart. same_beside taken row number one e apart)
          (numbers_of item) a.0) h.0,
      both items a.1 h.1,
    )

-- ---- the edition itself

-- what is read of an edition before its entries
pub record IsNew (owner : List ℕ) (number : ℕ) (title : List ℕ) (row : spec.EditionRecord) : Type 0 where
  pub reading : ReadEdition
  pub empty : reading.lines ≡ []
  pub is : row ≡ edition_record owner number reading
  pub named : reading.title ≡ title
  pub short : length reading.text < 64 ^ 6
  pub lawful : IsWellFormedEdition (edition_of reading)

taken_now : (taken : Tables) (owner : List ℕ) (number : ℕ) (title : List ℕ) (row : spec.EditionRecord) → HasNone taken number → IsNew owner number title row → IsTaken (with_edition taken row) owner number title
taken_now taken owner number title row none new = record {
  edition = edition_of new.reading;
  holds = record {
    reading = new.reading;
    says = refl;
    short = new.short;
    within = subst (AllByRecursion (Rattle.store_rows.specs.Stands.IsWithin new.reading.text)) (sym new.empty) tt;
    row = filter_passes (λ (r : spec.EditionRecord). same_number r.number (pos number)) taken.editions row (ap (λ (r : spec.EditionRecord). same_number r.number (pos number)) new.is ∙ nat_itself number number refl)
        ∙ (λ i. none.0 i ++ new.is i ∷ []);
    entries = none.1 ∙ ap (numbered (entry_record number) 0) (sym new.empty);
  };
  title = new.named;
  lawful = new.lawful;
}

-- the item that awaited it has it
module _ (taken : Tables) (owner : List ℕ) (number : ℕ) (title : List ℕ) (row : spec.EditionRecord) where
  one_titled : (name : List ℕ) (stored : Stored (List ℕ)) → IsNew name number title row → HoldsTitle taken name stored → is_awaited number stored ≡ true → HoldsTitle (with_edition taken row) name (with_title title stored)
  one_titled name stored new h awaited =
      let parts = and_parts (stored.number == number) (length stored.content == 0) awaited in
      let none : HasNone taken stored.number = none_held taken name stored h (length_none stored.content parts.1) in
      let here : number ≡ stored.number = sym (nat_same stored.number number parts.0) in
      inr (subst (λ (n : ℕ). IsTaken (with_edition taken row) name n title) here (taken_now taken name number title row (subst (HasNone taken) (sym here) none) new))

  other_kept : (name : List ℕ) (stored : Stored (List ℕ)) → row.number ≡ pos number → (stored.number == number) ≡ false → HoldsTitle taken name stored → HoldsTitle (with_edition taken row) name stored
  other_kept name stored e apart h = title_same taken (with_edition taken row) name stored (same_beside taken row number stored.number e apart) h

  number_is : (name : List ℕ) → IsNew name number title row → row.number ≡ pos number
  number_is name new = ap (λ (r : spec.EditionRecord). r.number) new.is

  renamed : (name : List ℕ) → name ≡ owner → IsNew owner number title row → IsNew name number title row
  renamed name e new = subst (λ (n : List ℕ). IsNew n number title row) (sym e) new

  apart_from : (a b : ℕ) → (a == number) ≡ true → cond (a == number) 1 0 + (cond (b == number) 1 0 + 0) ≤ 1 → (b == number) ≡ false
  apart_from a b e few = step (b == number) refl
    where
      step : (c : Bool) → (b == number) ≡ c → c ≡ false
      step true f = absurd (let two : cond (a == number) 1 0 + (cond (b == number) 1 0 + 0) ≡ 2 = (λ i. cond (e i) 1 0 + (cond (f i) 1 0 + 0)) in omega arith)
      step false f = refl

  not_awaited : (stored : Stored (List ℕ)) → (stored.number == number) ≡ false → is_awaited number stored ≡ false
  not_awaited stored e = ap (λ b. b && length stored.content == 0) e

  former_awaited : (a b : Bool) → a ≡ false → (a || b) ≡ true → b ≡ true
  former_awaited true b e h = absurd (false≢true (sym e))
  former_awaited false b e h = h

  awaited_first : (a b : Bool) → b ≡ false → (a || b) ≡ true → a ≡ true
  awaited_first true b e h = refl
  awaited_first false b e h = absurd (false≢true (sym e ∙ h))

  item_taken : (item : Item (List ℕ)) → IsNew owner number title row → awaits owner number item ≡ true → count number (numbers_of item) ≤ 1 → HoldsTitles taken item → HoldsTitles (with_edition taken row) (item_titled number title item)
  item_taken (regular name current None) new waits few h =
      let parts = and_parts (bytes_eq name owner) (is_awaited number current) waits in
      let same : name ≡ owner = same_text name owner parts.0 in
      let number' = and_parts (current.number == number) (length current.content == 0) parts.1 in
      by_test (HoldsTitles (with_edition taken row)) (current.number == number) (regular name (with_title title current) None) (regular name current None)
      (λ e. (one_titled name current (renamed name same new) h.0 parts.1, tt))
      (λ e. absurd (false≢true (sym e ∙ number'.0)))
  item_taken (regular name current (Some former)) new waits few h =
      let parts = and_parts (bytes_eq name owner) (is_awaited number current || is_awaited number former) waits in
      let same : name ≡ owner = same_text name owner parts.0 in
      by_test (HoldsTitles (with_edition taken row)) (current.number == number) (regular name (with_title title current) (Some former)) (regular name current (Some (with_title title former)))
      (λ e. (
        one_titled name current (renamed name same new) h.0 (awaited_first (is_awaited number current) (is_awaited number former) (not_awaited former (apart_from current.number former.number e few)) parts.1),
        (other_kept name former (number_is owner new) (apart_from current.number former.number e few) h.1.0, tt),
      ))
      (λ e. (other_kept name current (number_is owner new) e h.0, (one_titled name former (renamed name same new) h.1.0 (former_awaited (is_awaited number current) (is_awaited number former) (not_awaited current e) parts.1), tt)))
  item_taken (virtual name old members) new waits few h = tt

-- an item has the number that it awaits
one_counted : (number one : ℕ) (numbers : List ℕ) → (one == number) ≡ true → 1 ≤ count number (one ∷ numbers)
one_counted number one numbers e = let h : cond (one == number) 1 0 + count number numbers ≡ 1 + count number numbers = ap (λ b. cond b 1 0 + count number numbers) e in omega arith

awaited_counted : (owner : List ℕ) (number : ℕ) (item : Item (List ℕ)) → awaits owner number item ≡ true → 1 ≤ count number (numbers_of item)
awaited_counted owner number (regular name current None) waits =
    one_counted number current.number [] (and_parts (current.number == number) (length current.content == 0) (and_parts (bytes_eq name owner) (is_awaited number current) waits).1).0
awaited_counted owner number (regular name current (Some former)) waits = either (current.number == number) refl
  where
    either : (b : Bool) → (current.number == number) ≡ b → 1 ≤ count number (current.number ∷ former.number ∷ [])
    either true e = one_counted number current.number (former.number ∷ []) e
    either false e =
        let later : is_awaited number former ≡ true = former_of (is_awaited number current) (is_awaited number former) (ap (λ b. b && length current.content == 0) e)
        (and_parts (bytes_eq name owner) (is_awaited number current || is_awaited number former) waits).1 in
        omega (arith, one_counted number former.number [] (and_parts (former.number == number) (length former.content == 0) later).0)
      where
        former_of : (a b : Bool) → a ≡ false → (a || b) ≡ true → b ≡ true
        former_of true b e h = absurd (false≢true (sym e))
        former_of false b e h = h
awaited_counted owner number (virtual name title members) waits = absurd (false≢true waits)

-- the items, of which one has the title now
pub titles_taken : (taken : Tables) (owner : List ℕ) (number : ℕ) (title : List ℕ) (row : spec.EditionRecord) (front : List (Item (List ℕ))) (item : Item (List ℕ)) (behind : List (Item (List ℕ))) →
    IsNew owner number title row → awaits owner number item ≡ true → IsEachNumberOnce (edition_numbers (front ++ item ∷ behind)) → AllByRecursion (HoldsTitles taken) (front ++ item ∷ behind) →
    AllByRecursion (HoldsTitles (with_edition taken row)) (front ++ item_titled number title item ∷ behind)
titles_taken taken owner number title row front item behind new waits once h =
    let parts = all_append_parts (HoldsTitles taken) front (item ∷ behind) h in
    let cut = numbers_cut front item behind number in
    let few : count number (edition_numbers front) + (count number (numbers_of item) + count number (edition_numbers behind)) ≤ 1 = subst (λ (n : ℕ). n ≤ 1) cut (once number) in
    let there : 1 ≤ count number (numbers_of item) = awaited_counted owner number item waits in
    let e : row.number ≡ pos number = ap (λ (r : spec.EditionRecord). r.number) new.is in
    all_append (HoldsTitles (with_edition taken row)) front (item_titled number title item ∷ behind)
    (titles_beside taken row number front e (omega arith) parts.0)
    (item_taken taken owner number title row item new waits (omega arith) parts.1.0, titles_beside taken row number behind e (omega arith) parts.1.1)

-- and nothing else of them has changed
former_record : (title : List ℕ) (former : Option (Stored (List ℕ))) → option_map (λ (stored : Stored (List ℕ)). pos stored.number) (option_map (with_title title) former) ≡ option_map (λ (stored : Stored (List ℕ)). pos stored.number) former
former_record title None = refl
former_record title (Some former) = refl

pub titled_record : (place number : ℕ) (title : List ℕ) (item : Item (List ℕ)) → item_record place (item_titled number title item) ≡ item_record place item
titled_record place number title (regular name current former) =
    by_test (λ (one : Item (List ℕ)). item_record place one ≡ item_record place (regular name current former)) (current.number == number) (regular name (with_title title current) former)
    (regular name current (option_map (with_title title) former))
    (λ e. refl)
    (λ e i. record { place = pos place; name = name; kind = pos 0; title = None; current = Some (pos current.number); former = former_record title former i })
titled_record place number title (virtual name old members) = refl

pub titled_name : (number : ℕ) (title : List ℕ) (item : Item (List ℕ)) → name_of (item_titled number title item) ≡ name_of item
titled_name number title (regular name current former) =
    by_test (λ (one : Item (List ℕ)). name_of one ≡ name) (current.number == number) (regular name (with_title title current) former) (regular name current (option_map (with_title title) former)) (λ e. refl) (λ e. refl)
titled_name number title (virtual name old members) = refl

pub titled_members : (number : ℕ) (title : List ℕ) (item : Item (List ℕ)) → members_of (item_titled number title item) ≡ members_of item
titled_members number title (regular name current former) =
    by_test (λ (one : Item (List ℕ)). members_of one ≡ []) (current.number == number) (regular name (with_title title current) former) (regular name current (option_map (with_title title) former)) (λ e. refl) (λ e. refl)
titled_members number title (virtual name old members) = refl
