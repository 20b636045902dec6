-- The tables after a command stand for the catalogue after it.
use Rattle.std.proofs.Common.{◌≡◌, ℕ, ◌+◌, ◌≤◌, ◌<◌, Bool, true, false, ◌&&◌, ◌||◌, ◌⊎◌, inl, inr, List, [], ◌∷◌, ◌++◌, refl, ap, sym, subst, ◌∙◌, arith, Some, None}
use Rattle.std.specs.Prelude.{ℤ, pos, map, filter, cond, not, ◌==◌}
use Rattle.std.specs.List.{AllByRecursion, list_any}
use Rattle.std.proofs.lemmas.Bool.{false≢true, not_from_false}
use Rattle.std.proofs.lemmas.Grind.{flat_map-append}
use Rattle.dict_text.proofs.AllLemmas.{all_weaker, all_append, all_map}
use Rattle.dict_index.specs.Edition.{Edition}
use Rattle.dict_catalogue.specs.Items.{Stored, Item, regular, virtual, name_of, is_virtual, editions_of, is_named, is_known, names_virtual, numbers_of, edition_numbers}
use Rattle.dict_catalogue.specs.Commands.{install}
use Rattle.dict_catalogue.specs.Effects.{installed, swapped, put_anew, changed_in_place, items_after}
use Rattle.dict_catalogue.proofs.ListLemmas.{any_append_right, any_false_parts, by_test}
use Rattle.dict_catalogue.proofs.ItemLemmas.{same_text}
use Rattle.store_rows.specs.Tables.{Tables, same_number}
use Rattle.store_rows.specs.Written.{numbered}
use Rattle.store_rows.specs.Stands.{HoldsEdition}
use Rattle.store_rows.specs.After.{is_gone}
use Rattle.store_rows.proofs.TakenLemmas.{same_number_is, same_itself, nat_same, nat_itself}
use Rattle.store_rows.proofs.SelectionLemmas.{filter_filter}

-- ---- an edition is one of those before, or the one that is installed

-- held before under its number, which is at most so great
pub record IsOld (old : Tables) (installs : ℕ) (owner : List ℕ) (stored : Stored Edition) : Type 0 where
  pub holds : HoldsEdition old owner stored
  pub few : stored.number ≤ installs

abbrev pub IsNew : List ℕ → Stored Edition → List ℕ → Stored Edition → Type 0
IsNew name new owner stored = (owner ≡ name) × (stored ≡ new)

abbrev pub AreOld : Tables → ℕ → Item Edition → Type 0
AreOld old installs item = AllByRecursion (IsOld old installs (name_of item)) (editions_of item)

abbrev pub AreOldOr : Tables → ℕ → List ℕ → Stored Edition → Item Edition → Type 0
AreOldOr old installs name new item = AllByRecursion (λ stored. IsOld old installs (name_of item) stored ⊎ IsNew name new (name_of item) stored) (editions_of item)

old_or : (old : Tables) (installs : ℕ) (name : List ℕ) (new : Stored Edition) (item : Item Edition) → AreOld old installs item → AreOldOr old installs name new item
old_or old installs name new item h = all_weaker (IsOld old installs (name_of item)) (λ stored. IsOld old installs (name_of item) stored ⊎ IsNew name new (name_of item) stored) (λ stored p. inl p) (editions_of item) h

same_name_is : (name : List ℕ) (item : Item Edition) → is_named name item ≡ true → name_of item ≡ name
same_name_is name item e = same_text (name_of item) name e

installed_or : (old : Tables) (installs : ℕ) (name : List ℕ) (new : Stored Edition) (item : Item Edition) → is_named name item ≡ true → AreOld old installs item → AreOldOr old installs name new (installed new item)
installed_or old installs name new (regular n current None) e h = (inr (same_name_is name (regular n current None) e, refl), (inl h.0, tt))
installed_or old installs name new (regular n current (Some former)) e h = (inr (same_name_is name (regular n current (Some former)) e, refl), (inl h.0, tt))
installed_or old installs name new (virtual n title members) e h = tt

pub swapped_old : (old : Tables) (installs : ℕ) (item : Item Edition) → AreOld old installs item → AreOld old installs (swapped item)
swapped_old old installs (regular n current None) h = h
swapped_old old installs (regular n current (Some former)) h = (h.1.0, (h.0, tt))
swapped_old old installs (virtual n title members) h = tt

pub put_old : (old : Tables) (installs : ℕ) (name title : List ℕ) (members : List (List ℕ)) (item : Item Edition) → AreOld old installs item → AreOld old installs (put_anew name title members item)
put_old old installs name title members (regular n current former) h = h
put_old old installs name title members (virtual n t ms) h = tt

pub install_each : (old : Tables) (installs : ℕ) (name : List ℕ) (content : Edition) (number : ℕ) (items : List (Item Edition)) → AllByRecursion (AreOld old installs) items →
    AllByRecursion (AreOldOr old installs name (record { number = number; content = content })) (items_after number (install name content) items)
install_each old installs name content number items h =
    let new : Stored Edition = record { number = number; content = content } in
    let P = AreOld old installs in
    let Q = AreOldOr old installs name new in
    by_test (AllByRecursion Q) (is_known items name) (changed_in_place number (install name content) items) (items ++ regular name new None ∷ [])
    (λ e. all_map P Q (λ item. cond (is_named name item) (installed new item) item)
    (λ item p. by_test Q (is_named name item) (installed new item) item (λ named. installed_or old installs name new item named p) (λ named. old_or old installs name new item p)) items h)
    (λ e. all_append Q items (regular name new None ∷ []) (all_weaker P Q (λ item p. old_or old installs name new item p) items h) ((inr (refl, refl), tt), tt))

-- ---- the number of an installed edition is there

or_first : (a b : Bool) → a ≡ true → (a || b) ≡ true
or_first true b e = refl
or_first false b e = absurd (false≢true e)

new_in_item : (number : ℕ) (new : Stored Edition) (item : Item Edition) (rest : List ℕ) → new.number ≡ number → is_virtual item ≡ false → list_any (λ one. one == number) (numbers_of (installed new item) ++ rest) ≡ true
new_in_item number new (regular n current former) rest e r = or_first (new.number == number) (list_any (λ one. one == number) (current.number ∷ rest)) (nat_itself new.number number e)
new_in_item number new (virtual n title members) rest e r = absurd (false≢true (sym r))

and_second : (a b : Bool) → (a && b) ≡ false → a ≡ true → b ≡ false
and_second true b e h = e
and_second false b e h = absurd (false≢true h)

or_rest : (a b : Bool) → (a || b) ≡ true → a ≡ false → b ≡ true
or_rest true b e h = absurd (false≢true (sym h))
or_rest false b e h = e

new_in_items : (number : ℕ) (name : List ℕ) (new : Stored Edition) (items : List (Item Edition)) → new.number ≡ number → is_known items name ≡ true → names_virtual items name ≡ false →
    list_any (λ one. one == number) (edition_numbers (map (λ item. cond (is_named name item) (installed new item) item) items)) ≡ true
new_in_items number name new [] e known plain = absurd (false≢true known)
new_in_items number name new (item ∷ items) e known plain =
    let parts = any_false_parts (is_named name item && is_virtual item) (names_virtual items name) plain in
    let rest = edition_numbers (map (λ other. cond (is_named name other) (installed new other) other) items) in
    by_test (λ (one : Item Edition). list_any (λ one. one == number) (numbers_of one ++ rest) ≡ true) (is_named name item) (installed new item) item
    (λ named. new_in_item number new item rest e (and_second (is_named name item) (is_virtual item) parts.0 named))
    (λ apart. any_append_right (λ one. one == number) (numbers_of item) rest (new_in_items number name new items e (or_rest (is_named name item) (is_known items name) known apart) parts.1))

pub new_there : (number : ℕ) (name : List ℕ) (content : Edition) (items : List (Item Edition)) → names_virtual items name ≡ false → list_any (λ one. one == number) (edition_numbers (items_after number (install name content) items)) ≡ true
new_there number name content items plain =
    let new : Stored Edition = record { number = number; content = content } in
    by_test (λ (after : List (Item Edition)). list_any (λ one. one == number) (edition_numbers after) ≡ true) (is_known items name) (changed_in_place number (install name content) items) (items ++ regular name new None ∷ [])
    (λ known. new_in_items number name new items refl known plain)
    (λ unknown. ap (list_any (λ one. one == number)) (flat_map-append numbers_of items (regular name new None ∷ []))
    ∙ any_append_right (λ one. one == number) (edition_numbers items) (number ∷ []) (or_first (number == number) false (nat_itself number number refl)))

-- ---- what goes and what stays

-- the number that stays
gone_step : (after : List ℕ) (n one : ℕ) (gone : List ℕ) (there : Bool) → list_any (λ o. o == one) after ≡ there → list_any (λ o. o == n) after ≡ true → is_gone gone (pos n) ≡ false
    → is_gone (cond (not there) (one ∷ gone) gone) (pos n) ≡ false
gone_step after n one gone true e in_after rest = rest
gone_step after n one gone false e in_after rest = step (one == n) refl
  where
    step : (b : Bool) → (one == n) ≡ b → (one == n || is_gone gone (pos n)) ≡ false
    step true same = absurd (false≢true (sym e ∙ ap (λ k. list_any (λ o. o == k) after) (nat_same one n same) ∙ in_after))
    step false apart = ap (λ b. b || is_gone gone (pos n)) apart ∙ rest

pub stays : (before after : List ℕ) (n : ℕ) → list_any (λ one. one == n) after ≡ true → is_gone (filter (λ number. not (list_any (λ one. one == number) after)) before) (pos n) ≡ false
stays [] after n h = refl
stays (one ∷ before) after n h = gone_step after n one (filter (λ number. not (list_any (λ o. o == number) after)) before) (list_any (λ o. o == one) after) refl h (stays before after n h)

-- a number of before that doesn't go is one of after
any_same_number : (z : ℤ) (n : ℕ) (after : List ℕ) → same_number (pos n) z ≡ true → list_any (λ one. one == n) after ≡ true → list_any (λ one. same_number (pos one) z) after ≡ true
any_same_number z n after e h = subst (λ (y : ℤ). list_any (λ one. same_number (pos one) y) after ≡ true) (same_number_is (pos n) z e) h

kept_step : (z : ℤ) (n : ℕ) (after gone before : List ℕ) (there : Bool) → list_any (λ one. one == n) after ≡ there
    → (list_any (λ one. same_number (pos one) z) before ≡ true → is_gone gone z ≡ false → list_any (λ one. same_number (pos one) z) after ≡ true) →
    (same_number (pos n) z || list_any (λ one. same_number (pos one) z) before) ≡ true → is_gone (cond (not there) (n ∷ gone) gone) z ≡ false → list_any (λ one. same_number (pos one) z) after ≡ true
kept_step z n after gone before true e rest known stay = step (same_number (pos n) z) refl
  where
    step : (b : Bool) → same_number (pos n) z ≡ b → list_any (λ one. same_number (pos one) z) after ≡ true
    step true same = any_same_number z n after same e
    step false apart = rest (or_rest (same_number (pos n) z) (list_any (λ one. same_number (pos one) z) before) known apart) stay
kept_step z n after gone before false e rest known stay =
    let parts = any_false_parts (same_number (pos n) z) (is_gone gone z) stay in
    rest (or_rest (same_number (pos n) z) (list_any (λ one. same_number (pos one) z) before) known parts.0) parts.1

pub stays_known : (before after : List ℕ) (z : ℤ) → list_any (λ one. same_number (pos one) z) before ≡ true → is_gone (filter (λ number. not (list_any (λ one. one == number) after)) before) z ≡ false
    → list_any (λ one. same_number (pos one) z) after ≡ true
stays_known [] after z known stay = absurd (false≢true known)
stays_known (n ∷ before) after z known stay =
    kept_step z n after (filter (λ number. not (list_any (λ o. o == number) after)) before) before (list_any (λ o. o == n) after) refl (λ k s. stays_known before after z k s) known stay

-- ---- the records of one number

-- of a number that doesn't go, those that stay are all
pub staying : {X : Type 0} (key : X → ℤ) (gone : List ℕ) (z : ℤ) (xs : List X) → is_gone gone z ≡ false → filter (λ x. same_number (key x) z) (filter (λ x. not (is_gone gone (key x))) xs) ≡ filter (λ x. same_number (key x) z) xs
staying key gone z xs stay = filter_filter (λ x. same_number (key x) z) (λ x. not (is_gone gone (key x))) (λ x. same_number (key x) z) (λ x. step (key x) (same_number (key x) z) refl) xs
  where
    step : (k : ℤ) (b : Bool) → same_number k z ≡ b → (not (is_gone gone k) && same_number k z) ≡ same_number k z
    step k true same = ap (λ g. g && same_number k z) (not_from_false (is_gone gone k) (ap (is_gone gone) (same_number_is k z same) ∙ stay))
    step k false apart = ap (λ b. not (is_gone gone k) && b) apart ∙ none (not (is_gone gone k)) ∙ sym apart
      where
        none : (g : Bool) → (g && false) ≡ false
        none true = refl
        none false = refl

pub filter_none : {X : Type 0} (p : X → Bool) (xs : List X) → AllByRecursion (λ x. p x ≡ false) xs → filter p xs ≡ []
filter_none p [] h = refl
filter_none p (x ∷ xs) h = ap (λ b. cond b (x ∷ filter p xs) (filter p xs)) h.0 ∙ filter_none p xs h.1

pub apart_numbers : (m n : ℕ) → m < n → same_number (pos n) (pos m) ≡ false
apart_numbers m n lt = step (n == m) refl
  where
    step : (b : Bool) → (n == m) ≡ b → (n == m) ≡ false
    step true same = absurd (let e : n ≡ m = nat_same n m same in omega arith)
    step false apart = apart

pub numbered_apart : {X Y : Type 0} (f : ℕ → X → Y) (key : Y → ℤ) (n m : ℕ) → ((k : ℕ) (x : X) → key (f k x) ≡ pos n) → same_number (pos n) (pos m) ≡ false → (k : ℕ) (xs : List X)
    → AllByRecursion (λ y. same_number (key y) (pos m) ≡ false) (numbered f k xs)
numbered_apart f key n m keyed apart k [] = tt
numbered_apart f key n m keyed apart k (x ∷ xs) = (ap (λ z. same_number z (pos m)) (keyed k x) ∙ apart, numbered_apart f key n m keyed apart (k + 1) xs)

pub numbered_mine : {X Y : Type 0} (f : ℕ → X → Y) (key : Y → ℤ) (z : ℤ) → ((k : ℕ) (x : X) → key (f k x) ≡ z) → (k : ℕ) (xs : List X) → filter (λ y. same_number (key y) z) (numbered f k xs) ≡ numbered f k xs
numbered_mine f key z keyed k [] = refl
numbered_mine f key z keyed k (x ∷ xs) =
    ap (λ b. cond b (f k x ∷ filter (λ y. same_number (key y) z) (numbered f (k + 1) xs)) (filter (λ y. same_number (key y) z) (numbered f (k + 1) xs))) (ap (λ y. same_number y z) (keyed k x) ∙ same_itself z)
    ∙ ap (λ ys. f k x ∷ ys) (numbered_mine f key z keyed (k + 1) xs)
