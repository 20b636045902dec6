-- What the commands keep true of the items.
use Rattle.std.proofs.Common.{◌≡◌, ℕ, Bool, true, false, ◌||◌, ◌&&◌, List, [], ◌∷◌, ◌++◌, take, drop, refl, ap, sym, ◌∙◌}
use Rattle.std.specs.Prelude.{filter, not, cond, bytes_eq, is_some, Option, Some, None}
use Rattle.std.specs.List.{AllByRecursion}
use Rattle.std.proofs.lemmas.Bool.{false≢true}
use Rattle.std.proofs.lemmas.Slice.Eq.{bytes_eq-Decides}
use Rattle.dict_catalogue.specs.Items.{Stored, Item, regular, virtual, name_of, is_regular, is_virtual, is_named, is_known, names_regular, names_virtual, current_of, current_number}
use Rattle.dict_catalogue.specs.Commands.{Command, install, rollback, retire, put_virtual, place, target}
use Rattle.dict_catalogue.specs.Effects.{installed, swapped, put_anew, changed, changed_in_place, others_than, moved, items_after}
use Rattle.dict_text.proofs.AllLemmas.{all_weaker, all_append, all_filter, all_take, all_drop, all_map}
use Rattle.dict_catalogue.proofs.ListLemmas.{any_same, by_test}

-- equal texts

pub same_text : (xs ys : List ℕ) → bytes_eq xs ys ≡ true → xs ≡ ys
same_text xs ys e = (bytes_eq-Decides xs ys).0 e

pub text_itself : (xs : List ℕ) → bytes_eq xs xs ≡ true
text_itself xs = (bytes_eq-Decides xs xs).1 refl

-- one item that is changed in its place

-- the item, changed where it has the name
abbrev pub turned : {A : Type 0} → ℕ → Command A → Item A → Item A
turned number command item = cond (is_named (target command) item) (changed number command item) item

name_installed : {A : Type 0} (edition : Stored A) (item : Item A) → name_of (installed edition item) ≡ name_of item
name_installed edition (regular n current former) = refl
name_installed edition (virtual n title members) = refl

name_swapped : {A : Type 0} (item : Item A) → name_of (swapped item) ≡ name_of item
name_swapped (regular n current None) = refl
name_swapped (regular n current (Some former)) = refl
name_swapped (virtual n title members) = refl

name_put : {A : Type 0} (name title : List ℕ) (members : List (List ℕ)) (item : Item A) → name_of item ≡ name → name_of (put_anew name title members item) ≡ name_of item
name_put name title members (regular n current former) e = refl
name_put name title members (virtual n t ms) e = sym e

name_changed : {A : Type 0} (number : ℕ) (command : Command A) (item : Item A) → name_of item ≡ target command → name_of (changed number command item) ≡ name_of item
name_changed number (install name content) item e = name_installed (record { number = number; content = content }) item
name_changed number (rollback name) item e = name_swapped item
name_changed number (retire name) item e = refl
name_changed number (put_virtual name title members) item e = name_put name title members item e
name_changed number (place name at) item e = refl

pub name_turned : {A : Type 0} (number : ℕ) (command : Command A) (item : Item A) → name_of (turned number command item) ≡ name_of item
name_turned number command item =
    by_test (λ (left : Item _). name_of left ≡ name_of item) (is_named (target command) item) (changed number command item) item
    (λ e. name_changed number command item (same_text (name_of item) (target command) e)) (λ e. refl)

regular_installed : {A : Type 0} (edition : Stored A) (item : Item A) → is_regular (installed edition item) ≡ is_regular item
regular_installed edition (regular n current former) = refl
regular_installed edition (virtual n title members) = refl

regular_swapped : {A : Type 0} (item : Item A) → is_regular (swapped item) ≡ is_regular item
regular_swapped (regular n current None) = refl
regular_swapped (regular n current (Some former)) = refl
regular_swapped (virtual n title members) = refl

regular_put : {A : Type 0} (name title : List ℕ) (members : List (List ℕ)) (item : Item A) → is_regular (put_anew name title members item) ≡ is_regular item
regular_put name title members (regular n current former) = refl
regular_put name title members (virtual n t ms) = refl

regular_changed : {A : Type 0} (number : ℕ) (command : Command A) (item : Item A) → is_regular (changed number command item) ≡ is_regular item
regular_changed number (install name content) item = regular_installed (record { number = number; content = content }) item
regular_changed number (rollback name) item = regular_swapped item
regular_changed number (retire name) item = refl
regular_changed number (put_virtual name title members) item = regular_put name title members item
regular_changed number (place name at) item = refl

pub regular_turned : {A : Type 0} (number : ℕ) (command : Command A) (item : Item A) → is_regular (turned number command item) ≡ is_regular item
regular_turned number command item =
    by_test (λ (left : Item _). is_regular left ≡ is_regular item) (is_named (target command) item) (changed number command item) item
    (λ e. regular_changed number command item) (λ e. refl)

virtual_is : {A : Type 0} (item : Item A) → is_virtual item ≡ not (is_regular item)
virtual_is (regular n current former) = refl
virtual_is (virtual n title members) = refl

pub virtual_turned : {A : Type 0} (number : ℕ) (command : Command A) (item : Item A) → is_virtual (turned number command item) ≡ is_virtual item
virtual_turned number command item = virtual_is (turned number command item) ∙ ap not (regular_turned number command item) ∙ sym (virtual_is item)

-- what is asked of all items, where each is changed in its place

pub known_turned : {A : Type 0} (number : ℕ) (command : Command A) (items : List (Item A)) (name : List ℕ) → is_known (changed_in_place number command items) name ≡ is_known items name
known_turned number command items name =
    any_same (is_named name) (is_named name) (turned number command) (λ item i. bytes_eq (name_turned number command item i) name) items

pub regular_named_turned : {A : Type 0} (number : ℕ) (command : Command A) (items : List (Item A)) (name : List ℕ) → names_regular (changed_in_place number command items) name ≡ names_regular items name
regular_named_turned number command items name =
    any_same (λ item. is_named name item && is_regular item) (λ item. is_named name item && is_regular item) (turned number command)
    (λ item i. bytes_eq (name_turned number command item i) name && regular_turned number command item i) items

pub virtual_named_turned : {A : Type 0} (number : ℕ) (command : Command A) (items : List (Item A)) (name : List ℕ) → names_virtual (changed_in_place number command items) name ≡ names_virtual items name
virtual_named_turned number command items name =
    any_same (λ item. is_named name item && is_virtual item) (λ item. is_named name item && is_virtual item) (turned number command)
    (λ item i. bytes_eq (name_turned number command item i) name && virtual_turned number command item i) items

-- the current edition of a regular item that is there

current_head : {A : Type 0} (item : Item A) (name : List ℕ) (b : Bool) (rest : Option ℕ) → (b && is_virtual item) ≡ false →
    (b ≡ false → is_some rest ≡ true) → is_some (cond b (current_of item) rest) ≡ true
current_head (regular n current former) name true rest v h = refl
current_head (virtual n title members) name true rest v h = absurd (false≢true (sym v))
current_head item name false rest v h = h refl

or_parts : (a b : Bool) → (a || b) ≡ false → (a ≡ false) × (b ≡ false)
or_parts true b e = absurd (false≢true (sym e))
or_parts false b e = (refl, e)

or_second : (a b : Bool) → (a || b) ≡ true → a ≡ false → b ≡ true
or_second true b e h = absurd (false≢true (sym h))
or_second false b e h = e

pub current_there : {A : Type 0} (items : List (Item A)) (name : List ℕ) → is_known items name ≡ true → names_virtual items name ≡ false → is_some (current_number items name) ≡ true
current_there [] name k v = absurd (false≢true k)
current_there (item ∷ items) name k v =
    let parts = or_parts (is_named name item && is_virtual item) (names_virtual items name) v in
    current_head item name (is_named name item) (current_number items name) parts.0
    (λ e. current_there items name (or_second (is_named name item) (is_known items name) k e) parts.1)

-- facts of each item

-- what a command adds, where it adds an item
abbrev pub Fresh : {A : Type 0} → (Item A → Type 0) → ℕ → Command A → Type 0
Fresh P number (install name content) = P (regular name (record { number = number; content = content }) None)
Fresh P number (rollback name) = Unit {0}
Fresh P number (retire name) = Unit {0}
Fresh P number (put_virtual name title members) = P (virtual name title members)
Fresh P number (place name at) = Unit {0}

all_turned : {A : Type 0} (P Q : Item A → Type 0) (number : ℕ) (command : Command A) (items : List (Item A)) →
    ((item : Item A) → P item → Q item) → ((item : Item A) → P item → Q (changed number command item)) →
    AllByRecursion P items → AllByRecursion Q (changed_in_place number command items)
all_turned P Q number command items w v h =
    all_map P Q (turned number command)
    (λ item p. by_test Q (is_named (target command) item) (changed number command item) item (λ e. v item p) (λ e. w item p)) items h

all_added : {A : Type 0} (P Q : Item A → Type 0) (items : List (Item A)) (last : Item A) → ((item : Item A) → P item → Q item) → Q last → AllByRecursion P items → AllByRecursion Q (items ++ last ∷ [])
all_added P Q items last w q h = all_append Q items (last ∷ []) (all_weaker P Q w items h) (q, tt)

all_moved : {A : Type 0} (P : Item A → Type 0) (name : List ℕ) (at : ℕ) (items : List (Item A)) → AllByRecursion P items → AllByRecursion P (moved name at items)
all_moved P name at items h =
    let others : AllByRecursion P (others_than name items) = all_filter P (λ item. not (is_named name item)) items h in
    all_append P (take at (others_than name items) ++ filter (is_named name) items) (drop at (others_than name items))
    (all_append P (take at (others_than name items)) (filter (is_named name) items) (all_take P at (others_than name items) others) (all_filter P (is_named name) items h))
    (all_drop P at (others_than name items) others)

-- what holds of each item before and of what the command makes holds of each after
pub all_after : {A : Type 0} (P Q : Item A → Type 0) (number : ℕ) (command : Command A) (items : List (Item A)) →
    ((item : Item A) → P item → Q item) → ((item : Item A) → P item → Q (changed number command item)) → Fresh Q number command →
    AllByRecursion P items → AllByRecursion Q (items_after number command items)
all_after P Q number (install name content) items w v q h =
    by_test (AllByRecursion Q) (is_known items name) (changed_in_place number (install name content) items) (items ++ regular name (record { number = number; content = content }) None ∷ [])
    (λ e. all_turned P Q number (install name content) items w v h)
    (λ e. all_added P Q items (regular name (record { number = number; content = content }) None) w q h)
all_after P Q number (rollback name) items w v q h = all_turned P Q number (rollback name) items w v h
all_after P Q number (retire name) items w v q h = all_filter Q (λ item. not (is_named name item)) items (all_weaker P Q w items h)
all_after P Q number (put_virtual name title members) items w v q h =
    by_test (AllByRecursion Q) (is_known items name) (changed_in_place number (put_virtual name title members) items) (items ++ virtual name title members ∷ [])
    (λ e. all_turned P Q number (put_virtual name title members) items w v h)
    (λ e. all_added P Q items (virtual name title members) w q h)
all_after P Q number (place name at) items w v q h = all_moved Q name at items (all_weaker P Q w items h)
