-- Names, members and edition numbers stand once, and there are at most 64 items, after each command.
use Rattle.std.proofs.Common.{◌≡◌, ℕ, ◌+◌, ◌≤◌, ◌<◌, Bool, true, false, ◌||◌, List, [], ◌∷◌, ◌++◌, length, refl, sym, subst, ◌∙◌, arith, append_assoc, append-nil}
use Rattle.std.specs.Prelude.{map, cond, nat_lt, IsTrue, bytes_eq, Some, None, ◌==◌}
use Rattle.std.specs.List.{AllByRecursion}
use Rattle.std.proofs.lemmas.List.{length-map, length-append, map-append}
use Rattle.std.proofs.lemmas.Bool.{false≢true, and_parts, not-true}
use Rattle.std.proofs.lemmas.Bool.Decides.{nat_tests}
use Rattle.dict_catalogue.specs.Items.{Stored, Item, regular, virtual, name_of, is_named, is_among, is_known, names_regular, numbers_of, edition_numbers}
use Rattle.dict_catalogue.specs.Commands.{Command, install, rollback, retire, put_virtual, place}
use Rattle.dict_catalogue.specs.Tests.{Test, Holdings, tests_of, member_tests, has_room, has_turn}
use Rattle.dict_catalogue.specs.Effects.{installed, swapped, put_anew, changed_in_place, others_than, moved, items_after}
use Rattle.dict_catalogue.specs.Steps.{AllHold}
use Rattle.dict_catalogue.specs.WellFormed.{total, IsEachOnce, IsEachNumberOnce}
use Rattle.dict_catalogue.proofs.ListLemmas.{sum_append, sum_filtered, sum_moved, sum_same, sum_grown, sum_flat_map, length_sum, none_sum, any_same, by_test}
use Rattle.dict_catalogue.proofs.ItemLemmas.{same_text, turned, name_turned}

-- texts that stand once

one_more_text : (texts : List (List ℕ)) (last text : List ℕ) (b : Bool) → bytes_eq last text ≡ b → is_among texts last ≡ false → IsEachOnce texts →
    total (λ one. cond (bytes_eq one text) 1 0) texts + (cond b 1 0 + 0) ≤ 1
one_more_text texts last text true e new once =
    let absent : is_among texts text ≡ false = subst (λ (name : List ℕ). is_among texts name ≡ false) (same_text last text e) new in
    omega (arith, none_sum (λ one. bytes_eq one text) texts absent)
one_more_text texts last text false e new once = omega (arith, once text)

pub once_added : (texts : List (List ℕ)) (last : List ℕ) → is_among texts last ≡ false → IsEachOnce texts → IsEachOnce (texts ++ last ∷ [])
once_added texts last new once = λ text.
    rw (sum_append (λ one. cond (bytes_eq one text) 1 0) texts (last ∷ [])) (one_more_text texts last text (bytes_eq last text) refl new once)

-- the members that were tested stand once
members_once : {A : Type 0} (items : List (Item A)) (earlier members : List (List ℕ)) (later : List Test) → AllHold (member_tests items earlier members ++ later) → IsEachOnce earlier → IsEachOnce (earlier ++ members)
members_once items earlier [] later h once = subst IsEachOnce (sym (append-nil earlier)) once
members_once items earlier (member ∷ members) later h once =
    subst IsEachOnce (append_assoc earlier (member ∷ []) members)
    (members_once items (earlier ++ member ∷ []) members later h.1.1
    (once_added earlier member (not-true (is_among earlier member) h.1.0) once))

pub tested_once : {A : Type 0} (items : List (Item A)) (members : List (List ℕ)) (later : List Test) → AllHold (member_tests items [] members ++ later) → IsEachOnce members
tested_once items members later h = members_once items [] members later h (λ text. omega arith)

pub tested_regular : {A : Type 0} (items : List (Item A)) (earlier members : List (List ℕ)) (later : List Test) → AllHold (member_tests items earlier members ++ later) → AllByRecursion (λ member. IsTrue (names_regular items member)) members
tested_regular items earlier [] later h = tt
tested_regular items earlier (member ∷ members) later h = (h.0, tested_regular items (earlier ++ member ∷ []) members later h.1.1)

pub tested_later : {A : Type 0} (items : List (Item A)) (earlier members : List (List ℕ)) (later : List Test) → AllHold (member_tests items earlier members ++ later) → AllHold later
tested_later items earlier [] later h = h
tested_later items earlier (member ∷ members) later h = tested_later items (earlier ++ member ∷ []) members later h.1.1

-- names

names_count : {A : Type 0} (text : List ℕ) (items : List (Item A)) → total (λ one. cond (bytes_eq one text) 1 0) (map name_of items) ≡ total (λ item. cond (bytes_eq (name_of item) text) 1 0) items
names_count text items = sum_same (λ item. cond (bytes_eq (name_of item) text) 1 0) (λ one. cond (bytes_eq one text) 1 0) name_of (λ item. refl) items

names_turned : {A : Type 0} (number : ℕ) (command : Command A) (items : List (Item A)) → map name_of (changed_in_place number command items) ≡ map name_of items
names_turned number command [] = refl
names_turned number command (item ∷ items) = λ i. name_turned number command item i ∷ names_turned number command items i

once_turned : {A : Type 0} (number : ℕ) (command : Command A) (items : List (Item A)) → IsEachOnce (map name_of items) → IsEachOnce (map name_of (changed_in_place number command items))
once_turned number command items once = subst IsEachOnce (sym (names_turned number command items)) once

names_added : {A : Type 0} (items : List (Item A)) (last : Item A) → is_known items (name_of last) ≡ false → IsEachOnce (map name_of items) → IsEachOnce (map name_of (items ++ last ∷ []))
names_added items last new once =
    subst IsEachOnce (sym (map-append name_of items (last ∷ [])))
    (once_added (map name_of items) (name_of last)
    (any_same (λ one. bytes_eq one (name_of last)) (is_named (name_of last)) name_of (λ item. refl) items ∙ new) once)

pub names_after : {A : Type 0} (number : ℕ) (command : Command A) (items : List (Item A)) → IsEachOnce (map name_of items) → IsEachOnce (map name_of (items_after number command items))
names_after number (install name content) items once =
    by_test (λ (left : List (Item _)). IsEachOnce (map name_of left)) (is_known items name) (changed_in_place number (install name content) items) (items ++ regular name (record { number = number; content = content }) None ∷ [])
    (λ e. once_turned number (install name content) items once)
    (λ e. names_added items (regular name (record { number = number; content = content }) None) e once)
names_after number (rollback name) items once = once_turned number (rollback name) items once
names_after number (retire name) items once = λ text.
    let before : total (λ item. cond (bytes_eq (name_of item) text) 1 0) items ≤ 1 = subst (λ (n : ℕ). n ≤ 1) (names_count text items) (once text) in
    rw (names_count text (others_than name items)) (omega (arith, sum_filtered (λ item. cond (bytes_eq (name_of item) text) 1 0) (is_named name) items))
names_after number (put_virtual name title members) items once =
    by_test (λ (left : List (Item _)). IsEachOnce (map name_of left)) (is_known items name) (changed_in_place number (put_virtual name title members) items) (items ++ virtual name title members ∷ [])
    (λ e. once_turned number (put_virtual name title members) items once)
    (λ e. names_added items (virtual name title members) e once)
names_after number (place name at) items once = λ text.
    let before : total (λ item. cond (bytes_eq (name_of item) text) 1 0) items ≤ 1 = subst (λ (n : ℕ). n ≤ 1) (names_count text items) (once text) in
    rw (names_count text (moved name at items)) (omega (arith, sum_moved (λ item. cond (bytes_eq (name_of item) text) 1 0) (is_named name) at items))

-- how many items

below_limit : (n : ℕ) → nat_lt n 64 ≡ true → n < 64
below_limit n h = grind (arith, nat_tests)

room_for : {A : Type 0} (before : Holdings A) (name : List ℕ) (known : Bool) → is_known before.items name ≡ known → known ≡ false → has_room before name ≡ true → length before.items < 64
room_for before name true e k h = absurd (false≢true (sym k))
room_for before name false e k h =
    let parts = and_parts (is_known before.items name || nat_lt (length before.items) 64) (has_turn before) h in
    let fits : nat_lt (length before.items) 64 ≡ true = subst (λ (b : Bool). (b || nat_lt (length before.items) 64) ≡ true) e parts.0 in
    below_limit (length before.items) fits

limit_added : {A : Type 0} (before : Holdings A) (name : List ℕ) (last : Item A) → is_known before.items name ≡ false → has_room before name ≡ true → length (before.items ++ last ∷ []) ≤ 64
limit_added before name last new room =
    let few : length before.items < 64 = room_for before name (is_known before.items name) refl new room in
    omega (arith, length-append before.items (last ∷ []))

limit_turned : {A : Type 0} (number : ℕ) (command : Command A) (items : List (Item A)) → length items ≤ 64 → length (changed_in_place number command items) ≤ 64
limit_turned number command items h = omega (arith, length-map items (turned number command))

pub limit_after : {A : Type 0} (number : ℕ) (command : Command A) (before : Holdings A) → AllHold (tests_of before command) → length before.items ≤ 64 → length (items_after number command before.items) ≤ 64
limit_after number (install name content) before tests h =
    by_test (λ (left : List (Item _)). length left ≤ 64) (is_known before.items name) (changed_in_place number (install name content) before.items) (before.items ++ regular name (record { number = number; content = content }) None ∷ [])
    (λ e. limit_turned number (install name content) before.items h)
    (λ e. limit_added before name (regular name (record { number = number; content = content }) None) e tests.1.1.0)
limit_after number (rollback name) before tests h = limit_turned number (rollback name) before.items h
limit_after number (retire name) before tests h =
    omega (arith, length_sum (others_than name before.items), length_sum before.items, sum_filtered (λ item. 1) (is_named name) before.items)
limit_after number (put_virtual name title members) before tests h =
    by_test (λ (left : List (Item _)). length left ≤ 64) (is_known before.items name) (changed_in_place number (put_virtual name title members) before.items) (before.items ++ virtual name title members ∷ [])
    (λ e. limit_turned number (put_virtual name title members) before.items h)
    (λ e. limit_added before name (virtual name title members) e (tested_later before.items [] members _ tests.1.1.1.1).0)
limit_after number (place name at) before tests h =
    omega (arith, length_sum (moved name at before.items), length_sum before.items, sum_moved (λ item. 1) (is_named name) at before.items)

-- edition numbers

-- how often a number stands among an item's
abbrev pub weight : {A : Type 0} → ℕ → Item A → ℕ
weight number item = total (λ one. cond (one == number) 1 0) (numbers_of item)

numbers_count : {A : Type 0} (number : ℕ) (items : List (Item A)) → total (λ one. cond (one == number) 1 0) (edition_numbers items) ≡ total (weight number) items
numbers_count number items = sum_flat_map (λ one. cond (one == number) 1 0) numbers_of items

-- a number above all
above : (one number : ℕ) → one < number → (one == number) ≡ false
above one number h = grind (arith, nat_tests)

absent : (most number : ℕ) (numbers : List ℕ) → AllByRecursion (λ one. (1 ≤ one) × (one ≤ most)) numbers → most < number → total (λ one. cond (one == number) 1 0) numbers ≡ 0
absent most number [] h m = refl
absent most number (one ∷ numbers) h m =
    let here : (one == number) ≡ false = above one number (omega (arith, h.0.1)) in
    rw here (omega (arith, absent most number numbers h.1 m))

grown : {A : Type 0} (number : ℕ) (edition : Stored A) (item : Item A) (named : Bool) →
    weight number (cond named (installed edition item) item) ≤ weight number item + cond named (cond (edition.number == number) 1 0) 0
grown number edition (regular n current None) true = omega arith
grown number edition (regular n current (Some former)) true = omega arith
grown number edition (virtual n title members) true = omega arith
grown number edition item false = omega arith

total_none : {X : Type 0} (p : X → Bool) (xs : List X) → total (λ x. cond (p x) 0 0) xs ≡ 0
total_none p [] = refl
total_none p (x ∷ xs) = by_test (λ (n : ℕ). n + total (λ y. cond (p y) 0 0) xs ≡ 0) (p x) 0 0 (λ e. omega (arith, total_none p xs)) (λ e. omega (arith, total_none p xs))

new_number : {A : Type 0} (number : ℕ) (name : List ℕ) (items : List (Item A)) (is_new : Bool) → (is_new ≡ true → total (weight number) items ≡ 0) → total (weight number) items ≤ 1 →
    total (λ item. cond (is_named name item) 1 0) items ≤ 1 →
    total (weight number) items + total (λ item. cond (is_named name item) (cond is_new 1 0) 0) items ≤ 1
new_number number name items true zero once named = omega (arith, zero refl)
new_number number name items false zero once named = omega (arith, total_none (is_named name) items)

last_number : {A : Type 0} (number : ℕ) (items : List (Item A)) (is_new : Bool) → (is_new ≡ true → total (weight number) items ≡ 0) → total (weight number) items ≤ 1 →
    total (weight number) items + ((cond is_new 1 0 + 0) + 0) ≤ 1
last_number number items true zero once = omega (arith, zero refl)
last_number number items false zero once = omega arith

swapped_weight : {A : Type 0} (number : ℕ) (item : Item A) (named : Bool) → weight number (cond named (swapped item) item) ≡ weight number item
swapped_weight number (regular n current None) true = refl
swapped_weight number (regular n current (Some former)) true = omega arith
swapped_weight number (virtual n title members) true = refl
swapped_weight number item false = refl

put_weight : {A : Type 0} (number : ℕ) (name title : List ℕ) (members : List (List ℕ)) (item : Item A) (named : Bool) → weight number (cond named (put_anew name title members item) item) ≡ weight number item
put_weight number name title members (regular n current former) true = refl
put_weight number name title members (virtual n t ms) true = refl
put_weight number name title members item false = refl

same_number : (one number : ℕ) → (one == number) ≡ true → one ≡ number
same_number one number h = grind (arith, nat_tests)

-- no number stands twice, with installs below the number of a new edition
pub numbers_after : {A : Type 0} (installs : ℕ) (command : Command A) (items : List (Item A)) →
    AllByRecursion (λ one. (1 ≤ one) × (one ≤ installs)) (edition_numbers items) → IsEachOnce (map name_of items) → IsEachNumberOnce (edition_numbers items) →
    IsEachNumberOnce (edition_numbers (items_after (installs + 1) command items))
numbers_after {A} installs (install name content) items range names once = λ number.
    let before : total (weight number) items ≤ 1 = subst (λ (n : ℕ). n ≤ 1) (numbers_count number items) (once number) in
    let named : total (λ item. cond (is_named name item) 1 0) items ≤ 1 = subst (λ (n : ℕ). n ≤ 1) (names_count name items) (names name) in
    let zero : (installs + 1 == number) ≡ true → total (weight number) items ≡ 0 =
    λ e. sym (numbers_count number items) ∙ absent installs number (edition_numbers items) range (omega (arith, same_number (installs + 1) number e)) in
    rw (numbers_count number (items_after (installs + 1) (install name content) items))
    (by_test (λ (left : List (Item A)). total (weight number) left ≤ 1) (is_known items name) (changed_in_place (installs + 1) (install name content) items)
    (items ++ regular name (record { number = installs + 1; content = content }) None ∷ [])
    (λ e. omega (
      arith,
      sum_grown (weight number) (λ item. cond (is_named name item) (cond (installs + 1 == number) 1 0) 0) (turned (installs + 1) (install name content))
          (λ item. grown number (record { number = installs + 1; content = content }) item (is_named name item)) items,
      new_number number name items (installs + 1 == number) zero before named,
    ))
    (λ e. rw (sum_append (weight number) items (regular name (record { number = installs + 1; content = content }) None ∷ []))
    (last_number number items (installs + 1 == number) zero before)))
numbers_after installs (rollback name) items range names once = λ number.
    let before : total (weight number) items ≤ 1 = subst (λ (n : ℕ). n ≤ 1) (numbers_count number items) (once number) in
    rw (numbers_count number (changed_in_place (installs + 1) (rollback name) items))
    (omega (arith, sum_same (weight number) (weight number) (turned (installs + 1) (rollback name)) (λ item. swapped_weight number item (is_named name item)) items))
numbers_after installs (retire name) items range names once = λ number.
    let before : total (weight number) items ≤ 1 = subst (λ (n : ℕ). n ≤ 1) (numbers_count number items) (once number) in
    rw (numbers_count number (others_than name items)) (omega (arith, sum_filtered (weight number) (is_named name) items))
numbers_after {A} installs (put_virtual name title members) items range names once = λ number.
    let before : total (weight number) items ≤ 1 = subst (λ (n : ℕ). n ≤ 1) (numbers_count number items) (once number) in
    rw (numbers_count number (items_after (installs + 1) (put_virtual name title members) items))
    (by_test (λ (left : List (Item A)). total (weight number) left ≤ 1) (is_known items name) (changed_in_place (installs + 1) (put_virtual name title members) items) (items ++ virtual name title members ∷ [])
    (λ e. omega (arith, sum_same (weight number) (weight number) (turned (installs + 1) (put_virtual name title members)) (λ item. put_weight number name title members item (is_named name item)) items))
    (λ e. omega (arith, sum_append (weight number) items (virtual name title members ∷ []))))
numbers_after installs (place name at) items range names once = λ number.
    let before : total (weight number) items ≤ 1 = subst (λ (n : ℕ). n ≤ 1) (numbers_count number items) (once number) in
    rw (numbers_count number (moved name at items)) (omega (arith, sum_moved (weight number) (is_named name) at items))
