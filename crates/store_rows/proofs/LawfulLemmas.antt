-- The test of the items, whatever is kept of their editions, and what a well formed catalogue asks of them.
use Rattle.std.proofs.Common.{◌≡◌, ℕ, pos, ◌+◌, ◌≤◌, Bool, true, false, ◌&&◌, List, [], ◌∷◌, ◌++◌, length, refl, ap, sym, subst, ◌∙◌, arith, Option, Some, None}
use Rattle.std.specs.Prelude.{map, not, cond, nat_le, nat_lt, bytes_eq, option_map, ◌==◌}
use Rattle.std.specs.List.{list_any, list_all, AllByRecursion}
use Rattle.std.specs.Str.{is_utf8}
use Rattle.std.proofs.lemmas.List.{length-map}
use Rattle.std.proofs.lemmas.Str.{IsUtf8-from_is_utf8, is_utf8-from_IsUtf8}
use Rattle.std.proofs.lemmas.Bool.{and_parts, and_from, not-true, not_from_false}
use Rattle.std.proofs.lemmas.Bool.Decides.{nat_tests}
use Rattle.dict_text.specs.Names.{is_name, is_title}
use Rattle.store_tables.specs.Records as spec
use Rattle.dict_index.specs.Edition.{Edition}
use Rattle.dict_catalogue.specs.Items.{Stored, Item, regular, virtual, name_of, is_regular, members_of, is_named, is_among, is_known, names_regular, numbers_of, edition_numbers, stored_as, item_as}
use Rattle.dict_catalogue.specs.Tests.{has_member_count}
use Rattle.dict_catalogue.specs.WellFormed.{total, how_many, IsEachOnce, IsEachNumberOnce, IsLawfulItem, HasKnownMembers}
use Rattle.dict_catalogue.proofs.ListLemmas.{any_same, any_sum, none_sum}
use Rattle.dict_catalogue.proofs.ItemLemmas.{same_text, text_itself}
use Rattle.store_rows.specs.Written.{numbered, item_record, member_record}
use Rattle.store_rows.specs.Stands.{HoldsMembers}
use Rattle.store_rows.specs.Tests.{has_once, has_numbers_once, has_names_once, is_lawful_item, has_known_members, is_from_one_to, has_lawful_numbers, has_lawful_items}
use Rattle.store_rows.proofs.OnceLemmas.{head_same, tail_same, numbered_same}

-- ---- nothing is kept of the editions

abbrev pub bare : {A : Type 0} → Item A → Item (Unit {0})
bare item = item_as (λ content. tt) item

name_as : {A B : Type 0} (f : A → B) (item : Item A) → name_of (item_as f item) ≡ name_of item
name_as f (regular n current former) = refl
name_as f (virtual n title members) = refl

is_regular_as : {A B : Type 0} (f : A → B) (item : Item A) → is_regular (item_as f item) ≡ is_regular item
is_regular_as f (regular n current former) = refl
is_regular_as f (virtual n title members) = refl

members_as : {A B : Type 0} (f : A → B) (item : Item A) → members_of (item_as f item) ≡ members_of item
members_as f (regular n current former) = refl
members_as f (virtual n title members) = refl

lawful_as : {A B : Type 0} (f : A → B) (item : Item A) → is_lawful_item (item_as f item) ≡ is_lawful_item item
lawful_as f (regular n current former) = refl
lawful_as f (virtual n title members) = refl

numbers_of_as : {A B : Type 0} (f : A → B) (item : Item A) → numbers_of (item_as f item) ≡ numbers_of item
numbers_of_as f (regular n current None) = refl
numbers_of_as f (regular n current (Some former)) = refl
numbers_of_as f (virtual n title members) = refl

pub numbers_as : {A B : Type 0} (f : A → B) (items : List (Item A)) → edition_numbers (map (item_as f) items) ≡ edition_numbers items
numbers_as f [] = refl
numbers_as f (item ∷ items) = λ i. numbers_of_as f item i ++ numbers_as f items i

pub known_as : {A B : Type 0} (f : A → B) (items : List (Item A)) (name : List ℕ) → is_known (map (item_as f) items) name ≡ is_known items name
known_as f items name = any_same (is_named name) (is_named name) (item_as f) (λ item i. bytes_eq (name_as f item i) name) items

regular_as : {A B : Type 0} (f : A → B) (items : List (Item A)) (name : List ℕ) → names_regular (map (item_as f) items) name ≡ names_regular items name
regular_as f items name = any_same (λ item. is_named name item && is_regular item) (λ item. is_named name item && is_regular item) (item_as f) (λ item i. bytes_eq (name_as f item i) name && is_regular_as f item i) items

all_same : {X Y : Type 0} (p : Y → Bool) (q : X → Bool) (g : X → Y) → ((x : X) → p (g x) ≡ q x) → (xs : List X) → list_all p (map g xs) ≡ list_all q xs
all_same p q g e [] = refl
all_same p q g e (x ∷ xs) = λ i. e x i && all_same p q g e xs i

all_pointwise : {X : Type 0} (p q : X → Bool) → ((x : X) → p x ≡ q x) → (xs : List X) → list_all p xs ≡ list_all q xs
all_pointwise p q e [] = refl
all_pointwise p q e (x ∷ xs) = λ i. e x i && all_pointwise p q e xs i

names_once_as : {A B : Type 0} (f : A → B) (items : List (Item A)) → has_names_once (map (item_as f) items) ≡ has_names_once items
names_once_as f [] = refl
names_once_as f (item ∷ items) = λ i. not ((ap (is_known (map (item_as f) items)) (name_as f item) ∙ known_as f items (name_of item)) i) && names_once_as f items i

known_members_as : {A B : Type 0} (f : A → B) (items : List (Item A)) (item : Item A) → has_known_members (map (item_as f) items) (item_as f item) ≡ has_known_members items item
known_members_as f items item =
    ap (list_all (names_regular (map (item_as f) items))) (members_as f item)
    ∙ all_pointwise (names_regular (map (item_as f) items)) (names_regular items) (regular_as f items) (members_of item)

pub lawful_items_as : {A B : Type 0} (f : A → B) (installs : ℕ) (items : List (Item A)) → has_lawful_items installs (map (item_as f) items) ≡ has_lawful_items installs items
lawful_items_as f installs items = λ i.
    nat_le (length-map items (item_as f) i) 64 && all_same is_lawful_item is_lawful_item (item_as f) (lawful_as f) items i && names_once_as f items i
    && all_same (has_known_members (map (item_as f) items)) (has_known_members items) (item_as f) (known_members_as f items) items i
    && has_lawful_numbers installs (numbers_as f items i)

-- ---- items of the same records, with the same members

pub pos_same : (m n : ℕ) → pos m ≡ pos n → m ≡ n
pos_same m n e = cc

pub some_same : {X : Type 0} (x y : X) → Some x ≡ Some y → x ≡ y
some_same x y e = cc

former_bare : {A B : Type 0} (x : Option (Stored A)) (y : Option (Stored B)) → option_map (λ stored. pos stored.number) x ≡ option_map (λ stored. pos stored.number) y →
    option_map (stored_as (λ (content : A). tt {0})) x ≡ option_map (stored_as (λ (content : B). tt {0})) y
former_bare None None e = refl
former_bare None (Some y) e = absurd (cc)
former_bare (Some x) None e = absurd (cc)
former_bare (Some x) (Some y) e = let n : x.number ≡ y.number = pos_same _ _ (some_same _ _ e) in λ i. Some (record { number = n i; content = tt })

item_bare : {A B : Type 0} (place : ℕ) (members : List spec.Member) (x : Item A) (y : Item B) → item_record place x ≡ item_record place y → HoldsMembers members x → HoldsMembers members y → bare x ≡ bare y
item_bare place members (regular m c f) (regular n d g) e a b =
    let names : m ≡ n = ap (λ (r : spec.ItemRecord). r.name) e in
    let numbers : c.number ≡ d.number = pos_same _ _ (some_same _ _ (ap (λ (r : spec.ItemRecord). r.current) e)) in
    let formers = former_bare f g (ap (λ (r : spec.ItemRecord). r.former) e) in
    λ i. regular (names i) (record { number = numbers i; content = tt }) (formers i)
item_bare place members (regular m c f) (virtual n t ms) e a b = absurd (let kinds : pos 0 ≡ pos 1 = ap (λ (r : spec.ItemRecord). r.kind) e in cc)
item_bare place members (virtual m t ms) (regular n d g) e a b = absurd (let kinds : pos 1 ≡ pos 0 = ap (λ (r : spec.ItemRecord). r.kind) e in cc)
item_bare {A} {B} place members (virtual m s ls) (virtual n t ms) e a b =
    let names : m ≡ n = ap (λ (r : spec.ItemRecord). r.name) e in
    let titles : s ≡ t = some_same _ _ (ap (λ (r : spec.ItemRecord). r.title) e) in
    let there : HoldsMembers {A = B} members (virtual m t ms) = subst (λ (name : List ℕ). HoldsMembers {A = B} members (virtual name t ms)) (sym names) b in
    let lists : ls ≡ ms = numbered_same (member_record m) (λ k x y h. ap (λ (r : spec.Member). r.name) h) 0 ls ms (sym a ∙ there) in
    λ i. virtual (names i) (titles i) (lists i)

pub items_bare : {A B : Type 0} (place : ℕ) (members : List spec.Member) (xs : List (Item A)) (ys : List (Item B)) → numbered item_record place xs ≡ numbered item_record place ys →
    AllByRecursion (HoldsMembers members) xs → AllByRecursion (HoldsMembers members) ys → map bare xs ≡ map bare ys
items_bare place members [] [] e a b = refl
items_bare place members [] (y ∷ ys) e a b = absurd (cc)
items_bare place members (x ∷ xs) [] e a b = absurd (cc)
items_bare place members (x ∷ xs) (y ∷ ys) e a b =
    let first = item_bare place members x y (head_same _ _ _ _ e) a.0 b.0 in
    let rest = items_bare (place + 1) members xs ys (tail_same _ _ _ _ e) a.1 b.1 in
    λ i. first i ∷ rest i

-- so they are lawful alike, and name and number alike
pub lawful_alike : {A B : Type 0} (installs : ℕ) (xs : List (Item A)) (ys : List (Item B)) → map bare xs ≡ map bare ys → has_lawful_items installs xs ≡ has_lawful_items installs ys
lawful_alike {A} {B} installs xs ys e =
    sym (lawful_items_as (λ (content : A). tt {0}) installs xs) ∙ ap (has_lawful_items installs) e ∙ lawful_items_as (λ (content : B). tt {0}) installs ys

pub known_alike : {A B : Type 0} (xs : List (Item A)) (ys : List (Item B)) (name : List ℕ) → map bare xs ≡ map bare ys → is_known xs name ≡ is_known ys name
known_alike {A} {B} xs ys name e =
    sym (known_as (λ (content : A). tt {0}) xs name) ∙ ap (λ (items : List (Item (Unit {0}))). is_known items name) e ∙ known_as (λ (content : B). tt {0}) ys name

pub numbers_alike : {A B : Type 0} (xs : List (Item A)) (ys : List (Item B)) → map bare xs ≡ map bare ys → edition_numbers xs ≡ edition_numbers ys
numbers_alike {A} {B} xs ys e = sym (numbers_as (λ (content : A). tt {0}) xs) ∙ ap edition_numbers e ∙ numbers_as (λ (content : B). tt {0}) ys

-- ---- the test, and what it tests

pub record AreLawful (installs : ℕ) (items : List (Item Edition)) : Type 0 where
  pub limit : length items ≤ 64
  pub lawful : AllByRecursion IsLawfulItem items
  pub names : IsEachOnce (map name_of items)
  pub members : AllByRecursion (HasKnownMembers items) items
  pub range : AllByRecursion (λ number. (1 ≤ number) × (number ≤ installs)) (edition_numbers items)
  pub once : IsEachNumberOnce (edition_numbers items)

le_true : (m n : ℕ) → nat_le m n ≡ true → m ≤ n
le_true m n h = grind (arith, nat_tests)

true_le : (m n : ℕ) → m ≤ n → nat_le m n ≡ true
true_le m n h = grind (arith, nat_tests)

each_true : {X : Type 0} (p : X → Bool) (P : X → Type 0) → ((x : X) → p x ≡ true → P x) → (xs : List X) → list_all p xs ≡ true → AllByRecursion P xs
each_true p P w [] h = tt
each_true p P w (x ∷ xs) h = let parts = and_parts (p x) (list_all p xs) h in (w x parts.0, each_true p P w xs parts.1)

true_each : {X : Type 0} (p : X → Bool) (P : X → Type 0) → ((x : X) → P x → p x ≡ true) → (xs : List X) → AllByRecursion P xs → list_all p xs ≡ true
true_each p P w [] h = refl
true_each p P w (x ∷ xs) h = and_from (p x) (list_all p xs) (w x h.0) (true_each p P w xs h.1)

-- texts that stand once

one_once : (text x : List ℕ) (xs : List (List ℕ)) (b : Bool) → bytes_eq x text ≡ b → is_among xs x ≡ false → how_many (λ one. bytes_eq one text) xs ≤ 1 → cond b 1 0 + how_many (λ one. bytes_eq one text) xs ≤ 1
one_once text x xs true e new h =
    let absent : is_among xs text ≡ false = subst (λ (name : List ℕ). is_among xs name ≡ false) (same_text x text e) new in
    omega (arith, none_sum (λ one. bytes_eq one text) xs absent)
one_once text x xs false e new h = omega arith

pub once_true : (texts : List (List ℕ)) → has_once texts ≡ true → IsEachOnce texts
once_true [] h = λ text. omega arith
once_true (x ∷ xs) h = λ text.
    let parts = and_parts (not (is_among xs x)) (has_once xs) h in
    one_once text x xs (bytes_eq x text) refl (not-true (is_among xs x) parts.0) (once_true xs parts.1 text)

absent_from : {X : Type 0} (p : X → Bool) (x : X) (xs : List X) → p x ≡ true → cond (p x) 1 0 + total (λ one. cond (p one) 1 0) xs ≤ 1 → total (λ one. cond (p one) 1 0) xs ≡ 0
absent_from p x xs e h = let one : cond (p x) 1 0 + total (λ y. cond (p y) 1 0) xs ≡ 1 + total (λ y. cond (p y) 1 0) xs = ap (λ b. cond b 1 0 + total (λ y. cond (p y) 1 0) xs) e in omega arith

pub none_of_sum : {X : Type 0} (p : X → Bool) (xs : List X) → total (λ x. cond (p x) 1 0) xs ≡ 0 → list_any p xs ≡ false
none_of_sum p xs h = any_sum p xs ∙ ap (nat_lt 0) h

pub true_once : (texts : List (List ℕ)) → IsEachOnce texts → has_once texts ≡ true
true_once [] h = refl
true_once (x ∷ xs) h = and_from (not (is_among xs x)) (has_once xs)
    (not_from_false (is_among xs x) (none_of_sum (λ one. bytes_eq one x) xs (absent_from (λ one. bytes_eq one x) x xs (text_itself x) (h x))))
    (true_once xs (λ text. omega (arith, h text)))

numbers_one : (number x : ℕ) (xs : List ℕ) (b : Bool) → (x == number) ≡ b → list_any (λ one. one == x) xs ≡ false → how_many (λ one. one == number) xs ≤ 1 → cond b 1 0 + how_many (λ one. one == number) xs ≤ 1
numbers_one number x xs true e new h =
    let same : x ≡ number = grind (arith, nat_tests) in
    let absent : list_any (λ one. one == number) xs ≡ false = subst (λ (n : ℕ). list_any (λ one. one == n) xs ≡ false) same new in
    omega (arith, none_sum (λ one. one == number) xs absent)
numbers_one number x xs false e new h = omega arith

number_itself : (n : ℕ) → (n == n) ≡ true
number_itself n = grind (arith, nat_tests)

numbers_once_true : (numbers : List ℕ) → has_numbers_once numbers ≡ true → IsEachNumberOnce numbers
numbers_once_true [] h = λ number. omega arith
numbers_once_true (x ∷ xs) h = λ number.
    let parts = and_parts (not (list_any (λ one. one == x) xs)) (has_numbers_once xs) h in
    numbers_one number x xs (x == number) refl (not-true (list_any (λ one. one == x) xs) parts.0) (numbers_once_true xs parts.1 number)

true_numbers_once : (numbers : List ℕ) → IsEachNumberOnce numbers → has_numbers_once numbers ≡ true
true_numbers_once [] h = refl
true_numbers_once (x ∷ xs) h = and_from (not (list_any (λ one. one == x) xs)) (has_numbers_once xs)
    (not_from_false (list_any (λ one. one == x) xs) (none_of_sum (λ one. one == x) xs (absent_from (λ one. one == x) x xs (number_itself x) (h x))))
    (true_numbers_once xs (λ number. omega (arith, h number)))

-- items

pub names_are : {A : Type 0} (items : List (Item A)) → has_names_once items ≡ has_once (map name_of items)
names_are [] = refl
names_are (item ∷ items) =
    let known : is_known items (name_of item) ≡ is_among (map name_of items) (name_of item) = sym (any_same (λ one. bytes_eq one (name_of item)) (is_named (name_of item)) name_of (λ x. refl) items) in
    λ i. not (known i) && names_are items i

pub each_itself : {X : Type 0} (p : X → Bool) (xs : List X) → list_all p xs ≡ true → AllByRecursion (λ x. p x ≡ true) xs
each_itself p xs h = each_true p (λ x. p x ≡ true) (λ x e. e) xs h

pub itself_each : {X : Type 0} (p : X → Bool) (xs : List X) → AllByRecursion (λ x. p x ≡ true) xs → list_all p xs ≡ true
itself_each p xs h = true_each p (λ x. p x ≡ true) (λ x e. e) xs h

item_true : (item : Item Edition) → is_lawful_item item ≡ true → IsLawfulItem item
item_true (regular name current former) h = h
item_true (virtual name title members) h =
    let a = and_parts (is_name name && (is_utf8 title && is_title title) && has_member_count members) (has_once members) h in
    let b = and_parts (is_name name && (is_utf8 title && is_title title)) (has_member_count members) a.0 in
    let d = and_parts (is_name name) (is_utf8 title && is_title title) b.0 in
    let t = and_parts (is_utf8 title) (is_title title) d.1 in
    let n = and_parts (nat_le 1 (length members)) (nat_le (length members) 64) b.1 in
    (d.0, (IsUtf8-from_is_utf8 title t.0, t.1), le_true 1 (length members) n.0, le_true (length members) 64 n.1, once_true members a.1)

true_item : (item : Item Edition) → IsLawfulItem item → is_lawful_item item ≡ true
true_item (regular name current former) h = h
true_item (virtual name title members) h =
    and_from (is_name name && (is_utf8 title && is_title title) && has_member_count members) (has_once members)
    (and_from (is_name name && (is_utf8 title && is_title title)) (has_member_count members)
    (and_from (is_name name) (is_utf8 title && is_title title) h.0 (and_from (is_utf8 title) (is_title title) (is_utf8-from_IsUtf8 title h.1.0) h.1.1))
    (and_from (nat_le 1 (length members)) (nat_le (length members) 64) (true_le 1 (length members) h.2) (true_le (length members) 64 h.3)))
    (true_once members h.4)

pub lawful_true : (installs : ℕ) (items : List (Item Edition)) → has_lawful_items installs items ≡ true → AreLawful installs items
lawful_true installs items h =
    let a = and_parts (nat_le (length items) 64 && list_all is_lawful_item items && has_names_once items && list_all (has_known_members items) items) (has_lawful_numbers installs (edition_numbers items)) h in
    let b = and_parts (nat_le (length items) 64 && list_all is_lawful_item items && has_names_once items) (list_all (has_known_members items) items) a.0 in
    let d = and_parts (nat_le (length items) 64 && list_all is_lawful_item items) (has_names_once items) b.0 in
    let e = and_parts (nat_le (length items) 64) (list_all is_lawful_item items) d.0 in
    let n = and_parts (list_all (is_from_one_to installs) (edition_numbers items)) (has_numbers_once (edition_numbers items)) a.1 in
    record {
      limit = le_true (length items) 64 e.0;
      lawful = each_true is_lawful_item IsLawfulItem item_true items e.1;
      names = once_true (map name_of items) (sym (names_are items) ∙ d.1);
      members = each_true (has_known_members items) (HasKnownMembers items) (λ item m. each_itself (names_regular items) (members_of item) m) items b.1;
      range = each_true (is_from_one_to installs) (λ number. (1 ≤ number) × (number ≤ installs))
          (λ number m. let parts = and_parts (nat_le 1 number) (nat_le number installs) m in (le_true 1 number parts.0, le_true number installs parts.1)) (edition_numbers items) n.0;
      once = numbers_once_true (edition_numbers items) n.1;
    }

pub true_lawful : (installs : ℕ) (items : List (Item Edition)) → AreLawful installs items → has_lawful_items installs items ≡ true
true_lawful installs items h =
    and_from (nat_le (length items) 64 && list_all is_lawful_item items && has_names_once items && list_all (has_known_members items) items) (has_lawful_numbers installs (edition_numbers items))
    (and_from (nat_le (length items) 64 && list_all is_lawful_item items && has_names_once items) (list_all (has_known_members items) items)
    (and_from (nat_le (length items) 64 && list_all is_lawful_item items) (has_names_once items)
    (and_from (nat_le (length items) 64) (list_all is_lawful_item items) (true_le (length items) 64 h.limit) (true_each is_lawful_item IsLawfulItem true_item items h.lawful))
    (names_are items ∙ true_once (map name_of items) h.names))
    (true_each (has_known_members items) (HasKnownMembers items) (λ item m. itself_each (names_regular items) (members_of item) m) items h.members))
    (and_from (list_all (is_from_one_to installs) (edition_numbers items)) (has_numbers_once (edition_numbers items))
    (true_each (is_from_one_to installs) (λ number. (1 ≤ number) × (number ≤ installs)) (λ number m. and_from (nat_le 1 number) (nat_le number installs) (true_le 1 number m.0) (true_le number installs m.1)) (edition_numbers items) h.range)
    (true_numbers_once (edition_numbers items) h.once))

-- of the numbers alone, whatever is kept of the editions
pub lawful_true_numbers : {A : Type 0} (installs : ℕ) (items : List (Item A)) → has_lawful_items installs items ≡ true → IsEachNumberOnce (edition_numbers items)
lawful_true_numbers installs items h =
    let a = and_parts (nat_le (length items) 64 && list_all is_lawful_item items && has_names_once items && list_all (has_known_members items) items) (has_lawful_numbers installs (edition_numbers items)) h in
    let n = and_parts (list_all (is_from_one_to installs) (edition_numbers items)) (has_numbers_once (edition_numbers items)) a.1 in
    numbers_once_true (edition_numbers items) n.1
