-- The tests and the effects of a command are the same whatever is kept of an edition: over a catalogue's editions
-- and over its summary's titles.
use Rattle.std.proofs.Common.{◌≡◌, ℕ, ◌+◌, Bool, true, false, ◌||◌, ◌&&◌, List, [], ◌∷◌, ◌++◌, length, take, drop, refl, ap, sym, ◌∙◌}
use Rattle.std.specs.Prelude.{map, filter, not, cond, Some, None, nat_lt, ◌==◌}
use Rattle.std.specs.List.{list_any, take-map, drop-map}
use Rattle.std.proofs.lemmas.List.{map-append, length-map, length-append}
use Rattle.dict_text.specs.Names.{is_name, is_title}
use Rattle.dict_catalogue.specs.Items.{Stored, Item, regular, virtual, is_regular, is_virtual, has_former, is_named, lists, is_known, names_regular, names_virtual, names_former, is_listed, is_among, current_of}
use Rattle.dict_catalogue.specs.Items.{current_number, numbers_of, edition_numbers, stored_as, item_as}
use Rattle.dict_catalogue.specs.Commands.{Command, install, rollback, retire, put_virtual, place, target, command_as}
use Rattle.dict_catalogue.specs.Tests.{wants, Holdings, holdings_as, member_tests, has_turn, has_room, has_member_count, tests_of, refusal_of, first_failing}
use Rattle.dict_index.specs.Edition.{Edition}
use Rattle.dict_catalogue.specs.Steps.{Catalogue, holdings, summary_of, command_summary, with_effect}
use Rattle.dict_catalogue.specs.declared.fault.CommandRefusal.TheVariants.{BadName, Unknown, IsVirtual, NoFormer, Listed, CatalogueFull, BadMember, MemberTwice, MemberCount, BadTitle, BadPlace, IsRegular}
use Rattle.dict_catalogue.specs.declared.reply.Verb.TheVariants.{Install, Rollback}
use Rattle.dict_catalogue.specs.Effects.{installed, swapped, put_anew, changed, changed_in_place, others_than, moved, items_after, installs_after, effect, reply_to, editions_gone}

-- lists seen through a function

list_any_as : {X Y : Type 0} (p : Y → Bool) (q : X → Bool) (g : X → Y) → ((x : X) → p (g x) ≡ q x) → (xs : List X) → list_any p (map g xs) ≡ list_any q xs
list_any_as p q g e [] = refl
list_any_as p q g e (x ∷ xs) = λ i. e x i || list_any_as p q g e xs i

cond_as : {X Y : Type 0} (g : X → Y) (b : Bool) (x : X) (xs : List X) → cond b (g x ∷ map g xs) (map g xs) ≡ map g (cond b (x ∷ xs) xs)
cond_as g true x xs = refl
cond_as g false x xs = refl

filter_as : {X Y : Type 0} (p : Y → Bool) (q : X → Bool) (g : X → Y) → ((x : X) → p (g x) ≡ q x) → (xs : List X) → filter p (map g xs) ≡ map g (filter q xs)
filter_as p q g e [] = refl
filter_as p q g e (x ∷ xs) = (λ i. cond (e x i) (g x ∷ filter_as p q g e xs i) (filter_as p q g e xs i)) ∙ cond_as g (q x) x (filter q xs)

map_as : {X Y : Type 0} (p : Y → Y) (q : X → X) (g : X → Y) → ((x : X) → p (g x) ≡ g (q x)) → (xs : List X) → map p (map g xs) ≡ map g (map q xs)
map_as p q g e [] = refl
map_as p q g e (x ∷ xs) = λ i. e x i ∷ map_as p q g e xs i

-- what is asked of one item

is_named_as : {A B : Type 0} (f : A → B) (name : List ℕ) (item : Item A) → is_named name (item_as f item) ≡ is_named name item
is_named_as f name (regular n current former) = refl
is_named_as f name (virtual n title members) = refl

is_regular_as : {A B : Type 0} (f : A → B) (item : Item A) → is_regular (item_as f item) ≡ is_regular item
is_regular_as f (regular n current former) = refl
is_regular_as f (virtual n title members) = refl

is_virtual_as : {A B : Type 0} (f : A → B) (item : Item A) → is_virtual (item_as f item) ≡ is_virtual item
is_virtual_as f (regular n current former) = refl
is_virtual_as f (virtual n title members) = refl

has_former_as : {A B : Type 0} (f : A → B) (item : Item A) → has_former (item_as f item) ≡ has_former item
has_former_as f (regular n current None) = refl
has_former_as f (regular n current (Some former)) = refl
has_former_as f (virtual n title members) = refl

lists_as : {A B : Type 0} (f : A → B) (name : List ℕ) (item : Item A) → lists name (item_as f item) ≡ lists name item
lists_as f name (regular n current former) = refl
lists_as f name (virtual n title members) = refl

current_of_as : {A B : Type 0} (f : A → B) (item : Item A) → current_of (item_as f item) ≡ current_of item
current_of_as f (regular n current former) = refl
current_of_as f (virtual n title members) = refl

numbers_of_as : {A B : Type 0} (f : A → B) (item : Item A) → numbers_of (item_as f item) ≡ numbers_of item
numbers_of_as f (regular n current None) = refl
numbers_of_as f (regular n current (Some former)) = refl
numbers_of_as f (virtual n title members) = refl

-- what is asked of all items

is_known_as : {A B : Type 0} (f : A → B) (items : List (Item A)) (name : List ℕ) → is_known (map (item_as f) items) name ≡ is_known items name
is_known_as f items name = list_any_as (is_named name) (is_named name) (item_as f) (is_named_as f name) items

names_regular_as : {A B : Type 0} (f : A → B) (items : List (Item A)) (name : List ℕ) → names_regular (map (item_as f) items) name ≡ names_regular items name
names_regular_as f items name = list_any_as (λ item. is_named name item && is_regular item) (λ item. is_named name item && is_regular item) (item_as f) (λ item i. is_named_as f name item i && is_regular_as f item i) items

names_virtual_as : {A B : Type 0} (f : A → B) (items : List (Item A)) (name : List ℕ) → names_virtual (map (item_as f) items) name ≡ names_virtual items name
names_virtual_as f items name = list_any_as (λ item. is_named name item && is_virtual item) (λ item. is_named name item && is_virtual item) (item_as f) (λ item i. is_named_as f name item i && is_virtual_as f item i) items

names_former_as : {A B : Type 0} (f : A → B) (items : List (Item A)) (name : List ℕ) → names_former (map (item_as f) items) name ≡ names_former items name
names_former_as f items name = list_any_as (λ item. is_named name item && has_former item) (λ item. is_named name item && has_former item) (item_as f) (λ item i. is_named_as f name item i && has_former_as f item i) items

is_listed_as : {A B : Type 0} (f : A → B) (items : List (Item A)) (name : List ℕ) → is_listed (map (item_as f) items) name ≡ is_listed items name
is_listed_as f items name = list_any_as (lists name) (lists name) (item_as f) (lists_as f name) items

current_number_as : {A B : Type 0} (f : A → B) (items : List (Item A)) (name : List ℕ) → current_number (map (item_as f) items) name ≡ current_number items name
current_number_as f [] name = refl
current_number_as f (item ∷ items) name = λ i. cond (is_named_as f name item i) (current_of_as f item i) (current_number_as f items name i)

edition_numbers_as : {A B : Type 0} (f : A → B) (items : List (Item A)) → edition_numbers (map (item_as f) items) ≡ edition_numbers items
edition_numbers_as f [] = refl
edition_numbers_as f (item ∷ items) = λ i. numbers_of_as f item i ++ edition_numbers_as f items i

-- the tests

member_tests_as : {A B : Type 0} (f : A → B) (items : List (Item A)) (earlier members : List (List ℕ)) → member_tests (map (item_as f) items) earlier members ≡ member_tests items earlier members
member_tests_as f items earlier [] = refl
member_tests_as f items earlier (member ∷ later) = λ i.
    wants (names_regular_as f items member i) BadMember
    ∷ wants (not (is_among earlier member)) MemberTwice
    ∷ member_tests_as f items (earlier ++ member ∷ []) later i

has_room_as : {A B : Type 0} (f : A → B) (before : Holdings A) (name : List ℕ) → has_room (holdings_as f before) name ≡ has_room before name
has_room_as f before name = λ i. (is_known_as f before.items name i || nat_lt (length-map before.items (item_as f) i) 64) && has_turn before

pub tests_of_as : {A B : Type 0} (f : A → B) (before : Holdings A) (command : Command A) → tests_of (holdings_as f before) (command_as f command) ≡ tests_of before command
tests_of_as f before (install name content) = λ i.
    wants (is_name name) BadName
    ∷ wants (not (names_virtual_as f before.items name i)) IsVirtual
    ∷ wants (has_room_as f before name i) CatalogueFull ∷ []
tests_of_as f before (rollback name) = λ i.
    wants (is_name name) BadName
    ∷ wants (is_known_as f before.items name i) Unknown
    ∷ wants (not (names_virtual_as f before.items name i)) IsVirtual
    ∷ wants (names_former_as f before.items name i) NoFormer
    ∷ wants (has_turn before) CatalogueFull ∷ []
tests_of_as f before (retire name) = λ i.
    wants (is_name name) BadName
    ∷ wants (is_known_as f before.items name i) Unknown
    ∷ wants (not (is_listed_as f before.items name i)) Listed
    ∷ wants (has_turn before) CatalogueFull ∷ []
tests_of_as f before (put_virtual name title members) = λ i.
    wants (is_name name) BadName
    ∷ wants (not (names_regular_as f before.items name i)) IsRegular
    ∷ wants (is_title title) BadTitle
    ∷ wants (has_member_count members) MemberCount
    ∷ (member_tests_as f before.items [] members i ++ wants (has_room_as f before name i) CatalogueFull ∷ [])
tests_of_as f before (place name at) = λ i.
    wants (is_name name) BadName
    ∷ wants (is_known_as f before.items name i) Unknown
    ∷ wants (nat_lt at (length-map before.items (item_as f) i)) BadPlace
    ∷ wants (has_turn before) CatalogueFull ∷ []

pub refusal_of_as : {A B : Type 0} (f : A → B) (before : Holdings A) (command : Command A) → refusal_of (holdings_as f before) (command_as f command) ≡ refusal_of before command
refusal_of_as f before command = ap first_failing (tests_of_as f before command)

-- the effects

installed_as : {A B : Type 0} (f : A → B) (edition : Stored A) (item : Item A) → installed (stored_as f edition) (item_as f item) ≡ item_as f (installed edition item)
installed_as f edition (regular n current former) = refl
installed_as f edition (virtual n title members) = refl

swapped_as : {A B : Type 0} (f : A → B) (item : Item A) → swapped (item_as f item) ≡ item_as f (swapped item)
swapped_as f (regular n current None) = refl
swapped_as f (regular n current (Some former)) = refl
swapped_as f (virtual n title members) = refl

put_anew_as : {A B : Type 0} (f : A → B) (name title : List ℕ) (members : List (List ℕ)) (item : Item A) → put_anew name title members (item_as f item) ≡ item_as f (put_anew name title members item)
put_anew_as f name title members (regular n current former) = refl
put_anew_as f name title members (virtual n t ms) = refl

changed_as : {A B : Type 0} (f : A → B) (number : ℕ) (command : Command A) (item : Item A) → changed number (command_as f command) (item_as f item) ≡ item_as f (changed number command item)
changed_as f number (install name content) item = installed_as f (record { number = number; content = content }) item
changed_as f number (rollback name) item = swapped_as f item
changed_as f number (retire name) item = refl
changed_as f number (put_virtual name title members) item = put_anew_as f name title members item
changed_as f number (place name at) item = refl

target_as : {A B : Type 0} (f : A → B) (command : Command A) → target (command_as f command) ≡ target command
target_as f (install name content) = refl
target_as f (rollback name) = refl
target_as f (retire name) = refl
target_as f (put_virtual name title members) = refl
target_as f (place name at) = refl

chosen_as : {A B : Type 0} (f : A → B) (b : Bool) (x y : Item A) → cond b (item_as f x) (item_as f y) ≡ item_as f (cond b x y)
chosen_as f true x y = refl
chosen_as f false x y = refl

changed_in_place_as : {A B : Type 0} (f : A → B) (number : ℕ) (command : Command A) (items : List (Item A)) → changed_in_place number (command_as f command) (map (item_as f) items) ≡ map (item_as f) (changed_in_place number command items)
changed_in_place_as f number command items =
    map_as (λ item. cond (is_named (target (command_as f command)) item) (changed number (command_as f command) item) item)
    (λ item. cond (is_named (target command) item) (changed number command item) item) (item_as f)
    (λ item.
    (λ i. cond (is_named (target_as f command i) (item_as f item)) (changed_as f number command item i) (item_as f item))
    ∙ (λ i. cond (is_named_as f (target command) item i) (item_as f (changed number command item)) (item_as f item))
    ∙ chosen_as f (is_named (target command) item) (changed number command item) item)
    items

others_than_as : {A B : Type 0} (f : A → B) (name : List ℕ) (items : List (Item A)) → others_than name (map (item_as f) items) ≡ map (item_as f) (others_than name items)
others_than_as f name items = filter_as (λ item. not (is_named name item)) (λ item. not (is_named name item)) (item_as f) (λ item i. not (is_named_as f name item i)) items

named_as : {A B : Type 0} (f : A → B) (name : List ℕ) (items : List (Item A)) → filter (is_named name) (map (item_as f) items) ≡ map (item_as f) (filter (is_named name) items)
named_as f name items = filter_as (is_named name) (is_named name) (item_as f) (is_named_as f name) items

moved_as : {A B : Type 0} (f : A → B) (name : List ℕ) (at : ℕ) (items : List (Item A)) → moved name at (map (item_as f) items) ≡ map (item_as f) (moved name at items)
moved_as f name at items =
    (λ i. (take at (others_than_as f name items i) ++ named_as f name items i) ++ drop at (others_than_as f name items i))
    ∙ simp (map-append, take-map, drop-map)

either_as : {A B : Type 0} (f : A → B) (b : Bool) (xs ys : List (Item A)) → cond b (map (item_as f) xs) (map (item_as f) ys) ≡ map (item_as f) (cond b xs ys)
either_as f true xs ys = refl
either_as f false xs ys = refl

with_last_as : {A B : Type 0} (f : A → B) (items : List (Item A)) (last : Item A) → map (item_as f) items ++ item_as f last ∷ [] ≡ map (item_as f) (items ++ last ∷ [])
with_last_as f items last = sym (map-append (item_as f) items (last ∷ []))

items_after_as : {A B : Type 0} (f : A → B) (number : ℕ) (command : Command A) (items : List (Item A)) → items_after number (command_as f command) (map (item_as f) items) ≡ map (item_as f) (items_after number command items)
items_after_as f number (install name content) items =
    (λ i. cond (is_known_as f items name i) (changed_in_place_as f number (install name content) items i) (with_last_as f items (regular name (record { number = number; content = content }) None) i))
    ∙ either_as f (is_known items name) (changed_in_place number (install name content) items) (items ++ regular name (record { number = number; content = content }) None ∷ [])
items_after_as f number (rollback name) items = changed_in_place_as f number (rollback name) items
items_after_as f number (retire name) items = others_than_as f name items
items_after_as f number (put_virtual name title members) items =
    (λ i. cond (is_known_as f items name i) (changed_in_place_as f number (put_virtual name title members) items i) (with_last_as f items (virtual name title members) i))
    ∙ either_as f (is_known items name) (changed_in_place number (put_virtual name title members) items) (items ++ virtual name title members ∷ [])
items_after_as f number (place name at) items = moved_as f name at items

installs_after_as : {A B : Type 0} (f : A → B) (command : Command A) (installs : ℕ) → installs_after (command_as f command) installs ≡ installs_after command installs
installs_after_as f (install name content) installs = refl
installs_after_as f (rollback name) installs = refl
installs_after_as f (retire name) installs = refl
installs_after_as f (put_virtual name title members) installs = refl
installs_after_as f (place name at) installs = refl

pub effect_as : {A B : Type 0} (f : A → B) (command : Command A) (before : Holdings A) → effect (command_as f command) (holdings_as f before) ≡ holdings_as f (effect command before)
effect_as f command before = λ i. record {
  items = items_after_as f (before.installs + 1) command before.items i;
  installs = installs_after_as f command before.installs i;
  accepted = before.accepted + 1;
}

reply_as : {A B : Type 0} (f : A → B) (command : Command A) (after : Holdings A) → reply_to (command_as f command) (holdings_as f after) ≡ reply_to command after
reply_as f (install name content) after = λ i. record { number = after.accepted; verb = Install; name = name; edition = current_number_as f after.items name i }
reply_as f (rollback name) after = λ i. record { number = after.accepted; verb = Rollback; name = name; edition = current_number_as f after.items name i }
reply_as f (retire name) after = refl
reply_as f (put_virtual name title members) after = refl
reply_as f (place name at) after = refl

pub reply_to_as : {A B : Type 0} (f : A → B) (command : Command A) (before : Holdings A) → reply_to (command_as f command) (effect (command_as f command) (holdings_as f before)) ≡ reply_to command (effect command before)
reply_to_as f command before = ap (reply_to (command_as f command)) (effect_as f command before) ∙ reply_as f command (effect command before)

gone_as : {A B : Type 0} (f : A → B) (before after : List (Item A)) → editions_gone (map (item_as f) before) (map (item_as f) after) ≡ editions_gone before after
gone_as f before after = λ i. filter (λ number. not (list_any (λ one. one == number) (edition_numbers_as f after i))) (edition_numbers_as f before i)

pub editions_gone_as : {A B : Type 0} (f : A → B) (command : Command A) (before : Holdings A) →
    editions_gone (map (item_as f) before.items) (effect (command_as f command) (holdings_as f before)).items ≡ editions_gone before.items (effect command before).items
editions_gone_as {A} {B} f command before =
    ap (λ (after : Holdings B). editions_gone (map (item_as f) before.items) after.items) (effect_as f command before)
    ∙ gone_as f before.items (effect command before).items

-- one more kept reply
pub length_push : {X : Type 0} (xs : List X) (x : X) → length xs + 1 ≡ length (xs ++ x ∷ [])
length_push xs x = sym (length-append xs (x ∷ []))

-- a catalogue's summary after an effect
pub effect_with : (M : Catalogue) (id : List ℕ) (command : Command Edition) → effect (command_summary command) (summary_of M) ≡ summary_of (with_effect M id command)
effect_with M id command =
    effect_as (λ edition. edition.title) command (holdings M)
    ∙ (λ i. record {
      items = map (item_as (λ edition. edition.title)) (items_after (M.installs + 1) command M.items);
      installs = installs_after command M.installs;
      accepted = length_push M.kept (record { id = id; reply = reply_to command (effect command (holdings M)) }) i;
    })
