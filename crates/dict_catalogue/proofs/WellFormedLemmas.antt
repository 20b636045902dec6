-- A well formed catalogue stays so under every command.
use Rattle.std.proofs.Common.{◌≡◌, ℕ, ◌+◌, ◌≤◌, Bool, true, false, ◌||◌, ◌&&◌, List, [], ◌∷◌, ◌++◌, length, refl, ap, sym, subst, ◌∙◌, arith}
use Rattle.std.specs.Prelude.{map, not, cond, nat_lt, nat_le, IsTrue, bytes_eq, is_some, Some, None}
use Rattle.std.specs.List.{list_any, AllByRecursion}
use Rattle.std.specs.Str.{IsUtf8}
use Rattle.std.proofs.lemmas.List.{length-append, map-append}
use Rattle.std.proofs.lemmas.Bool.{and_parts, not-true, not_from_false}
use Rattle.std.proofs.lemmas.Bool.Decides.{nat_tests}
use Rattle.std.proofs.lemmas.List.Folds.{list_any-append}
use Rattle.dict_index.specs.Edition.{Edition}
use Rattle.dict_index.specs.WellFormed.{IsWellFormedEdition}
use Rattle.dict_text.specs.Names.{is_name, is_request_id}
use Rattle.dict_catalogue.specs.Items.{Stored, Item, regular, virtual, name_of, is_regular, is_virtual, members_of, editions_of, is_named, lists, is_among, is_known, names_regular, names_virtual, is_listed}
use Rattle.dict_catalogue.specs.Items.{current_number, numbers_of, edition_numbers}
use Rattle.dict_catalogue.specs.Commands.{Command, install, rollback, retire, put_virtual, place, target, verb_of}
use Rattle.dict_catalogue.specs.Tests.{Holdings, tests_of, refusal_of, has_room, has_turn}
use Rattle.dict_catalogue.specs.Effects.{installed, swapped, put_anew, changed_in_place, others_than, moved, items_after, installs_after, effect, reply_to, edition_told}
use Rattle.dict_catalogue.specs.Steps.{KeptFor, Catalogue, Outcome, holdings, kept_under, with_effect, step, AllHold, IsStep, id_unlawful, id_kept, test_failed, none_failed}
use Rattle.dict_catalogue.specs.WellFormed.{IsEachOnce, IsLawfulItem, HasWellFormedEditions, HasKnownMembers, IsLawfulCommand, tells_edition, IsLawfulReply, IsNumberedFrom, is_install, IsWellFormed}
use Rattle.dict_text.proofs.AllLemmas.{all_weaker, all_append, all_filter, all_flat_map, all_flat_map_parts}
use Rattle.dict_text.proofs.AsciiLemmas.{name_utf8}
use Rattle.dict_catalogue.proofs.ListLemmas.{sum_append, any_moved, any_append_left, any_append_right, any_filter, none_passes, by_test}
use Rattle.dict_catalogue.proofs.ItemLemmas.{same_text, text_itself, known_turned, regular_named_turned, virtual_named_turned, current_there, all_after}
use Rattle.dict_catalogue.proofs.CountLemmas.{once_added, tested_once, tested_regular, tested_later, names_after, limit_after, numbers_after}
use Rattle.dict_catalogue.proofs.StepLemmas.{all_hold, step_is}

-- lawful items

pub item_name : (item : Item Edition) → IsLawfulItem item → IsUtf8 (name_of item)
item_name (regular name current former) h = name_utf8 name h
item_name (virtual name title members) h = name_utf8 name h.0

lawful_installed : (edition : Stored Edition) (item : Item Edition) → IsLawfulItem item → IsLawfulItem (installed edition item)
lawful_installed edition (regular n current former) h = h
lawful_installed edition (virtual n title members) h = h

lawful_swapped : (item : Item Edition) → IsLawfulItem item → IsLawfulItem (swapped item)
lawful_swapped (regular n current None) h = h
lawful_swapped (regular n current (Some former)) h = h
lawful_swapped (virtual n title members) h = h

lawful_put : (name title : List ℕ) (members : List (List ℕ)) (item : Item Edition) → IsLawfulItem (virtual name title members) → IsLawfulItem item → IsLawfulItem (put_anew name title members item)
lawful_put name title members (regular n current former) new h = h
lawful_put name title members (virtual n t ms) new h = new

at_least : (a b : ℕ) → nat_le a b ≡ true → a ≤ b
at_least a b h = grind (arith, nat_tests)

lawful_virtual : (before : Holdings Edition) (name title : List ℕ) (members : List (List ℕ)) → AllHold (tests_of before (put_virtual name title members)) → IsUtf8 title → IsLawfulItem (virtual name title members)
lawful_virtual before name title members tests utf8 =
    let counted = and_parts (nat_le 1 (length members)) (nat_le (length members) 64) tests.1.1.1.0 in
    (tests.0, (utf8, tests.1.1.0), at_least 1 (length members) counted.0, at_least (length members) 64 counted.1, tested_once before.items members _ tests.1.1.1.1)

items_lawful : (number : ℕ) (command : Command Edition) (before : Holdings Edition) → AllHold (tests_of before command) → IsLawfulCommand command → AllByRecursion IsLawfulItem before.items
    → AllByRecursion IsLawfulItem (items_after number command before.items)
items_lawful number (install name content) before tests l h =
    all_after IsLawfulItem IsLawfulItem number (install name content) before.items (λ item p. p) (λ item p. lawful_installed (record { number = number; content = content }) item p) tests.0 h
items_lawful number (rollback name) before tests l h =
    all_after IsLawfulItem IsLawfulItem number (rollback name) before.items (λ item p. p) (λ item p. lawful_swapped item p) tt h
items_lawful number (retire name) before tests l h =
    all_after IsLawfulItem IsLawfulItem number (retire name) before.items (λ item p. p) (λ item p. p) tt h
items_lawful number (put_virtual name title members) before tests l h =
    let new : IsLawfulItem (virtual name title members) = lawful_virtual before name title members tests l in
    all_after IsLawfulItem IsLawfulItem number (put_virtual name title members) before.items (λ item p. p) (λ item p. lawful_put name title members item new p) new h
items_lawful number (place name at) before tests l h =
    all_after IsLawfulItem IsLawfulItem number (place name at) before.items (λ item p. p) (λ item p. p) tt h

-- lawful editions, and numbers in their range: what holds of each edition

abbrev pub EachEdition : {A : Type 0} → (Stored A → Type 0) → Item A → Type 0
EachEdition P item = AllByRecursion P (editions_of item)

each_installed : {A : Type 0} (P Q : Stored A → Type 0) → ((one : Stored A) → P one → Q one) → (edition : Stored A) → Q edition → (item : Item A) → EachEdition P item → EachEdition Q (installed edition item)
each_installed P Q w edition new (regular n current None) h = (new, (w current h.0, tt))
each_installed P Q w edition new (regular n current (Some former)) h = (new, (w current h.0, tt))
each_installed P Q w edition new (virtual n title members) h = tt

each_swapped : {A : Type 0} (P : Stored A → Type 0) (item : Item A) → EachEdition P item → EachEdition P (swapped item)
each_swapped P (regular n current None) h = h
each_swapped P (regular n current (Some former)) h = (h.1.0, (h.0, tt))
each_swapped P (virtual n title members) h = tt

each_put : {A : Type 0} (P : Stored A → Type 0) (name title : List ℕ) (members : List (List ℕ)) (item : Item A) → EachEdition P item → EachEdition P (put_anew name title members item)
each_put P name title members (regular n current former) h = h
each_put P name title members (virtual n t ms) h = tt

-- of each edition there, and of an installed one
unfoldable pub IfInstalled : {A : Type 0} → (Stored A → Type 0) → ℕ → Command A → Type 0
IfInstalled P number (install name content) = P (record { number = number; content = content })
IfInstalled P number (rollback name) = Unit {0}
IfInstalled P number (retire name) = Unit {0}
IfInstalled P number (put_virtual name title members) = Unit {0}
IfInstalled P number (place name at) = Unit {0}

pub each_after : {A : Type 0} (P Q : Stored A → Type 0) (number : ℕ) (command : Command A) (items : List (Item A)) → ((one : Stored A) → P one → Q one) → IfInstalled Q number command →
    AllByRecursion (EachEdition P) items → AllByRecursion (EachEdition Q) (items_after number command items)
unfolding IfInstalled
each_after P Q number (install name content) items w new h =
    all_after (EachEdition P) (EachEdition Q) number (install name content) items (λ item p. all_weaker P Q w (editions_of item) p) (λ item p. each_installed P Q w (record { number = number; content = content }) new item p) (new, tt) h
each_after P Q number (rollback name) items w new h =
    all_after (EachEdition P) (EachEdition Q) number (rollback name) items (λ item p. all_weaker P Q w (editions_of item) p) (λ item p. each_swapped Q item (all_weaker P Q w (editions_of item) p)) tt h
each_after P Q number (retire name) items w new h =
    all_after (EachEdition P) (EachEdition Q) number (retire name) items (λ item p. all_weaker P Q w (editions_of item) p) (λ item p. all_weaker P Q w (editions_of item) p) tt h
each_after P Q number (put_virtual name title members) items w new h =
    all_after (EachEdition P) (EachEdition Q) number (put_virtual name title members) items (λ item p. all_weaker P Q w (editions_of item) p) (λ item p. each_put Q name title members item (all_weaker P Q w (editions_of item) p)) tt h
each_after P Q number (place name at) items w new h =
    all_after (EachEdition P) (EachEdition Q) number (place name at) items (λ item p. all_weaker P Q w (editions_of item) p) (λ item p. all_weaker P Q w (editions_of item) p) tt h

editions_lawful : (number : ℕ) (command : Command Edition) (items : List (Item Edition)) → IsLawfulCommand command → AllByRecursion HasWellFormedEditions items → AllByRecursion HasWellFormedEditions (items_after number command items)
unfolding IfInstalled
editions_lawful number (install name content) items l h = each_after (λ one. IsWellFormedEdition one.content) (λ one. IsWellFormedEdition one.content) number (install name content) items (λ one p. p) l h
editions_lawful number (rollback name) items l h = each_after (λ one. IsWellFormedEdition one.content) (λ one. IsWellFormedEdition one.content) number (rollback name) items (λ one p. p) tt h
editions_lawful number (retire name) items l h = each_after (λ one. IsWellFormedEdition one.content) (λ one. IsWellFormedEdition one.content) number (retire name) items (λ one p. p) tt h
editions_lawful number (put_virtual name title members) items l h = each_after (λ one. IsWellFormedEdition one.content) (λ one. IsWellFormedEdition one.content) number (put_virtual name title members) items (λ one p. p) tt h
editions_lawful number (place name at) items l h = each_after (λ one. IsWellFormedEdition one.content) (λ one. IsWellFormedEdition one.content) number (place name at) items (λ one p. p) tt h

abbrev InRange : {A : Type 0} → ℕ → Stored A → Type 0
InRange most one = (1 ≤ one.number) × (one.number ≤ most)

from_numbers : {A : Type 0} (most : ℕ) (editions : List (Stored A)) → AllByRecursion (λ number. (1 ≤ number) × (number ≤ most)) (map (λ stored. stored.number) editions) → AllByRecursion (InRange most) editions
from_numbers most [] h = tt
from_numbers most (one ∷ editions) h = (h.0, from_numbers most editions h.1)

to_numbers : {A : Type 0} (most : ℕ) (editions : List (Stored A)) → AllByRecursion (InRange most) editions → AllByRecursion (λ number. (1 ≤ number) × (number ≤ most)) (map (λ stored. stored.number) editions)
to_numbers most [] h = tt
to_numbers most (one ∷ editions) h = (h.0, to_numbers most editions h.1)

in_range : (most : ℕ) (items : List (Item Edition)) → AllByRecursion (λ number. (1 ≤ number) × (number ≤ most)) (edition_numbers items) → AllByRecursion (EachEdition (InRange most)) items
in_range most items h =
    all_weaker (λ item. AllByRecursion (λ number. (1 ≤ number) × (number ≤ most)) (numbers_of item)) (EachEdition (InRange most)) (λ item p. from_numbers most (editions_of item) p) items
    (all_flat_map_parts (λ number. (1 ≤ number) × (number ≤ most)) numbers_of items h)

range_of : (most : ℕ) (items : List (Item Edition)) → AllByRecursion (EachEdition (InRange most)) items → AllByRecursion (λ number. (1 ≤ number) × (number ≤ most)) (edition_numbers items)
range_of most items h =
    all_flat_map (λ number. (1 ≤ number) × (number ≤ most)) numbers_of items
    (all_weaker (EachEdition (InRange most)) (λ item. AllByRecursion (λ number. (1 ≤ number) × (number ≤ most)) (numbers_of item)) (λ item p. to_numbers most (editions_of item) p) items h)

range_after : (installs : ℕ) (command : Command Edition) (items : List (Item Edition)) → AllByRecursion (λ number. (1 ≤ number) × (number ≤ installs)) (edition_numbers items) →
    AllByRecursion (λ number. (1 ≤ number) × (number ≤ installs_after command installs)) (edition_numbers (items_after (installs + 1) command items))
unfolding IfInstalled
range_after installs (install name content) items h =
    range_of (installs + 1) (items_after (installs + 1) (install name content) items)
    (each_after (InRange installs) (InRange (installs + 1)) (installs + 1) (install name content) items (λ one p. (p.0, omega (arith, p.1))) (omega arith, omega arith) (in_range installs items h))
range_after installs (rollback name) items h =
    range_of installs (items_after (installs + 1) (rollback name) items) (each_after (InRange installs) (InRange installs) (installs + 1) (rollback name) items (λ one p. p) tt (in_range installs items h))
range_after installs (retire name) items h =
    range_of installs (items_after (installs + 1) (retire name) items) (each_after (InRange installs) (InRange installs) (installs + 1) (retire name) items (λ one p. p) tt (in_range installs items h))
range_after installs (put_virtual name title members) items h =
    range_of installs (items_after (installs + 1) (put_virtual name title members) items)
    (each_after (InRange installs) (InRange installs) (installs + 1) (put_virtual name title members) items (λ one p. p) tt (in_range installs items h))
range_after installs (place name at) items h =
    range_of installs (items_after (installs + 1) (place name at) items) (each_after (InRange installs) (InRange installs) (installs + 1) (place name at) items (λ one p. p) tt (in_range installs items h))

-- members

-- each name of a regular item is still one
Keeps : List (Item Edition) → List (Item Edition) → Type 0
Keeps items after = (member : List ℕ) → IsTrue (names_regular items member) → IsTrue (names_regular after member)

keeps_turned : (number : ℕ) (command : Command Edition) (items : List (Item Edition)) → Keeps items (changed_in_place number command items)
unfolding Keeps
keeps_turned number command items = λ member h. regular_named_turned number command items member ∙ h

keeps_added : (items : List (Item Edition)) (last : Item Edition) → Keeps items (items ++ last ∷ [])
unfolding Keeps
keeps_added items last = λ member h. any_append_left (λ item. is_named member item && is_regular item) items (last ∷ []) h

keeps_moved : (name : List ℕ) (at : ℕ) (items : List (Item Edition)) → Keeps items (moved name at items)
unfolding Keeps
keeps_moved name at items = λ member h. any_moved (λ item. is_named member item && is_regular item) (is_named name) at items ∙ h

known_weaker : (items after : List (Item Edition)) → Keeps items after → (item : Item Edition) → HasKnownMembers items item → HasKnownMembers after item
unfolding Keeps
known_weaker items after k item h = all_weaker (λ member. IsTrue (names_regular items member)) (λ member. IsTrue (names_regular after member)) (λ member p. k member p) (members_of item) h

known_installed : (after : List (Item Edition)) (edition : Stored Edition) (item : Item Edition) → HasKnownMembers after item → HasKnownMembers after (installed edition item)
known_installed after edition (regular n current former) h = tt
known_installed after edition (virtual n title members) h = h

known_swapped : (after : List (Item Edition)) (item : Item Edition) → HasKnownMembers after item → HasKnownMembers after (swapped item)
known_swapped after (regular n current None) h = tt
known_swapped after (regular n current (Some former)) h = tt
known_swapped after (virtual n title members) h = h

known_put : (after : List (Item Edition)) (name title : List ℕ) (members : List (List ℕ)) (item : Item Edition) → HasKnownMembers after (virtual name title members) → HasKnownMembers after item
    → HasKnownMembers after (put_anew name title members item)
known_put after name title members (regular n current former) new h = tt
known_put after name title members (virtual n t ms) new h = new

all_both : {X : Type 0} (P Q : X → Type 0) (xs : List X) → AllByRecursion P xs → AllByRecursion Q xs → AllByRecursion (λ x. P x × Q x) xs
all_both P Q [] h g = tt
all_both P Q (x ∷ xs) h g = ((h.0, g.0), all_both P Q xs h.1 g.1)

-- an item of another name is not the one that is taken out
other_name : (name member : List ℕ) → bytes_eq member name ≡ false → (item : Item Edition) → (is_named member item && is_regular item) ≡ true → not (is_named name item) ≡ true
other_name name member e item h =
    let named : is_named member item ≡ true = (and_parts (is_named member item) (is_regular item) h).0 in
    not_from_false (is_named name item) (subst (λ (text : List ℕ). bytes_eq text name ≡ false) (sym (same_text (name_of item) member named)) e)

known_kept : (name : List ℕ) (items : List (Item Edition)) (members : List (List ℕ)) → AllByRecursion (λ member. IsTrue (names_regular items member)) members → AllByRecursion (λ member. bytes_eq member name ≡ false) members →
    AllByRecursion (λ member. IsTrue (names_regular (others_than name items) member)) members
known_kept name items [] h g = tt
known_kept name items (member ∷ members) h g =
    (any_filter (λ item. is_named member item && is_regular item) (λ item. not (is_named name item)) (other_name name member g.0) items h.0, known_kept name items members h.1 g.1)

members_retired : (name : List ℕ) (items : List (Item Edition)) → is_listed items name ≡ false → AllByRecursion (HasKnownMembers items) items → AllByRecursion (HasKnownMembers (others_than name items)) (others_than name items)
members_retired name items unlisted h =
    all_filter (HasKnownMembers (others_than name items)) (λ item. not (is_named name item)) items
    (all_weaker (λ item. HasKnownMembers items item × (lists name item ≡ false)) (HasKnownMembers (others_than name items))
    (λ item p. known_kept name items (members_of item) p.0 (none_passes (λ member. bytes_eq member name) (members_of item) p.1)) items
    (all_both (HasKnownMembers items) (λ item. lists name item ≡ false) items h (none_passes (lists name) items unlisted)))

keeps_installed : (number : ℕ) (name : List ℕ) (content : Edition) (items : List (Item Edition)) → Keeps items (items_after number (install name content) items)
keeps_installed number name content items =
    by_test (Keeps items) (is_known items name) (changed_in_place number (install name content) items) (items ++ regular name (record { number = number; content = content }) None ∷ [])
    (λ e. keeps_turned number (install name content) items) (λ e. keeps_added items (regular name (record { number = number; content = content }) None))

keeps_put : (number : ℕ) (name title : List ℕ) (members : List (List ℕ)) (items : List (Item Edition)) → Keeps items (items_after number (put_virtual name title members) items)
keeps_put number name title members items =
    by_test (Keeps items) (is_known items name) (changed_in_place number (put_virtual name title members) items) (items ++ virtual name title members ∷ [])
    (λ e. keeps_turned number (put_virtual name title members) items) (λ e. keeps_added items (virtual name title members))

members_after : (number : ℕ) (command : Command Edition) (before : Holdings Edition) → AllHold (tests_of before command) → AllByRecursion (HasKnownMembers before.items) before.items →
    AllByRecursion (HasKnownMembers (items_after number command before.items)) (items_after number command before.items)
members_after number (install name content) before tests h =
    let after : List (Item Edition) = items_after number (install name content) before.items in
    let keeps : Keeps before.items after = keeps_installed number name content before.items in
    all_after (HasKnownMembers before.items) (HasKnownMembers after) number (install name content) before.items (known_weaker before.items after keeps)
    (λ item p. known_installed after (record { number = number; content = content }) item (known_weaker before.items after keeps item p)) tt h
members_after number (rollback name) before tests h =
    let after : List (Item Edition) = items_after number (rollback name) before.items in
    let keeps : Keeps before.items after = keeps_turned number (rollback name) before.items in
    all_after (HasKnownMembers before.items) (HasKnownMembers after) number (rollback name) before.items (known_weaker before.items after keeps)
    (λ item p. known_swapped after item (known_weaker before.items after keeps item p)) tt h
members_after number (retire name) before tests h = members_retired name before.items (not-true (is_listed before.items name) tests.1.1.0) h
members_after number (put_virtual name title members) before tests h =
    let after : List (Item Edition) = items_after number (put_virtual name title members) before.items in
    let keeps : Keeps before.items after = keeps_put number name title members before.items in
    let new : HasKnownMembers after (virtual name title members) = known_weaker before.items after keeps (virtual name title members) (tested_regular before.items [] members _ tests.1.1.1.1) in
    all_after (HasKnownMembers before.items) (HasKnownMembers after) number (put_virtual name title members) before.items (known_weaker before.items after keeps)
    (λ item p. known_put after name title members item new (known_weaker before.items after keeps item p)) new h
members_after number (place name at) before tests h =
    let after : List (Item Edition) = moved name at before.items in
    let keeps : Keeps before.items after = keeps_moved name at before.items in
    all_after (HasKnownMembers before.items) (HasKnownMembers after) number (place name at) before.items (known_weaker before.items after keeps) (known_weaker before.items after keeps) tt h

-- the kept replies

last_named : (number : ℕ) (name : List ℕ) (content : Edition) → list_any (is_named name) (regular name (record { number = number; content = content }) None ∷ []) ≡ true
last_named number name content = rw (text_itself name) refl

last_regular : (number : ℕ) (name : List ℕ) (content : Edition) (b : Bool) → b ≡ false → (b || list_any (λ item. is_named name item && is_virtual item) (regular name (record { number = number; content = content }) None ∷ [])) ≡ false
last_regular number name content b e = rw (e, text_itself name) refl

current_installed : (number : ℕ) (name : List ℕ) (content : Edition) (items : List (Item Edition)) → names_virtual items name ≡ false → is_some (current_number (items_after number (install name content) items) name) ≡ true
current_installed number name content items v =
    by_test (λ (after : List (Item Edition)). is_some (current_number after name) ≡ true) (is_known items name) (changed_in_place number (install name content) items)
    (items ++ regular name (record { number = number; content = content }) None ∷ [])
    (λ e. current_there (changed_in_place number (install name content) items) name (known_turned number (install name content) items name ∙ e) (virtual_named_turned number (install name content) items name ∙ v))
    (λ e. current_there (items ++ regular name (record { number = number; content = content }) None ∷ []) name
    (any_append_right (is_named name) items (regular name (record { number = number; content = content }) None ∷ []) (last_named number name content))
    (list_any-append (λ item. is_named name item && is_virtual item) items (regular name (record { number = number; content = content }) None ∷ []) ∙ last_regular number name content (names_virtual items name) v))

told_lawful : (number : ℕ) (command : Command Edition) (before : Holdings Edition) → AllHold (tests_of before command) → is_some (edition_told command (items_after number command before.items)) ≡ tells_edition (verb_of command)
told_lawful number (install name content) before tests = current_installed number name content before.items (not-true (names_virtual before.items name) tests.1.0)
told_lawful number (rollback name) before tests =
    current_there (changed_in_place number (rollback name) before.items) name (known_turned number (rollback name) before.items name ∙ tests.1.0)
    (virtual_named_turned number (rollback name) before.items name ∙ not-true (names_virtual before.items name) tests.1.1.0)
told_lawful number (retire name) before tests = refl
told_lawful number (put_virtual name title members) before tests = refl
told_lawful number (place name at) before tests = refl

named_lawful : (command : Command Edition) (before : Holdings Edition) → AllHold (tests_of before command) → IsTrue (is_name (target command))
named_lawful (install name content) before tests = tests.0
named_lawful (rollback name) before tests = tests.0
named_lawful (retire name) before tests = tests.0
named_lawful (put_virtual name title members) before tests = tests.0
named_lawful (place name at) before tests = tests.0

room_turn : {A : Type 0} (before : Holdings A) (name : List ℕ) → has_room before name ≡ true → has_turn before ≡ true
room_turn before name h = (and_parts (is_known before.items name || nat_lt (length before.items) 64) (has_turn before) h).1

turned_in_time : {A : Type 0} (command : Command A) (before : Holdings A) → AllHold (tests_of before command) → has_turn before ≡ true
turned_in_time (install name content) before tests = room_turn before name tests.1.1.0
turned_in_time (rollback name) before tests = tests.1.1.1.1.0
turned_in_time (retire name) before tests = tests.1.1.1.0
turned_in_time (put_virtual name title members) before tests = room_turn before name (tested_later before.items [] members _ tests.1.1.1.1).0
turned_in_time (place name at) before tests = tests.1.1.1.0

-- a command that isn't refused has its turn
pub has_its_turn : {A : Type 0} (before : Holdings A) (command : Command A) → refusal_of before command ≡ None → has_turn before ≡ true
has_its_turn before command passed = turned_in_time command before (all_hold (tests_of before command) passed)

-- an install that isn't refused is of no virtual item
pub installs_no_virtual : {A : Type 0} (before : Holdings A) (name : List ℕ) (content : A) → refusal_of before (install name content) ≡ None → names_virtual before.items name ≡ false
installs_no_virtual before name content passed =
    let tests : AllHold (tests_of before (install name content)) = all_hold (tests_of before (install name content)) passed in
    not-true (names_virtual before.items name) tests.1.0

below_most : (accepted : ℕ) → nat_lt accepted 9223372036854775807 ≡ true → accepted + 1 ≤ 9223372036854775807
below_most accepted h = grind (arith, nat_tests)

unkept_head : (one : KeptFor) (kept : List KeptFor) (id : List ℕ) (b : Bool) (rest : Bool) → cond b (Some one.reply) (kept_under kept id) ≡ None → (kept_under kept id ≡ None → rest ≡ false) → (b || rest) ≡ false
unkept_head one kept id true rest h g = cc
unkept_head one kept id false rest h g = g h

unkept : (kept : List KeptFor) (id : List ℕ) → kept_under kept id ≡ None → is_among (map (λ one. one.id) kept) id ≡ false
unkept [] id h = refl
unkept (one ∷ kept) id h = unkept_head one kept id (bytes_eq one.id id) (is_among (map (λ each. each.id) kept) id) h (unkept kept id)

numbered_more : (number : ℕ) (kept : List KeptFor) (last : KeptFor) → IsNumberedFrom number kept → last.reply.number ≡ number + length kept → IsNumberedFrom number (kept ++ last ∷ [])
numbered_more number [] last h e = (omega (arith, e), tt)
numbered_more number (one ∷ kept) last h e = (h.0, numbered_more (number + 1) kept last h.1 (omega (arith, e)))

installs_counted : (command : Command Edition) (installs : ℕ) → installs_after command installs ≡ installs + (cond (is_install (verb_of command)) 1 0 + 0)
installs_counted (install name content) installs = omega arith
installs_counted (rollback name) installs = omega arith
installs_counted (retire name) installs = omega arith
installs_counted (put_virtual name title members) installs = omega arith
installs_counted (place name at) installs = omega arith

-- the whole

well_formed_effect : (M : Catalogue) (id : List ℕ) (command : Command Edition) → IsTrue (is_request_id id) → kept_under M.kept id ≡ None → AllHold (tests_of (holdings M) command) → IsLawfulCommand command →
    IsWellFormed M → IsWellFormed (with_effect M id command)
well_formed_effect M id command lawful new tests l w =
    let reply : KeptFor = record { id = id; reply = reply_to command (effect command (holdings M)) } in
    record {
      item_limit = limit_after (M.installs + 1) command (holdings M) tests w.item_limit;
      items = items_lawful (M.installs + 1) command (holdings M) tests l w.items;
      editions = editions_lawful (M.installs + 1) command M.items l w.editions;
      names = names_after (M.installs + 1) command M.items w.names;
      members = members_after (M.installs + 1) command (holdings M) tests w.members;
      accepted_limit = rw (length-append M.kept (reply ∷ [])) (below_most (length M.kept) (turned_in_time command (holdings M) tests));
      replies = all_append IsLawfulReply M.kept (reply ∷ []) w.replies ((lawful, named_lawful command (holdings M) tests, told_lawful (M.installs + 1) command (holdings M) tests), tt);
      ids = subst IsEachOnce (sym (map-append (λ (one : KeptFor). one.id) M.kept (reply ∷ []))) (once_added (map (λ one. one.id) M.kept) id (unkept M.kept id new) w.ids);
      numbered = numbered_more 1 M.kept reply w.numbered (omega arith);
      installs = installs_counted command M.installs ∙ ap (λ n. n + (cond (is_install (verb_of command)) 1 0 + 0)) w.installs ∙ sym (sum_append (λ (kept : KeptFor). cond (is_install kept.reply.verb) 1 0) M.kept (reply ∷ []));
      edition_range = range_after M.installs command M.items w.edition_range;
      edition_once = numbers_after M.installs command M.items w.edition_range w.names w.edition_once;
    }

left_well_formed : (M : Catalogue) (id : List ℕ) (command : Command Edition) (outcome : Outcome) → IsStep M id command outcome → IsLawfulCommand command → IsWellFormed M → IsWellFormed outcome.catalogue
left_well_formed M id command outcome (id_unlawful e o) l w = subst (λ (left : Outcome). IsWellFormed left.catalogue) (sym o) w
left_well_formed M id command outcome (id_kept reply e k o) l w = subst (λ (left : Outcome). IsWellFormed left.catalogue) (sym o) w
left_well_formed M id command outcome (test_failed refusal e k f o) l w = subst (λ (left : Outcome). IsWellFormed left.catalogue) (sym o) w
left_well_formed M id command outcome (none_failed e k h o) l w = subst (λ (left : Outcome). IsWellFormed left.catalogue) (sym o) (well_formed_effect M id command e k h l w)

pub step_well_formed : (M : Catalogue) (id : List ℕ) (command : Command Edition) → IsLawfulCommand command → IsWellFormed M → IsWellFormed (step M id command).catalogue
step_well_formed M id command l w = left_well_formed M id command (step M id command) (step_is M id command (step M id command) refl) l w

pub empty_well_formed : IsWellFormed (record { items = []; kept = []; installs = 0 })
empty_well_formed = record {
  item_limit = omega arith;
  items = tt;
  editions = tt;
  names = λ text. omega arith;
  members = tt;
  accepted_limit = omega arith;
  replies = tt;
  ids = λ text. omega arith;
  numbered = tt;
  installs = refl;
  edition_range = tt;
  edition_once = λ number. omega arith;
}
