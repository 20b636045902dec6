-- Which databases a word asks, by their places; and of how many places there is room.
use Rattle.std.proofs.Common.{◌≡◌, ℕ, zero, suc, ◌+◌, ◌≤◌, List, [], ◌∷◌, ◌++◌, Bool, true, false, ◌&&◌, arith, length, map, drop, refl, sym, ap, ◌∙◌, subst, length-append, codes}
use Rattle.std.specs.Prelude.{Option, None, Some, option_map, slice_get, find, if◌then◌else◌}
use Rattle.std.specs.List.{flat_map, AllByRecursion}
use Rattle.std.specs.Str.{bytes_eq}
use Rattle.std.proofs.lemmas.List.Concat.{flat_map-append}
use Rattle.dict_index.specs.Edition.{Edition}
use Rattle.dict_catalogue.specs.Items.{Item, regular, virtual, name_of, is_named, is_regular, item_as}
use Rattle.dict_catalogue.specs.Steps.{Catalogue}
use Rattle.dict_catalogue.specs.WellFormed.{IsWellFormed, IsEachOnce, IsLawfulItem, how_many}
use Rattle.dict_desk.specs.Asked.{Database, databases, databases_named, databases_of, first_finding, searched}
use Rattle.dict_session.specs.Places.{places_from, places_named, places_by, places_under, asked_in, is_regular_named, AskedPlaces}
use Rattle.dict_session.specs.Rows.{at_place, regular_as, answering}
use Rattle.dict_session.specs.declared.query.Query.{Query}
use Rattle.dict_session.proofs.FoundLemmas.{at_places, first_over}

-- ---- a summary asks as its catalogue does, since only names and kinds of items are looked at

module _ {A B : Type 0} (f : A → B) where
  name_as : (item : Item A) → name_of (item_as f item) ≡ name_of item
  name_as (regular name current former) = refl
  name_as (virtual name title members) = refl

  regular_as_well : (item : Item A) → is_regular (item_as f item) ≡ is_regular item
  regular_as_well (regular name current former) = refl
  regular_as_well (virtual name title members) = refl

  pub named_as : (word : List ℕ) (item : Item A) → is_named word (item_as f item) ≡ is_named word item
  named_as word item = ap (λ name. bytes_eq name word) (name_as item)

  pub regular_named_as : (word : List ℕ) (item : Item A) → is_regular_named word (item_as f item) ≡ is_regular_named word item
  regular_named_as word item = rw (named_as word item, regular_as_well item) refl

  places_as : (test : Item B → Bool) (test' : Item A → Bool) → ((item : Item A) → test (item_as f item) ≡ test' item) → (n : ℕ) (items : List (Item A)) → places_from test n (map (item_as f) items) ≡ places_from test' n items
  places_as test test' same n [] = refl
  places_as test test' same n (item ∷ items) =
      ap (λ b. if b then n ∷ places_from test (n + 1) (map (item_as f) items) else places_from test (n + 1) (map (item_as f) items)) (same item)
      ∙ ap (λ l. if test' item then n ∷ l else l) (places_as test test' same (n + 1) items)

  members_as : (items : List (Item A)) (members : List (List ℕ)) → flat_map (places_named (map (item_as f) items)) members ≡ flat_map (places_named items) members
  members_as items [] = refl
  members_as items (member ∷ members) =
      ap (λ l. l ++ flat_map (places_named (map (item_as f) items)) members) (places_as (is_regular_named member) (is_regular_named member) (regular_named_as member) 0 items)
      ∙ ap (λ l. places_named items member ++ l) (members_as items members)

  by_as : (items : List (Item A)) (place : ℕ) (item : Item A) → places_by (map (item_as f) items) place (item_as f item) ≡ places_by items place item
  by_as items place (regular name current former) = refl
  by_as items place (virtual name title members) = members_as items members

  under_as : (all : List (Item A)) (word : List ℕ) (n : ℕ) (items : List (Item A)) → places_under (map (item_as f) all) word n (map (item_as f) items) ≡ places_under all word n items
  under_as all word n [] = refl
  under_as all word n (item ∷ items) =
      ap (λ b. if b then Some (places_by (map (item_as f) all) n (item_as f item)) else places_under (map (item_as f) all) word (n + 1) (map (item_as f) items)) (named_as word item)
      ∙ (ap (λ l. if is_named word item then Some l else places_under (map (item_as f) all) word (n + 1) (map (item_as f) items)) (by_as all n item)
      ∙ ap (λ o. if is_named word item then Some (places_by all n item) else o) (under_as all word (n + 1) items))

  pub asked_as : (items : List (Item A)) (word : List ℕ) → asked_in (map (item_as f) items) word ≡ asked_in items word
  asked_as items word =
      ap (λ (l : List ℕ). by_word l (option_map of_name (places_under (map (item_as f) items) word 0 (map (item_as f) items)))) (places_as is_regular is_regular regular_as_well 0 items)
      ∙ ap (λ (o : Option (List ℕ)). by_word (places_from is_regular 0 items) (option_map of_name o)) (under_as items word 0 items)
    where
      of_name : List ℕ → AskedPlaces
      of_name places = record { places = places; is_first = false }

      by_word : List ℕ → Option AskedPlaces → Option AskedPlaces
      by_word l o = if bytes_eq word (codes "*") then Some (record { places = l; is_first = false }) else if bytes_eq word (codes "!") then Some (record { places = l; is_first = true }) else o

-- ---- what stands at the places

tail_of : {X : Type 0} (all : List X) (n : ℕ) (x : X) (xs : List X) → x ∷ xs ≡ drop n all → (slice_get all n ≡ Some x) × (xs ≡ drop (n + 1) all)
tail_of [] zero x xs e = cc
tail_of [] (suc n) x xs e = cc
tail_of (y ∷ all) zero x xs e = (cc, cc)
tail_of (y ∷ all) (suc n) x xs e =
    let later = tail_of all n x xs e in
    let same : suc (n + 1) ≡ suc n + 1 = omega arith in
    (later.0, later.1 ∙ ap (λ k. drop k (y ∷ all)) same)

-- the regular items of a list that pass a test of items
abbrev those : (Item Edition → Bool) → List (Item Edition) → List Database
those test [] = []
those test (regular name current former ∷ items) = if test (regular name current former) then record { name = name; edition = current.content } ∷ those test items else those test items
those test (virtual name title members ∷ items) = those test items

-- the test tells regular items alone
abbrev IsOfRegular : (Item Edition → Bool) → Type 0
IsOfRegular test = (name title : List ℕ) (members : List (List ℕ)) → test (virtual name title members) ≡ false

places_stand : (test : Item Edition → Bool) → IsOfRegular test → (all : List (Item Edition)) (n : ℕ) (items : List (Item Edition)) → items ≡ drop n all → at_places all (places_from test n items) ≡ those test items
places_stand test only all n [] e = refl
places_stand test only all n (regular name current former ∷ items) e =
    let at = tail_of all n (regular name current former) items e in
    by_test (test (regular name current former)) (ap regular_as at.0) (places_stand test only all (n + 1) items at.1)
  where
    here : Database
    here = record { name = name; edition = current.content }

    by_test : (b : Bool) → at_place all n ≡ here ∷ [] → at_places all (places_from test (n + 1) items) ≡ those test items
        → at_places all (if b then n ∷ places_from test (n + 1) items else places_from test (n + 1) items) ≡ (if b then here ∷ those test items else those test items)
    by_test true e f = ap (λ l. l ++ at_places all (places_from test (n + 1) items)) e ∙ ap (λ l. here ∷ l) f
    by_test false e f = f
places_stand test only all n (virtual name title members ∷ items) e =
    let at = tail_of all n (virtual name title members) items e in
    ap (λ b. at_places all (if b then n ∷ places_from test (n + 1) items else places_from test (n + 1) items)) (only name title members) ∙ places_stand test only all (n + 1) items at.1

those_all : (items : List (Item Edition)) → those is_regular items ≡ databases items
those_all [] = refl
those_all (regular name current former ∷ items) = ap (λ l. record { name = name; edition = current.content } ∷ l) (those_all items)
those_all (virtual name title members ∷ items) = those_all items

and_true : (b : Bool) → (b && true) ≡ b
and_true true = refl
and_true false = refl

and_false : (b : Bool) → (b && false) ≡ false
and_false true = refl
and_false false = refl

those_named : (word : List ℕ) (items : List (Item Edition)) → those (is_regular_named word) items ≡ databases_named items word
those_named word [] = refl
those_named word (regular name current former ∷ items) =
    ap (λ b. if b then record { name = name; edition = current.content } ∷ those (is_regular_named word) items else those (is_regular_named word) items) (and_true (bytes_eq name word))
    ∙ ap (λ l. if bytes_eq name word then record { name = name; edition = current.content } ∷ l else l) (those_named word items)
those_named word (virtual name title members ∷ items) = those_named word items

all_stand : (items : List (Item Edition)) → at_places items (places_from is_regular 0 items) ≡ databases items
all_stand items = places_stand is_regular (λ name title members. refl) items 0 items refl ∙ those_all items

named_stand : (items : List (Item Edition)) (word : List ℕ) → at_places items (places_named items word) ≡ databases_named items word
named_stand items word = places_stand (is_regular_named word) (λ name title members. and_false (bytes_eq name word)) items 0 items refl ∙ those_named word items

members_stand : (items : List (Item Edition)) (members : List (List ℕ)) → at_places items (flat_map (places_named items) members) ≡ flat_map (databases_named items) members
members_stand items [] = refl
members_stand items (member ∷ members) =
    flat_map-append (at_place items) (places_named items member) (flat_map (places_named items) members)
    ∙ (ap (λ l. l ++ at_places items (flat_map (places_named items) members)) (named_stand items member) ∙ ap (λ l. databases_named items member ++ l) (members_stand items members))

item_stands : (items : List (Item Edition)) (n : ℕ) (item : Item Edition) → slice_get items n ≡ Some item → at_places items (places_by items n item) ≡ databases_of items item
item_stands items n (regular name current former) e = ap (λ o. regular_as o ++ []) e
item_stands items n (virtual name title members) e = members_stand items members

under_stands : (all : List (Item Edition)) (word : List ℕ) (n : ℕ) (items : List (Item Edition)) → items ≡ drop n all
    → option_map (at_places all) (places_under all word n items) ≡ option_map (databases_of all) (find (is_named word) items)
under_stands all word n [] e = refl
under_stands all word n (item ∷ items) e =
    let at = tail_of all n item items e in
    by_test (is_named word item) (item_stands all n item at.0) (under_stands all word (n + 1) items at.1)
  where
    by_test : (b : Bool) → at_places all (places_by all n item) ≡ databases_of all item → option_map (at_places all) (places_under all word (n + 1) items) ≡ option_map (databases_of all) (find (is_named word) items)
        → option_map (at_places all) (if b then Some (places_by all n item) else places_under all word (n + 1) items) ≡ option_map (databases_of all) (if b then Some item else find (is_named word) items)
    by_test true e f = ap Some e
    by_test false e f = f

-- ---- there is room for the places

places_few : {X : Type 0} (test : X → Bool) (n : ℕ) (xs : List X) → length (places_from test n xs) ≤ length xs
places_few test n [] = omega arith
places_few test n (x ∷ xs) = by_test (test x) (places_few test (n + 1) xs)
  where
    by_test : (b : Bool) → length (places_from test (n + 1) xs) ≤ length xs → length (if b then n ∷ places_from test (n + 1) xs else places_from test (n + 1) xs) ≤ suc (length xs)
    by_test true h = omega (arith, h)
    by_test false h = omega (arith, h)

named_few : (word : List ℕ) (n : ℕ) (items : List (Item Edition)) → length (places_from (is_regular_named word) n items) ≤ how_many (λ one. bytes_eq one word) (map name_of items)
named_few word n [] = omega arith
named_few word n (item ∷ items) = by_test (is_named word item) (is_regular item) (named_few word (n + 1) items)
  where
    by_test : (a b : Bool) → length (places_from (is_regular_named word) (n + 1) items) ≤ how_many (λ one. bytes_eq one word) (map name_of items)
        → length (if a && b then n ∷ places_from (is_regular_named word) (n + 1) items else places_from (is_regular_named word) (n + 1) items) ≤ (if a then 1 else 0) + how_many (λ one. bytes_eq one word) (map name_of items)
    by_test true true h = omega (arith, h)
    by_test true false h = omega (arith, h)
    by_test false b h = omega (arith, h)

members_few : (items : List (Item Edition)) → IsEachOnce (map name_of items) → (members : List (List ℕ)) → length (flat_map (places_named items) members) ≤ length members
members_few items once [] = omega arith
members_few items once (member ∷ members) =
    omega (arith, length-append (places_named items member) (flat_map (places_named items) members), named_few member 0 items, once member, members_few items once members)

by_few : (items : List (Item Edition)) (n : ℕ) (item : Item Edition) → IsEachOnce (map name_of items) → IsLawfulItem item → length (places_by items n item) ≤ 64
by_few items n (regular name current former) once lawful = omega arith
by_few items n (virtual name title members) once lawful = omega (arith, members_few items once members, lawful.3)

under_few : (all : List (Item Edition)) (word : List ℕ) (n : ℕ) (items : List (Item Edition)) (places : List ℕ) → IsEachOnce (map name_of all) → AllByRecursion IsLawfulItem items
    → places_under all word n items ≡ Some places → length places ≤ 64
under_few all word n [] places once lawful e = cc
under_few all word n (item ∷ items) places once lawful e = by_test (is_named word item) (under_few all word (n + 1) items places once lawful.1) e
  where
    by_test : (b : Bool) → (places_under all word (n + 1) items ≡ Some places → length places ≤ 64) → (if b then Some (places_by all n item) else places_under all word (n + 1) items) ≡ Some places → length places ≤ 64
    by_test true later e = let same : places_by all n item ≡ places = cc in subst (λ (l : List ℕ). length l ≤ 64) same (by_few all n item once lawful.0)
    by_test false later e = later e

pub asked_few : (M : Catalogue) (word : List ℕ) (asking : AskedPlaces) → IsWellFormed M → asked_in M.items word ≡ Some asking → length asking.places ≤ 64
asked_few M word asking w e = by_tests (bytes_eq word (codes "*")) (bytes_eq word (codes "!")) (places_under M.items word 0 M.items) refl e
  where
    all : List ℕ
    all = places_from is_regular 0 M.items

    all_few : length all ≤ 64
    all_few = omega (arith, places_few is_regular 0 M.items, w.item_limit)

    by_tests : (a b : Bool) (o : Option (List ℕ)) → places_under M.items word 0 M.items ≡ o
        → (if a then Some (record { places = all; is_first = false }) else if b then Some (record { places = all; is_first = true }) else option_map
        (λ (places : List ℕ). let made : AskedPlaces = record { places = places; is_first = false } in made) o) ≡ Some asking
        → length asking.places ≤ 64
    by_tests true b o is e = let same : all ≡ asking.places = cc in subst (λ (l : List ℕ). length l ≤ 64) same all_few
    by_tests false true o is e = let same : all ≡ asking.places = cc in subst (λ (l : List ℕ). length l ≤ 64) same all_few
    by_tests false false None is e = cc
    by_tests false false (Some places) is e = let same : places ≡ asking.places = cc in subst (λ (l : List ℕ). length l ≤ 64) same (under_few M.items word 0 M.items places w.names w.items is)

-- ---- the databases that a word asks

pub searched_are : (M : Catalogue) (word : List ℕ) (query : Query) → searched M word query.strategy query.key
    ≡ option_map (λ (asking : AskedPlaces). at_places M.items (answering query M.items asking.places asking.is_first)) (asked_in M.items word)
unfolding searched
searched_are M word query = by_tests (bytes_eq word (codes "*")) (bytes_eq word (codes "!"))
  where
    all : List ℕ
    all = places_from is_regular 0 M.items

    given : AskedPlaces → List Database
    given asking = at_places M.items (answering query M.items asking.places asking.is_first)

    named : (o : Option (List ℕ)) → option_map (at_places M.items) o ≡ option_map given (option_map (λ (places : List ℕ). let made : AskedPlaces = record { places = places; is_first = false } in made) o)
    named None = refl
    named (Some places) = refl

    by_tests : (a b : Bool) → (if a then Some (databases M.items) else if b then Some (first_finding query.strategy query.key (databases M.items)) else option_map (databases_of M.items) (find (is_named word) M.items))
        ≡ option_map given (if a then Some (record { places = all; is_first = false }) else if b then Some (record { places = all; is_first = true }) else option_map
        (λ (places : List ℕ). let made : AskedPlaces = record { places = places; is_first = false } in made) (places_under M.items word 0 M.items))
    by_tests true b = ap Some (sym (all_stand M.items))
    by_tests false true = ap Some (ap (first_finding query.strategy query.key) (sym (all_stand M.items)) ∙ sym (first_over query M.items all))
    by_tests false false = sym (under_stands M.items word 0 M.items refl) ∙ named (places_under M.items word 0 M.items)
