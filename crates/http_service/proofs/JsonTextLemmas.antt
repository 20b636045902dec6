-- The compact texts of values.
use Rattle.std.proofs.Common.{◌≡◌, ℕ, true, false, ◌||◌, List, [], ◌∷◌, ◌++◌, map, Option, Some, None, codes, refl, sym, ap, ◌∙◌, append_assoc}
use Rattle.json.specs.Print.{quoted}
use Rattle.serde_json.specs.Data.{Data, string, array}
use Rattle.serde_json.specs.View.{items_of}
use Rattle.serde_json.specs.Written.{compact_text, items_text, has_float, items_have_float}
use Rattle.serde_json.proofs.OnLiterals.{serde_json_on_literals}
use Rattle.dict_catalogue.specs.Items.{Stored, Item, regular, virtual}
use Rattle.dict_catalogue.specs.declared.fault.CommandRefusal.{CommandRefusal}
use Rattle.dict_index.specs.declared.fault.EditionRefusal as editions
use Rattle.http_service.specs.Texts.{with_commas, refused_command_text, refused_edition_text, item_text, list_text}
use Rattle.http_service.specs.Values.{texts_value, refused_command_value, refused_edition_value, item_value}

-- the text that is written for a value that is this one
written : (d e : Data) (s t : List ℕ) → d ≡ e → has_float e ≡ false → compact_text e ≡ t → (has_float d ≡ false → s ≡ compact_text d) → s ≡ t
written d e s t is none text h = h (ap has_float is ∙ none) ∙ (ap compact_text is ∙ text)

command_parts : (refusal : CommandRefusal) → compact_text (refused_command_value refusal) ≡ refused_command_text refusal
unfolding serde_json_on_literals
command_parts refusal = refl

pub command_written : (refusal : CommandRefusal) (d : Data) (s : List ℕ) → d ≡ refused_command_value refusal → (has_float d ≡ false → s ≡ compact_text d) → s ≡ refused_command_text refusal
command_written refusal d s is h = written d (refused_command_value refusal) s (refused_command_text refusal) is refl (command_parts refusal) h

edition_parts : (refusal : editions.EditionRefusal) (line : Option ℕ) → compact_text (refused_edition_value refusal line) ≡ refused_edition_text refusal line
unfolding serde_json_on_literals
edition_parts refusal (Some n) = refl
edition_parts refusal None = refl

edition_no_float : (refusal : editions.EditionRefusal) (line : Option ℕ) → has_float (refused_edition_value refusal line) ≡ false
edition_no_float refusal (Some n) = refl
edition_no_float refusal None = refl

pub edition_written : (refusal : editions.EditionRefusal) (line : Option ℕ) (d : Data) (s : List ℕ) → d ≡ refused_edition_value refusal line → (has_float d ≡ false → s ≡ compact_text d) → s ≡ refused_edition_text refusal line
edition_written refusal line d s is h = written d (refused_edition_value refusal line) s (refused_edition_text refusal line) is (edition_no_float refusal line) (edition_parts refusal line) h

-- ---- arrays

-- the items after a first one, with the closing bracket
rest_text : (d : Data) (ds : List Data) → compact_text d ++ items_text true (items_of ds) ≡ with_commas (map compact_text (d ∷ ds)) ++ 93 ∷ []
rest_text d [] = refl
rest_text d (e ∷ ds) =
    let t : compact_text e ++ items_text true (items_of ds) ≡ with_commas (map compact_text (e ∷ ds)) ++ 93 ∷ [] = rest_text e ds in
    ap (λ x. compact_text d ++ 44 ∷ x) t ∙ sym (append_assoc (compact_text d) (44 ∷ with_commas (map compact_text (e ∷ ds))) (93 ∷ []))

pub array_text : (ds : List Data) → compact_text (array (items_of ds)) ≡ 91 ∷ (with_commas (map compact_text ds) ++ 93 ∷ [])
array_text [] = refl
array_text (d ∷ ds) = ap (λ x. 91 ∷ x) (rest_text d ds)

texts_text : (texts : List (List ℕ)) → map compact_text (map string texts) ≡ map quoted texts
texts_text [] = refl
texts_text (t ∷ texts) = ap (λ x. quoted t ∷ x) (texts_text texts)

texts_no_float : (texts : List (List ℕ)) → items_have_float (items_of (map string texts)) ≡ false
texts_no_float [] = refl
texts_no_float (t ∷ texts) = texts_no_float texts

-- ---- the list

items_parts : (name : List ℕ) (current : Stored (List ℕ)) (former : Option (Stored (List ℕ))) → compact_text (item_value (regular name current former)) ≡ item_text (regular name current former)
unfolding serde_json_on_literals
items_parts name current (Some former) = refl
items_parts name current None = refl

-- what follows the members
after_members : List ℕ → List ℕ → List ℕ
after_members name title = codes ",\"name\":" ++ (quoted name ++ (codes ",\"title\":" ++ (quoted title ++ codes "}")))

virtual_parts : (name title : List ℕ) (members : List (List ℕ)) → compact_text (item_value (virtual name title members)) ≡ codes "{\"kind\":\"virtual\",\"members\":" ++ (compact_text (texts_value members) ++ after_members name title)
unfolding serde_json_on_literals after_members
virtual_parts name title members = refl

virtual_text : (name title : List ℕ) (members : List (List ℕ)) → codes "{\"kind\":\"virtual\",\"members\":" ++ (compact_text (texts_value members) ++ after_members name title) ≡ item_text (virtual name title members)
unfolding after_members
virtual_text name title members =
    let w = with_commas (map quoted members) in
    let e : compact_text (texts_value members) ≡ 91 ∷ (w ++ 93 ∷ []) = array_text (map string members) ∙ ap (λ x. 91 ∷ (with_commas x ++ 93 ∷ [])) (texts_text members) in
    ap (λ x. codes "{\"kind\":\"virtual\",\"members\":" ++ (x ++ after_members name title)) e
    ∙ ap (λ x. codes "{\"kind\":\"virtual\",\"members\":[" ++ x) (append_assoc w (93 ∷ []) (after_members name title))

item_written : (it : Item (List ℕ)) → compact_text (item_value it) ≡ item_text it
item_written (regular name current former) = items_parts name current former
item_written (virtual name title members) = virtual_parts name title members ∙ virtual_text name title members

item_no_float : (it : Item (List ℕ)) → has_float (item_value it) ≡ false
item_no_float (regular name current (Some former)) = refl
item_no_float (regular name current None) = refl
item_no_float (virtual name title members) = ap (λ b. b || false) (texts_no_float members)

all_written : (its : List (Item (List ℕ))) → map compact_text (map item_value its) ≡ map item_text its
all_written [] = refl
all_written (it ∷ its) = ap (λ x. x ∷ map compact_text (map item_value its)) (item_written it) ∙ ap (λ x. item_text it ∷ x) (all_written its)

all_no_float : (its : List (Item (List ℕ))) → items_have_float (items_of (map item_value its)) ≡ false
all_no_float [] = refl
all_no_float (it ∷ its) = ap (λ b. b || items_have_float (items_of (map item_value its))) (item_no_float it) ∙ all_no_float its

list_is : (its : List (Item (List ℕ))) → compact_text (array (items_of (map item_value its))) ≡ list_text its
list_is its = array_text (map item_value its) ∙ ap (λ x. 91 ∷ (with_commas x ++ 93 ∷ [])) (all_written its)

both_maps : {X : Type 0} (f : X → Item (List ℕ)) (xs : List X) → map (λ x. item_value (f x)) xs ≡ map item_value (map f xs)
both_maps f [] = refl
both_maps f (x ∷ xs) = ap (λ t. item_value (f x) ∷ t) (both_maps f xs)

pub list_written : {X : Type 0} (f : X → Item (List ℕ)) (xs : List X) (d : Data) (s : List ℕ) → d ≡ array (items_of (map (λ x. item_value (f x)) xs)) → (has_float d ≡ false → s ≡ compact_text d) → s ≡ list_text (map f xs)
list_written f xs d s is h =
    written d (array (items_of (map item_value (map f xs)))) s (list_text (map f xs)) (is ∙ ap (λ t. array (items_of t)) (both_maps f xs))
    (all_no_float (map f xs)) (list_is (map f xs)) h
