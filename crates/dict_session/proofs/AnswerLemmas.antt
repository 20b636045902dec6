-- The answers to DEFINE and MATCH, by which databases a word asks.
use Rattle.std.proofs.Common.{◌≡◌, ℕ, ◌+◌, ◌≤◌, List, [], ◌∷◌, length, Bool, true, false, refl, sym, ap, ◌∙◌, subst, codes}
use Rattle.std.specs.Prelude.{Option, None, Some, option_map, is_some, ◌||◌, if◌then◌else◌}
use Rattle.std.specs.List.{flat_map, list_any}
use Rattle.std.specs.Str.{bytes_eq}
use Rattle.dict_match.specs.Key.{key_of}
use Rattle.dict_match.specs.declared.strategy.Strategy.{Strategy}
use Rattle.dict_index.specs.Edition.{Edition}
use Rattle.dict_catalogue.specs.Items.{Item, is_named, is_known, is_regular}
use Rattle.dict_catalogue.specs.Steps.{Catalogue}
use Rattle.dict_catalogue.specs.WellFormed.{IsWellFormed}
use Rattle.dict_desk.specs.Asked.{Database, definitions_in, matches_in, strategy_of}
use Rattle.dict_proto.specs.Replies.{invalid_database_octets, invalid_strategy_octets}
use Rattle.dict_session.specs.Answers.{define_answer, defined, match_answer, matched, strategy_answer, names_databases}
use Rattle.dict_session.specs.Places.{AskedPlaces, HoldsAsked, asked_in, places_from, places_by, places_under}
use Rattle.dict_session.specs.Rows.{answering, found_octets}
use Rattle.dict_session.specs.declared.asked.Asked.{Asked}
use Rattle.dict_session.proofs.FoundLemmas.{at_places, found_over, for_definitions, for_matches, definitions_over, matches_over}
use Rattle.dict_session.proofs.AskedLemmas.{asked_few, searched_are}

-- ---- DEFINE

pub define_unknown : (M : Catalogue) (name word : List ℕ) → asked_in M.items name ≡ None → define_answer M name word ≡ invalid_database_octets
unfolding define_answer
define_unknown M name word e =
    ap (λ (o : Option (List Database)). defined (option_map (flat_map (definitions_in (key_of word))) o))
    (searched_are M name (for_definitions (key_of word)) ∙ ap (option_map (λ (asking : AskedPlaces). at_places M.items (answering (for_definitions (key_of word)) M.items asking.places asking.is_first))) e)

pub define_known : (M : Catalogue) (name word : List ℕ) (asking : AskedPlaces) → asked_in M.items name ≡ Some asking
    → define_answer M name word ≡ found_octets (for_definitions (key_of word)) M.items (answering (for_definitions (key_of word)) M.items asking.places asking.is_first)
unfolding define_answer
define_known M name word asking e =
    ap (λ (o : Option (List Database)). defined (option_map (flat_map (definitions_in (key_of word))) o))
    (searched_are M name (for_definitions (key_of word)) ∙ ap (option_map (λ (asking : AskedPlaces). at_places M.items (answering (for_definitions (key_of word)) M.items asking.places asking.is_first))) e)
    ∙ (definitions_over (key_of word) (at_places M.items (answering (for_definitions (key_of word)) M.items asking.places asking.is_first))
    ∙ sym (found_over (for_definitions (key_of word)) M.items (answering (for_definitions (key_of word)) M.items asking.places asking.is_first)))

-- ---- MATCH

under_known : (all : List (Item Edition)) (word : List ℕ) (n : ℕ) (items : List (Item Edition)) → is_some (places_under all word n items) ≡ list_any (is_named word) items
under_known all word n [] = refl
under_known all word n (item ∷ items) = by_test (is_named word item) (under_known all word (n + 1) items)
  where
    by_test : (b : Bool) → is_some (places_under all word (n + 1) items) ≡ list_any (is_named word) items
        → is_some (if b then Some (places_by all n item) else places_under all word (n + 1) items) ≡ (b || list_any (is_named word) items)
    by_test true e = refl
    by_test false e = e

pub names_asked : (M : Catalogue) (word : List ℕ) → names_databases M word ≡ is_some (asked_in M.items word)
names_asked M word = by_tests (bytes_eq word (codes "*")) (bytes_eq word (codes "!")) (places_under M.items word 0 M.items) (under_known M.items word 0 M.items)
  where
    all : List ℕ
    all = places_from is_regular 0 M.items

    by_tests : (a b : Bool) (o : Option (List ℕ)) → is_some o ≡ list_any (is_named word) M.items
        → (a || (b || is_known M.items word)) ≡ is_some (if a then Some (record { places = all; is_first = false }) else if b then Some (record { places = all; is_first = true }) else option_map
        (λ (places : List ℕ). let made : AskedPlaces = record { places = places; is_first = false } in made) o)
    by_tests true b o e = refl
    by_tests false true o e = refl
    by_tests false false None e = sym e
    by_tests false false (Some places) e = sym e

pub match_unknown : (M : Catalogue) (name strategy word : List ℕ) → asked_in M.items name ≡ None → match_answer M name strategy word ≡ invalid_database_octets
unfolding match_answer
match_unknown M name strategy word e =
    ap (λ b. if b then strategy_answer M name (strategy_of strategy) word else invalid_database_octets) (names_asked M name ∙ ap (λ (o : Option AskedPlaces). is_some o) e)

pub match_by : (M : Catalogue) (name strategy word : List ℕ) (asking : AskedPlaces) (o : Option Strategy) → asked_in M.items name ≡ Some asking → o ≡ strategy_of strategy → match_answer M name strategy word ≡ strategy_answer M name o word
unfolding match_answer
match_by M name strategy word asking o e is =
    ap (λ b. if b then strategy_answer M name (strategy_of strategy) word else invalid_database_octets) (names_asked M name ∙ ap (λ (o : Option AskedPlaces). is_some o) e)
    ∙ ap (λ (s : Option Strategy). strategy_answer M name s word) (sym is)

pub match_known : (M : Catalogue) (name strategy word : List ℕ) (s : Strategy) (asking : AskedPlaces) → asked_in M.items name ≡ Some asking → Some s ≡ strategy_of strategy
    → match_answer M name strategy word ≡ found_octets (for_matches s (key_of word)) M.items (answering (for_matches s (key_of word)) M.items asking.places asking.is_first)
match_known M name strategy word s asking e is =
    match_by M name strategy word asking (Some s) e is
    ∙ (ap (λ (o : Option (List Database)). matched (option_map (flat_map (matches_in s (key_of word))) o))
    (searched_are M name (for_matches s (key_of word)) ∙ ap (option_map (λ (asking : AskedPlaces). at_places M.items (answering (for_matches s (key_of word)) M.items asking.places asking.is_first))) e)
    ∙ (matches_over s (key_of word) (at_places M.items (answering (for_matches s (key_of word)) M.items asking.places asking.is_first))
    ∙ sym (found_over (for_matches s (key_of word)) M.items (answering (for_matches s (key_of word)) M.items asking.places asking.is_first))))

-- ---- by what is held of it

pub none_asked : (o : Option AskedPlaces) → HoldsAsked None o → o ≡ None
none_asked None h = refl
none_asked (Some asking) h = absurd h

-- what is held is all, since there is room for it
abbrev pub IsHeld : Catalogue → List ℕ → Asked → Type 0
IsHeld M name asked = (asking : AskedPlaces) × (asked_in M.items name ≡ Some asking) × (asked.places.items ≡ asking.places) × (asked.is_first ≡ asking.is_first)

pub some_asked : (M : Catalogue) (name : List ℕ) (asked : Asked) → IsWellFormed M → HoldsAsked (Some asked) (asked_in M.items name) → IsHeld M name asked
some_asked M name asked w h = by_asked (asked_in M.items name) refl h
  where
    by_asked : (o : Option AskedPlaces) → asked_in M.items name ≡ o → HoldsAsked (Some asked) o → IsHeld M name asked
    by_asked None e h = absurd h
    by_asked (Some asking) e h = (asking, e, h.1 (asked_few M name asking w e), h.0)

pub held_few : (M : Catalogue) (name : List ℕ) (asked : Asked) → IsWellFormed M → IsHeld M name asked → length asked.places.items ≤ 64
held_few M name asked w (asking, e, places, first) = subst (λ (l : List ℕ). length l ≤ 64) (sym places) (asked_few M name asking w e)

pub define_held : (M : Catalogue) (name word : List ℕ) (asked : Asked) → IsHeld M name asked
    → found_octets (for_definitions (key_of word)) M.items (answering (for_definitions (key_of word)) M.items asked.places.items asked.is_first) ≡ define_answer M name word
define_held M name word asked (asking, e, places, first) =
    ap (λ (l : List ℕ). found_octets (for_definitions (key_of word)) M.items (answering (for_definitions (key_of word)) M.items l asked.is_first)) places
    ∙ (ap (λ (b : Bool). found_octets (for_definitions (key_of word)) M.items (answering (for_definitions (key_of word)) M.items asking.places b)) first ∙ sym (define_known M name word asking e))

pub match_unnamed : (M : Catalogue) (name strategy word : List ℕ) (asked : Asked) → IsHeld M name asked → None ≡ strategy_of strategy → match_answer M name strategy word ≡ invalid_strategy_octets
match_unnamed M name strategy word asked (asking, e, places, first) is = match_by M name strategy word asking None e is

pub match_held : (M : Catalogue) (name strategy word : List ℕ) (s : Strategy) (asked : Asked) → IsHeld M name asked → Some s ≡ strategy_of strategy
    → found_octets (for_matches s (key_of word)) M.items (answering (for_matches s (key_of word)) M.items asked.places.items asked.is_first) ≡ match_answer M name strategy word
match_held M name strategy word s asked (asking, e, places, first) is =
    ap (λ (l : List ℕ). found_octets (for_matches s (key_of word)) M.items (answering (for_matches s (key_of word)) M.items l asked.is_first)) places
    ∙ (ap (λ (b : Bool). found_octets (for_matches s (key_of word)) M.items (answering (for_matches s (key_of word)) M.items asking.places b)) first ∙ sym (match_known M name strategy word s asking e is))
