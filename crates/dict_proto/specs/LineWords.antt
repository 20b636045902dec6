-- The words of a line, computed: one character after the other, from the front.
use Rattle.std.specs.Prelude.{ℕ, List, [], ◌∷◌, ◌||◌, ◌==◌, if◌then◌else◌, Option, None, Some}
use Rattle.dict_text.specs.Characters.{is_blank, is_control}
use Rattle.dict_proto.specs.Words.{is_quote_sign, is_quoting}

-- where in a line a character stands: between two words; in a word, outside of strings; in a string that ends at
-- this quote sign; after a backslash outside of strings, or in such a string; or after what no word can have
pub data Place : Type 0 where
  between : Place
  within : Place
  in_string : ℕ → Place
  escaped : Place
  escaped_in : ℕ → Place
  stuck : Place

-- the place after a character outside of strings
abbrev pub place_after : ℕ → Place
place_after c = if is_blank c then between else (if is_control c then stuck else (if is_quote_sign c then in_string c else (if c == 92 then escaped else within)))

-- the place after a character
abbrev pub next_place : Place → ℕ → Place
next_place between c = place_after c
next_place within c = place_after c
next_place (in_string quote) c = if is_control c then stuck else (if c == quote then within else (if c == 92 then escaped_in quote else in_string quote))
next_place escaped c = if is_control c then stuck else within
next_place (escaped_in quote) c = if is_control c then stuck else in_string quote
next_place stuck c = stuck

-- a character at the front of the first word
abbrev pub onto_first : ℕ → Option (List (List ℕ)) → Option (List (List ℕ))
onto_first c None = None
onto_first c (Some []) = None
onto_first c (Some (word ∷ words)) = Some ((c ∷ word) ∷ words)

-- the end of a word, and then these words
abbrev pub end_before : Option (List (List ℕ)) → Option (List (List ℕ))
end_before None = None
end_before (Some words) = Some ([] ∷ words)

-- the words from a character on, by those that follow it; within a word the first of them is what is left of it
abbrev pub with_character : Place → ℕ → Option (List (List ℕ)) → Option (List (List ℕ))
with_character between c after = if is_blank c then after else (if is_quoting c then after else onto_first c after)
with_character within c after = if is_blank c then end_before after else (if is_quoting c then after else onto_first c after)
with_character (in_string quote) c after = if (c == quote) || (c == 92) then after else onto_first c after
with_character escaped c after = onto_first c after
with_character (escaped_in quote) c after = onto_first c after
with_character stuck c after = None

-- the words at the end of a line
abbrev pub at_end : Place → Option (List (List ℕ))
at_end between = Some []
at_end within = Some ([] ∷ [])
at_end (in_string quote) = None
at_end escaped = None
at_end (escaped_in quote) = None
at_end stuck = None

abbrev pub words_from : Place → List ℕ → Option (List (List ℕ))
words_from place [] = at_end place
words_from place (c ∷ cs) = with_character place c (words_from (next_place place c) cs)

-- the words of a line, where it can be cut into words
abbrev pub line_words : List ℕ → Option (List (List ℕ))
line_words line = words_from between line
