-- How a command line spells its words. RFC 2229, section 2.2, with this project's choice of what a blank and a
-- control character are. Every list here is of characters.
use Rattle.std.specs.Prelude.{◌≡◌, ◌≢◌, ℕ, ◌⊎◌, List, [], ◌∷◌, ◌++◌, Bool, true, false, not, ◌||◌, ◌==◌, map, ⊤}
use Rattle.std.specs.List.{flat_map, AllByRecursion}
use Rattle.dict_text.specs.Characters.{is_blank, is_control}

-- a double or a single quote sign
abbrev pub is_quote_sign : ℕ → Bool
is_quote_sign c = (c == 34) || (c == 39)

-- a quote sign or a backslash
abbrev pub is_quoting : ℕ → Bool
is_quoting c = is_quote_sign c || (c == 92)

-- what stands for itself outside of strings: no blank, no control character, no quote sign, no backslash
abbrev pub is_atom_character : ℕ → Bool
is_atom_character c = not (is_blank c || (is_control c || is_quoting c))

-- within a string that ends at the quote sign, text stands for the character c: the character itself, if it is
-- neither the quote sign nor a backslash, or a backslash and then the character
abbrev pub StandsForCharacter : ℕ → List ℕ → ℕ → Type 0
StandsForCharacter quote text c = (is_control c ≡ false) × (((text ≡ c ∷ []) × (c ≢ quote) × (c ≢ 92)) ⊎ (text ≡ 92 ∷ c ∷ []))

-- an atom: one or more atom characters, which stand for themselves
abbrev pub IsAtom : List ℕ → List ℕ → Type 0
IsAtom text content = (text ≡ content) × (content ≢ []) × AllByRecursion (λ c. is_atom_character c ≡ true) content

-- a string: a quote sign, what stands for its characters, and the same quote sign
abbrev pub IsString : List ℕ → List ℕ → Type 0
IsString text content = (quote : ℕ) × (pieces : List (List ℕ × ℕ)) × (is_quote_sign quote ≡ true)
    × AllByRecursion (λ p. StandsForCharacter quote p.0 p.1) pieces
    × (text ≡ quote ∷ (flat_map (λ p. p.0) pieces ++ quote ∷ [])) × (content ≡ map (λ p. p.1) pieces)

-- a quoted pair: a backslash, and one character that is no control character
abbrev pub IsQuotedPair : List ℕ → List ℕ → Type 0
IsQuotedPair text content = (c : ℕ) × (is_control c ≡ false) × (text ≡ 92 ∷ c ∷ []) × (content ≡ c ∷ [])

abbrev pub IsPart : List ℕ → List ℕ → Type 0
IsPart text content = IsAtom text content ⊎ IsString text content ⊎ IsQuotedPair text content

-- a word is one or more parts that touch, and its content is theirs, joined
abbrev pub IsWord : List ℕ → List ℕ → Type 0
IsWord text content = (parts : List (List ℕ × List ℕ)) × (parts ≢ []) × AllByRecursion (λ p. IsPart p.0 p.1) parts
    × (text ≡ flat_map (λ p. p.0) parts) × (content ≡ flat_map (λ p. p.1) parts)

abbrev pub AreBlanks : List ℕ → Type 0
AreBlanks cs = AllByRecursion (λ c. is_blank c ≡ true) cs

-- the line ends here, or a blank follows
abbrev pub EndsWord : List ℕ → Type 0
EndsWord [] = ⊤
EndsWord (c ∷ cs) = is_blank c ≡ true

-- the line is blanks and words with these contents, at least one blank between two words
abbrev pub AreWords : List ℕ → List (List ℕ) → Type 0
AreWords line [] = AreBlanks line
AreWords line (word ∷ words) = (before : List ℕ) × (text : List ℕ) × (rest : List ℕ) ×
    (line ≡ before ++ (text ++ rest)) × AreBlanks before × IsWord text word × EndsWord rest × AreWords rest words
