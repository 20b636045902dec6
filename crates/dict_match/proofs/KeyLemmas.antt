-- Blanks, and what is none.
use Rattle.std.proofs.Common.{◌≡◌, ℕ, true, false, List, [], ◌∷◌, ◌++◌, All, refl, ap, sym, ◌∙◌, append-nil}
use Rattle.std.specs.List.{filter}
use Rattle.std.proofs.lemmas.List.Splits.{slice_split-cons_yes}
use Rattle.std.proofs.lemmas.List.Elements.{All-head, All-tail}
use Rattle.dict_text.specs.Characters.{is_blank}
use Rattle.dict_match.specs.Words.{words_between_blanks}
use Rattle.dict_match.proofs.FoldLemmas.{is_word}

abbrev pub IsBlank : ℕ → Type 0
IsBlank c = is_blank c ≡ true

abbrev pub IsSolid : ℕ → Type 0
IsSolid c = is_blank c ≡ false

-- blanks in front make no words
pub words_between_blanks-gap : (gap rest : List ℕ) → All IsBlank gap → words_between_blanks (gap ++ rest) ≡ words_between_blanks rest
words_between_blanks-gap [] rest h = refl
words_between_blanks-gap (c ∷ gap) rest h =
    ap (filter is_word) (slice_split-cons_yes is_blank c (gap ++ rest) (All-head IsBlank c gap h)) ∙ words_between_blanks-gap gap rest (All-tail IsBlank c gap h)

-- blanks alone have no words
pub no_words-from_blanks : (cs : List ℕ) → All IsBlank cs → words_between_blanks cs ≡ []
no_words-from_blanks cs h = ap words_between_blanks (sym (append-nil cs)) ∙ words_between_blanks-gap cs [] h
