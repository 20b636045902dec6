use Rattle.std.proofs.Common.{◌≡◌, ◌-◌, ◌≤◌, ℕ, List, length, drop, sym, ap₂, ◌∙◌, subst, arith}
use Rattle.std.proofs.lemmas.Bool.{leb-true}
use Rattle.dict_match.specs.Words.{words_between_blanks}
use Rattle.dict_match.specs.Matching.{BeginsWithWords}
use Rattle.dict_match.proofs.MatchLemmas.{ends_from, ends_to}
use Rattle.dict_match.proofs.matching.ends_with_words.Goals as goal

pub returns-then-wanted-here : goal.returns-then-wanted-here
returns-then-wanted-here c =
    let words : List (List ℕ) = words_between_blanks c.args.key.now in
    let run : List (List ℕ) = words_between_blanks c.args.query.now in
    let left : words_between_blanks c.without_words.result.now ≡ drop (length words - length run) words =
    c.without_words.ensures ∙ ap₂ (λ m n. drop (m - n) words) c.count_words-here.ensures c.count_words-wanted.ensures in
    let fits : length run ≤ length words = omega arith in
    let Begins : List (List ℕ) → Type 0 = λ ws. BeginsWithWords ws run in (
      (λ h. ends_from words run fits (subst Begins left (c.begins_with_words.ensures.0 h))),
      (λ h. c.begins_with_words.ensures.1 (subst Begins (sym left) (ends_to words run h).1)),
    )

pub returns-else-wanted-here : goal.returns-else-wanted-here
returns-else-wanted-here c = (
  (λ h. let le = leb-true _ _ h in absurd (omega arith)),
  (λ h. let le = (ends_to (words_between_blanks c.args.key.now) (words_between_blanks c.args.query.now) h).0 in absurd (omega arith)),
)
