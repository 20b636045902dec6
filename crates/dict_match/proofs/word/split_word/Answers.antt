use Rattle.std.proofs.Common.{◌≡◌, ◌∷◌, ◌<◌, arith, false, length, take, drop, get_or, sym, ap, ap₂, ◌∙◌, subst}
use Rattle.std.specs.Option.{unwrap_or}
use Rattle.dict_text.specs.Characters.{is_blank}
use Rattle.dict_text.specs.Blanks.{without_leading_blanks}
use Rattle.std.proofs.lemmas.Bool.{eqb-true, eqb-false}
use Rattle.std.proofs.lemmas.List.{nil_from_length}
use Rattle.dict_match.specs.Words.{words_between_blanks}
use Rattle.dict_match.proofs.WordLemmas.{words_between_blanks-leading, leading_solid, first_word}
use Rattle.dict_match.proofs.word.split_word.Goals as goal

pub returns-then-is_empty : goal.returns-then-is_empty
returns-then-is_empty c =
    let none = nil_from_length c.without_leading_blanks-start.result.now (eqb-true _ 0 (sym c.is_empty.ensures ∙ c.if-is_empty.true)) in
    sym (words_between_blanks-leading c.args.bytes.now) ∙ ap words_between_blanks (sym c.without_leading_blanks-start.ensures ∙ none)

pub returns : goal.returns
returns c =
    let start = c.without_leading_blanks-start.result.now in
    let some : 0 < length start = omega (arith, eqb-false (length start) 0 (sym c.is_empty.ensures ∙ c.if-is_empty.false)) in
    let some_left : 0 < length (without_leading_blanks c.args.bytes.now) = subst (λ bs. 0 < length bs) c.without_leading_blanks-start.ensures some in
    let solid : is_blank (get_or start 0 0) ≡ false =
    ap (λ bs. is_blank (get_or bs 0 0)) c.without_leading_blanks-start.ensures ∙ leading_solid c.args.bytes.now some_left in
    let cut = first_word start c.memchr2.result some solid c.memchr2.ensures in
    let front : c.split_at.result.0.now ≡ take (unwrap_or c.memchr2.result (length start)) start =
    c.split_at.ensures.front ∙ ap (λ n. take n start) c.unwrap_or-end.ensures in
    let back : c.split_at.result.1.now ≡ drop (unwrap_or c.memchr2.result (length start)) start =
    c.split_at.ensures.back ∙ ap (λ n. drop n start) c.unwrap_or-end.ensures in
    sym (words_between_blanks-leading c.args.bytes.now) ∙ ap words_between_blanks (sym c.without_leading_blanks-start.ensures) ∙ cut
    ∙ ap₂ ◌∷◌ (sym front) (ap words_between_blanks (sym back))
