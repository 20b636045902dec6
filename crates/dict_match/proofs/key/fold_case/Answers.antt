use Rattle.std.proofs.Common.{◌≡◌, ℕ, List, map-id, chars, sym, ap, subst, ◌∙◌}
use Rattle.std.specs.List.{filter, join_with_byte}
use Rattle.std.specs.Str.{encode_utf8_all}
use Rattle.std.specs.Str.Iter.{chars_steps}
use Rattle.std.proofs.lemmas.Str.{Chars-gives, encodes-chars}
use Rattle.std.proofs.lemmas.Iterator.{YieldsList}
use Rattle.std.proofs.lemmas.Iterator.Consumers.{YieldsList-end}
use Rattle.caseless.specs.CaseFold.{FoldsCaseTo, CaseFoldSteps}
use Rattle.caseless.specs.Caseless.{default_case_fold}
use Rattle.caseless.proofs.CaselessLemmas.{Spells-CaseFold}
use Rattle.dict_match.specs.Words.{words_between_blanks}
use Rattle.dict_match.specs.Key.{is_kept}
use Rattle.dict_match.proofs.JoinedLemmas.{joined_all}
use Rattle.dict_match.proofs.key.fold_case.Goals as goal

pub returns : goal.returns
returns c =
    let text : List ℕ = c.args.text.now in
    let folds : FoldsCaseTo chars_steps c.default_case_fold-c-items.result (default_case_fold (chars text)) =
    c.default_case_fold-c-items.ensures.text (chars text) (Chars-gives (chars text) c.chars.result (encodes-chars text c.utf8.text ∙ sym c.chars.ensures.rest)) in
    let same : c.default_case_fold-c-items.result ≡ c.into_iter-c-iterator.result = cc in
    let here : FoldsCaseTo chars_steps c.into_iter-c-iterator.result (default_case_fold (chars text)) =
    subst (λ s. FoldsCaseTo chars_steps s (default_case_fold (chars text))) same folds in
    let all : YieldsList (CaseFoldSteps chars_steps) (λ c. c) c.into_iter-c-iterator.result (default_case_fold (chars text)) = record { runs = Spells-CaseFold here } in
    let end = YieldsList-end all c.loop-c.yielded _ c.loop-c.yielded_by _ _ c.in-None.is c.next.ensures.steps in
    joined_all _ _ _ c.loop-c.invariant
    ∙ ap (λ cs. encode_utf8_all (join_with_byte 32 (words_between_blanks (filter is_kept cs)))) (sym (map-id c.loop-c.yielded) ∙ end.0)
