use Rattle.std.proofs.Common.{◌≡◌, true, [], ◌∷◌, ◌++◌, map-id, sym, ap, subst, ◌∙◌}
use Rattle.std.specs.List.{filter}
use Rattle.std.specs.Char.{to_ascii_lowercase}
use Rattle.std.specs.Str.{encode_utf8_all}
use Rattle.std.specs.String.{string_bytes}
use Rattle.std.proofs.lemmas.Iterator.{YieldsList-from_chars}
use Rattle.std.proofs.lemmas.Iterator.Consumers.{YieldsList-end}
use Rattle.dict_match.specs.Key.{folded_by, in_ascii_lower_case, is_kept_first}
use Rattle.dict_match.specs.Joined.{AreJoinedSoFar}
use Rattle.dict_match.proofs.JoinedLemmas.{joined_all, kept-push}
use Rattle.dict_match.proofs.key.lower_ascii.Goals as goal

pub loop-c-preserved-in-Continue-branch-2 : goal.loop-c-preserved-in-Continue-branch-2
loop-c-preserved-in-Continue-branch-2 c =
    let lower : c.to_ascii_lowercase-lower.result ≡ to_ascii_lowercase c.in-Some.c = c.to_ascii_lowercase-lower.ensures.value in
    let kept : is_kept_first (to_ascii_lowercase c.in-Some.c) ≡ true =
    ap is_kept_first (sym lower) ∙ sym c.is_kept_first.ensures ∙ c.if-is_kept_first.true in
    subst (λ cs. AreJoinedSoFar cs (string_bytes c.push.new.self.written) c.push.new.self.between_words)
    (ap (λ d. filter is_kept_first (in_ascii_lower_case c.loop-c.yielded) ++ d ∷ []) lower ∙ sym (kept-push to_ascii_lowercase is_kept_first c.loop-c.yielded c.in-Some.c kept))
    (c.in_ok-push.ensures _ c.loop-c.invariant)

pub returns : goal.returns
returns c =
    let end = YieldsList-end (YieldsList-from_chars c.args.text.now c.utf8.text cc) c.loop-c.yielded _ c.loop-c.yielded_by _ _ c.in-None.is c.next.ensures.steps in
    joined_all _ _ _ c.loop-c.invariant
    ∙ ap (λ cs. encode_utf8_all (folded_by in_ascii_lower_case is_kept_first cs)) (sym (map-id c.loop-c.yielded) ∙ end.0)
