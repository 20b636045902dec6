use Rattle.std.proofs.Common.{◌≡◌, ℕ, List, [], ◌∷◌, ◌++◌, false, length, sym, ◌∙◌, subst, ap}
use Rattle.std.specs.Char.{encode_utf8}
use Rattle.std.specs.String.{string_bytes}
use Rattle.std.proofs.lemmas.Bool.{eqb-true, eqb-false}
use Rattle.dict_text.specs.Characters.{is_blank}
use Rattle.dict_match.specs.Joined.{AreJoinedSoFar}
use Rattle.dict_match.proofs.JoinedLemmas.{joined_blank, joined_first, joined_word, joined_letter}
use Rattle.dict_match.proofs.joined.Joined.push.Goals as goal
use Rattle.dict_match.proofs.joined.Joined.push.Goals.{then-self+then-not-is_empty+in_ok-push, else-self, else-self-via-then-self+else-not-is_empty, else-self-via-else-self}

pub returns-then-is_blank : goal.returns-then-is_blank
returns-then-is_blank c cs h = joined_blank cs _ _ c.args.c (sym c.is_blank.ensures ∙ c.if-is_blank.true) h

pub returns : goal.returns
returns c cs h =
    let solid : is_blank c.args.c ≡ false = sym c.is_blank.ensures ∙ c.if-is_blank.false in
    let pushed : string_bytes c.push-2.new.self ≡ string_bytes c.if-self.self.written ++ encode_utf8 c.args.c = c.in_ok-push-2.ensures.bytes in
    let Is : List ℕ → Type 0 = λ bytes. AreJoinedSoFar (cs ++ c.args.c ∷ []) (bytes ++ encode_utf8 c.args.c) false in
    rw pushed (elim c.if-self.branch [
      | then-self+then-not-is_empty+in_ok-push w ↦
          let some : length (string_bytes c.args.self.now.written) ≡ 0 → ⊥ = λ none. eqb-false _ 0 (sym w.is_empty.ensures ∙ w.if-not-is_empty.true) (c.args.self.now.written.bytes.ok.0 ∙ none) in
          subst Is (sym (ap (λ s. string_bytes s.written) w.self-is ∙ w.in_ok-push.ensures.bytes))
          (joined_word cs _ _ solid some (rw w.if-self.true at h))
      | else-self w ↦
          subst Is (sym (ap (λ s. string_bytes s.written) w.self-is)) (elim w.else-self.branch [
            | else-self-via-then-self+else-not-is_empty w' ↦
                let none : length (string_bytes c.args.self.now.written) ≡ 0 = sym (c.args.self.now.written.bytes.ok.0) ∙ eqb-true _ 0 (sym w'.is_empty.ensures ∙ w'.if-not-is_empty.false) in
                joined_first cs _ _ solid none (rw w'.if-self.true at h)
            | else-self-via-else-self w' ↦ joined_letter cs _ _ solid (rw w'.if-self.false at h)
          ])
    ])
