use Rattle.std.proofs.Common.{◌≡◌, length, sym, ap, ◌∙◌, string_bytes}
use Rattle.std.proofs.lemmas.Bool.{eqb-true, eqb-false}
use Rattle.dict_text.specs.Blanks.{without_blanks_at_ends}
use Rattle.dict_match.proofs.FallbackLemmas.{key_by-nothing, key_by-folded}
use Rattle.dict_match.proofs.key.key_from.Goals as goal
use Rattle.dict_match.proofs.key.key_from.Goals.{then-is_empty+in_ok-bytes, else-is_empty}

pub returns : goal.returns
returns c normal kept is =
    let length_is = c.args.folded.bytes.ok.0 in
    elim c.if-is_empty.branch [
      | then-is_empty+in_ok-bytes w ↦
          let none : length (string_bytes c.args.folded) ≡ 0 = sym length_is ∙ eqb-true _ 0 (sym c.is_empty.ensures ∙ w.if-is_empty.true) in
          ap (λ v. v.items) w.bytes-is ∙ w.in_ok-bytes.ensures.items ∙ w.without_blanks_at_ends.ensures
          ∙ ap without_blanks_at_ends w.as_bytes.ensures.value
          ∙ sym (key_by-nothing normal kept c.args.text.now (string_bytes c.args.folded) c.utf8.text is none)
      | else-is_empty w ↦
          let some : length (string_bytes c.args.folded) ≡ 0 → ⊥ =
          λ none. eqb-false _ 0 (sym c.is_empty.ensures ∙ w.if-is_empty.false) (length_is ∙ none) in
          ap (λ v. v.items) (w.bytes-is ∙ w.into_bytes-bytes.ensures.value)
          ∙ sym (key_by-folded normal kept c.args.text.now (string_bytes c.args.folded) is some)
    ]
