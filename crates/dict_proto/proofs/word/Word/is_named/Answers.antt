use Rattle.std.proofs.Common.{◌+◌, List, ℕ, drop, get_or, refl, sym, ap, ◌∙◌}
use Rattle.dict_proto.specs.LineWords.{next_place}
use Rattle.dict_proto.specs.Meaning.{is_word_named}
use Rattle.dict_proto.specs.Places.{place_of}
use Rattle.dict_proto.specs.Content.{content_from}
use Rattle.dict_proto.proofs.ContentLemmas.{left-more, left-same, left-end, named-more, named-other, named-end}
use Rattle.dict_proto.proofs.word.Word.is_named.Goals as goal
use Rattle.dict_proto.proofs.word.Word.is_named.Goals.{then-is_content+in-Some, else-is_content}

pub loop-octet-preserved : goal.loop-octet-preserved
loop-octet-preserved c =
    let text = c.args.self.now.spelling.now in
    let i = c.loop-octet.octet-index in
    let place = place_of c.loop-octet.place in
    let next = place_of c.after-place.result in
    let more = content_from next (drop (i + 1) text) in
    c.loop-octet.invariant ∙ elim c.if-is_content.branch [
      | then-is_content+in-Some w ↦ ap (λ l. is_word_named l c.loop-octet.left.now) (left-more text i place next c.loop-octet-test.true c.after-place.ensures (sym c.is_content.ensures ∙ w.if-is_content.true))
          ∙ (named-more (get_or text i 0) w.in-Some.first.now more w.in-Some.rest.now c.loop-octet.left.now w.in-Some.ensures.cases.0 (sym w.eq_ignore_ascii_case.ensures ∙ w.if-eq_ignore_ascii_case.true)
          ∙ ap (λ (l : List ℕ). is_word_named more l) (ap (λ b. b.now) (sym w.left-is)))
      | else-is_content w ↦ ap (λ l. is_word_named l c.loop-octet.left.now) (left-same text i place next c.loop-octet-test.true c.after-place.ensures (sym c.is_content.ensures ∙ w.if-is_content.false))
          ∙ ap (λ (l : List ℕ). is_word_named more l) (ap (λ b. b.now) (sym w.left-is))
    ]

pub returns-in_default : goal.returns-in_default
returns-in_default c =
    let text = c.args.self.now.spelling.now in
    let i = c.loop-octet.octet-index in
    let place = place_of c.loop-octet.place in
    let next = next_place place (get_or text i 0) in
    let more = content_from next (drop (i + 1) text) in
    sym (c.loop-octet.invariant ∙ (ap (λ l. is_word_named l c.loop-octet.left.now) (left-more text i place next c.loop-octet-test.true refl (sym c.is_content.ensures ∙ c.if-is_content.true))
    ∙ named-other (get_or text i 0) c.in-Some.first.now more c.in-Some.rest.now c.loop-octet.left.now c.in-Some.ensures.cases.0 (sym c.eq_ignore_ascii_case.ensures ∙ c.if-eq_ignore_ascii_case.false)))

pub returns : goal.returns
returns c =
    let text = c.args.self.now.spelling.now in
    c.is_empty.ensures ∙ (named-end c.loop-octet.left.now ∙ (sym (ap (λ l. is_word_named l c.loop-octet.left.now) (left-end text c.loop-octet.octet-index (place_of c.loop-octet.place) c.loop-octet-test.false)) ∙ sym c.loop-octet.invariant))
