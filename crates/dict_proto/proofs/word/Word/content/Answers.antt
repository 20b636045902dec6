use Rattle.std.proofs.Common.{◌≡◌, ◌+◌, ◌∷◌, [], ◌++◌, drop, get_or, append_assoc, append-nil, sym, ap, ◌∙◌, subst, arith}
use Rattle.std.specs.Prelude.{vec_len, vec_capacity}
use Rattle.std.specs.Str.{IsUtf8}
use Rattle.dict_proto.specs.Places.{place_of}
use Rattle.dict_proto.specs.Content.{content_of, content_from}
use Rattle.dict_proto.proofs.ContentLemmas.{left-more, left-same, left-end}
use Rattle.dict_proto.proofs.word.Word.content.Goals as goal
use Rattle.dict_proto.proofs.word.Word.content.Goals.{then-is_content, else-is_content}

pub loop-octet-preserved : goal.loop-octet-preserved
loop-octet-preserved c =
    let text = c.args.self.now.spelling.now in
    let i = c.loop-octet.octet-index in
    let place = place_of c.loop-octet.place in
    let next = place_of c.after-place.result in
    let more = content_from next (drop (i + 1) text) in
    record {
      read = c.loop-octet.invariant.read ∙ elim c.if-is_content.branch [
        | then-is_content w ↦ ap (λ l. c.loop-octet.content.items ++ l) (left-more text i place next c.loop-octet-test.true c.after-place.ensures (sym c.is_content.ensures ∙ w.if-is_content.true))
            ∙ (sym (append_assoc c.loop-octet.content.items (get_or text i 0 ∷ []) more) ∙ ap (λ l. l ++ more) (sym w.push_reserved.ensures.items ∙ sym (ap (λ v. v.items) w.content-is)))
        | else-is_content w ↦ ap (λ l. c.loop-octet.content.items ++ l) (left-same text i place next c.loop-octet-test.true c.after-place.ensures (sym c.is_content.ensures ∙ w.if-is_content.false))
            ∙ ap (λ v. v.items ++ more) (sym w.content-is)
      ];
      taken = elim c.if-is_content.branch [
        | then-is_content w ↦ omega (arith, ap vec_len w.content-is, w.push_reserved.ensures.len, c.loop-octet.invariant.taken)
        | else-is_content w ↦ omega (arith, ap vec_len w.content-is, c.loop-octet.invariant.taken)
      ];
      room = elim c.if-is_content.branch [
        | then-is_content w ↦ ap vec_capacity w.content-is ∙ (w.push_reserved.ensures.capacity ∙ c.loop-octet.invariant.room)
        | else-is_content w ↦ ap vec_capacity w.content-is ∙ c.loop-octet.invariant.room
      ];
    }

pub unwrap-requires : goal.unwrap-requires
unwrap-requires c =
    let text = c.args.self.now.spelling.now in
    let whole : content_of c.args.self.now ≡ c.loop-octet.content.items =
    c.loop-octet.invariant.read ∙ (ap (λ l. c.loop-octet.content.items ++ l) (left-end text c.loop-octet.octet-index (place_of c.loop-octet.place) c.loop-octet-test.false) ∙ append-nil c.loop-octet.content.items) in
    c.from_utf8.ensures.succeeds (subst IsUtf8 whole c.requires)

pub returns : goal.returns
returns c =
    let text = c.args.self.now.spelling.now in
    let whole : content_of c.args.self.now ≡ c.loop-octet.content.items =
    c.loop-octet.invariant.read ∙ (ap (λ l. c.loop-octet.content.items ++ l) (left-end text c.loop-octet.octet-index (place_of c.loop-octet.place) c.loop-octet-test.false) ∙ append-nil c.loop-octet.content.items) in
    ap (λ v. v.items) (rw c.unwrap.ensures at c.from_utf8.ensures.ok) ∙ sym whole
