use Rattle.std.proofs.Common.{◌<◌, length, rules, ap, ◌∙◌}
use Rattle.std.specs.Prelude.{Some}
use Rattle.std.specs.BTreeMap.{get_by_text}
use Rattle.dict_catalogue.specs.Steps.{kept_under}
use Rattle.dict_desk.specs.Plain.{PlainState}
use Rattle.dict_desk.proofs.ReplyLemmas.{place_within, reply_told}
use Rattle.dict_desk.proofs.plain.PlainDesk.reply.Goals as goal

pub index-filed-requires : goal.index-filed-requires
index-filed-requires c =
    let below : c.in-Some.place.now < length c.self.inside.replies.items = place_within c.self.inside.replies.items (get_by_text c.self.inside.places) c.args.id.now c.in-Some.place.now c.self.invariant.0.filed c.in-Some.ensures.value in
    search rules

pub returns-in_ok-copied-in-Some : goal.returns-in_ok-copied-in-Some
returns-in_ok-copied-in-Some c =
    ap Some c.in_ok-copied-in-Some.ensures
    ∙ (reply_told c.self.inside.replies.items (get_by_text c.self.inside.places) c.args.id.now c.in-Some.place.now c.index-filed.result.now c.self.invariant.0.filed c.in-Some.ensures.value c.index-filed.ensures
    ∙ ap (λ (state : PlainState). kept_under state.catalogue.kept c.args.id.now) c.self.view_is)
