use Rattle.std.proofs.Common.{◌≡◌, ℕ, List, [], ◌∷◌, ◌++◌, length, cond, bytes_eq, ap, ◌∙◌}
use Rattle.std.specs.Prelude.{filter, Some}
use Rattle.std.specs.List.{cons_option}
use Rattle.std.specs.BTreeMap.{get_by_text}
use Rattle.dict_index.specs.Edition.{Edition}
use Rattle.dict_catalogue.specs.Items.{Stored}
use Rattle.dict_catalogue.specs.Views.{summary_shown, command_meant}
use Rattle.dict_desk.specs.Plain.{PlainState, catalogue_from, is_not_gone}
use Rattle.dict_desk.specs.declared.replies.Filed.{Filed}
use Rattle.dict_desk.proofs.AcceptLemmas.{accepted_parts, parts_same}
use Rattle.dict_desk.proofs.plain.PlainDesk.accept.Goals as goal

pub returns-in-Err-make_room-clause-same : goal.returns-in-Err-make_room-clause-same
returns-in-Err-make_room-clause-same c =
    ap (λ (editions : List (Stored Edition)). catalogue_from (summary_shown c.self.inside.summary) editions c.make_room.new.replies.items) c.make_room.ensures.editions
    ∙ (ap (λ (replies : List Filed). catalogue_from (summary_shown c.self.inside.summary) c.self.inside.editions.items replies) c.make_room.ensures.replies
    ∙ ap (λ (state : PlainState). state.catalogue) c.self.view_is)

pub invariant_of-self-in-Err-make_room : goal.invariant_of-self-in-Err-make_room
invariant_of-self-in-Err-make_room c = (
  parts_same (summary_shown c.self.inside.summary) c.self.inside.editions.items c.make_room.new.editions.items c.self.inside.replies.items c.make_room.new.replies.items (get_by_text c.self.inside.places)
      (get_by_text c.make_room.new.places) c.self.invariant.0
      c.make_room.ensures.editions c.make_room.ensures.replies c.in-Err-make_room.ensures.same,
  tt,
)

pub invariant_of-self-2 : goal.invariant_of-self-2
invariant_of-self-2 c =
    let left : c.put.new.editions.items ≡ filter (is_not_gone c.args.change.gone.items) c.self.inside.editions.items ++ cons_option c.in-Ok.coming.0 [] =
    c.put.ensures ∙ ap (λ (es : List (Stored Edition)). es ++ cons_option c.in-Ok.coming.0 [])
    (c.take_out.ensures.items ∙ (ap (λ (gone : List ℕ). filter (is_not_gone gone) c.make_room.new.editions.items) c.as_slice.ensures.value
    ∙ ap (λ (es : List (Stored Edition)). filter (is_not_gone c.args.change.gone.items) es) c.make_room.ensures.editions)) in
    let filed_last : c.push_reserved.new.self.items ≡ c.self.inside.replies.items ++ c.in-Ok.coming.1 ∷ [] =
    c.push_reserved.ensures.items ∙ ap (λ (rs : List Filed). rs ++ c.in-Ok.coming.1 ∷ []) c.make_room.ensures.replies in
    let placed : (text : List ℕ) → get_by_text c.make_room.new.places text ≡ cond (bytes_eq c.args.id.now text) (Some (length c.self.inside.replies.items)) (get_by_text c.self.inside.places text) = c.in_default.ensures.noted in (
      (accepted_parts (summary_shown c.self.inside.summary) c.self.inside.editions.items c.put.new.editions.items (cons_option c.in-Ok.coming.0 []) c.self.inside.replies.items c.push_reserved.new.self.items
          (get_by_text c.self.inside.places) (get_by_text c.make_room.new.places) c.args.self.now.catalogue c.args.id.now (command_meant c.args.command.now) c.args.change c.in-Ok.coming.1
          (ap (λ (state : PlainState). state.catalogue) c.self.view_is) c.self.invariant.0 c.is_lawful.ensures c.requires.id c.requires.unused c.requires.planned c.in-Ok.ensures.filed c.in-Ok.ensures.edition
          left filed_last placed).0,
      tt,
    )

pub returns-clause-after : goal.returns-clause-after
returns-clause-after c =
    let left : c.put.new.editions.items ≡ filter (is_not_gone c.args.change.gone.items) c.self.inside.editions.items ++ cons_option c.in-Ok.coming.0 [] =
    c.put.ensures ∙ ap (λ (es : List (Stored Edition)). es ++ cons_option c.in-Ok.coming.0 [])
    (c.take_out.ensures.items ∙ (ap (λ (gone : List ℕ). filter (is_not_gone gone) c.make_room.new.editions.items) c.as_slice.ensures.value
    ∙ ap (λ (es : List (Stored Edition)). filter (is_not_gone c.args.change.gone.items) es) c.make_room.ensures.editions)) in
    let filed_last : c.push_reserved.new.self.items ≡ c.self.inside.replies.items ++ c.in-Ok.coming.1 ∷ [] =
    c.push_reserved.ensures.items ∙ ap (λ (rs : List Filed). rs ++ c.in-Ok.coming.1 ∷ []) c.make_room.ensures.replies in
    let placed : (text : List ℕ) → get_by_text c.make_room.new.places text ≡ cond (bytes_eq c.args.id.now text) (Some (length c.self.inside.replies.items)) (get_by_text c.self.inside.places text) = c.in_default.ensures.noted in
    (accepted_parts (summary_shown c.self.inside.summary) c.self.inside.editions.items c.put.new.editions.items (cons_option c.in-Ok.coming.0 []) c.self.inside.replies.items c.push_reserved.new.self.items
    (get_by_text c.self.inside.places) (get_by_text c.make_room.new.places) c.args.self.now.catalogue c.args.id.now (command_meant c.args.command.now) c.args.change c.in-Ok.coming.1
    (ap (λ (state : PlainState). state.catalogue) c.self.view_is) c.self.invariant.0 c.is_lawful.ensures c.requires.id c.requires.unused c.requires.planned c.in-Ok.ensures.filed c.in-Ok.ensures.edition
    left filed_last placed).1
