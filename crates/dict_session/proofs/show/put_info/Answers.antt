use Rattle.std.proofs.Common.{List, [], ℕ, false, refl, ◌++◌, ◌≡◌, ap, ◌∙◌, sym, subst, map, true, None, Some}
use Rattle.std.specs.Prelude.{option_map, find, string_bytes}
use Rattle.dict_proto.specs.Streams.{Puts}
use Rattle.dict_catalogue.specs.Items.{is_named, regular, virtual}
use Rattle.dict_catalogue.specs.Views.{item_shown, texts_shown, stored_shown}
use Rattle.dict_catalogue.specs.declared.summary.Item.{Item as SummaryItem}
use Rattle.dict_proto.specs.Replies.{info_heading_octets, list_end_octets, done_octets}
use Rattle.dict_session.specs.Answers.{one_row}
use Rattle.dict_session.specs.Ending.{PutsAnswer}
use Rattle.dict_session.specs.Rows.{members_octets}
use Rattle.dict_session.specs.Shows.{info_answer}
use Rattle.dict_session.specs.Through.{has_edition}
use Rattle.dict_session.proofs.LooksLemmas.{loud, quiet}
use Rattle.dict_desk.specs.Shown.{HasEdition}
use Rattle.dict_session.proofs.ShowLemmas.{info_unknown, info_virtual, info_regular, found_shown, regular_has_edition}
use Rattle.dict_session.proofs.show.put_info.Goals as goal

pub returns-in-None-clause-value : goal.returns-in-None-clause-value
returns-in-None-clause-value g c = λ trusted M shown.
    let failed = g.L.Lookup.has_failed c.args.desk.now in
    let items = map item_shown c.deref-items.result.now in
    let same = (ap (λ (items : List SummaryItem). map item_shown items) c.deref-items.ensures.value ∙ ap (λ h. h.items) (c.in-Ok.ensures.value M shown)) in
    let named : None ≡ find (is_named c.args.name.now) items = found_shown item_shown (is_named c.args.name.now) c.deref-items.result.now None c.in-None.ensures in
    subst (λ (answer : List ℕ). PutsAnswer failed c.put_whole.result (g.K.Sink.stream c.args.sink.now) (g.K.Sink.stream c.put_whole.new.sink) answer one_row true) (info_unknown M c.args.name.now items same named)
    (c.put_whole.ensures failed one_row true)

pub returns-in-Some-Virtual-clause-value : goal.returns-in-Some-Virtual-clause-value
returns-in-Some-Virtual-clause-value g c = λ trusted M shown.
    let items = map item_shown c.deref-items.result.now in
    let same = (ap (λ (items : List SummaryItem). map item_shown items) c.deref-items.ensures.value ∙ ap (λ h. h.items) (c.in-Ok.ensures.value M shown)) in
    let own = string_bytes c.in-Some-Virtual.field-0-0 in
    let title = string_bytes c.in-Some-Virtual.field-0-1 in
    let members = texts_shown c.in-Some-Virtual.members.items in
    let named : Some (virtual own title members) ≡ find (is_named c.args.name.now) items =
    ap (λ x. Some (item_shown x)) (sym c.in-Some-Virtual.field-0-is) ∙ found_shown item_shown (is_named c.args.name.now) c.deref-items.result.now (Some c.in-Some-Virtual.field-0.now) c.in-Some-Virtual.ensures in
    c.whole.ensures (g.K.Sink.stream c.args.sink.now) (g.K.Sink.stream c.put_members.new.sink) (info_answer M c.args.name.now) (g.L.Lookup.has_failed c.args.desk.now) one_row true
    (subst (Puts c.put_members.result (g.K.Sink.stream c.args.sink.now) (g.K.Sink.stream c.put_members.new.sink))
    (ap (λ (texts : List (List ℕ)). info_heading_octets ++ (members_octets items texts ++ (list_end_octets ++ done_octets))) (ap texts_shown (c.deref.ensures.value ∙ ap (λ v. v.items) c.in-Some-Virtual.members-is))
    ∙ info_virtual M c.args.name.now items same own title members named) c.put_members.ensures)

pub returns-in-Some-Regular-clause-value : goal.returns-in-Some-Regular-clause-value
returns-in-Some-Regular-clause-value g c = λ trusted M shown.
    let items = map item_shown c.deref-items.result.now in
    let same = (ap (λ (items : List SummaryItem). map item_shown items) c.deref-items.ensures.value ∙ ap (λ h. h.items) (c.in-Ok.ensures.value M shown)) in
    let own = string_bytes c.in-Some-Regular.field-0-0 in
    let current = stored_shown c.in-Some-Regular.current in
    let former = option_map stored_shown c.in-Some-Regular.field-0-2 in
    let named : Some (regular own current former) ≡ find (is_named c.args.name.now) items =
    ap (λ x. Some (item_shown x)) (sym c.in-Some-Regular.field-0-is) ∙ found_shown item_shown (is_named c.args.name.now) c.deref-items.result.now (Some c.in-Some-Regular.field-0.now) c.in-Some-Regular.ensures in
    let (edition, has, answer) = info_regular M c.args.name.now items same own current former named in
    subst (λ (octets : List ℕ). PutsAnswer (g.L.Lookup.has_failed c.put_edition.new.desk) c.put_edition.result (g.K.Sink.stream c.args.sink.now) (g.K.Sink.stream c.put_edition.new.sink) octets one_row true) answer
    (c.put_edition.ensures.value trusted M edition shown (subst (λ (n : ℕ). HasEdition M n edition) (ap (λ v. v.number) (sym c.in-Some-Regular.current-is)) has))

pub returns-in_default-clause-looks : goal.returns-in_default-clause-looks
returns-in_default-clause-looks g c = λ M shown. quiet _ c.put_unavailable.result _ _ refl _ _ [] _ _ (c.put_unavailable.ensures [] false one_row)

pub returns-in-None-clause-looks : goal.returns-in-None-clause-looks
returns-in-None-clause-looks g c = λ M shown. quiet _ c.put_whole.result _ _ refl _ _ _ _ _ (c.put_whole.ensures false one_row true)

pub returns-in-Some-Virtual-clause-looks : goal.returns-in-Some-Virtual-clause-looks
returns-in-Some-Virtual-clause-looks g c = λ M shown. quiet _ c.whole.result _ _ refl (g.K.Sink.stream c.args.sink.now) (g.K.Sink.stream c.put_members.new.sink) _ one_row true
    (c.whole.ensures (g.K.Sink.stream c.args.sink.now) (g.K.Sink.stream c.put_members.new.sink) _ false one_row true c.put_members.ensures)

pub returns-in-Some-Regular-clause-looks : goal.returns-in-Some-Regular-clause-looks
returns-in-Some-Regular-clause-looks g c = λ M shown.
    let items = map item_shown c.deref-items.result.now in
    let same = (ap (λ (items : List SummaryItem). map item_shown items) c.deref-items.ensures.value ∙ ap (λ h. h.items) (c.in-Ok.ensures.value M shown)) in
    let own = string_bytes c.in-Some-Regular.field-0-0 in
    let current = stored_shown c.in-Some-Regular.current in
    let former = option_map stored_shown c.in-Some-Regular.field-0-2 in
    let named : Some (regular own current former) ≡ find (is_named c.args.name.now) items =
    ap (λ x. Some (item_shown x)) (sym c.in-Some-Regular.field-0-is) ∙ found_shown item_shown (is_named c.args.name.now) c.deref-items.result.now (Some c.in-Some-Regular.field-0.now) c.in-Some-Regular.ensures in
    loud (has_edition (find (is_named c.args.name.now) M.items)) c.put_edition.result _ _ (regular_has_edition M c.args.name.now items same own current former named)
