use Rattle.std.proofs.Common.{refl, subst, arith, map, codes, [], ◌∷◌, ◌∙◌, ◌<◌, length}
use Rattle.std.proofs.lemmas.List.{take_all}
use Rattle.sqlite.specs.Held.{state}
use Rattle.store_sql.proofs.StreamLemmas.{passed_on}
use Rattle.store_commands.specs.Writes.{WroteStatements, FailsToWrite}
use Rattle.store_sql.specs.Encodings.{item_row}
use Rattle.store_tables.specs.Typed.{lent_item}
use Rattle.dict_catalogue.specs.Views.{item_shown}
use Rattle.store_rows.specs.Written.{numbered, item_record}
use Rattle.store_commands.proofs.LoopLemmas.{adding_none, adding_wrote, adding_failed, items_none, items_last, numbered_next, numbered_grows}
use Rattle.store_commands.specs.Changes.{with_more_items}
use Rattle.store_commands.specs.Statements.{adding_item}
use Rattle.store_commands.proofs.TableLemmas.{has_items, items_added}
use Rattle.store_commands.proofs.WriteLemmas.{wrote_record, failed_record, spares_none, spares_added, spares_then, usable_then}
use Rattle.store_commands.proofs.small.add_items.Goals as goal

pub loop-place-preserved : goal.loop-place-preserved
loop-place-preserved g c =
    let first = (g.T.OpenTransaction.held c.args.tx.now) in
    let mid = (g.T.OpenTransaction.held c.loop-place.tx) in
    let new = (g.T.OpenTransaction.held c.insert_item.new.tx) in
    let low : c.loop-place.place < length c.args.items.now = omega arith in
    let spares = spares_added g.S.Store (codes "item") (item_row (lent_item c.item_row-row.result)) mid new c.insert_item.ensures.survives c.insert_item.result c.insert_item.ensures.added c.insert_item.ensures.failed in
    let one = wrote_record g.S.Store (codes "item") item_row (λ r. with_more_items (r ∷ [])) (lent_item c.item_row-row.result) (item_record c.loop-place.place (item_shown c.index-items-place.result))
    (c.item_row-row.ensures) mid new c.insert_item.ensures.survives items_added c.in_ok-insert_item.ensures.added in
    record {
      same_reference = c.insert_item.ensures.same_reference ∙ c.loop-place.invariant.same_reference;
      wrote = adding_wrote g.S.Store adding_item with_more_items items_last (λ l. numbered item_record 0 (map item_shown l)) c.args.items.now c.loop-place.place
          (item_record c.loop-place.place (item_shown c.index-items-place.result) ∷ []) (numbered_next item_shown c.args.items.now c.loop-place.place c.index-items-place.result low c.index-items-place.is item_record) first
          mid new c.loop-place.invariant.wrote spares one;
      usable = usable_then g.S.Store (map adding_item (item_record c.loop-place.place (item_shown c.index-items-place.result) ∷ []))
          (with_more_items (item_record c.loop-place.place (item_shown c.index-items-place.result) ∷ [])) mid new c.loop-place.invariant.usable one spares;
      spares = spares_then g.S.Store first mid new c.loop-place.invariant.spares spares;
    }

pub loop-place-init : goal.loop-place-init
loop-place-init g c =
    let first = (g.T.OpenTransaction.held c.args.tx.now) in
    record {
      same_reference = refl;
      wrote = adding_none g.S.Store adding_item with_more_items items_none first;
      usable = c.requires.usable;
      spares = spares_none g.S.Store first;
    }

pub returns-clause-wrote : goal.returns-clause-wrote
returns-clause-wrote g c =
    subst (λ l. WroteStatements g.S.Store (map adding_item (numbered item_record 0 (map item_shown l))) (with_more_items (numbered item_record 0 (map item_shown l))) (g.T.OpenTransaction.held c.args.tx.now)
    (g.T.OpenTransaction.held c.loop-place.tx)) (take_all c.loop-place.place c.args.items.now (omega arith)) c.loop-place.invariant.wrote

pub returns-in_err-insert_item-clause-spares : goal.returns-in_err-insert_item-clause-spares
returns-in_err-insert_item-clause-spares g c =
    let first = (g.T.OpenTransaction.held c.args.tx.now) in
    let mid = (g.T.OpenTransaction.held c.loop-place.tx) in
    let new = (g.T.OpenTransaction.held c.insert_item.new.tx) in
    let spares = spares_added g.S.Store (codes "item") (item_row (lent_item c.item_row-row.result)) mid new c.insert_item.ensures.survives c.insert_item.result c.insert_item.ensures.added c.insert_item.ensures.failed in
    spares_then g.S.Store first mid new c.loop-place.invariant.spares spares

pub returns-in_err-insert_item-clause-failed : goal.returns-in_err-insert_item-clause-failed
returns-in_err-insert_item-clause-failed g c =
    let first = (g.T.OpenTransaction.held c.args.tx.now) in
    let mid = (g.T.OpenTransaction.held c.loop-place.tx) in
    let new = (g.T.OpenTransaction.held c.insert_item.new.tx) in
    let low : c.loop-place.place < length c.args.items.now = omega arith in
    let spares = spares_added g.S.Store (codes "item") (item_row (lent_item c.item_row-row.result)) mid new c.insert_item.ensures.survives c.insert_item.result c.insert_item.ensures.added c.insert_item.ensures.failed in
    let e = c.in_err-insert_item.field-0.0 in
    let two = failed_record g.S.Store (codes "item") item_row (λ r. with_more_items (r ∷ [])) (lent_item c.item_row-row.result) (item_record c.loop-place.place (item_shown c.index-items-place.result))
    (c.item_row-row.ensures) mid new c.insert_item.ensures.survives e c.in_err-insert_item.ensures.failed in
    passed_on (FailsToWrite g.S.Store (map adding_item (numbered item_record 0 (map item_shown c.args.items.now))) first new) e c.from_residual.result c.from_residual.ensures.1
    (adding_failed g.S.Store adding_item with_more_items items_last (λ l. numbered item_record 0 (map item_shown l)) c.args.items.now c.loop-place.place
    (item_record c.loop-place.place (item_shown c.index-items-place.result) ∷ []) (numbered_next item_shown c.args.items.now c.loop-place.place c.index-items-place.result low c.index-items-place.is item_record) first
    mid new c.loop-place.invariant.wrote spares (numbered_grows item_shown item_record) e two)

pub insert_item-requires : goal.insert_item-requires
insert_item-requires g c = λ clean lives. has_items (state g.S.Store (g.T.OpenTransaction.held c.loop-place.tx)).now (c.loop-place.invariant.usable clean lives)
