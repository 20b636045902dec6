use Rattle.std.proofs.Common.{refl, subst, map, ◌∙◌, ◌<◌, length}
use Rattle.std.proofs.lemmas.List.{take_all}
use Rattle.store_sql.proofs.StreamLemmas.{passed_on}
use Rattle.store_commands.specs.Writes.{WroteStatements, FailsToWrite}
use Rattle.dict_catalogue.specs.Items.{name_of, members_of}
use Rattle.dict_catalogue.specs.Views.{item_shown}
use Rattle.store_rows.specs.Written.{numbered, member_record}
use Rattle.store_rows.specs.After.{all_members}
use Rattle.store_commands.specs.Changes.{with_more_members}
use Rattle.store_commands.specs.Statements.{adding_member}
use Rattle.store_commands.proofs.LoopLemmas.{adding_none, adding_wrote, adding_failed, members_none, members_last, joined_next, joined_grows}
use Rattle.store_commands.proofs.WriteLemmas.{spares_none, spares_then}
use Rattle.store_commands.proofs.small.add_all_members.Goals as goal

pub each-preserved : goal.each-preserved
each-preserved g c =
    let first = (g.T.OpenTransaction.held c.args.tx.now) in
    let mid = (g.T.OpenTransaction.held c.each.tx) in
    let new = (g.T.OpenTransaction.held c.add_members_of.new.tx) in
    let low : c.each.item-index < length c.args.items.now = c.each-test.true in
    let spares = c.add_members_of.ensures.spares in
    let one = c.in_ok-add_members_of.ensures.wrote in
    record {
      same_reference = c.add_members_of.ensures.same_reference ∙ c.each.invariant.same_reference;
      wrote = adding_wrote g.S.Store adding_member with_more_members members_last (λ l. all_members (map item_shown l)) c.args.items.now c.each.item-index
          (numbered (member_record (name_of (item_shown c.item-item.result))) 0 (members_of (item_shown c.item-item.result)))
          (joined_next item_shown c.args.items.now c.each.item-index c.item-item.result low c.item-item.is (λ item. numbered (member_record (name_of item)) 0 (members_of item))) first mid new c.each.invariant.wrote spares
          one;
      usable = c.in_ok-add_members_of.ensures.usable;
      spares = spares_then g.S.Store first mid new c.each.invariant.spares spares;
    }

pub each-init : goal.each-init
each-init g c =
    let first = (g.T.OpenTransaction.held c.args.tx.now) in
    record {
      same_reference = refl;
      wrote = adding_none g.S.Store adding_member with_more_members members_none first;
      usable = c.requires.usable;
      spares = spares_none g.S.Store first;
    }

pub returns-clause-wrote : goal.returns-clause-wrote
returns-clause-wrote g c =
    subst (λ l. WroteStatements g.S.Store (map adding_member (all_members (map item_shown l))) (with_more_members (all_members (map item_shown l))) (g.T.OpenTransaction.held c.args.tx.now) (g.T.OpenTransaction.held c.each.tx))
    (take_all c.each.item-index c.args.items.now c.each-test.false) c.each.invariant.wrote

pub returns-in_err-add_members_of-clause-spares : goal.returns-in_err-add_members_of-clause-spares
returns-in_err-add_members_of-clause-spares g c =
    let first = (g.T.OpenTransaction.held c.args.tx.now) in
    let mid = (g.T.OpenTransaction.held c.each.tx) in
    let new = (g.T.OpenTransaction.held c.add_members_of.new.tx) in
    let spares = c.add_members_of.ensures.spares in
    spares_then g.S.Store first mid new c.each.invariant.spares spares

pub returns-in_err-add_members_of-clause-failed : goal.returns-in_err-add_members_of-clause-failed
returns-in_err-add_members_of-clause-failed g c =
    let first = (g.T.OpenTransaction.held c.args.tx.now) in
    let mid = (g.T.OpenTransaction.held c.each.tx) in
    let new = (g.T.OpenTransaction.held c.add_members_of.new.tx) in
    let low : c.each.item-index < length c.args.items.now = c.each-test.true in
    let spares = c.add_members_of.ensures.spares in
    let e = c.in_err-add_members_of.field-0.0 in
    let two = c.in_err-add_members_of.ensures.failed in
    passed_on (FailsToWrite g.S.Store (map adding_member (all_members (map item_shown c.args.items.now))) first new) e c.from_residual.result c.from_residual.ensures.1
    (adding_failed g.S.Store adding_member with_more_members members_last (λ l. all_members (map item_shown l)) c.args.items.now c.each.item-index
    (numbered (member_record (name_of (item_shown c.item-item.result))) 0 (members_of (item_shown c.item-item.result)))
    (joined_next item_shown c.args.items.now c.each.item-index c.item-item.result low c.item-item.is (λ item. numbered (member_record (name_of item)) 0 (members_of item))) first mid new c.each.invariant.wrote spares
    (joined_grows item_shown (λ item. numbered (member_record (name_of item)) 0 (members_of item))) e two)
