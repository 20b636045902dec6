use Rattle.std.proofs.Common.{map, ◌++◌, ◌∙◌}
use Rattle.dict_catalogue.specs.Views.{item_shown}
use Rattle.store_rows.specs.Versions.{known}
use Rattle.store_commands.specs.Changes.{with_items, with_members}
use Rattle.store_commands.specs.Statements.{mark_anew, items_anew, members_anew}
use Rattle.store_commands.specs.Writes.{WroteStatements}
use Rattle.store_commands.proofs.WriteLemmas.{Ends, behind, cut, failed_before, spares_then}
use Rattle.store_commands.proofs.writing.write_summary.Goals as goal

pub returns : goal.returns
returns g c =
    let shown = map item_shown c.args.summary.now.items.items in
    let s1 = (g.T.OpenTransaction.held c.write_items.new.tx) in
    let items : WroteStatements g.S.Store (items_anew shown) (with_items shown) (g.T.OpenTransaction.held c.write_mark.new.tx) s1 = rw c.deref.ensures.value at c.in_default-write_items.ensures.wrote in
    let last : Ends g.S.Store (members_anew shown) (with_members shown) s1 (g.T.OpenTransaction.held c.write_members.new.tx) c.write_members.result = record {
      wrote = rw c.deref-2.ensures.value at c.write_members.ensures.wrote;
      failed = rw c.deref-2.ensures.value at c.write_members.ensures.failed;
      spares = c.write_members.ensures.spares;
    } in
    let all = behind g.S.Store c.in_default.ensures.wrote c.write_mark.ensures.spares (behind g.S.Store items c.write_items.ensures.spares last) in
    record {
      same_reference = c.write_members.ensures.same_reference ∙ (c.write_items.ensures.same_reference ∙ c.write_mark.ensures.same_reference);
      wrote = all.wrote;
      usable = c.write_members.ensures.usable;
      failed = all.failed;
      spares = all.spares;
    }

pub returns-in-Err-write_items-clause-spares : goal.returns-in-Err-write_items-clause-spares
returns-in-Err-write_items-clause-spares g c =
    spares_then g.S.Store (g.T.OpenTransaction.held c.args.tx.now) (g.T.OpenTransaction.held c.write_mark.new.tx) (g.T.OpenTransaction.held c.write_items.new.tx) c.write_mark.ensures.spares c.write_items.ensures.spares

pub returns-in-Err-clause-failed : goal.returns-in-Err-clause-failed
returns-in-Err-clause-failed g c =
    let shown = map item_shown c.args.summary.now.items.items in
    failed_before g.S.Store (mark_anew known c.args.summary.now.installs) (items_anew shown ++ members_anew shown) (g.T.OpenTransaction.held c.args.tx.now) (g.T.OpenTransaction.held c.write_mark.new.tx) c.in-Err.error
    c.in-Err.ensures.failed

pub returns-in-Err-write_items-clause-failed : goal.returns-in-Err-write_items-clause-failed
returns-in-Err-write_items-clause-failed g c =
    let shown = map item_shown c.args.summary.now.items.items in
    (behind g.S.Store c.in_default.ensures.wrote c.write_mark.ensures.spares
    (cut g.S.Store (items_anew shown) (members_anew shown) (g.T.OpenTransaction.held c.write_mark.new.tx) (g.T.OpenTransaction.held c.write_items.new.tx) c.in-Err-write_items.error
    (rw c.deref.ensures.value at c.in-Err-write_items.ensures.failed) c.write_items.ensures.spares)).failed
