use Rattle.std.proofs.Common.{codes, map, ◌∙◌}
use Rattle.sqlite.specs.Held.{state}
use Rattle.dict_catalogue.specs.Views.{item_shown}
use Rattle.store_rows.specs.Written.{numbered, item_record}
use Rattle.store_commands.specs.Changes.{without_items, with_more_items}
use Rattle.store_commands.specs.Statements.{adding_item}
use Rattle.store_commands.proofs.TableLemmas.{items_to_remove, items_cleared}
use Rattle.store_commands.proofs.WriteLemmas.{Ends, behind_cleared, usable_cleared}
use Rattle.store_commands.proofs.small.write_items.Goals as goal

pub clear_table-requires : goal.clear_table-requires
clear_table-requires g c = λ clean lives. items_to_remove (state g.S.Store (g.T.OpenTransaction.held c.args.tx.now)).now (c.requires.usable clean lives)

pub add_items-requires-clause-usable : goal.add_items-requires-clause-usable
add_items-requires-clause-usable g c =
    usable_cleared g.S.Store (codes "item") without_items (g.T.OpenTransaction.held c.args.tx.now) (g.T.OpenTransaction.held c.clear_table.new.tx) c.clear_table.ensures.survives items_cleared
    c.in_ok-clear_table.ensures.removed c.requires.usable

pub returns : goal.returns
returns g c =
    let rows = numbered item_record 0 (map item_shown c.args.items.now) in
    let mid = (g.T.OpenTransaction.held c.clear_table.new.tx) in
    let rest : Ends g.S.Store (map adding_item rows) (with_more_items rows) mid (g.T.OpenTransaction.held c.add_items.new.tx) c.add_items.result =
    record { wrote = c.add_items.ensures.wrote; failed = c.add_items.ensures.failed; spares = c.add_items.ensures.spares } in
    let all = behind_cleared g.S.Store (codes "item") without_items (g.T.OpenTransaction.held c.args.tx.now) mid c.clear_table.ensures.survives items_cleared c.in_ok-clear_table.ensures.removed rest in
    record {
      same_reference = c.add_items.ensures.same_reference ∙ c.clear_table.ensures.same_reference;
      wrote = all.wrote;
      usable = c.add_items.ensures.usable;
      failed = all.failed;
      spares = all.spares;
    }
