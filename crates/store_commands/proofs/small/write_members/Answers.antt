use Rattle.std.proofs.Common.{codes, map, ◌∙◌}
use Rattle.sqlite.specs.Held.{state}
use Rattle.dict_catalogue.specs.Views.{item_shown}
use Rattle.store_rows.specs.After.{all_members}
use Rattle.store_commands.specs.Changes.{without_members, with_more_members}
use Rattle.store_commands.specs.Statements.{adding_member}
use Rattle.store_commands.proofs.TableLemmas.{members_to_remove, members_cleared}
use Rattle.store_commands.proofs.WriteLemmas.{Ends, behind_cleared, usable_cleared}
use Rattle.store_commands.proofs.small.write_members.Goals as goal

pub clear_table-requires : goal.clear_table-requires
clear_table-requires g c = λ clean lives. members_to_remove (state g.S.Store (g.T.OpenTransaction.held c.args.tx.now)).now (c.requires.usable clean lives)

pub add_all_members-requires : goal.add_all_members-requires
add_all_members-requires g c = record {
  usable = usable_cleared g.S.Store (codes "member") without_members (g.T.OpenTransaction.held c.args.tx.now) (g.T.OpenTransaction.held c.clear_table.new.tx) c.clear_table.ensures.survives members_cleared
      c.in_ok-clear_table.ensures.removed c.requires.usable;
}

pub returns : goal.returns
returns g c =
    let rows = all_members (map item_shown c.args.items.now) in
    let mid = (g.T.OpenTransaction.held c.clear_table.new.tx) in
    let rest : Ends g.S.Store (map adding_member rows) (with_more_members rows) mid (g.T.OpenTransaction.held c.add_all_members.new.tx) c.add_all_members.result =
    record { wrote = c.add_all_members.ensures.wrote; failed = c.add_all_members.ensures.failed; spares = c.add_all_members.ensures.spares } in
    let all = behind_cleared g.S.Store (codes "member") without_members (g.T.OpenTransaction.held c.args.tx.now) mid c.clear_table.ensures.survives members_cleared c.in_ok-clear_table.ensures.removed rest in
    record {
      same_reference = c.add_all_members.ensures.same_reference ∙ c.clear_table.ensures.same_reference;
      wrote = all.wrote;
      usable = c.add_all_members.ensures.usable;
      failed = all.failed;
      spares = all.spares;
    }
