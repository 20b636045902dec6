use Rattle.std.proofs.Common.{◌≡◌, Option, Some, None, pos, rules, subst, sym, ◌∙◌}
use Rattle.std.specs.Prelude.{OnOk, IfErr, slice_range}
use Rattle.store_rows.specs.After.{Installed}
use Rattle.store_holdings.specs.Files.{parts_under, installed_parts}
use Rattle.store_commands.specs.Changes.{installed_by, with_files, with_parts_anew}
use Rattle.store_commands.specs.Statements.{filing_of, parts_anew}
use Rattle.store_commands.specs.Writes.{WroteStatements, FailsToWrite}
use Rattle.store_commands.proofs.AddLemmas.{whole_range, parts_installed, wrote_no_files}
use Rattle.store_commands.proofs.editions.add_installed.Goals as goal

pub returns-in-Install : goal.returns-in-Install
returns-in-Install g c =
    let first = (g.T.OpenTransaction.held c.args.tx.now) in
    let last = (g.T.OpenTransaction.held c.add_files.new.tx) in
    let n = c.args.number in
    let new : Installed = record { owner = c.in-Install.name.now; number = n; reading = c.in-Install.edition.now } in
    let same : installed_by n c.args.command.now ≡ Some new = search rules in
    let are : slice_range (parts_under (pos n) c.args.index.now c.text.result.now) 0 c.part_count.result ≡ installed_parts (Some new) =
    whole_range (parts_under (pos n) c.args.index.now c.text.result.now) c.part_count.result c.part_count.ensures ∙ parts_installed new c.args.index.now c.text.result.now (search rules) c.text.ensures.value in
    record {
      same_reference = c.add_files.ensures.same_reference;
      wrote = subst (λ (e : Option Installed). OnOk c.add_files.result (WroteStatements g.S.Store (filing_of e) (with_files e) first last)) (sym same)
          (subst (λ rows. OnOk c.add_files.result (WroteStatements g.S.Store (parts_anew n rows) (with_parts_anew n rows) first last)) are c.add_files.ensures.wrote);
      usable = c.add_files.ensures.usable;
      failed = subst (λ (e : Option Installed). IfErr c.add_files.result (FailsToWrite g.S.Store (filing_of e) first last)) (sym same)
          (subst (λ rows. IfErr c.add_files.result (FailsToWrite g.S.Store (parts_anew n rows) first last)) are c.add_files.ensures.failed);
      spares = c.add_files.ensures.spares;
    }

pub returns-in-Rollback-clause-wrote : goal.returns-in-Rollback-clause-wrote
returns-in-Rollback-clause-wrote g c =
    let none : installed_by c.args.number c.args.command.now ≡ None = search rules in
    wrote_no_files g.S.Store (installed_by c.args.number c.args.command.now) none (g.T.OpenTransaction.held c.args.tx.now)

pub returns-in-Rollback-2-clause-wrote : goal.returns-in-Rollback-2-clause-wrote
returns-in-Rollback-2-clause-wrote g c =
    let none : installed_by c.args.number c.args.command.now ≡ None = search rules in
    wrote_no_files g.S.Store (installed_by c.args.number c.args.command.now) none (g.T.OpenTransaction.held c.args.tx.now)

pub returns-in-Rollback-3-clause-wrote : goal.returns-in-Rollback-3-clause-wrote
returns-in-Rollback-3-clause-wrote g c =
    let none : installed_by c.args.number c.args.command.now ≡ None = search rules in
    wrote_no_files g.S.Store (installed_by c.args.number c.args.command.now) none (g.T.OpenTransaction.held c.args.tx.now)

pub returns-in-Rollback-4-clause-wrote : goal.returns-in-Rollback-4-clause-wrote
returns-in-Rollback-4-clause-wrote g c =
    let none : installed_by c.args.number c.args.command.now ≡ None = search rules in
    wrote_no_files g.S.Store (installed_by c.args.number c.args.command.now) none (g.T.OpenTransaction.held c.args.tx.now)
