use Rattle.std.proofs.Common.{◌≡◌, sym, ap, ◌∙◌}
use Rattle.std.specs.Prelude.{option_map, option_copied}
use Rattle.std.proofs.lemmas.Result.{on_ok_weaker}
use Rattle.store_holdings.specs.AllTables.{AllTables, all_after}
use Rattle.store_tables.specs.Typed.{lent_header}
use Rattle.store_rows.specs.Versions.{known}
use Rattle.store_commands.specs.Changes.{with_files, finished, installed_header, installed_by, change_by}
use Rattle.store_commands.specs.Statements.{filing_of, finishing, statements_of}
use Rattle.store_commands.proofs.AddLemmas.{whole_turned}
use Rattle.store_commands.proofs.WriteLemmas.{Ends, behind, wrote_as, failed_before}
use Rattle.store_commands.proofs.writing.write_all.Goals as goal

pub returns : goal.returns
returns g c =
    let first = (g.T.OpenTransaction.held c.args.tx.now) in
    let new = (g.T.OpenTransaction.held c.write_rest.new.tx) in
    let edition = installed_by c.args.change.now.summary.installs c.args.command.now in
    let change = change_by c.args.id.now c.args.command.now c.args.change.now in
    let is : installed_header edition ≡ option_map lent_header (option_copied c.as_ref.result) = c.installed_header-header.ensures ∙ ap (option_map lent_header) (sym c.as_ref.ensures.value) in
    let rest : Ends g.S.Store (finishing known change) (finished change) (g.T.OpenTransaction.held c.add_installed.new.tx) new c.write_rest.result =
    record { wrote = c.write_rest.ensures.wrote edition is; failed = c.write_rest.ensures.failed edition is; spares = c.write_rest.ensures.spares } in
    let all = behind g.S.Store c.in_default.ensures.wrote c.add_installed.ensures.spares rest in
    record {
      same_reference = c.write_rest.ensures.same_reference ∙ c.add_installed.ensures.same_reference;
      wrote = on_ok_weaker c.write_rest.result
          (λ wrote. wrote_as g.S.Store (statements_of known change) (λ (all : AllTables). finished change (with_files edition all)) (all_after known change) first new (whole_turned change) wrote) all.wrote;
      sound = c.write_rest.ensures.sound;
      inside = c.write_rest.ensures.inside;
      failed = all.failed;
      spares = all.spares;
    }

pub returns-in-Err-clause-failed : goal.returns-in-Err-clause-failed
returns-in-Err-clause-failed g c =
    failed_before g.S.Store (filing_of (installed_by c.args.change.now.summary.installs c.args.command.now)) (finishing known (change_by c.args.id.now c.args.command.now c.args.change.now))
    (g.T.OpenTransaction.held c.args.tx.now) (g.T.OpenTransaction.held c.add_installed.new.tx) c.in-Err.error c.in-Err.ensures.failed
