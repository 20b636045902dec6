use Rattle.std.proofs.Common.{◌≡◌, Some, ap, rules, sym, ◌∙◌}
use Rattle.store_commands.specs.Changes.{installed_by, installed_header}
use Rattle.store_commands.proofs.editions.installed_header.Goals as goal

pub returns-in-Install : goal.returns-in-Install
returns-in-Install c =
    let same : installed_by c.args.number c.args.command.now ≡ Some (record { owner = c.in-Install.name.now; number = c.args.number; reading = c.in-Install.edition.now }) = search rules in
    ap installed_header same ∙ ap Some (sym (c.header_row.ensures c.in-Install.edition.now (sym c.title.ensures) (sym c.info.ensures)))
