use Rattle.std.proofs.Common.{rules, ap, sym, ◌∙◌}
use Rattle.std.proofs.lemmas.Int.{to_z-of_z}
use mir.Syntax.{w64}
use mir.Val.{to_z, of_z, SFits}
use Rattle.sqlite.specs.declared.types.Value.TheVariants.{Int}
use Rattle.store_scans.proofs.CensusLemmas.{census_next, census_refused}
use Rattle.store_scans.proofs.TakerLemmas.{if_err_then, ok_both}
use Rattle.store_scans.proofs.census.CensusTaker.take.Goals as goal

pub returns-clause-taken : goal.returns-clause-taken
returns-clause-taken g c =
    let fits : SFits w64 c.rowid.result = search rules in
    let fits_edition : SFits w64 c.edition.result = search rules in
    let rowid = c.rowid.ensures ∙ ap Int (sym (to_z-of_z w64 c.rowid.result fits)) in
    let number = c.edition.ensures ∙ ap Int (sym (to_z-of_z w64 c.edition.result fits_edition)) in
    ok_both c.row.result c.row.ensures.taken c.row.ensures.known
    (λ more known first given h. census_next g.R.Record.stored first given c.args.next c.args.self.now h (to_z w64 (of_z w64 c.rowid.result)) (to_z w64 (of_z w64 c.edition.result)) rowid number c.row.new.self c.row.ensures.numbers
    more known)

pub returns-clause-refused : goal.returns-clause-refused
returns-clause-refused g c =
    let fits : SFits w64 c.rowid.result = search rules in
    let fits_edition : SFits w64 c.edition.result = search rules in
    let rowid = c.rowid.ensures ∙ ap Int (sym (to_z-of_z w64 c.rowid.result fits)) in
    let number = c.edition.ensures ∙ ap Int (sym (to_z-of_z w64 c.edition.result fits_edition)) in
    if_err_then _ _ c.row.result
    (λ fault wrong is first given h. census_refused g.R.Record.stored first given c.args.next c.args.self.now h (to_z w64 (of_z w64 c.rowid.result)) (to_z w64 (of_z w64 c.edition.result)) rowid number (wrong is))
    c.row.ensures.damaged
