use Rattle.std.proofs.Common.{rules, ap, sym, ◌∙◌}
use Rattle.std.proofs.lemmas.Int.{to_z-of_z}
use Rattle.std.proofs.lemmas.Result.{on_ok_weaker}
use mir.Syntax.{w64}
use mir.Val.{to_z, of_z, SFits}
use Rattle.sqlite.specs.declared.types.Value.TheVariants.{Int}
use Rattle.store_scans.proofs.TakerLemmas.{at_err, rowids_next, rowids_refused}
use Rattle.store_scans.proofs.takers.RowidReaderTaker.take.Goals as goal

pub returns-clause-taken : goal.returns-clause-taken
returns-clause-taken g c =
    let fits : SFits w64 c.rowid.result = search rules in
    let is = c.rowid.ensures ∙ ap Int (sym (to_z-of_z w64 c.rowid.result fits)) in
    on_ok_weaker c.rowid-2.result (λ more first given h. rowids_next g.R.Record.stored first given c.args.next (to_z w64 (of_z w64 c.rowid.result)) c.args.self.now is h c.rowid-2.new.self more) c.rowid-2.ensures.taken

pub returns-clause-refused : goal.returns-clause-refused
returns-clause-refused g c =
    let fits : SFits w64 c.rowid.result = search rules in
    let is = c.rowid.ensures ∙ ap Int (sym (to_z-of_z w64 c.rowid.result fits)) in
    at_err _ c.rowid-2.result (λ wrong fault e first given h. rowids_refused g.R.Record.stored first given c.args.next (to_z w64 (of_z w64 c.rowid.result)) c.args.self.now is h wrong) c.rowid-2.ensures.damaged
