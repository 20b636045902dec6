use Rattle.std.proofs.Common.{refl, rules, sym}
use Rattle.std.proofs.lemmas.Int.{to_z-of_z}
use Rattle.std.proofs.lemmas.Result.{on_ok_weaker}
use mir.Syntax.{w64}
use mir.Val.{to_z, of_z, SFits}
use Rattle.store_sql.proofs.StreamLemmas.{passed_on}
use Rattle.store_scans.proofs.CensusLemmas.{part_next, part_twice, part_strays}
use Rattle.store_scans.proofs.TakerLemmas.{at_err}
use Rattle.store_scans.proofs.census.PartCensusTakerStoredPart.take.Goals as goal

pub returns-in_err-test_part-clause-refused : goal.returns-in_err-test_part-clause-refused
returns-in_err-test_part-clause-refused c =
    passed_on _ _ c.from_residual.result c.from_residual.ensures.1 (λ is first given h. part_strays first given c.args.next c.args.self.now h (c.in_err-test_part.ensures.damaged is))

pub returns-clause-taken : goal.returns-clause-taken
returns-clause-taken c =
    let fits : SFits w64 c.args.next.rowid = search rules in
    let rowid = sym (to_z-of_z w64 c.args.next.rowid fits) in
    on_ok_weaker c.rowid.result
    (λ more first given h. part_next first given c.args.next c.args.self.now h (to_z w64 (of_z w64 c.args.next.rowid)) rowid
    (record { numbers = c.args.self.now.numbers; may_have_orphans = c.args.self.now.may_have_orphans; rowids = c.rowid.new.self; orphans = c.test_part.new.orphans }) refl refl more c.in_ok-test_part.ensures.passes)
    c.rowid.ensures.taken

pub returns-clause-refused : goal.returns-clause-refused
returns-clause-refused c =
    let fits : SFits w64 c.args.next.rowid = search rules in
    let rowid = sym (to_z-of_z w64 c.args.next.rowid fits) in
    at_err _ c.rowid.result (λ wrong fault e first given h. part_twice first given c.args.next c.args.self.now h (to_z w64 (of_z w64 c.args.next.rowid)) rowid wrong) c.rowid.ensures.damaged
