use Rattle.std.proofs.Common.{◌≡◌, length, get_or, arith}
use Rattle.store_tables.specs.Typed.{owned_mark}
use Rattle.store_rows.proofs.RecordLemmas.{one_mark}
use Rattle.store_opening.proofs.MarkLemmas.{told_marked, none_marked}
use Rattle.store_opening.proofs.opening.version_of.Goals as goal

pub returns-clause-told : goal.returns-clause-told
returns-clause-told c =
    let one : length c.args.marks.now ≡ 1 = omega arith in
    let mark = get_or c.args.marks.now 0 c.index-marks-0.result in
    told_marked c.version_in.result c.args.marks.now (owned_mark mark.value) mark.value.installs (one_mark c.args.marks.now c.index-marks-0.result one) c.version_in.ensures.told

pub returns-clause-none : goal.returns-clause-none
returns-clause-none c =
    let one : length c.args.marks.now ≡ 1 = omega arith in
    let mark = get_or c.args.marks.now 0 c.index-marks-0.result in
    none_marked c.version_in.result c.args.marks.now (owned_mark mark.value) (one_mark c.args.marks.now c.index-marks-0.result one) c.version_in.ensures.none
