use Rattle.std.proofs.Common.{[], ◌∷◌, refl, arith}
use Rattle.sqlite.specs.Held.{state}
use Rattle.sqlite.specs.declared.types.Value.TheVariants.{Int}
use Rattle.store_sql.proofs.NumberLemmas.{bound_int}
use Rattle.store_sql.proofs.ListingLemmas.{selects, reads_nothing_else}
use Rattle.store_sql.proofs.ReadFaults.{fails_to_list}
use Rattle.store_sql.specs.ChosenParts.{is_numbered}
use Rattle.store_sql.specs.PartTable.{part}
use Rattle.store_sql.specs.PartTexts.{part_one_text}
use Rattle.store_sql.proofs.PartReadTexts.{a_numbered, read_one, reads_one, takes_one, one_read}
use Rattle.store_sql.proofs.part_one.part_rows.Goals as goal

pub returns-clause-selected : goal.returns-clause-selected
returns-clause-selected g c clean =
    selects part_one_text read_one part _ _ _ _ _ _ _ _ reads_one (λ tree. refl) (Int c.args.edition ∷ Int c.args.file ∷ Int c.args.number ∷ []) (is_numbered c.args.edition c.args.file c.args.number)
    (λ tree row. one_read tree c.args.edition c.args.file c.args.number row) (state g.S.Store c.args.conn.now) (state g.S.Store c.query_all.new.self) c.query_all.result
    (c.requires (omega (arith, c.query_all.ensures.survives.clean)))
    (rw (bound_int _ c.args.edition c.ranges.edition c.params-to_sql.ensures, bound_int _ c.args.file c.ranges.file c.params-to_sql-2.ensures, bound_int _ c.args.number c.ranges.number c.params-to_sql-3.ensures) at
    (c.query_all.ensures.ok clean))

pub returns-clause-failed : goal.returns-clause-failed
returns-clause-failed g c clean =
    fails_to_list part_one_text read_one part _ _ _ _ _ _ _ _ reads_one a_numbered takes_one (c.args.edition, c.args.file, c.args.number) (state g.S.Store c.args.conn.now) (state g.S.Store c.query_all.new.self)
    (c.requires (omega (arith, c.query_all.ensures.survives.clean))) c.query_all.result
    (rw (bound_int _ c.args.edition c.ranges.edition c.params-to_sql.ensures, bound_int _ c.args.file c.ranges.file c.params-to_sql-2.ensures, bound_int _ c.args.number c.ranges.number c.params-to_sql-3.ensures) at
    (c.query_all.ensures.err clean))

pub returns-clause-survives : goal.returns-clause-survives
returns-clause-survives g c =
    reads_nothing_else part_one_text read_one part _ _ _ _ _ _ _ _ reads_one (λ tree. refl) (Int c.args.edition ∷ Int c.args.file ∷ Int c.args.number ∷ []) (is_numbered c.args.edition c.args.file c.args.number)
    (λ tree row. one_read tree c.args.edition c.args.file c.args.number row) (state g.S.Store c.args.conn.now) (state g.S.Store c.query_all.new.self)
    (rw (bound_int _ c.args.edition c.ranges.edition c.params-to_sql.ensures, bound_int _ c.args.file c.ranges.file c.params-to_sql-2.ensures, bound_int _ c.args.number c.ranges.number c.params-to_sql-3.ensures) at
    c.query_all.ensures.survives)
