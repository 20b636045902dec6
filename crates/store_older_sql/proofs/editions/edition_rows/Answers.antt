use Rattle.std.proofs.Common.{[], ◌∷◌, refl, arith}
use Rattle.sqlite.specs.declared.types.Value.TheVariants.{Int}
use Rattle.sqlite.specs.Held.{state}
use Rattle.store_tables.specs.Tables.{edition}
use Rattle.store_tables.specs.Effects.{equals_number}
use Rattle.store_sql.specs.Reads.{select_one_edition}
use Rattle.store_sql.proofs.NumberLemmas.{bound_int}
use Rattle.store_sql.proofs.ReadTexts.{read_one_edition, reads_one_edition}
use Rattle.store_sql.proofs.ListingLemmas.{selects, edition_read}
use Rattle.store_sql.proofs.ReadFaults.{a_number, takes_one_edition, fails_to_list}
use Rattle.store_tables.proofs.SilentLemmas.{shows_no_write}
use Rattle.store_older_sql.proofs.editions.edition_rows.Goals as goal

pub query_all-requires : goal.query_all-requires
query_all-requires g c = shows_no_write select_one_edition read_one_edition _ reads_one_edition.read (reads_one_edition.statement 0)

pub returns-clause-selected : goal.returns-clause-selected
returns-clause-selected g c clean =
    let old = state g.S.Store (g.T.OpenTransaction.held c.args.tx.now) in
    let new = state g.S.Store (g.T.OpenTransaction.held c.query_all.new.self) in
    selects select_one_edition read_one_edition edition _ _ _ _ _ _ _ _ reads_one_edition (λ tree. refl) (Int c.args.number ∷ []) (equals_number 1 c.args.number) (λ tree row. edition_read tree c.args.number row) old new
    c.query_all.result (c.requires (omega (arith, c.query_all.ensures.survives.clean)))
    (rw (bound_int _ c.args.number c.ranges.number c.params-to_sql.ensures) at (c.query_all.ensures.ok clean))

pub returns-clause-failed : goal.returns-clause-failed
returns-clause-failed g c clean =
    let old = state g.S.Store (g.T.OpenTransaction.held c.args.tx.now) in
    let new = state g.S.Store (g.T.OpenTransaction.held c.query_all.new.self) in
    fails_to_list select_one_edition read_one_edition edition _ _ _ _ _ _ _ _ reads_one_edition a_number takes_one_edition c.args.number old new (c.requires (omega (arith, c.query_all.ensures.survives.clean))) c.query_all.result
    (rw (bound_int _ c.args.number c.ranges.number c.params-to_sql.ensures) at (c.query_all.ensures.err clean))
