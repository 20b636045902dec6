use Rattle.std.proofs.Common.{[], ◌∷◌, refl, arith}
use Rattle.sqlite.specs.declared.types.Value.TheVariants.{Int}
use Rattle.sqlite.specs.Held.{state}
use Rattle.store_tables.specs.Tables.{entry}
use Rattle.store_tables.specs.Effects.{equals_number}
use Rattle.store_sql.specs.Reads.{select_some_entries}
use Rattle.store_sql.proofs.NumberLemmas.{bound_int}
use Rattle.store_sql.proofs.ReadTexts.{read_some_entries, reads_some_entries}
use Rattle.store_sql.proofs.ListingLemmas.{selects, entry_read}
use Rattle.store_sql.proofs.ReadFaults.{a_number, takes_some_entries, fails_to_list}
use Rattle.store_tables.proofs.SilentLemmas.{shows_no_write}
use Rattle.store_older_sql.proofs.inside.entry_rows.Goals as goal

pub query_all-requires : goal.query_all-requires
query_all-requires g c = shows_no_write select_some_entries read_some_entries _ reads_some_entries.read (reads_some_entries.statement 0)

pub returns-clause-selected : goal.returns-clause-selected
returns-clause-selected g c clean =
    let old = state g.S.Store (g.T.OpenTransaction.held c.args.tx.now) in
    let new = state g.S.Store (g.T.OpenTransaction.held c.query_all.new.self) in
    selects select_some_entries read_some_entries entry _ _ _ _ _ _ _ _ reads_some_entries (λ tree. refl) (Int c.args.edition ∷ []) (equals_number 1 c.args.edition) (λ tree row. entry_read tree c.args.edition row) old new
    c.query_all.result (c.requires (omega (arith, c.query_all.ensures.survives.clean)))
    (rw (bound_int _ c.args.edition c.ranges.edition c.params-to_sql.ensures) at (c.query_all.ensures.ok clean))

pub returns-clause-failed : goal.returns-clause-failed
returns-clause-failed g c clean =
    let old = state g.S.Store (g.T.OpenTransaction.held c.args.tx.now) in
    let new = state g.S.Store (g.T.OpenTransaction.held c.query_all.new.self) in
    fails_to_list select_some_entries read_some_entries entry _ _ _ _ _ _ _ _ reads_some_entries a_number takes_some_entries c.args.edition old new (c.requires (omega (arith, c.query_all.ensures.survives.clean))) c.query_all.result
    (rw (bound_int _ c.args.edition c.ranges.edition c.params-to_sql.ensures) at (c.query_all.ensures.err clean))
