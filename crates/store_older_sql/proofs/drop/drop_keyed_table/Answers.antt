use Rattle.std.proofs.Common.{[]}
use Rattle.sqlite.specs.Held.{state}
use Rattle.store_tables.proofs.StateLemmas.{stated, drops_aside}
use Rattle.store_tables.specs.Keyed.{keyed_table_of}
use Rattle.store_older_sql.specs.Texts.{keyed_drop_text}
use Rattle.store_older_sql.proofs.DropTexts.{drops_table, drop_fails_in}
use Rattle.store_older_sql.proofs.drop.drop_keyed_table.Goals as goal

pub returns : goal.returns
returns g c =
    let old = state g.S.Store (g.T.OpenTransaction.held c.args.tx.now) in
    let new = state g.S.Store (g.T.OpenTransaction.held c.execute.new.self) in
    let ran =
    stated g.S.Store _ _ (keyed_drop_text c.args.table) [] c.execute.result _ ⊥ (drops_aside (keyed_table_of c.args.table 0).name old)
    c.requires c.execute.ensures.ended (rw c.keyed_text_of.ensures at c.execute.ensures.runs) c.execute.ensures.survives
    (drops_table c.args.table old new) (drop_fails_in c.args.table old new) in
    record { same_reference = c.execute.ensures.same_reference; dropped = λ clean. (ran clean).0; failed = λ clean. (ran clean).1; survives = c.execute.ensures.survives }
