use Rattle.std.proofs.Common.{[]}
use Rattle.sqlite.specs.Held.{state}
use Rattle.store_tables.specs.Tables.{table_of}
use Rattle.store_tables.specs.Creates.{create_text}
use Rattle.store_tables.proofs.StateLemmas.{stated, makes_aside}
use Rattle.store_tables.proofs.CreateLemmas.{make_fails_in, makes_table}
use Rattle.store_tables.proofs.create.create_table.Goals as goal

pub returns : goal.returns
returns g c =
    let old = state g.S.Store (g.T.OpenTransaction.held c.args.tx.now) in
    let new = state g.S.Store (g.T.OpenTransaction.held c.execute.new.self) in
    let ran =
    stated g.S.Store _ _ (create_text c.args.table) [] c.execute.result _ ⊥ (makes_aside (table_of c.args.table 0) old) c.requires c.execute.ensures.ended (rw c.text_of.ensures at c.execute.ensures.runs) c.execute.ensures.survives
    (makes_table c.args.table old new) (λ e free. make_fails_in c.args.table old new free e) in
    record { same_reference = c.execute.ensures.same_reference; made = λ clean. (ran clean).0; failed = λ clean. (ran clean).1; survives = c.execute.ensures.survives }
