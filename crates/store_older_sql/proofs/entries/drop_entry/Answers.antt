use Rattle.std.proofs.Common.{[], codes}
use Rattle.sqlite.specs.Held.{state}
use Rattle.store_tables.proofs.StateLemmas.{stated, drops_aside}
use Rattle.store_older_sql.specs.Entries.{entry_drop_text}
use Rattle.store_older_sql.proofs.EntryTexts.{drops_entry, drop_fails_in}
use Rattle.store_older_sql.proofs.entries.drop_entry.Goals as goal

pub returns : goal.returns
returns g c =
    let old = state g.S.Store (g.T.OpenTransaction.held c.args.tx.now) in
    let new = state g.S.Store (g.T.OpenTransaction.held c.execute.new.self) in
    let ran =
    stated g.S.Store _ _ entry_drop_text [] c.execute.result _ ⊥ (drops_aside (codes "entry") old) c.requires c.execute.ensures.ended c.execute.ensures.runs c.execute.ensures.survives
    (drops_entry c.args._form old new) (drop_fails_in c.args._form old new) in
    record { same_reference = c.execute.ensures.same_reference; dropped = λ clean. (ran clean).0; failed = λ clean. (ran clean).1; survives = c.execute.ensures.survives }
