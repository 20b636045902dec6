use Rattle.std.proofs.Common.{[]}
use Rattle.sqlite.specs.Held.{state}
use Rattle.store_tables.proofs.StateLemmas.{stated, makes_aside}
use Rattle.store_sql.specs.HeaderTable.{header}
use Rattle.store_sql.specs.HeaderTexts.{header_create_text}
use Rattle.store_sql.proofs.HeaderTexts.{makes_header, make_fails_in}
use Rattle.store_sql.proofs.header_statements.create_header_table.Goals as goal

pub returns : goal.returns
returns g c =
    let old = state g.S.Store (g.T.OpenTransaction.held c.args.tx.now) in
    let new = state g.S.Store (g.T.OpenTransaction.held c.execute.new.self) in
    let ran =
    stated g.S.Store _ _ header_create_text [] c.execute.result _ ⊥ (makes_aside (header 0) old) c.requires c.execute.ensures.ended c.execute.ensures.runs c.execute.ensures.survives
    (makes_header old new) (λ e free. make_fails_in old new free e) in
    record { same_reference = c.execute.ensures.same_reference; made = λ clean. (ran clean).0; failed = λ clean. (ran clean).1; survives = c.execute.ensures.survives }
