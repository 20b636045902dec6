use Rattle.std.proofs.Common.{List, [], ◌∷◌, codes, map, inl, inr, refl, subst}
use Rattle.store_sql.specs.Inserts.{Inserts, FailsToInsert}
use Rattle.store_sql.specs.Statements.{make, add}
use Rattle.store_rows.specs.Versions.{known}
use Rattle.store_sql.proofs.TurnLemmas.{run_then, fails_before, fails_after}
use Rattle.store_migration.specs.Making.{CreationStep, one, making, lasting_tables, creation, StepSucceeds, StepFails, StepsFailInTurn, StepsRunInTurn}
use Rattle.store_migration.proofs.KitLemmas.{state, IsAdded, own_has, passed_on, header, part, two_survive, three_survive, was_clean, Mark, mark_row, mark_record}
use Rattle.store_migration.proofs.MakingLemmas.{lasting_apart, headers_free, parts_free, mark_there, empty_held}
use Rattle.store_migration.proofs.OtherLemmas.{others_created}
use Rattle.store_migration.proofs.making.make_all.Goals as goal

abbrev marking : CreationStep
marking = one (add (codes "mark") (mark_row (mark_record known 0)))

abbrev first : List CreationStep
first = map one (map make lasting_tables)

abbrev later : List CreationStep
later = making (header 0) ∷ making (part 0) ∷ marking ∷ []

pub make_each-requires-clause-apart : goal.make_each-requires-clause-apart
make_each-requires-clause-apart g c = lasting_apart

pub create_header_table-requires : goal.create_header_table-requires
create_header_table-requires g c clean open' =
    let clean0 = was_clean c.make_each.ensures.survives clean in
    let opened = (c.make_each.ensures.keeps clean).was_open open' in
    headers_free _ _ (c.requires.place clean0 opened) (c.requires.ready clean0 opened).sound (c.in_ok-make_each.ensures.made clean)

pub create_part_table-requires : goal.create_part_table-requires
create_part_table-requires g c clean open' =
    let clean1 = was_clean c.create_header_table.ensures.survives clean in
    let clean0 = was_clean c.make_each.ensures.survives clean1 in
    let headed = c.in_ok-create_header_table.ensures.made clean in
    let opened = (c.make_each.ensures.keeps clean1).was_open headed.1.was_open in
    parts_free _ _ (c.requires.place clean0 opened) (c.requires.ready clean0 opened).sound (c.in_ok-make_each.ensures.made clean1) _ headed.0

pub insert_mark-requires : goal.insert_mark-requires
insert_mark-requires g c clean open' =
    let clean2 = was_clean c.create_part_table.ensures.survives clean in
    let clean1 = was_clean c.create_header_table.ensures.survives clean2 in
    let clean0 = was_clean c.make_each.ensures.survives clean1 in
    let headed = c.in_ok-create_header_table.ensures.made clean2 in
    let opened = (c.make_each.ensures.keeps clean1).was_open headed.1.was_open in
    let s3 = state g.S.Store (g.T.OpenTransaction.held c.create_part_table.new.tx) in
    own_has _ s3.now (mark_there _ _ (c.requires.place clean0 opened) (c.requires.ready clean0 opened).sound (c.in_ok-make_each.ensures.made clean1) _ headed.0 s3.now (c.in_ok-create_part_table.ensures.made clean).0)

pub returns-clause-made : goal.returns-clause-made
returns-clause-made g c clean =
    let clean3 = was_clean c.insert_mark.ensures.survives clean in
    let clean2 = was_clean c.create_part_table.ensures.survives clean3 in
    let clean1 = was_clean c.create_header_table.ensures.survives clean2 in
    let clean0 = was_clean c.make_each.ensures.survives clean1 in
    let headed = c.in_ok-create_header_table.ensures.made clean2 in
    let parted = c.in_ok-create_part_table.ensures.made clean3 in
    let opened = (c.make_each.ensures.keeps clean1).was_open headed.1.was_open in
    let s3 = state g.S.Store (g.T.OpenTransaction.held c.create_part_table.new.tx) in
    let s4 = state g.S.Store (g.T.OpenTransaction.held c.insert_mark.new.tx) in
    let put = subst (λ (m : Mark). IsAdded (codes "mark") (mark_row m) s3.now s4.now) c.mark_row-mark.ensures (c.in_ok-insert_mark.ensures.added clean).0 in
    (empty_held _ _ (c.requires.place clean0 opened) (c.requires.ready clean0 opened).sound (c.in_ok-make_each.ensures.made clean1) _ headed.0 _ parted.0 _ put, put.sound)

pub returns-clause-spares : goal.returns-clause-spares
returns-clause-spares g c clean =
    let clean3 = was_clean c.insert_mark.ensures.survives clean in
    let clean2 = was_clean c.create_part_table.ensures.survives clean3 in
    let clean1 = was_clean c.create_header_table.ensures.survives clean2 in
    let clean0 = was_clean c.make_each.ensures.survives clean1 in
    let headed = c.in_ok-create_header_table.ensures.made clean2 in
    let parted = c.in_ok-create_part_table.ensures.made clean3 in
    let opened = (c.make_each.ensures.keeps clean1).was_open headed.1.was_open in
    let made = c.in_ok-make_each.ensures.made clean1 in
    let s3 = state g.S.Store (g.T.OpenTransaction.held c.create_part_table.new.tx) in
    let s4 = state g.S.Store (g.T.OpenTransaction.held c.insert_mark.new.tx) in
    let put = subst (λ (m : Mark). IsAdded (codes "mark") (mark_row m) s3.now s4.now) c.mark_row-mark.ensures (c.in_ok-insert_mark.ensures.added clean).0 in
    let holds = empty_held _ _ (c.requires.place clean0 opened) (c.requires.ready clean0 opened).sound made _ headed.0 _ parted.0 _ put in
    others_created _ _ _ _ _ made headed.0 parted.0 (mark_there _ _ (c.requires.place clean0 opened) (c.requires.ready clean0 opened).sound made _ headed.0 _ parted.0) holds.own.tables.1.1.1.1.0 put.schema put.others

pub returns-clause-ran : goal.returns-clause-ran
returns-clause-ran g c clean =
    let clean3 = was_clean c.insert_mark.ensures.survives clean in
    let clean2 = was_clean c.create_part_table.ensures.survives clean3 in
    let h2 = (g.T.OpenTransaction.held c.create_header_table.new.tx) in
    let h3 = (g.T.OpenTransaction.held c.create_part_table.new.tx) in
    let h4 = (g.T.OpenTransaction.held c.insert_mark.new.tx) in
    let ran = c.in_ok-make_each.ensures.ran (was_clean c.create_header_table.ensures.survives clean2) in
    let put = subst (λ (m : Mark). Inserts (codes "mark") (mark_row m) (state g.S.Store h3) (state g.S.Store h4)) c.mark_row-mark.ensures (c.in_ok-insert_mark.ensures.added clean) in
    let rest : StepsRunInTurn g.S.Store (making (part 0) ∷ marking ∷ []) h2 h4 = (h3, (c.in_ok-create_part_table.ensures.made clean3, c.create_part_table.ensures.survives), (h4, (put, c.insert_mark.ensures.survives), refl)) in
    run_then g.S.Store StepSucceeds first later (g.T.OpenTransaction.held c.args.tx.now) (g.T.OpenTransaction.held c.make_each.new.tx) h4 ran
    (h2, (c.in_ok-create_header_table.ensures.made clean2, c.create_header_table.ensures.survives), rest)

pub returns-in_err-make_each-clause-failed : goal.returns-in_err-make_each-clause-failed
returns-in_err-make_each-clause-failed g c clean =
    passed_on _ _ _ c.from_residual.ensures.1 (fails_before g.S.Store StepSucceeds StepFails first later (g.T.OpenTransaction.held c.args.tx.now) (g.T.OpenTransaction.held c.make_each.new.tx) _ (c.in_err-make_each.ensures.failed clean))

pub returns-in_err-create_header_table-clause-failed : goal.returns-in_err-create_header_table-clause-failed
returns-in_err-create_header_table-clause-failed g c clean =
    let ran = c.in_ok-make_each.ensures.ran (was_clean c.create_header_table.ensures.survives clean) in
    passed_on (StepsFailInTurn g.S.Store (creation known) (g.T.OpenTransaction.held c.args.tx.now) (g.T.OpenTransaction.held c.create_header_table.new.tx)) _ _ c.from_residual-in_err-create_header_table.ensures.1
    (fails_after g.S.Store StepSucceeds StepFails first later (g.T.OpenTransaction.held c.args.tx.now) (g.T.OpenTransaction.held c.make_each.new.tx) (g.T.OpenTransaction.held c.create_header_table.new.tx) _ ran
    (inl (c.in_err-create_header_table.ensures.failed clean, c.create_header_table.ensures.survives)))

pub returns-in_err-create_part_table-clause-failed : goal.returns-in_err-create_part_table-clause-failed
returns-in_err-create_part_table-clause-failed g c clean =
    let h2 = (g.T.OpenTransaction.held c.create_header_table.new.tx) in
    let clean2 = was_clean c.create_part_table.ensures.survives clean in
    let ran = c.in_ok-make_each.ensures.ran (was_clean c.create_header_table.ensures.survives clean2) in
    passed_on (StepsFailInTurn g.S.Store (creation known) (g.T.OpenTransaction.held c.args.tx.now) (g.T.OpenTransaction.held c.create_part_table.new.tx)) _ _ c.from_residual-in_err-create_part_table.ensures.1
    (fails_after g.S.Store StepSucceeds StepFails first later (g.T.OpenTransaction.held c.args.tx.now) (g.T.OpenTransaction.held c.make_each.new.tx) (g.T.OpenTransaction.held c.create_part_table.new.tx) _ ran
    (inr (h2, (c.in_ok-create_header_table.ensures.made clean2, c.create_header_table.ensures.survives), inl (c.in_err-create_part_table.ensures.failed clean, c.create_part_table.ensures.survives))))

pub returns-in_err-insert_mark-clause-failed : goal.returns-in_err-insert_mark-clause-failed
returns-in_err-insert_mark-clause-failed g c clean =
    let h3 = (g.T.OpenTransaction.held c.create_part_table.new.tx) in
    let h4 = (g.T.OpenTransaction.held c.insert_mark.new.tx) in
    let clean3 = was_clean c.insert_mark.ensures.survives clean in
    let clean2 = was_clean c.create_part_table.ensures.survives clean3 in
    let ran = c.in_ok-make_each.ensures.ran (was_clean c.create_header_table.ensures.survives clean2) in
    let put = subst (λ (m : Mark). FailsToInsert (codes "mark") (mark_row m) (state g.S.Store h3) (state g.S.Store h4) c.in_err-insert_mark.field-0.0) c.mark_row-mark.ensures (c.in_err-insert_mark.ensures.failed clean) in
    passed_on (StepsFailInTurn g.S.Store (creation known) (g.T.OpenTransaction.held c.args.tx.now) h4) _ _ c.from_residual-in_err-insert_mark.ensures.1
    (fails_after g.S.Store StepSucceeds StepFails first later (g.T.OpenTransaction.held c.args.tx.now) (g.T.OpenTransaction.held c.make_each.new.tx) h4 _ ran
    (inr (
      (g.T.OpenTransaction.held c.create_header_table.new.tx),
      (c.in_ok-create_header_table.ensures.made clean2, c.create_header_table.ensures.survives),
      inr (h3, (c.in_ok-create_part_table.ensures.made clean3, c.create_part_table.ensures.survives), inl (put, c.insert_mark.ensures.survives)),
    )))

pub returns-in_err-create_header_table-clause-survives : goal.returns-in_err-create_header_table-clause-survives
returns-in_err-create_header_table-clause-survives g c = two_survive _ _ _ c.make_each.ensures.survives c.create_header_table.ensures.survives

pub returns-in_err-create_part_table-clause-survives : goal.returns-in_err-create_part_table-clause-survives
returns-in_err-create_part_table-clause-survives g c = three_survive _ _ _ _ c.make_each.ensures.survives c.create_header_table.ensures.survives c.create_part_table.ensures.survives

pub returns-in_err-insert_mark-clause-survives : goal.returns-in_err-insert_mark-clause-survives
returns-in_err-insert_mark-clause-survives g c =
    two_survive _ _ _ (three_survive _ _ _ _ c.make_each.ensures.survives c.create_header_table.ensures.survives c.create_part_table.ensures.survives) c.insert_mark.ensures.survives

pub returns-clause-survives : goal.returns-clause-survives
returns-clause-survives g c =
    two_survive _ _ _ (three_survive _ _ _ _ c.make_each.ensures.survives c.create_header_table.ensures.survives c.create_part_table.ensures.survives) c.insert_mark.ensures.survives
