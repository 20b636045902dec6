use Rattle.std.proofs.Common.{◌≡◌, [], ◌∷◌, ap, not, sym, subst, ◌∙◌}
use Rattle.std.specs.Prelude.{IsTrue, Some, None}
use Rattle.dict_catalogue.specs.Steps.{empty_catalogue}
use Rattle.dict_catalogue.proofs.WellFormedLemmas.{empty_well_formed}
use Rattle.sqlite.specs.Effect.{Database}
use Rattle.sqlite.specs.State.{HasCleanDisk, Survives}
use Rattle.sqlite.specs.Held.{state}
use Rattle.store_holdings.specs.Holds.{Holds, Rests}
use Rattle.store_holdings.specs.Committed.{IsTreesOf}
use Rattle.store_migration.specs.Making.{creation, CreationFailsToEnd}
use Rattle.store_migration.specs.Spared.{SparesOthers}
use Rattle.store_desk.specs.Desk.{DeskState, KeepsBeside, LeavesOneOf}
use Rattle.store_desk.proofs.DeskLemmas.{alone}
use Rattle.store_desk.proofs.OverLemmas.{beside_made}
use Rattle.store_desk.proofs.desk.Desk.create.Goals as goal
use Rattle.store_rows.specs.Versions.{known}
use Rattle.store_holdings.proofs.OneLemmas.{left_known}

pub returns-in-Ok-clause-shows : goal.returns-in-Ok-clause-shows
returns-in-Ok-clause-shows g c = c.over.ensures.shows empty_catalogue c.new.ensures empty_well_formed c.in-Ok.ensures.rests (λ clean. tt)

pub returns-in-Ok-clause-only : goal.returns-in-Ok-clause-only
returns-in-Ok-clause-only g c = subst (λ (d : DeskState _). LeavesOneOf g.S.Store d (Some empty_catalogue ∷ [])) (sym c.over.ensures.is)
    (λ clean trees may. (Some empty_catalogue, alone empty_catalogue, left_known empty_catalogue trees (c.in-Ok.ensures.only clean trees may)))

pub returns-in-Ok-clause-rests : goal.returns-in-Ok-clause-rests
returns-in-Ok-clause-rests g c = subst (λ (d : DeskState _). HasCleanDisk (state g.S.Store d.conn) → Rests known (state g.S.Store d.conn) empty_catalogue) (sym c.over.ensures.is) c.in-Ok.ensures.rests

pub returns-in-Ok-clause-others : goal.returns-in-Ok-clause-others
returns-in-Ok-clause-others g c = λ clean.
    let there = subst (λ (d : DeskState _). HasCleanDisk (state g.S.Store d.conn)) c.over.ensures.is clean in
    let as_was = subst (λ conn. SparesOthers (state g.S.Store conn).now (state g.S.Store c.create.new.conn).now) c.set_step_limit.ensures (c.in-Ok.ensures.spares there) in
    subst (λ (d : DeskState _). SparesOthers (state g.S.Store c.args.conn).now (state g.S.Store d.conn).now) (sym c.over.ensures.is) as_was

pub returns-in-Ok-clause-beside : goal.returns-in-Ok-clause-beside
returns-in-Ok-clause-beside g c =
    let as_was = subst (λ conn. Survives (state g.S.Store conn) (state g.S.Store c.create.new.conn) (IsTreesOf (SparesOthers (state g.S.Store conn).now))) c.set_step_limit.ensures c.create.ensures.beside in
    subst (λ (d : DeskState _). Survives (state g.S.Store (record c.args.conn { step_limit = None })) (state g.S.Store d.conn) (IsTreesOf (SparesOthers (state g.S.Store c.args.conn).now))) (sym c.over.ensures.is) as_was

pub returns-in-Err-clause-beside_left : goal.returns-in-Err-clause-beside_left
returns-in-Err-clause-beside_left g c =
    subst (λ conn. Survives (state g.S.Store conn) (state g.S.Store c.create.new.conn) (IsTreesOf (SparesOthers (state g.S.Store conn).now))) c.set_step_limit.ensures c.create.ensures.beside

pub returns-in-Err-clause-failed : goal.returns-in-Err-clause-failed
returns-in-Err-clause-failed g c = λ clean other.
    subst (λ conn. CreationFailsToEnd g.S.Store (creation known) (λ (db : Database). Holds known db empty_catalogue) conn c.create.new.conn c.in-Err.fault) c.set_step_limit.ensures (c.in-Err.ensures.failed clean other)

pub returns-in-Ok-clause-keeps : goal.returns-in-Ok-clause-keeps
returns-in-Ok-clause-keeps g c db keeps =
    let old = c.args.conn in
    let settled : IsTrue (state g.S.Store old).is_open → (state g.S.Store old).now ≡ (state g.S.Store old).committed = c.is_autocommit.ensures.settled (c.is_autocommit.ensures.value ∙ ap not c.requires) in
    let opened : HasCleanDisk (state g.S.Store c.create.new.conn) → IsTrue (state g.S.Store old).is_open =
    λ clean. subst (λ conn. IsTrue (state g.S.Store conn).is_open) c.set_step_limit.ensures (c.in-Ok.ensures.lives clean) in
    let as_was = subst (λ conn. Survives (state g.S.Store conn) (state g.S.Store c.create.new.conn) (IsTreesOf (SparesOthers (state g.S.Store conn).now))) c.set_step_limit.ensures c.create.ensures.beside in
    subst (λ (d : DeskState _). KeepsBeside g.S.Store d db) (sym c.over.ensures.is)
    (beside_made g.S.Store old c.create.new.conn c.is_whole.ensures.live c.committed_may_stay.ensures db keeps settled opened as_was)
