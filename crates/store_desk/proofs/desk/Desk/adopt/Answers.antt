use Rattle.std.proofs.Common.{◌≡◌, ◌↔◌, refl, subst, sym}
use Rattle.std.specs.Prelude.{IsTrue, Some}
use Rattle.sqlite.specs.State.{HasCleanDisk, Survives}
use Rattle.sqlite.specs.Held.{state}
use Rattle.dict_catalogue.specs.Steps.{Catalogue, summary_of}
use Rattle.store_holdings.specs.Holds.{Holds, IsHeld, Rests}
use Rattle.store_migration.specs.Migrated.{MayMigrate}
use Rattle.store_desk.specs.Desk.{DeskState, Shows}
use Rattle.store_desk.specs.Indexed.{AreHeldCut}
use Rattle.store_desk.specs.Opened.{IsNotHeld, TellsOfDatabase}
use Rattle.store_migration.specs.Moved.{IsRenewedFrom}
use Rattle.store_migration.specs.Spared.{SparesOthers}
use Rattle.store_desk.specs.Adopted.{FailsToOpen, IsAdopted, MayCommitBeside}
use Rattle.store_desk.proofs.DeskLemmas.{alone, left_alone}
use Rattle.store_desk.proofs.OverLemmas.{beside_after}
use Rattle.store_desk.proofs.desk.Desk.adopt.Goals as goal
use Rattle.store_rows.specs.Versions.{known}

pub returns-in-Ok-clause-left : goal.returns-in-Ok-clause-left
returns-in-Ok-clause-left g c = λ clean M left.
    let there = subst (λ (d : DeskState _). HasCleanDisk (state g.S.Store d.conn)) c.over.ensures.is clean in
    let rests = (c.in-Ok.ensures.rests there).1 in
    let live = subst (λ conn. IsTrue (state g.S.Store conn).is_open) c.set_step_limit.ensures (c.in-Ok.ensures.lives there rests.is_open) in
    let held = (c.is_whole.ensures.whole live).committed M left in
    let it = c.in-Ok.ensures.every there M (subst (λ conn. IsHeld (state g.S.Store conn).committed M) (sym c.set_step_limit.ensures) held) in
    c.over.ensures.shows M (sym it.1) it.0.holds.stands.well_formed (λ _. it.0) (λ _. subst (AreHeldCut (state g.S.Store c.read_renewed.new.conn).committed M) (sym c.index_if.ensures) it.2)

pub returns-in-Ok-clause-held : goal.returns-in-Ok-clause-held
returns-in-Ok-clause-held g c = λ clean M held.
    let there = subst (λ (d : DeskState _). HasCleanDisk (state g.S.Store d.conn)) c.over.ensures.is clean in
    let it = c.in-Ok.ensures.every there M (subst (λ conn. IsHeld (state g.S.Store conn).committed M) (sym c.set_step_limit.ensures) held) in
    c.over.ensures.shows M (sym it.1) it.0.holds.stands.well_formed (λ _. it.0) (λ _. subst (AreHeldCut (state g.S.Store c.read_renewed.new.conn).committed M) (sym c.index_if.ensures) it.2)

pub returns-in-Ok-clause-adopted : goal.returns-in-Ok-clause-adopted
returns-in-Ok-clause-adopted g c =
    let limited = c.set_step_limit.ensures in
    let now = c.read_renewed.new.conn in
    let beside = subst (λ conn. Survives (state g.S.Store conn) (state g.S.Store now) (MayCommitBeside (state g.S.Store conn))) limited c.read_renewed.ensures.beside in
    let shows : HasCleanDisk (state g.S.Store now) → (M : Catalogue) × Rests known (state g.S.Store now) M × Shows g.S.Store c.over.result M = λ clean.
    let it = c.in-Ok.ensures.rests clean in
    (it.0, it.1, c.over.ensures.shows it.0 (sym it.2) it.1.holds.stands.well_formed (λ _. it.1) (λ _. subst (AreHeldCut (state g.S.Store now).committed it.0) (sym c.index_if.ensures) it.3)) in
    let is = c.over.ensures.is in
    subst (IsAdopted g.S.Store c.args.conn) (sym is) (record {
      fine = refl;
      shows = λ clean. let it = shows clean in (it.0, it.1, subst (λ (d : DeskState _). Shows g.S.Store d it.0) is it.2);
      only = λ M shown clean trees may.
          let rests = (c.in-Ok.ensures.rests clean).1 in
          let sound = (c.is_whole-in-Ok.ensures.live rests.is_open).1 in
          (Some M, alone M, left_alone g.S.Store now M (g.met.S.Store.settled now.store) rests.is_open sound (shown.holds refl clean rests.is_open) trees may);
      same = λ clean M. subst (λ conn. IsHeld (state g.S.Store conn).committed M ↔ Holds known (state g.S.Store now).committed M) limited (c.in-Ok.ensures.same clean M);
      unwritten = λ clean M held. subst (λ conn. Holds known (state g.S.Store conn).committed M → (state g.S.Store now).committed ≡ (state g.S.Store conn).committed) limited (c.in-Ok.ensures.unwritten clean M) held;
      moved = λ clean version M before held. subst (λ conn. Holds version (state g.S.Store conn).committed M → IsRenewedFrom version (summary_of M) (state g.S.Store conn).committed (state g.S.Store now).committed) limited
          (c.in-Ok.ensures.moved clean version M before) held;
      migrated = subst (λ conn. Survives (state g.S.Store conn) (state g.S.Store now) (MayMigrate (state g.S.Store conn))) limited c.read_renewed.ensures.crash;
      others = λ clean. subst (λ conn. SparesOthers (state g.S.Store conn).committed (state g.S.Store now).committed) limited (c.in-Ok.ensures.others clean);
      beside = beside;
      keeps = λ db keeps. beside_after g.S.Store c.args.conn now c.is_whole.ensures.live (g.met.S.Store.stays c.args.conn.store) db keeps beside;
    })

pub returns-in-Err-clause-rejected : goal.returns-in-Err-clause-rejected
returns-in-Err-clause-rejected g c =
    let limited = c.set_step_limit.ensures in
    let now = c.read_renewed.new.conn in
    record {
      kind = c.in-Err.ensures.kinds;
      told = λ clean. subst (λ conn. TellsOfDatabase (state g.S.Store conn).now c.in-Err.fault) limited (c.in-Err.ensures.told clean);
      not_held = λ clean. subst (λ conn. IsNotHeld (state g.S.Store conn).now c.in-Err.fault) limited (c.in-Err.ensures.not_held clean);
      same = λ clean live. subst (λ conn. ((state g.S.Store now).now ≡ (state g.S.Store conn).now) × ((state g.S.Store now).committed ≡ (state g.S.Store conn).committed)) limited (c.in-Err.ensures.stays clean live);
      adds_none = λ other. subst (λ conn. Survives (state g.S.Store conn) (state g.S.Store now) (λ _. ⊥)) limited (c.in-Err.ensures.adds_none other);
      crash = subst (λ conn. Survives (state g.S.Store conn) (state g.S.Store now) (MayMigrate (state g.S.Store conn))) limited c.read_renewed.ensures.crash;
      beside = subst (λ conn. Survives (state g.S.Store conn) (state g.S.Store now) (MayCommitBeside (state g.S.Store conn))) limited c.read_renewed.ensures.beside;
    }

pub returns-in-Err-clause-not_left : goal.returns-in-Err-clause-not_left
returns-in-Err-clause-not_left g c = λ clean live M left.
    let held = (c.is_whole.ensures.whole live).now M left in
    let there = subst (λ conn. IsNotHeld (state g.S.Store conn).now c.in-Err.fault) c.set_step_limit.ensures (c.in-Err.ensures.not_held clean) in
    (λ is. there.none is M held, λ is. there.newer is M held, λ is. there.damaged is M held)

pub returns-in-Err-clause-failed : goal.returns-in-Err-clause-failed
returns-in-Err-clause-failed g c = λ clean is.
    subst (λ conn. FailsToOpen g.S.Store conn c.read_renewed.new.conn) c.set_step_limit.ensures (c.in-Err.ensures.failed clean is)
