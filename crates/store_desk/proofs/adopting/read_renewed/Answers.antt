use Rattle.std.proofs.Common.{◌≡◌, ◌<◌, ◌⊎◌, ℕ, List, sym, ap, subst, ◌∙◌, arith, inr}
use Rattle.std.proofs.lemmas.Result.{err_from_is_err_and}
use Rattle.sqlite.specs.Effect.{Database}
use Rattle.sqlite.specs.State.{HasCleanDisk}
use Rattle.sqlite.specs.Held.{state}
use Rattle.sqlite.proofs.StateLemmas.{survives_then}
use Rattle.dict_catalogue.specs.Steps.{Catalogue, summary_of}
use Rattle.dict_catalogue.specs.Views.{summary_shown}
use Rattle.store_holdings.specs.Holds.{Holds, IsHeld, Rests, IsLeftAs}
use Rattle.dict_desk.specs.declared.fault.Fault.TheVariants.{Disk}
use Rattle.dict_catalogue.specs.Tests.{Holdings}
use Rattle.store_migration.specs.Failing.{FailsToMigrate, FailsToMoveEditions, IsBeyond}
use Rattle.store_desk.specs.Indexed.{AreHeldCut}
use Rattle.store_desk.proofs.RenewLemmas.{renews_read}
use Rattle.store_migration.specs.Migrated.{MayMigrate, HoldsOlder}
use Rattle.store_holdings.specs.Committed.{IsTreesOf}
use Rattle.store_migration.specs.Moved.{IsRenewedFrom}
use Rattle.store_migration.specs.Spared.{SparesOthers}
use Rattle.store_desk.specs.Adopted.{MayCommitBeside}
use Rattle.store_rows.specs.Versions.{known, IsVersion}
use Rattle.store_desk.proofs.adopting.read_renewed.Goals as goal

pub returns-in_err-renew-clause-failed : goal.returns-in_err-renew-clause-failed
returns-in_err-renew-clause-failed g c = λ clean.
    let p = err_from_is_err_and c.from_residual-in_err-renew.result c.from_residual-in_err-renew.ensures.1 in
    let conn = c.args.conn.now in
    let read = c.read.new.conn in
    let left = c.renew.new.conn in
    let version = c.in_ok-version.version in
    let summary = summary_shown c.in_ok-version.summary in
    let one = c.renew.ensures.crash.clean in
    let there : HasCleanDisk (state g.S.Store read) = omega (arith, one, clean) in
    let found = c.in_ok-version.ensures.rests there in
    let now = c.in_ok-version.ensures.now there found.1.is_open in
    let same = c.in_ok-version.ensures.committed there found.1.is_open in
    let failed = c.in_err-renew.ensures.failed clean in
    rw (p.1, p.2) (λ is. inr (record {
      version = version;
      older = failed.0;
      catalogue = found.0;
      holds = subst (λ (db : Database). Holds version db found.0) same found.1.holds;
      fails = subst (λ (s : Holdings (List ℕ)). IsBeyond s ⊎ FailsToMoveEditions g.S.Store version s conn left Disk) (sym found.2)
          (renews_read g.S.Store conn read left c.read.ensures.survives version summary now same (subst (FailsToMigrate g.S.Store version summary read left) is failed.1));
    }))

pub returns-in_err-renew-clause-adds_none : goal.returns-in_err-renew-clause-adds_none
returns-in_err-renew-clause-adds_none g c =
    let p = err_from_is_err_and c.from_residual-in_err-renew.result c.from_residual-in_err-renew.ensures.1 in
    rw (p.1, p.2) (λ other.
    survives_then (state g.S.Store c.args.conn.now) (state g.S.Store c.read.new.conn) (state g.S.Store c.renew.new.conn) (λ _. ⊥) (λ _. ⊥) (λ _. ⊥) (λ _ db none. none) (λ _ db none. none)
    c.read.ensures.survives (c.in_err-renew.ensures.adds_none other))

-- what may be committed of what was read is what may be of what was there
pub returns-in_err-renew-clause-crash : goal.returns-in_err-renew-clause-crash
returns-in_err-renew-clause-crash g c =
    let old = state g.S.Store c.args.conn.now in
    let read = state g.S.Store c.read.new.conn in
    survives_then old read (state g.S.Store c.renew.new.conn) (λ _. ⊥) (MayMigrate read) (MayMigrate old) (λ _ db none. absurd none)
    (λ clean trees may.
    let one = c.renew.ensures.crash.clean in
    let there : HasCleanDisk read = omega (arith, one, clean) in
    let same = c.in_ok-version.ensures.committed there may.0 in
    (c.in_ok-version.ensures.lives there may.0, subst (λ (db : Database). (M : Catalogue) × HoldsOlder db M × IsLeftAs known M trees) same may.1))
    c.read.ensures.survives c.renew.ensures.crash

pub returns-clause-crash : goal.returns-clause-crash
returns-clause-crash g c =
    let old = state g.S.Store c.args.conn.now in
    let read = state g.S.Store c.read.new.conn in
    survives_then old read (state g.S.Store c.renew.new.conn) (λ _. ⊥) (MayMigrate read) (MayMigrate old) (λ _ db none. absurd none)
    (λ clean trees may.
    let one = c.renew.ensures.crash.clean in
    let there : HasCleanDisk read = omega (arith, one, clean) in
    let same = c.in_ok-version.ensures.committed there may.0 in
    (c.in_ok-version.ensures.lives there may.0, subst (λ (db : Database). (M : Catalogue) × HoldsOlder db M × IsLeftAs known M trees) same may.1))
    c.read.ensures.survives c.renew.ensures.crash

-- and what may be committed of what was read spares the tables of others that were there
pub returns-in_err-renew-clause-beside : goal.returns-in_err-renew-clause-beside
returns-in_err-renew-clause-beside g c =
    let old = state g.S.Store c.args.conn.now in
    let read = state g.S.Store c.read.new.conn in
    survives_then old read (state g.S.Store c.renew.new.conn) (λ _. ⊥) (MayCommitBeside read) (MayCommitBeside old) (λ _ db none. absurd none)
    (λ clean trees may.
    let one = c.renew.ensures.crash.clean in
    let there : HasCleanDisk read = omega (arith, one, clean) in
    let same = c.in_ok-version.ensures.committed there may.0 in
    (c.in_ok-version.ensures.lives there may.0, subst (λ (db : Database). IsTreesOf (SparesOthers db) trees) same may.1))
    c.read.ensures.survives c.renew.ensures.beside

pub returns-clause-beside : goal.returns-clause-beside
returns-clause-beside g c =
    let old = state g.S.Store c.args.conn.now in
    let read = state g.S.Store c.read.new.conn in
    survives_then old read (state g.S.Store c.renew.new.conn) (λ _. ⊥) (MayCommitBeside read) (MayCommitBeside old) (λ _ db none. absurd none)
    (λ clean trees may.
    let one = c.renew.ensures.crash.clean in
    let there : HasCleanDisk read = omega (arith, one, clean) in
    let same = c.in_ok-version.ensures.committed there may.0 in
    (c.in_ok-version.ensures.lives there may.0, subst (λ (db : Database). IsTreesOf (SparesOthers db) trees) same may.1))
    c.read.ensures.survives c.renew.ensures.beside

pub returns-clause-others : goal.returns-clause-others
returns-clause-others g c = λ clean.
    let one = c.renew.ensures.crash.clean in
    let there : HasCleanDisk (state g.S.Store c.read.new.conn) = omega (arith, one, clean) in
    let found = c.in_ok-version.ensures.rests there in
    subst (λ (db : Database). SparesOthers db (state g.S.Store c.renew.new.conn).committed) (c.in_ok-version.ensures.committed there found.1.is_open) (c.in_ok-renew.ensures.others clean)

pub returns-clause-rests : goal.returns-clause-rests
returns-clause-rests g c = λ clean.
    let one = c.renew.ensures.crash.clean in
    let there : HasCleanDisk (state g.S.Store c.read.new.conn) = omega (arith, one, clean) in
    let found = c.in_ok-version.ensures.rests there in
    (found.0, c.in_ok-renew.ensures.rests clean found.0 found.1.holds, found.2, c.in_ok-renew.ensures.cut clean found.0 c.in_ok-version.indexes found.3)

pub returns-clause-every : goal.returns-clause-every
returns-clause-every g c = λ clean M held.
    let old = state g.S.Store c.args.conn.now in
    let new = state g.S.Store c.renew.new.conn in
    let one = c.renew.ensures.crash.clean in
    let there : HasCleanDisk (state g.S.Store c.read.new.conn) = omega (arith, one, clean) in
    let found = c.in_ok-version.ensures.rests there in
    let same = c.in_ok-version.ensures.committed there found.1.is_open in
    let first : IsHeld old.committed found.0 = record { version = c.in_ok-version.version; known = c.in_ok-version.ensures.version; holds = subst (λ (db : Database). Holds c.in_ok-version.version db found.0) same found.1.holds } in
    let is = c.one_is_held.ensures.held old.committed found.0 M first held in
    subst (λ (N : Catalogue). Rests known new N × (summary_of N ≡ summary_shown c.in_ok-version.summary) × AreHeldCut new.committed N c.in_ok-version.indexes) is
    (c.in_ok-renew.ensures.rests clean found.0 found.1.holds, found.2, c.in_ok-renew.ensures.cut clean found.0 c.in_ok-version.indexes found.3)

pub returns-clause-same : goal.returns-clause-same
returns-clause-same g c = λ clean M.
    let old = state g.S.Store c.args.conn.now in
    let new = state g.S.Store c.renew.new.conn in
    let one = c.renew.ensures.crash.clean in
    let there : HasCleanDisk (state g.S.Store c.read.new.conn) = omega (arith, one, clean) in
    let found = c.in_ok-version.ensures.rests there in
    let same = c.in_ok-version.ensures.committed there found.1.is_open in
    let first : IsHeld old.committed found.0 = record { version = c.in_ok-version.version; known = c.in_ok-version.ensures.version; holds = subst (λ (db : Database). Holds c.in_ok-version.version db found.0) same found.1.holds } in
    let after : Holds known new.committed found.0 = (c.in_ok-renew.ensures.rests clean found.0 found.1.holds).holds in (
      (λ held. subst (λ (N : Catalogue). Holds known new.committed N) (c.one_is_held.ensures.held old.committed found.0 M first held) after),
      (λ held.
          let was : IsHeld new.committed found.0 = record { version = known; known = record { counted = omega arith; within = omega arith }; holds = after } in
          let is : IsHeld new.committed M = record { version = known; known = record { counted = omega arith; within = omega arith }; holds = held } in
          subst (λ (N : Catalogue). IsHeld old.committed N) (c.one_is_held.ensures.held new.committed found.0 M was is) first),
    )

pub returns-clause-unwritten : goal.returns-clause-unwritten
returns-clause-unwritten g c = λ clean M held.
    let old = state g.S.Store c.args.conn.now in
    let one = c.renew.ensures.crash.clean in
    let there : HasCleanDisk (state g.S.Store c.read.new.conn) = omega (arith, one, clean) in
    let found = c.in_ok-version.ensures.rests there in
    let same = c.in_ok-version.ensures.committed there found.1.is_open in
    let first : Holds c.in_ok-version.version old.committed found.0 = subst (λ (db : Database). Holds c.in_ok-version.version db found.0) same found.1.holds in
    let is : c.in_ok-version.version ≡ known = c.one_is_held.ensures.version old.committed c.in_ok-version.version known found.0 M first held in
    ap (λ conn. (state g.S.Store conn).committed) (c.in_ok-renew.ensures.unwritten is) ∙ same

-- what was read is the one catalogue that was held, under the one version
pub returns-clause-moved : goal.returns-clause-moved
returns-clause-moved g c = λ clean version M before held.
    let old = state g.S.Store c.args.conn.now in
    let new = state g.S.Store c.renew.new.conn in
    let one = c.renew.ensures.crash.clean in
    let there : HasCleanDisk (state g.S.Store c.read.new.conn) = omega (arith, one, clean) in
    let found = c.in_ok-version.ensures.rests there in
    let same = c.in_ok-version.ensures.committed there found.1.is_open in
    let first : Holds c.in_ok-version.version old.committed found.0 = subst (λ (db : Database). Holds c.in_ok-version.version db found.0) same found.1.holds in
    let is : c.in_ok-version.version ≡ version = c.one_is_held.ensures.version old.committed c.in_ok-version.version version found.0 M first held in
    let was : IsHeld old.committed found.0 = record { version = c.in_ok-version.version; known = c.in_ok-version.ensures.version; holds = first } in
    let also : IsHeld old.committed M = record { version = version; known = subst IsVersion is c.in_ok-version.ensures.version; holds = held } in
    let its : summary_shown c.in_ok-version.summary ≡ summary_of M = sym found.2 ∙ ap summary_of (c.one_is_held.ensures.held old.committed found.0 M was also) in
    let moved = c.in_ok-renew.ensures.moved clean (subst (λ v. v < known) (sym is) before) in
    let read = subst (λ (db : Database). IsRenewedFrom c.in_ok-version.version (summary_shown c.in_ok-version.summary) db new.committed) same moved in
    let under = subst (λ v. IsRenewedFrom v (summary_shown c.in_ok-version.summary) old.committed new.committed) is read in
    subst (λ (s : Holdings (List ℕ)). IsRenewedFrom version s old.committed new.committed) its under
