use Rattle.std.proofs.Common.{◌≡◌, subst, arith}
use Rattle.sqlite.specs.Effect.{Database}
use Rattle.sqlite.specs.State.{HasCleanDisk}
use Rattle.sqlite.specs.Held.{state}
use Rattle.store_holdings.specs.Holds.{Holds}
use Rattle.store_rows.specs.Versions.{known}
use Rattle.store_desk.proofs.adopting.read_again.Goals as goal

-- what was committed is of the known version, and so is what was read
pub returns-in-Ok-clause-failed : goal.returns-in-Ok-clause-failed
returns-in-Ok-clause-failed g c = λ clean told.
    let old = state g.S.Store c.args.conn.now in
    let one = c.in-Ok.ensures.survives.clean in
    let there : HasCleanDisk old = omega (arith, one, clean) in
    let found = c.in-Ok.ensures.rests clean in
    let live = c.in-Ok.ensures.lives clean found.1.is_open in
    let same = c.in-Ok.ensures.committed clean found.1.is_open in
    let held = c.requires.holds there live in
    let is : c.in-Ok.version ≡ known =
    c.one_is_held.ensures.version old.committed c.in-Ok.version known found.0 held.0 (subst (λ (db : Database). Holds c.in-Ok.version db found.0) same found.1.holds) held.1.holds in
    absurd (c.if-version-eq-KNOWN_VERSION.false is)
