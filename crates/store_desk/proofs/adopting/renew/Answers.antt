use Rattle.std.proofs.Common.{◌≡◌, refl, subst, arith}
use Rattle.sqlite.specs.Held.{state}
use Rattle.store_holdings.specs.Holds.{Holds}
use Rattle.store_rows.specs.Versions.{known}
use Rattle.std.proofs.lemmas.Result.{on_ok_weaker}
use Rattle.store_opening.specs.Indexed.{IsHeldIndexed}
use Rattle.store_migration.proofs.OtherLemmas.{others_same}
use Rattle.store_desk.specs.Adopted.{MayCommitBeside}
use Rattle.store_desk.proofs.DeskLemmas.{survives_itself}
use Rattle.store_desk.proofs.OpenedLemmas.{indexed_known, indexed_moved}
use Rattle.store_desk.proofs.adopting.renew.Goals as goal

-- what has the known version already is left as it is
pub returns-else-version-lt-KNOWN_VERSION-clause-rests : goal.returns-else-version-lt-KNOWN_VERSION-clause-rests
returns-else-version-lt-KNOWN_VERSION-clause-rests g c = λ clean M held.
    let it = c.requires.holds clean in
    let within = c.requires.version.within in
    let least = c.if-version-lt-KNOWN_VERSION.false in
    let is : c.args.version ≡ known = omega (arith, within, least) in
    record {
      is_open = it.1.is_open;
      settled = it.1.settled;
      holds = subst (λ v. Holds v (state g.S.Store c.args.conn.now).committed M) is held;
    }

pub returns-else-version-lt-KNOWN_VERSION-clause-cut : goal.returns-else-version-lt-KNOWN_VERSION-clause-cut
returns-else-version-lt-KNOWN_VERSION-clause-cut g c = λ clean M indexes indexed.
    let within = c.requires.version.within in
    let least = c.if-version-lt-KNOWN_VERSION.false in
    let is : c.args.version ≡ known = omega (arith, within, least) in
    indexed_known (state g.S.Store c.args.conn.now).committed M indexes (subst (λ v. IsHeldIndexed v (state g.S.Store c.args.conn.now).committed M indexes) is indexed)

pub returns-else-version-lt-KNOWN_VERSION-clause-others : goal.returns-else-version-lt-KNOWN_VERSION-clause-others
returns-else-version-lt-KNOWN_VERSION-clause-others g c = λ clean. others_same (state g.S.Store c.args.conn.now).committed (state g.S.Store c.args.conn.now).committed refl

pub returns-else-version-lt-KNOWN_VERSION-clause-beside : goal.returns-else-version-lt-KNOWN_VERSION-clause-beside
returns-else-version-lt-KNOWN_VERSION-clause-beside g c = survives_itself (state g.S.Store c.args.conn.now) (MayCommitBeside (state g.S.Store c.args.conn.now))

pub returns-then-version-lt-KNOWN_VERSION-clause-cut : goal.returns-then-version-lt-KNOWN_VERSION-clause-cut
returns-then-version-lt-KNOWN_VERSION-clause-cut g c = λ clean.
    on_ok_weaker c.migrate.result (λ migrated M indexes indexed. indexed_moved c.args.version (state g.S.Store c.args.conn.now).committed (state g.S.Store c.migrate.new.conn).committed migrated M indexes indexed)
    (c.migrate.ensures.migrated clean)

pub returns-then-version-lt-KNOWN_VERSION-clause-moved : goal.returns-then-version-lt-KNOWN_VERSION-clause-moved
returns-then-version-lt-KNOWN_VERSION-clause-moved g c = λ clean. on_ok_weaker c.migrate.result (λ moved before. moved) (c.migrate.ensures.moved clean)

pub returns-else-version-lt-KNOWN_VERSION-clause-moved : goal.returns-else-version-lt-KNOWN_VERSION-clause-moved
returns-else-version-lt-KNOWN_VERSION-clause-moved g c = λ clean before. absurd (let least = c.if-version-lt-KNOWN_VERSION.false in omega (arith, before, least))
