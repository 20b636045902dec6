use Rattle.std.proofs.Common.{◌≡◌, Err, rules, sym, subst, ap, ◌∙◌}
use Rattle.std.specs.Prelude.{IsTrue}
use Rattle.sqlite.specs.Effect.{Database}
use Rattle.sqlite.specs.Held.{state}
use Rattle.store_holdings.specs.Holds.{Holds}
use Rattle.store_opening.specs.Indexed.{IsHeldIndexed}
use Rattle.dict_desk.specs.declared.fault.Fault.TheVariants as desk
use Rattle.store_scans.specs.declared.fault.ReadingFault.TheVariants.{Damaged}
use Rattle.store_scans.proofs.StateLemmas.{clean_before, reads_then}
use Rattle.store_opening.proofs.FaultLemmas.{told_once}
use Rattle.store_opening.proofs.MarkLemmas.{err_is, none_held}
use Rattle.store_opening.proofs.opening.read_catalogue.Goals as goal

pub returns-in_err-version-clause-none : goal.returns-in_err-version-clause-none
returns-in_err-version-clause-none g c clean is =
    c.read_mark.ensures.none clean (c.in_err-version.was ∙ ap Err (err_is c.from_residual.result c.in_err-version.field-0.0 _ c.from_residual.ensures.1 is))

pub returns-in-Ok-clause-survives : goal.returns-in-Ok-clause-survives
returns-in-Ok-clause-survives g c = (reads_then _ _ _ c.read_mark.ensures.reads c.read_tables-read.ensures.reads).survives

pub returns-in-Ok-clause-rests : goal.returns-in-Ok-clause-rests
returns-in-Ok-clause-rests g c clean =
    let early = clean_before (state g.S.Store c.args.conn.now) _ _ c.read_tables-read.ensures.reads.survives clean in
    let first = c.in_ok-version.ensures.same early in
    let then = c.in-Ok.ensures.same clean in
    let found = c.in-Ok.ensures.holds clean (rw (c.deref.ensures.value, first.0.now) (c.in_ok-version.ensures.marked early).0) in
    let auto' : IsTrue c.is_autocommit.result = search rules in
    let open' : IsTrue (state g.S.Store c.args.conn.now).is_open = sym first.0.is_open ∙ first.1 in
    let settled = c.is_autocommit.ensures.settled auto' open' in
    let shown = first.0.now ∙ settled ∙ sym (then.committed ∙ first.0.committed) in (
      found.0,
      record { is_open = then.is_open ∙ first.1; settled = then.now ∙ shown; holds = subst (λ (d : Database). Holds c.in_ok-version.version d found.0) shown found.1 },
      found.2,
      subst (λ (d : Database). IsHeldIndexed c.in_ok-version.version d found.0 c.in-Ok.indexes) shown found.3,
    )

pub returns-in-Err-clause-damaged : goal.returns-in-Err-clause-damaged
returns-in-Err-clause-damaged g c clean is =
    let early = clean_before (state g.S.Store c.args.conn.now) _ _ c.read_tables-read.ensures.reads.survives clean in
    let first = c.in_ok-version.ensures.same early in
    let marked = c.in_ok-version.ensures.marked early in
    let same : c.told.result ≡ desk.Damaged = cc in
    let none = c.in-Err.ensures.damaged clean (told_once c.in-Err.fault Damaged (sym c.told.ensures.is ∙ same)) (rw (c.deref.ensures.value, first.0.now) marked.0) in
    (record { version = c.in_ok-version.version; known = c.in_ok-version.ensures.known; marked = marked.1 }, none_held c.in_ok-version.version _ marked.1 (rw first.0.now at none))
