use Rattle.std.proofs.Common.{Err, ap, subst, arith}
use Rattle.std.proofs.lemmas.Result.{err_from_is_err_and}
use Rattle.sqlite.specs.Held.{state}
use Rattle.store_commands.specs.Changes.{IsInRange}
use Rattle.store_desk.proofs.DeskLemmas.{not_both}
use Rattle.store_desk.proofs.adopting.read.Goals as goal

pub returns-in_err-found-clause-told : goal.returns-in_err-found-clause-told
returns-in_err-found-clause-told g c = λ clean.
    let p = err_from_is_err_and c.from_residual.result c.from_residual.ensures.1 in
    rw (p.1, p.2) (record {
      none = λ is. c.in_err-found.ensures.none clean (ap Err is);
      newer = λ is. c.in_err-found.ensures.newer clean (ap Err is);
      damaged = λ is. c.in_err-found.ensures.damaged clean (ap Err is);
    })

pub returns-in_err-found-clause-not_held : goal.returns-in_err-found-clause-not_held
returns-in_err-found-clause-not_held g c = λ clean.
    let p = err_from_is_err_and c.from_residual.result c.from_residual.ensures.1 in
    let db = (state g.S.Store c.args.conn.now).now in
    rw (p.1, p.2) (record {
      none = λ is M held. let it = c.held_is_marked.ensures.known db M held in c.in_err-found.ensures.none clean (ap Err is) it.version it.marked;
      newer = λ is M held.
          let newer = c.in_err-found.ensures.newer clean (ap Err is) in
          let it = c.held_is_marked.ensures.known db M held in
          let same = c.held_is_marked.ensures.once db newer.0 it.version newer.1 it.marked in
          let above = newer.2 in
          let within = it.known.within in
          absurd (omega (arith, same, above, within));
      damaged = λ is M held. (c.in_err-found.ensures.damaged clean (ap Err is)).1 M held;
    })

pub returns-in_err-found-clause-failed : goal.returns-in_err-found-clause-failed
returns-in_err-found-clause-failed g c = λ clean.
    let p = err_from_is_err_and c.from_residual.result c.from_residual.ensures.1 in
    rw (p.1, p.2) (λ is. c.in_err-found.ensures.failed clean (ap Err is))

-- the numbers of a catalogue are in range
pub returns-then-not-within-clause-failed : goal.returns-then-not-within-clause-failed
returns-then-not-within-clause-failed g c = λ clean is.
    let found = c.in_ok-found.ensures.rests clean in
    let range = subst IsInRange found.2 (c.summaries_in_range.ensures found.0 found.1.holds.stands.well_formed) in
    absurd (not_both c.in_ok-within.within c.if-not-within.true (c.in_ok-within.ensures.1 range))
