use Rattle.std.proofs.Common.{inl, inr, ap, subst, sym, arith}
use Rattle.std.proofs.lemmas.Result.{err_from_is_err_and}
use Rattle.sqlite.specs.State.{HasCleanDisk}
use Rattle.sqlite.specs.Files.{file_state}
use Rattle.store_holdings.specs.Holds.{IsLeft}
use Rattle.net_serving.specs.Serving.{IsOfFile}
use Rattle.store_desk.specs.Desk.{is_closed}
use Rattle.dictcat_lib.proofs.FileLemmas.{opened_beside, rejected_from}
use Rattle.dictcat_lib.proofs.UnopenedLemmas.{not_opened_of_file, opening_of_file}
use Rattle.dictcat_lib.proofs.desks.open_desk.Goals as goal

pub returns-in_err-conn-clause-opened : goal.returns-in_err-conn-clause-opened
returns-in_err-conn-clause-opened g c =
    let error = err_from_is_err_and c.from_residual.result c.from_residual.ensures.1 in
    let none = c.in_err-conn.ensures.unopened in
    rw (error.1, error.2) (inl none, not_opened_of_file g.O.FileOpener.image g.O.FileOpener.refuses _ _ _ _ _ _ _ none)

pub returns-in-Ok-clause-opened : goal.returns-in-Ok-clause-opened
returns-in-Ok-clause-opened g c = record {
  opened = record {
    conn = c.in_ok-conn.conn;
    opened = c.in_ok-conn.ensures.opened;
    adopted = c.in-Ok.ensures.adopted;
    kept = c.in-Ok.ensures.adopted.keeps (file_state c.in_ok-conn.conn).committed (opened_beside g.met.O.FileOpener.stays g.O.FileOpener.image c.in_ok-conn.conn c.in_ok-conn.ensures.opened);
    shows = λ clean M held.
        let early : HasCleanDisk (file_state c.in_ok-conn.conn) = omega (arith, c.in-Ok.ensures.adopted.migrated.clean, clean) in
        let found = (c.in_ok-conn.ensures.opened.live early).1 in
        c.in-Ok.ensures.left clean M (subst (IsLeft M) (sym (found.holds held.0 held.1)) held.2);
  };
  alone = λ clean. let it = c.in-Ok.ensures.adopted.shows clean in (it.0, it.2, c.in-Ok.ensures.adopted.only it.0 it.2);
}

pub returns-in-Err-clause-opened : goal.returns-in-Err-clause-opened
returns-in-Err-clause-opened g c = (
  inr (
    c.in-Err.conn,
    c.in-Err.fault,
    rejected_from g.met.O.FileOpener.stays g.O.FileOpener.image c.in_ok-conn.conn c.in-Err.conn c.in-Err.fault c.in_ok-conn.ensures.opened c.in-Err.ensures.rejected c.in-Err.ensures.failed c.in-Err.ensures.handed c.in-Err.ensures.not_left,
    c.from.ensures,
    rw c.hold.ensures c.close_file.ensures,
  ),
  subst IsOfFile (sym c.from.ensures) (opening_of_file c.in-Err.fault c.in-Err.ensures.rejected.kind),
)

pub returns-in-Ok-clause-answers : goal.returns-in-Ok-clause-answers
returns-in-Ok-clause-answers g c = ap is_closed c.in-Ok.ensures.adopted.fine
