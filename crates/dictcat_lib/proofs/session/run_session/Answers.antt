use Rattle.std.proofs.Common.{refl, inl, inr}
use Rattle.std.proofs.lemmas.Result.{err_from_is_err_and}
use Rattle.dictcat_lib.proofs.FileLemmas.{rejected_from}
use Rattle.dictcat_lib.proofs.session.run_session.Goals as goal

pub returns-in_err-conn-clause-spoken : goal.returns-in_err-conn-clause-spoken
returns-in_err-conn-clause-spoken g c =
    let error = err_from_is_err_and c.from_residual.result c.from_residual.ensures.1 in
    rw (error.1, error.2) (inl c.in_err-conn.ensures.unopened, refl, refl)

pub returns-in-Ok-clause-spoken : goal.returns-in-Ok-clause-spoken
returns-in-Ok-clause-spoken g c = (c.in_ok-conn.conn, c.in_ok-conn.ensures.opened, record { ran = c.in-Ok.ensures.ran; leaves = c.in-Ok.ensures.leaves; beside = c.in-Ok.ensures.beside })

pub returns-in-Err-clause-spoken : goal.returns-in-Err-clause-spoken
returns-in-Err-clause-spoken g c = (
  inr (
    c.in-Err.conn,
    c.in-Err.fault,
    rejected_from g.met.O.FileOpener.stays g.O.FileOpener.image c.in_ok-conn.conn c.in-Err.conn c.in-Err.fault c.in_ok-conn.ensures.opened c.in-Err.ensures.unopened c.in-Err.ensures.failed c.in-Err.ensures.autocommit
        c.in-Err.ensures.not_left,
    c.from.ensures,
    rw c.hold.ensures c.close_file.ensures,
  ),
  c.in-Err.ensures.untouched.0,
  c.in-Err.ensures.untouched.1,
)
