use Rattle.std.proofs.Common.{inl, inr}
use Rattle.std.proofs.lemmas.Result.{err_from_is_err_and}
use Rattle.dictcat_lib.proofs.desks.make_desk.Goals as goal

pub returns-in_err-conn : goal.returns-in_err-conn
returns-in_err-conn g c =
    let error = err_from_is_err_and c.from_residual.result c.from_residual.ensures.1 in
    rw (error.1, error.2) (inl c.in_err-conn.ensures.unopened)

pub returns-in-Ok : goal.returns-in-Ok
returns-in-Ok g c = record {
  new = (
    c.in_ok-conn.conn,
    c.in_ok-conn.ensures.opened,
    record { place = c.in-Ok.ensures.place; shows = c.in-Ok.ensures.shows; rests = c.in-Ok.ensures.rests; only = c.in-Ok.ensures.only; others = c.in-Ok.ensures.others; beside = c.in-Ok.ensures.beside; keeps = c.in-Ok.ensures.keeps },
  );
  shows = c.in-Ok.ensures.shows;
  only = c.in-Ok.ensures.only;
}

pub returns-in-Err : goal.returns-in-Err
returns-in-Err g c = inr (
  c.in_ok-conn.conn,
  c.in-Err.conn,
  c.in-Err.fault,
  c.in_ok-conn.ensures.opened,
  record { no_place = c.in-Err.ensures.no_place; crash = c.in-Err.ensures.crash; failed = c.in-Err.ensures.failed; adds_none = c.in-Err.ensures.adds_none; beside = c.in-Err.ensures.beside_left },
  c.from.ensures,
  rw c.hold.ensures c.close_file.ensures,
)
