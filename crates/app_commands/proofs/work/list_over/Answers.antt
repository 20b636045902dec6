use Rattle.std.proofs.Common.{refl, inl, inr}
use Rattle.std.proofs.lemmas.Result.{err_from_is_err_and}
use Rattle.net_serving.proofs.DeedLemmas.{does_both}
use Rattle.app_commands.proofs.work.list_over.Goals as goal

pub returns-in_err-desk : goal.returns-in_err-desk
returns-in_err-desk g c =
    let error = err_from_is_err_and c.from_residual.result c.from_residual.ensures.1 in
    inl (error.0, error.1, rw error.2 c.in_err-desk.ensures.opened, c.in_err-desk.ensures.history, refl)

pub returns : goal.returns
returns g c = inr (
  c.in_ok-desk.desk,
  c.in_ok-desk.desk,
  c.close.result,
  (c.in_ok-desk.ensures.opened, c.in_ok-desk.ensures.answers),
  does_both (g.D.DeskOpener.history c.args.desks.now) (g.D.DeskOpener.history c.open_for_command.new.self) (g.D.DeskOpener.history c.close.new.self) _ _ c.in_ok-desk.ensures.history c.close.ensures.history,
  c.close.ensures.shut,
  (refl, c.list-end.ensures.listed c.in_ok-desk.ensures.answers),
)
