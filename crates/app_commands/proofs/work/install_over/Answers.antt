use Rattle.std.proofs.Common.{refl, inl, inr}
use Rattle.std.proofs.lemmas.Result.{err_from_is_err_and}
use Rattle.net_serving.proofs.DeedLemmas.{does_both}
use Rattle.app_commands.proofs.work.install_over.Goals as goal

pub returns-in_err-desk-clause-ends : goal.returns-in_err-desk-clause-ends
returns-in_err-desk-clause-ends g c =
    let error = err_from_is_err_and c.from_residual.result c.from_residual.ensures.1 in
    inl (error.0, error.1, rw error.2 c.in_err-desk.ensures.opened, c.in_err-desk.ensures.history, refl)

pub returns-clause-ends : goal.returns-clause-ends
returns-clause-ends g c = inr (
  c.in_ok-desk.desk,
  c.install-end.new.desk,
  c.close.result,
  (c.in_ok-desk.ensures.opened, c.in_ok-desk.ensures.answers),
  does_both (g.D.DeskOpener.history c.args.desks.now) (g.D.DeskOpener.history c.open_for_command.new.self) (g.D.DeskOpener.history c.close.new.self) _ _ c.in_ok-desk.ensures.history c.close.ensures.history,
  c.close.ensures.shut,
  (c.install-end.ensures.installed, c.install-end.ensures.memory),
)

pub returns-in_err-desk-clause-order : goal.returns-in_err-desk-clause-order
returns-in_err-desk-clause-order g c =
    let error = err_from_is_err_and c.from_residual.result c.from_residual.ensures.1 in
    inl (c.in_err-desk.ensures.history, (error.0, error.1, rw error.2 c.in_err-desk.ensures.opened.0))

pub returns-clause-order : goal.returns-clause-order
returns-clause-order g c = inr c.install-end.ensures.order
