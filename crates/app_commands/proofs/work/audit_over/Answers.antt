use Rattle.std.proofs.Common.{◌∙◌, [], ◌∷◌, refl, inl, inr}
use Rattle.std.specs.Prelude.{Some}
use Rattle.std.proofs.lemmas.Result.{err_from_is_err_and, IfOk-weaker}
use Rattle.net_serving.specs.Deeds.{Opens, Closes}
use Rattle.net_serving.proofs.DeedLemmas.{does_both}
use Rattle.app_commands.proofs.work.audit_over.Goals as goal

pub returns-in_err-desk : goal.returns-in_err-desk
returns-in_err-desk g c =
    let error = err_from_is_err_and c.from_residual.result c.from_residual.ensures.1 in
    inl (error.0, error.1, rw error.2 c.in_err-desk.ensures.opened, c.in_err-desk.ensures.history, refl)

pub returns : goal.returns
returns g c =
    let opened = c.in_ok-desk.ensures.opened in
    let stays = c.audit-audited.ensures.stays in
    let shut = c.close-closed.ensures.shut in
    inr (
      c.in_ok-desk.desk,
      c.audit-audited.new.desk,
      c.close-closed.result,
      (opened, c.in_ok-desk.ensures.answers),
      does_both (g.D.DeskOpener.history c.args.desks.now) (g.D.DeskOpener.history c.audit-audited.new.self) (g.D.DeskOpener.history c.close-closed.new.self)
          (Opens c.args.path.now (Some c.in_ok-desk.desk) ∷ []) (Closes c.audit-audited.new.desk ∷ [])
          (c.audit-audited.ensures.history ∙ c.in_ok-desk.ensures.history) c.close-closed.ensures.history,
      shut,
      (
        c.audit-audited.result,
        c.audit-audited.ensures.sound,
        stays,
        c.tell_sound.ensures,
        IfOk-weaker c.close-closed.result _ _ (λ done alone safe. let trusted = shut.trust safe in let it = opened.alone (stays.trust trusted) in (it.0, it.1, alone safe it.0 (stays.shows trusted it.0 it.1))) shut.alone,
      ),
    )
