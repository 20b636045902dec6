use Rattle.std.specs.Prelude.{codes}
use Rattle.dict_catalogue.specs.Views.{kept_shown}
use Rattle.dict_proto.proofs.PutLemmas.{puts_err, puts_after, front_longer}
use Rattle.http_service.specs.Texts.{kept_text}
use Rattle.app_words.proofs.changing.put_line.Goals as goal

pub returns-in_err-put_kept : goal.returns-in_err-put_kept
returns-in_err-put_kept g c =
    puts_err _ _ _ _ c.from_residual.ensures.0 (front_longer _ _ (kept_text (kept_shown c.args.kept.now)) (codes "\n") c.in_err-put_kept.ensures)

pub returns : goal.returns
returns g c = puts_after _ _ _ _ (kept_text (kept_shown c.args.kept.now)) (codes "\n") c.in_ok-put_kept.ensures c.put.ensures.put
