use Rattle.std.proofs.lemmas.Result.{IfOk-weaker, IfErr-weaker}
use Rattle.store_desk.proofs.HandedLemmas.{handed_over}
use Rattle.store_desk.proofs.reopening.open_over.Goals as goal

pub returns-clause-opened : goal.returns-clause-opened
returns-clause-opened g c = IfOk-weaker c.adopt_files.result _ _ (λ desk it. record {
  conn = c.in-Ok.conn;
  opened = λ clean. (c.in-Ok.ensures.opened clean, c.in-Ok.ensures.found clean);
  adopted = it.0;
  left = it.1;
}) c.adopt_files.ensures.adopted

pub returns-clause-unopened : goal.returns-clause-unopened
returns-clause-unopened g c = IfErr-weaker c.adopt_files.result _ _ (λ left it.
    handed_over c.in-Ok.conn c.args.files (λ clean. (c.in-Ok.ensures.opened clean, c.in-Ok.ensures.found clean)) left.0 left.1 it) c.adopt_files.ensures.rejected

pub returns-in-Err-clause-unopened : goal.returns-in-Err-clause-unopened
returns-in-Err-clause-unopened g c = record {
  error = c.in-Err.error;
  named = c.in-Err.ensures.named;
  told = c.fault_of_files.ensures.value;
  kind = c.fault_of_files.ensures.kind;
  cause = c.in-Err.ensures.cause;
  unharmed = c.in-Err.ensures.unharmed;
}
