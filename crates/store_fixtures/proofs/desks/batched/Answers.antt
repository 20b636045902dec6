use Rattle.std.proofs.Common.{◌≡◌, ◌∙◌, ap, sym, subst, arith}
use Rattle.std.specs.Prelude.{Err}
use Rattle.std.proofs.lemmas.List.{take_all}
use Rattle.std.proofs.lemmas.Result.{err_from_is_err_and}
use Rattle.sqlite.specs.State.{HasCleanDisk}
use Rattle.sqlite.specs.Held.{state}
use Rattle.store_fixtures.specs.Batched.{ExecutedInTurn}
use Rattle.store_fixtures.proofs.DeskLemmas.{AllExecuted, executed_one_more, executed_stopped, executed_whole}
use Rattle.store_fixtures.proofs.desks.batched.Goals as goal

pub loop-text-preserved : goal.loop-text-preserved
loop-text-preserved g c = record {
  ran = λ clean.
      let before : HasCleanDisk (state g.S.Store c.loop-text.conn) = omega (arith, clean, c.execute_batch.ensures.clean) in
      executed_one_more g.S.Store c.args.texts.now c.loop-text.text-index _ _ _ _ _ c.loop-text-test.true c.in_ok-execute_batch.was (c.execute_batch.ensures.ran clean) (c.loop-text.invariant.ran before);
  clean = omega (arith, c.execute_batch.ensures.clean, c.loop-text.invariant.clean);
  limit = c.execute_batch.ensures.limit ∙ c.loop-text.invariant.limit;
}

pub returns-clause-ran : goal.returns-clause-ran
returns-clause-ran g c = λ clean.
    executed_whole g.S.Store c.args.texts.now c.args.conn.now c.loop-text.conn
    (subst (λ texts. AllExecuted g.S.Store texts c.args.conn.now c.loop-text.conn) (take_all c.loop-text.text-index c.args.texts.now c.loop-text-test.false) (c.loop-text.invariant.ran clean))

pub returns-in_err-execute_batch-clause-ran : goal.returns-in_err-execute_batch-clause-ran
returns-in_err-execute_batch-clause-ran g c = λ clean.
    let told = err_from_is_err_and c.from_residual.result c.from_residual.ensures.1 in
    let was : c.execute_batch.result ≡ Err told.0 = c.in_err-execute_batch.was ∙ ap (λ e. Err e) (sym told.2) in
    let before : HasCleanDisk (state g.S.Store c.loop-text.conn) = omega (arith, clean, c.execute_batch.ensures.clean) in
    subst (λ r. ExecutedInTurn g.S.Store c.args.texts.now c.args.conn.now c.execute_batch.new.self r) (sym told.1)
    (executed_stopped g.S.Store c.args.texts.now c.loop-text.text-index _ _ _ _ _ told.0 c.loop-text-test.true (c.loop-text.invariant.ran before) was (c.execute_batch.ensures.ran clean))
