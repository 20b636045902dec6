use Rattle.store_fixtures.proofs.AskedLemmas.{read_one_more}
use Rattle.store_fixtures.proofs.asked.read_editions.Goals as goal

pub loop-index-preserved : goal.loop-index-preserved
loop-index-preserved c = read_one_more _ c.loop-index.index-index _ _ _ _ c.loop-index-test.true c.loop-index.invariant c.in_ok-read_edition.ensures.edition c.in_ok-push.ensures.items
