use Rattle.store_desk.specs.Left.{counted}
use Rattle.store_desk.proofs.desk.Desk.let_go_of_prepared.Goals as goal

pub returns-clause-gone : goal.returns-clause-gone
returns-clause-gone g c =
    (c.self.inside.is_log_long, c.let_go.new.orphans, λ i. counted c.self.inside.rows_taken c.self.inside.is_log_long c.let_go.new.orphans (c.take.ensures.after i) (c.let_go.ensures.gone i))
