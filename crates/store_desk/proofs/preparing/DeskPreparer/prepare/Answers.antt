use Rattle.std.proofs.Common.{inr, sym, ◌∙◌}
use Rattle.store_desk.proofs.PreparingLemmas.{shut_keeps}
use Rattle.store_desk.proofs.preparing.DeskPreparer.prepare.Goals as goal

pub copy_log-requires : goal.copy_log-requires
copy_log-requires g c = sym c.is_closed-closed.ensures ∙ c.if-closed.false

pub take_orphans_next-requires : goal.take_orphans_next-requires
take_orphans_next-requires g c = sym c.is_closed-closed.ensures ∙ c.if-closed.false

pub prepare_part-requires : goal.prepare_part-requires
prepare_part-requires g c = sym c.is_closed-closed.ensures ∙ c.if-closed.false

pub returns-then-closed-clause-keeps : goal.returns-then-closed-clause-keeps
returns-then-closed-clause-keeps g c = shut_keeps g.S.Store c.args.self.now (sym c.is_closed-closed.ensures ∙ c.if-closed.true)

pub returns-then-may_copy-clause-prepared : goal.returns-then-may_copy-clause-prepared
returns-then-may_copy-clause-prepared g c = (c.copy_log.ensures.fewer, λ clean is. inr (c.copy_log.ensures.committed clean is))

pub returns-then-may_tidy-clause-prepared : goal.returns-then-may_tidy-clause-prepared
returns-then-may_tidy-clause-prepared g c = (c.take_orphans_next.ensures.fewer, λ clean is. inr (c.take_orphans_next.ensures.committed clean is))

pub returns-clause-prepared : goal.returns-clause-prepared
returns-clause-prepared g c = (c.prepare_part.ensures.fewer, c.prepare_part.ensures.prepared)
