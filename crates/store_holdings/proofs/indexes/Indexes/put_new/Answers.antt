use Rattle.std.proofs.Common.{nat_eq, cond, Some, sym, ap, ◌∙◌}
use Rattle.store_holdings.specs.Indexes.{entries_under}
use Rattle.store_holdings.proofs.UnderLemmas.{Pairs, same_test, found_under}
use Rattle.store_holdings.proofs.indexes.Indexes.put_new.Goals as goal

pub returns-in-Ok-clause-put : goal.returns-in-Ok-clause-put
returns-in-Ok-clause-put c q =
    sym (found_under q c.insert.new.self.entries) ∙ c.in-Ok.ensures.updates.0 q ∙ (λ i. cond (same_test c.args.number q i) (Some c.args.slot) (found_under q c.self.inside.by_number.entries i))
    ∙ ap (λ (es : Pairs). cond (nat_eq c.args.number q) (Some c.args.slot) (entries_under q es)) c.self.view_is

pub returns-clause-in_place : goal.returns-clause-in_place
returns-clause-in_place c = ap (entries_under c.args.number) (sym c.self.view_is) ∙ sym (found_under c.args.number c.self.inside.by_number.entries) ∙ c.in-Err.ensures.absent
